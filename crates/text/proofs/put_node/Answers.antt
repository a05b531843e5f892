-- `put_node` meets its contract: nothing is put, or a space and the number.
use mathlib.Core.Path.{◌≡◌, ap, sym, ◌∙◌}
use mathlib.Core.List.{[], ◌∷◌, ◌++◌, append-nil}
use mathlib.Core.Bool.{true, false}
use lib.ListN.{take}
use lib.Seq.{append_snoc}
use borrow.Author.Rules.{rules}
use Rattle.model.specs.Records.{tells_node}
use Rattle.text.specs.Text.{decimal_of}
use Rattle.text.proofs.put_node.Goals as goal

pub returns-then-not-tells_node : goal.returns-then-not-tells_node
returns-then-not-tells_node c =
    let a = c.args in
    let t : tells_node a.number ≡ false = sym c.tells_node.ensures ∙ c.if-not-tells_node.true in
    (search rules, rw t (sym (append-nil (take a.at a.text.now))))

pub returns : goal.returns
returns c =
    let a = c.args in
    let t : tells_node a.number ≡ true = sym c.tells_node.ensures ∙ c.if-not-tells_node.false in
    let p = c.put-end in
    let n = c.put_number in
    let text = take a.at a.text.now in
    let space = take p.result p.new.text in
    let p_is : space ≡ text ++ 0x20 ∷ [] = p.ensures.1 in
    let n_is : take n.result n.new.text ≡ space ++ decimal_of a.node.0 = n.ensures.1 in (
      search rules,
      rw t (n_is ∙ ap (λ l. l ++ decimal_of a.node.0) p_is ∙ append_snoc text 0x20 (decimal_of a.node.0)),
    )

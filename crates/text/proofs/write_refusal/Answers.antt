-- `write_refusal` meets its contract: each piece stands behind those before it.
use mathlib.Core.Path.{◌≡◌}
use mathlib.Core.List.{[], ◌∷◌, ◌++◌}
use lib.ListN.{take}
use borrow.Author.Rules.{rules}
use Rattle.text.specs.Text.{decimal_of, node_part, refused_word}
use Rattle.text.proofs.write_refusal.Goals as goal

pub returns : goal.returns
returns c =
    let a = c.args in
    let w = c.put-end in
    let n = c.put_number-end in
    let s = c.put-end-2 in
    let p = c.put_number-end-2 in
    let v = c.put_node-end in
    let l = c.put in
    let word = take w.result w.new.text in
    let number = take n.result n.new.text in
    let space = take s.result s.new.text in
    let place = take p.result p.new.text in
    let node = take v.result v.new.text in
    let w_is : word ≡ refused_word = w.ensures.1 in
    let n_is : number ≡ word ++ decimal_of a.number = n.ensures.1 in
    let s_is : space ≡ number ++ 0x20 ∷ [] = s.ensures.1 in
    let p_is : place ≡ space ++ decimal_of a.place = p.ensures.1 in
    let v_is : node ≡ place ++ node_part a.number a.node.0 = v.ensures.1 in
    let l_is : take l.result l.new.text ≡ node ++ 10 ∷ [] = l.ensures.1 in
    (search rules, rw (l_is, v_is, p_is, s_is, n_is, w_is))

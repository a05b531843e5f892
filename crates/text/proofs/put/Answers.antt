-- `put` meets its contract: the part behind the text is lent to the copy.
use Prim.Native.Nat.{◌+◌, ◌-◌}
use mathlib.Core.Path.{◌≡◌, ap, ◌∙◌}
use mathlib.Core.List.{◌++◌}
use native.Mathlib.Omega.{arith}
use lib.ListN.{length, take}
use lib.Seq.{take-length}
use borrow.Author.Rules.{rules}
use borrow.Rule.Slice.PartMut.{put_mid}
use Rattle.hex_lines.proofs.Lines.{part_written}
use Rattle.text.proofs.put.Goals as goal

pub returns : goal.returns
returns c =
    let k = c.copy-n in
    let a = c.args in
    let r = a.from.now in
    let t = a.text.now in
    let u = put_mid a.at (length t - a.at) t k.new.to in
    let h : length u ≡ length t = search rules in (
      omega arith,
      ap (λ i. take (a.at + i) u) k.ensures.0
          ∙ part_written t (take (length r) r) _ a.at (length r) h (omega arith) k.ensures.1
          ∙ ap (λ x. take a.at t ++ x) (take-length r),
    )

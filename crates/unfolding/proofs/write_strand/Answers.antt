-- `write_strand` meets its contract: the cells below i are done, and the rest of the strand follows them.
use Prim.Native.Nat.{◌+◌, ◌-◌, ◌<◌}
use mathlib.Core.Path.{◌≡◌, sym, ap, ap₂, ◌∙◌}
use mathlib.Core.List.{[], ◌++◌, append-nil}
use native.Mathlib.Omega.{arith}
use lib.ListN.{length, set, take}
use Rattle.unfolding.specs.Bytes.{strand_bytes}
use Rattle.model.proofs.lists.Loops.{push}
use Rattle.unfolding.proofs.Steps.{strand_last, strand_step}
use Rattle.unfolding.proofs.write_strand.Goals as goal

pub loop-i-preserved : goal.loop-i-preserved
loop-i-preserved c =
    let l = c.loop-i in
    let a = c.args in
    let t = c.loop-i-test.true in
    let e = a.at + a.count in
    let h : l.i < length l.cells = omega (arith, l.auto.cells) in
    let g : l.i + 1 < e = omega arith in
    push l.cells l.i (l.i + 1) (strand_bytes (l.i + 1) (e - (l.i + 1)) a.value) h
    ∙ ap (λ r. take l.i l.cells ++ r) (sym (strand_step l.i e a.value g)) ∙ l.invariant

pub returns : goal.returns
returns c =
    let l = c.loop-i in
    let a = c.args in
    let t = c.loop-i-test.false in
    let e : a.at + a.count ≡ l.i + 1 = omega (arith, l.auto.i-end) in
    let z : a.at + a.count - 1 ≡ l.i = omega arith in
    let h : l.i < length l.cells = omega (arith, l.auto.cells) in
    ap₂ (λ m j. take m (set l.cells j a.value)) e z
    ∙ sym (append-nil (take (l.i + 1) (set l.cells l.i a.value))) ∙ push l.cells l.i a.value [] h
    ∙ ap (λ r. take l.i l.cells ++ r) (sym (strand_last l.i (a.at + a.count) a.value (sym e))) ∙ l.invariant

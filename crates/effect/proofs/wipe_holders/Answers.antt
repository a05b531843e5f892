-- `wipe_holders` meets its contract. The invariant: the first bytes are wiped, the others are as they were.
use Prim.Native.Nat.{◌<◌, ℕ}
use mathlib.Core.Bool.{cond}
use mathlib.Core.Path.{◌≡◌, ◌∙◌, ap, ap₂, sym}
use mathlib.Core.List.{List}
use native.Mathlib.Omega.{arith}
use lib.ListN.{get_or, length, set}
use borrow.Author.Tests.{eq-eqb, ne_eqb}
use Rattle.effect.specs.Effect.{wipe_byte}
use Rattle.effect.proofs.ListLaws.{part_at, part_step}
use Rattle.effect.proofs.wipe_holders.Goals as goal
use Rattle.effect.proofs.wipe_holders.Goals.{then-b-c, else-b-c}

pub loop-b-preserved : goal.loop-b-preserved
loop-b-preserved c =
    let a = c.args in
    let l = c.loop-b in
    let b = get_or l.list l.b-index 0 in
    let f = wipe_byte a.c in
    let h : l.b-index < length a.list.now = omega arith in
    let wiped : c.if-b-c.b ≡ f b =
    elim c.if-b-c.branch [
      | then-b-c w ↦ w.b-is ∙ sym (ap (λ t. cond t 0xff b) (eq-eqb _ _ w.if-b-c.true))
      | else-b-c w ↦ w.b-is ∙ sym (ap (λ t. cond t 0xff b) (ne_eqb _ _ w.if-b-c.false))
    ] in
    ap₂ (λ (r : List ℕ) (v : ℕ). set r l.b-index v) l.invariant
    (wiped ∙ ap (λ (r : List ℕ). f (get_or r l.b-index 0)) l.invariant ∙ ap f (part_at f a.list.now l.b-index 0 h))
    ∙ part_step f a.list.now l.b-index 0 h

-- `sum_of` meets its contract: the sum so far and the counters that are left make the whole.
use Prim.Native.Nat.{ℕ, ◌+◌, ◌*◌, ◌%◌, ◌^◌, ◌≤◌, ◌<◌}
use mathlib.Core.Path.{◌≡◌, ap, ◌∙◌}
use native.Mathlib.Omega.{arith}
use lib.Count.{count_trailing_zeros}
use mathlib.Core.List.{List}
use lib.ListN.{get_or, length}
use lib.Pow.{pow_pos}
use Rattle.model.specs.Runs.{added}
use Rattle.model.proofs.records.Bytes.{added_none}
use Rattle.update.proofs.Bits.{added_most, lowest_added, lowest_bit, lowest_small, lowest_within}
use Rattle.update.proofs.sum_of.Goals as goal
use Rattle.update.proofs.sum_of.Goals.{In-loop-left}

small : (c : In-loop-left) → count_trailing_zeros 16 c.loop-left.left < 12
small c = lowest_small c.loop-left.left c.loop-left-test.true c.loop-left.invariant.0

bit : (c : In-loop-left) → (1 * 2 ^ count_trailing_zeros 16 c.loop-left.left) % 2 ^ 16
    ≡ 2 ^ count_trailing_zeros 16 c.loop-left.left
bit c = lowest_bit c.loop-left.left c.loop-left-test.true c.loop-left.invariant.0

within : (c : In-loop-left) → 2 ^ count_trailing_zeros 16 c.loop-left.left ≤ c.loop-left.left
within c = lowest_within c.loop-left.left c.loop-left-test.true c.loop-left.invariant.0

-- the sum after the turn is still a part of the whole, and so it is bounded
most : (left set sum : ℕ) (cs : List ℕ) → 0 < left → left < 4096 → length cs ≡ 12 → ((i : ℕ) → get_or cs i 0 < 2 ^ 32)
    → added set cs ≡ sum + added left cs → sum + get_or cs (count_trailing_zeros 16 left) 0 ≤ 4294967295 * 12
most left set sum cs some few len fits e =
    let r = lowest_added left some few cs len in
    let b = added_most set cs fits in
    omega (arith, len)

pub overflow_sub-left : goal.overflow_sub-left
overflow_sub-left c = rw (bit (goal.at.overflow_sub-left c).In-loop-left)
    (within (goal.at.overflow_sub-left c).In-loop-left)

pub loop-left-smaller : goal.loop-left-smaller
loop-left-smaller c = rw (bit (goal.at.loop-left-smaller c).In-loop-left) (omega (
  arith,
  within (goal.at.loop-left-smaller c).In-loop-left,
  pow_pos
      (count_trailing_zeros 16 c.loop-left.left),
))

pub loop-left-preserved : goal.loop-left-preserved
loop-left-preserved c =
    let l = c.loop-left in
    let e = lowest_added l.left c.loop-left-test.true l.invariant.0
    c.args.counters.now (omega arith) in
    rw (bit (goal.at.loop-left-preserved c).In-loop-left) (
      omega arith,
      omega arith,
      most l.left c.args.set l.sum c.args.counters.now c.loop-left-test.true l.invariant.0
          (omega arith) (λ i. (c.type_inv.counters i).fits) l.invariant.1,
    )

pub returns : goal.returns
returns c =
    let l = c.loop-left in
    let cs = c.args.counters.now in
    let z : l.left ≡ 0 = omega arith in
    let none : added l.left cs ≡ 0 = ap (λ n. added n cs) z ∙ added_none cs in
    (omega arith, l.invariant.2)

pub overflow_cast-sum : goal.overflow_cast-sum
overflow_cast-sum c = omega (arith, small (goal.at.overflow_cast-sum c).In-loop-left)

pub offset_bounds-counters-k : goal.offset_bounds-counters-k
offset_bounds-counters-k c = omega (arith, small (goal.at.offset_bounds-counters-k c).In-loop-left)

pub bounds-counters-k : goal.bounds-counters-k
bounds-counters-k c = omega (arith, small (goal.at.bounds-counters-k c).In-loop-left)

pub overflow_cast-sum-in-loop-left : goal.overflow_cast-sum-in-loop-left
overflow_cast-sum-in-loop-left c = omega (arith, c.type_inv.counters (count_trailing_zeros 16 c.loop-left.left))

pub overflow_add-sum : goal.overflow_add-sum
overflow_add-sum c =
    let l = c.loop-left in
    omega (
      arith,
      most l.left c.args.set l.sum c.args.counters.now c.loop-left-test.true l.invariant.0
          (omega arith) (λ i. (c.type_inv.counters i).fits) l.invariant.1,
    )

pub overflow_cast-left : goal.overflow_cast-left
overflow_cast-left c = omega (arith, small (goal.at.overflow_cast-left c).In-loop-left)

pub overflow_shl-left : goal.overflow_shl-left
overflow_shl-left c = omega (arith, small (goal.at.overflow_shl-left c).In-loop-left)

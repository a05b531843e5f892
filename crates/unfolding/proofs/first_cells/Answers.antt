-- `first_cells` meets its contract: the entries below n are right, and the running sum is the first cell of node n.
use Prim.Native.Nat.{◌+◌}
use native.Mathlib.Omega.{arith}
use Rattle.model.specs.Image.{first_cell}
use Rattle.model.proofs.lists.Loops.{set_below}
use Rattle.unfolding.proofs.Steps.{first_most, first_next}
use Rattle.unfolding.proofs.first_cells.Goals as goal

pub overflow_cast-firsts : goal.overflow_cast-firsts
overflow_cast-firsts c =
    let l = c.loop-n in
    omega (arith, first_most c.args.counters.now l.n)

pub overflow_add-at : goal.overflow_add-at
overflow_add-at c =
    let l = c.loop-n in
    let t = c.args.counters.now in
    let h = c.loop-n-test.true in
    let e = first_next t l.n (omega arith) in
    omega (arith, first_most t (l.n + 1))

pub loop-n-preserved : goal.loop-n-preserved
loop-n-preserved c =
    let l = c.loop-n in
    let t = c.args.counters.now in
    let h = c.loop-n-test.true in
    let e = first_next t l.n (omega arith) in (
      omega arith,
      set_below (first_cell t) l.firsts l.n l.at (omega (arith, l.auto.firsts)) l.invariant.0 l.invariant.1,
    )

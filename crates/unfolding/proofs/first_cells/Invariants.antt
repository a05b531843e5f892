-- `first_cells` meets its contract: the entries below n are right, and the running sum is the first cell of node n.
use Prim.Native.Nat.{ℕ, ◌<◌}
use mathlib.Core.Path.{◌≡◌}
use lib.ListN.{get_or}
use Rattle.model.specs.Image.{first_cell}
use Rattle.unfolding.proofs.first_cells.Given as goal

abbrev pub invariant-loop-n : goal.invariant-loop-n
invariant-loop-n l =
    (l.at ≡ first_cell l.counters l.n)
    × ((k : ℕ) → k < l.n → get_or l.firsts k 0 ≡ first_cell l.counters k)

-- `sum_of` meets its contract: the sum so far and the counters that are left make the whole.
use Prim.Native.Nat.{◌+◌, ◌*◌, ◌≤◌, ◌<◌}
use mathlib.Core.Path.{◌≡◌}
use Rattle.model.specs.Runs.{added}
use Rattle.update.proofs.sum_of.Given as goal

abbrev pub invariant-loop-left : goal.invariant-loop-left
invariant-loop-left l =
    (l.left < 4096) × (added l.set l.counters ≡ l.sum + added l.left l.counters) × (l.sum ≤ 4294967295 * 12)

abbrev pub decreases-loop-left : goal.decreases-loop-left
decreases-loop-left l = l.left

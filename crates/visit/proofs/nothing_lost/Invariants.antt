-- `visit::nothing_lost` meets its contract. The whole search gives what was kept so far and what is left of the search
-- gives. Assumes nothing.
use mathlib.Core.Path.{◌≡◌}
use mathlib.Core.Bool.{◌&&◌}
use Rattle.visit.proofs.Losing.{kept_from}
use Rattle.visit.proofs.nothing_lost.Given as goal

abbrev pub invariant-loop-i : goal.invariant-loop-i
invariant-loop-i l = kept_from l.seen l.cells 0 ≡ l.kept && kept_from l.seen l.cells l.i

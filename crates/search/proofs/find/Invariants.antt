-- `search::find` meets its contract: what is found is what is found among the records before i.
use mathlib.Core.Path.{◌≡◌}
use Rattle.model.specs.Search.{equal_at, highest_below}
use Rattle.search.proofs.find.Given as goal

abbrev pub invariant-loop-i : goal.invariant-loop-i
invariant-loop-i l =
    highest_below l.count (equal_at l.table l.rec) ≡ highest_below l.i (equal_at l.table l.rec)

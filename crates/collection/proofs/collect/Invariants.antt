-- `collect` meets its contract. The invariant: the cells that are done, and what the rest becomes, are the whole.
use mathlib.Core.Path.{◌≡◌}
use mathlib.Core.List.{◌++◌}
use lib.ListN.{drop, take}
use Rattle.collection.specs.Left.{left_bytes}
use Rattle.collection.proofs.collect.Given as goal

abbrev pub invariant-loop-i : goal.invariant-loop-i
invariant-loop-i l = left_bytes l.seen 0 l.initial.cells ≡ take l.i l.cells ++ left_bytes l.seen l.i (drop l.i l.cells)

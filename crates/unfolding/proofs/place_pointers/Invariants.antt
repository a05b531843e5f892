-- `place_pointers` meets its contract: the first i pointers are done, and the values from i on follow them.
use mathlib.Core.Path.{◌≡◌}
use mathlib.Core.List.{◌++◌, map}
use lib.ListN.{drop, take}
use Rattle.unfolding.specs.Bytes.{placed_byte}
use Rattle.unfolding.proofs.place_pointers.Given as goal

abbrev pub invariant-loop-i : goal.invariant-loop-i
invariant-loop-i l =
    take l.i l.pointers ++ map (placed_byte l.firsts) (drop l.i l.values) ≡ map (placed_byte l.firsts) l.values

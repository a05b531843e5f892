-- `closed_image::tell_used` meets its contract: the first i cells are told. Assumes nothing.
use mathlib.Core.Path.{◌≡◌}
use mathlib.Core.List.{◌++◌, map}
use lib.ListN.{drop, take}
use Rattle.closed_image.proofs.Fine.{used_cell}
use Rattle.closed_image.proofs.tell_used.Given as goal

abbrev pub invariant-loop-i : goal.invariant-loop-i
invariant-loop-i l = l.fine ≡ map used_cell (take l.i l.cells) ++ drop l.i l.initial.fine

-- `write_strand` meets its contract: the cells below i are done, and the rest of the strand follows them.
use Prim.Native.Nat.{◌+◌, ◌-◌}
use mathlib.Core.Path.{◌≡◌}
use mathlib.Core.List.{◌++◌}
use lib.ListN.{take}
use Rattle.unfolding.specs.Bytes.{strand_bytes}
use Rattle.unfolding.proofs.write_strand.Given as goal

abbrev pub invariant-loop-i : goal.invariant-loop-i
invariant-loop-i l =
    take l.i l.cells ++ strand_bytes l.i (l.at + l.count - l.i) l.value
    ≡ take l.at l.initial.cells ++ strand_bytes l.at l.count l.value

-- `segment::cut_long` meets its contract: with the cells before place i cut, the tables have their k segments.
use Prim.Native.Nat.{◌-◌, ◌≤◌}
use mathlib.Core.Path.{◌≡◌}
use lib.ListN.{drop, length}
use Rattle.segment.specs.Cut.{cut_tables}
use Rattle.segment.proofs.CutStep.{Alike}
use Rattle.segment.proofs.RunLaws.{CutTo}
use Rattle.segment.proofs.cut_long.Given as goal

abbrev pub invariant-loop-i : goal.invariant-loop-i
invariant-loop-i l =
    (l.i ≤ length l.order) × Alike (cut_tables l.node l.last l.size)
    (cut_tables l.initial.node l.initial.last l.initial.size)
    × CutTo l.order l.held (cut_tables l.node l.last l.size) l.k l.i × (drop l.k l.size ≡ drop l.k l.initial.size)

abbrev pub decreases-loop-i : goal.decreases-loop-i
decreases-loop-i l = length l.order - l.i

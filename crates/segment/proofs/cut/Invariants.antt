-- `segment::cut` meets its contract: after i cells the tables are those of the cut of the first i.
use mathlib.Core.Path.{◌≡◌}
use lib.ListN.{drop, take}
use Rattle.segment.specs.Cut.{IsCut, segs}
use Rattle.segment.specs.Lent.{SameTables, tables_in}
use Rattle.segment.proofs.CutStep.{Alike}
use Rattle.segment.proofs.cut.Given as goal

abbrev pub invariant-loop-c : goal.invariant-loop-c
invariant-loop-c l = SameTables l.initial.tables l.tables
    × Alike (tables_in l.tables) (tables_in l.initial.tables)
    × IsCut (segs l.held (take l.c-index l.order)) (tables_in l.tables) l.k
    × (drop l.k l.tables.size.now ≡ drop l.k l.initial.tables.size.now)

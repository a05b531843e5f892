-- `segment::name_cells` meets its contract: with the cells from the turn's on named, the table is the one with all
-- named.
use mathlib.Core.Path.{◌≡◌}
use lib.ListN.{drop}
use Rattle.segment.specs.Cut.{named}
use Rattle.segment.proofs.name_cells.Given as goal

abbrev pub invariant-loop-c : goal.invariant-loop-c
invariant-loop-c l = named (drop l.c-index l.cells) l.n.0 l.node ≡ named l.cells l.n.0 l.initial.node

-- `cell_sum::add_cells` meets its contract: after i cells each entry has grown by what those of its node add, and is at
-- most 4096 for each.
use Rattle.cell_sum.specs.Codes.{plus_in}
use Rattle.cell_sum.proofs.Sums.{Added}
use Rattle.cell_sum.proofs.add_cells.Given as goal

abbrev pub invariant-loop-c : goal.invariant-loop-c
invariant-loop-c l = Added l.node (plus_in l.weights) l.cells l.initial.updates l.updates l.c-index

-- `edge::one_edge` meets its contract: the edge of a statement that is done, or the fault's.
use mathlib.Core.Path.{◌∙◌}
use Rattle.way.proofs.Ready.{location_wide}
use Rattle.edge.proofs.Edges.{fault_leaves}
use Rattle.edge.proofs.one_edge.Goals as goal

pub fault_edge-requires : goal.fault_edge-requires
fault_edge-requires c =
    let p = c.requires in
    (location_wide p.ready, c.done_edge.auto.target ∙ p.wide)

pub returns-in-Err : goal.returns-in-Err
returns-in-Err c = fault_leaves c.in-Err.fault c.in-Err.ensures c.fault_edge.ensures

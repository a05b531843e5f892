-- `follow` meets its contract: after i edges the rest of the path decides.
use Rattle.model.specs.Ranges.{start_box}
use Rattle.model.specs.Runs.{nodes_at}
use Rattle.model.specs.Structs.{tables_lent}
use Rattle.ranging.proofs.Going.{Going}
use Rattle.ranging.proofs.follow.Given as goal

abbrev pub invariant-loop-i : goal.invariant-loop-i
invariant-loop-i l =
    let t = tables_lent l.tables in Going t l.start (start_box (nodes_at t l.start) l.ranges) l.path l.i l.left

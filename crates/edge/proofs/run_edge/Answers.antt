-- `edge::run_edge` meets its contract: the way is run on a blank image, and what a run leaves is folded.
use native.Mathlib.Omega.{arith}
use mathlib.Core.Path.{refl, subst, sym}
use lib.Seq.{length-take-le}
use Rattle.std.proofs.lemmas.Result.{err_from_is_err_and}
use Rattle.way.proofs.Ready.{nodes_few}
use Rattle.edge.specs.Edge.{LeavesBy}
use Rattle.edge.proofs.Edges.{done_leaves, leave_ready, run_faults}
use Rattle.edge.proofs.run_edge.Goals as goal

pub returns-in_err-gone : goal.returns-in_err-gone
returns-in_err-gone c =
    let a = c.args in
    let r = c.from_residual in
    let p = err_from_is_err_and r.result r.ensures.1 in
    rw (p.1, p.2) (run_faults a.location.now a.d a.way c.in_err-gone.field-0.0 c.in_err-gone.ensures)

pub slice_bounds-cells-end : goal.slice_bounds-cells-end
slice_bounds-cells-end c =
    omega (arith, c.in_ok-gone.ensures.count, nodes_few c.requires.ready, c.run_way.auto.cells)

pub slice_bounds-leave-end-2 : goal.slice_bounds-leave-end-2
slice_bounds-leave-end-2 c =
    sym (length-take-le _ _
    (omega (arith, c.in_ok-gone.ensures.count, nodes_few c.requires.ready, c.run_way.auto.cells)))

pub slice_bounds-order-end : goal.slice_bounds-order-end
slice_bounds-order-end c =
    let g = c.in_ok-gone.ensures in
    omega (arith, g.few, g.count, nodes_few c.requires.ready, c.run_way.auto.order)

pub slice_bounds-leave-end-3 : goal.slice_bounds-leave-end-3
slice_bounds-leave-end-3 c =
    let g = c.in_ok-gone.ensures in
    sym (length-take-le _ _ (omega (arith, g.few, g.count, nodes_few c.requires.ready, c.run_way.auto.order)))

pub leave-m-requires : goal.leave-m-requires
leave-m-requires c =
    let p = c.requires in
    let a = c.args in
    let g = c.run_way.auto in
    leave_ready c.in_ok-gone.ensures p.ready g.pointers (omega (arith, g.cells))
    (omega (arith, g.order)) (omega (arith, g.seen)) a.target.now a.updates.now p.wide p.room

pub returns : goal.returns
returns c =
    let a = c.args in
    let l = c.leave-m in
    let e = c.edge_on in
    subst (LeavesBy a.location.now a.d a.way e.new.target l.new.updates) (sym e.ensures.0)
    (done_leaves c.in_ok-gone.ensures l.new.target e.new.target l.new.updates _ l.result refl l.ensures e.ensures.1)

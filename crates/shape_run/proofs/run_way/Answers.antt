-- `shape_run::run_way` meets its contract: the shape is opened, the branch is read off the opened image, and the image
-- is run.
use native.Mathlib.Omega.{arith}
use Rattle.way.proofs.Ready.{open_ready, location_wide, nodes_few}
use mathlib.Core.Path.{sym, ◌∙◌}
use Rattle.std.proofs.lemmas.Result.{err_from_is_err_and}
use lib.Seq.{length-take-le}
use Rattle.shape_run.proofs.Running.{run_ready, way_done, way_faults}
use Rattle.shape_run.proofs.run_way.Goals as goal

pub bounds-location-3 : goal.bounds-location-3
bounds-location-3 c = omega (arith, location_wide c.requires.ready)

pub overflow_cast-k : goal.overflow_cast-k
overflow_cast-k c = omega (arith, nodes_few c.requires.ready)

pub open_way-n-requires : goal.open_way-n-requires
open_way-n-requires c =
    let p = c.requires in
    let a = c.args in
    open_ready p.ready a.pointers.now a.cells.now p.six p.room

pub branch_of-branch-requires : goal.branch_of-branch-requires
branch_of-branch-requires c =
    let p = c.requires in
    let f = p.ready.statement in
    (f.known, f.is_u, f.is_w, c.open_way-n.auto.pointers ∙ p.six)

pub slice_bounds-run-end : goal.slice_bounds-run-end
slice_bounds-run-end c =
    let o = c.open_way-n in
    let few = o.ensures.few in
    omega (
      arith,
      o.auto.cells,
      c.requires.room,
    )

pub slice_bounds-run-end-2 : goal.slice_bounds-run-end-2
slice_bounds-run-end-2 c =
    let o = c.open_way-n in
    let few = o.ensures.few in
    sym (length-take-le o.result o.new.cells
    (omega (
      arith,
      o.auto.cells,
      c.requires.room,
    )))

pub run-requires : goal.run-requires
run-requires c =
    let p = c.requires in
    let a = c.args in
    let o = c.open_way-n in
    let e = o.ensures in
    run_ready p.ready o.new.pointers o.new.cells o.result e.pointers e.count
    (omega (arith, o.auto.cells, p.room)) e.heap
    a.order.now a.seen.now p.places p.marks p.clear

pub returns-in_err-visited : goal.returns-in_err-visited
returns-in_err-visited c =
    let p = c.requires in
    let o = c.open_way-n in
    let e = o.ensures in
    let r = c.run in
    let x = c.from_residual in
    let q = err_from_is_err_and x.result x.ensures.1 in
    rw (q.1, q.2)
    (way_faults p.ready o.new.pointers o.new.cells o.result e.pointers e.count
    (omega (arith, o.auto.cells, p.room)) e.heap
    r.new.pointers r.new.cells r.new.order r.new.seen r.auto.cells c.in_err-visited.ensures)

pub returns : goal.returns
returns c =
    let p = c.requires in
    let o = c.open_way-n in
    let e = o.ensures in
    let b = c.branch_of-branch in
    let r = c.run in
    way_done p.ready o.new.pointers o.new.cells o.result e.pointers e.count
    (omega (arith, o.auto.cells, p.room)) e.heap
    r.new.pointers r.new.cells r.new.order r.new.seen r.auto.cells b.result c.in_ok-visited.visited
    b.ensures c.in_ok-visited.ensures

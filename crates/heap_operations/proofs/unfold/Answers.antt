-- `unfold` meets its contract: a refusal leaves all, and without one the shape is unfolded.
use Rattle.std.proofs.lemmas.Result.{err_from_is_err_and}
use Rattle.heap_operations.proofs.UnfoldLaws.{unfold_ready, unfold_done, unfold_refused}
use Rattle.heap_operations.proofs.unfold.Goals as goal

pub returns-in_err-unfold_refusal : goal.returns-in_err-unfold_refusal
returns-in_err-unfold_refusal c =
    let a = c.args in
    let p = err_from_is_err_and c.from_residual.result c.from_residual.ensures.1 in
    rw (p.1, p.2)
    (unfold_refused a.rec.now a.counters.now a.pointers.now a.cells.now c.in_err-unfold_refusal.field-0.0
    c.in_err-unfold_refusal.ensures)

pub unfold_shape-requires : goal.unfold_shape-requires
unfold_shape-requires c =
    let a = c.args in
    unfold_ready a.rec.now a.counters.now a.pointers.now a.cells.now c.in_ok-unfold_refusal.ensures

pub returns : goal.returns
returns c =
    let a = c.args in
    let u = c.unfold_shape.ensures in
    unfold_done a.rec.now a.counters.now a.pointers.now a.cells.now c.in_ok-unfold_refusal.ensures u.pointers u.cells

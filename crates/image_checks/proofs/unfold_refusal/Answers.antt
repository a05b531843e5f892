-- `unfold_refusal` meets its contract: a failure of the nodes is told behind the lengths and the layout.
use Rattle.std.proofs.lemmas.Result.{err_from_is_err_and}
use Rattle.layout.proofs.Reasons.{no_zero}
use Rattle.image_checks.proofs.UnfoldChecks as by
use Rattle.image_checks.proofs.unfold_refusal.Goals as goal
use Rattle.image_checks.proofs.unfold_refusal.Goals.{Else-not-is_shape}

laid : (c : Else-not-is_shape) → let a = c.args in
    by.Laid a.rec.now a.counters.now a.pointers a.cells
laid c = by.laid (record { six = c.if-pointers-ne-POINTERS.false; few = c.if-cells-gt-MOST_CELLS.false })
    c.is_shape.ensures c.if-not-is_shape.false

pub returns-in_err-shape_failure : goal.returns-in_err-shape_failure
returns-in_err-shape_failure c =
    let p = err_from_is_err_and c.from_residual.result c.from_residual.ensures.1 in
    rw (p.1, p.2) (by.tells_nodes (laid (goal.at.returns-in_err-shape_failure c).Else-not-is_shape)
    c.in_err-shape_failure.ensures (no_zero c.in_err-shape_failure.field-0.0))

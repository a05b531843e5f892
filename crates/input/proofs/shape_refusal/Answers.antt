-- `shape_refusal` meets its contract: a failure of the nodes is told behind the layout.
use mathlib.Core.Path.{sym, ◌∙◌}
use Rattle.std.proofs.lemmas.Result.{err_from_is_err_and}
use Rattle.layout.proofs.Reasons.{no_zero}
use Rattle.input.specs.RecordChecks.{earlier}
use Rattle.input.proofs.Shapes.{tells_nodes}
use Rattle.input.proofs.shape_refusal.Goals as goal

pub returns-in_err-shape_failure : goal.returns-in_err-shape_failure
returns-in_err-shape_failure c =
    let a = c.args in
    let p = err_from_is_err_and c.from_residual.result c.from_residual.ensures.1 in
    rw (p.1, p.2) (tells_nodes (earlier a.input.now a.i) a.rec.now (sym c.layout_ok.ensures ∙ c.if-not-layout_ok.false)
    c.in_err-shape_failure.ensures (no_zero c.in_err-shape_failure.field-0.0))

-- `step` meets its contract: a refusal leaves all, and without one the step is taken.
use mathlib.Core.Path.{ap, sym}
use Rattle.std.proofs.lemmas.Result.{err_from_is_err_and}
use Rattle.model.specs.Structs.{Failed}
use Rattle.plain_step.proofs.StepLaws.{step_unchecked}
use Rattle.heap_operations.proofs.step.Goals as goal

pub returns-in_err-step_refusal : goal.returns-in_err-step_refusal
returns-in_err-step_refusal c =
    let a = c.args in
    let p = err_from_is_err_and c.from_residual.result c.from_residual.ensures.1 in
    rw (p.1, p.2)
    (step_unchecked a.rec.now a.pick a.cell a.pointers.now a.cells.now c.in_err-step_refusal.field-0.0
    c.in_err-step_refusal.ensures)

pub take_step-requires : goal.take_step-requires
take_step-requires c = sym (ap (λ (f : Failed). f.number) c.in_ok-step_refusal.ensures)

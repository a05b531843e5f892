-- `check_records` meets its contract: the records from i on decide.
use Prim.Native.Nat.{◌+◌}
use native.Mathlib.Omega.{arith}
use mathlib.Core.Path.{◌≡◌, ◌∙◌, sym}
use Rattle.std.proofs.Common.{rules}
use Rattle.std.proofs.lemmas.Result.{err_from_is_err_and}
use Rattle.model.specs.Codes.{refusal_for}
use Rattle.model.specs.Records.{record_at}
use Rattle.layout.proofs.Reasons.{no_zero}
use Rattle.input.specs.RecordChecks.{earlier}
use Rattle.input.proofs.Records.{records_fail, records_pass, records_pass_end}
use Rattle.input.proofs.Shapes.{mapped_err, mapped_ok, number_known}
use Rattle.input.proofs.check_records.Goals as goal

pub returns-in_err-map_err-clause-first : goal.returns-in_err-map_err-clause-first
returns-in_err-map_err-clause-first c =
    let a = c.args in
    let l = c.loop-i in
    let p = err_from_is_err_and c.from_residual.result c.from_residual.ensures.1 in
    let m = mapped_err _ c.record_refusal.result c.map_err.result c.map_err.ensures.cases c.in_err-map_err.was in
    let x : c.in_err-map_err.field-0.0 ≡ refusal_for m.0 l.i-counter = search rules in
    let t = rw m.1 at c.record_refusal.ensures in
    rw (p.1, p.2, x) (sym (l.invariant ∙ records_fail a.input.now (a.routine.statements + a.routine.shapes) c.requires.4
    a.routine.statements l.i-counter (omega arith) t (no_zero m.0)))

pub returns-in_err-map_err-clause-known : goal.returns-in_err-map_err-clause-known
returns-in_err-map_err-clause-known c =
    let a = c.args in
    let i = c.loop-i.i-counter in
    let p = err_from_is_err_and c.from_residual.result c.from_residual.ensures.1 in
    let m = mapped_err _ c.record_refusal.result c.map_err.result c.map_err.ensures.cases c.in_err-map_err.was in
    let x : c.in_err-map_err.field-0.0 ≡ refusal_for m.0 i = search rules in
    let t = rw m.1 at c.record_refusal.ensures in
    rw (p.1, p.2, x) (number_known a.routine.statements (earlier a.input.now i) (record_at a.input.now i) t
    (no_zero m.0))

pub returns-clause-first : goal.returns-clause-first
returns-clause-first c =
    let a = c.args in
    let l = c.loop-i in
    sym (l.invariant ∙ records_pass_end a.input.now (a.routine.statements + a.routine.shapes) c.requires.4
    a.routine.statements l.i-counter
    (omega arith))

pub loop-i-preserved : goal.loop-i-preserved
loop-i-preserved c =
    let a = c.args in
    let l = c.loop-i in
    let m = mapped_ok _ c.record_refusal.result c.map_err.result c.map_err.ensures.cases c.in_ok-map_err.was in
    l.invariant ∙ records_pass a.input.now (a.routine.statements + a.routine.shapes) (omega arith) a.routine.statements
    l.i-counter (omega arith) (sym (rw m.1 at c.record_refusal.ensures).number)

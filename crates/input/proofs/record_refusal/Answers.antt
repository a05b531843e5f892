-- `record_refusal` meets its contract: the part that is lent is the record, and its tag decides.
use native.Mathlib.Omega.{arith}
use mathlib.Core.Path.{ap, ◌∙◌}
use lib.ListN.{length}
use borrow.Author.Tests.{ne_eqb}
use Rattle.model.specs.Records.{record_at}
use Rattle.input.specs.RecordChecks.{earlier}
use Rattle.input.proofs.Records.{record_wide}
use Rattle.input.proofs.Shapes.{tells_by_h}
use Rattle.input.proofs.record_refusal.Goals as goal

pub statement_refusal-requires : goal.statement_refusal-requires
statement_refusal-requires c = ap length c.record_at-rec.ensures ∙ record_wide c.args.input.now c.args.i c.requires

pub shape_refusal-requires : goal.shape_refusal-requires
shape_refusal-requires c =
    (omega arith, ap length c.record_at-rec.ensures ∙ record_wide c.args.input.now c.args.i c.requires)

pub returns : goal.returns
returns c =
    let a = c.args in
    let e = c.record_at-rec.ensures in
    tells_by_h (earlier a.input.now a.i) (record_at a.input.now a.i) a.statements
    (ne_eqb _ _ (rw e at c.if-rec-eq83.false)) (rw e at c.shape_refusal.ensures)

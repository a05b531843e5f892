-- `take_step` meets its contract: the entry is refused, a stop, a fault, or the step is made.
use borrow.Author.Rules.{rules}
use Rattle.image_checks.proofs.StepChecks.{checked_six}
use Rattle.plain_step.proofs.StepLaws.{Checked, decoded_fields, step_faulted, step_ready, step_refused, step_stopped, step_went}
use Rattle.plain_step.proofs.take_step.Goals as goal
use Rattle.plain_step.proofs.take_step.Goals.{After-decode-d}

-- once the record is decoded
checked : (k : After-decode-d) → let a = k.args in
    Checked a.rec.now a.pick a.cell a.pointers.now a.cells.now k.decode-d.result
checked k = record { passed = k.requires; decodes = k.decode-d.ensures }

pub returns-then-not-entry_ok : goal.returns-then-not-entry_ok
returns-then-not-entry_ok c =
    rw c.at.ensures
    (step_refused (checked (goal.at.returns-then-not-entry_ok c).After-decode-d) c.entry_ok.ensures
    c.if-not-entry_ok.true)

pub returns-then-eq : goal.returns-then-eq
returns-then-eq c =
    step_stopped (checked (goal.at.returns-then-eq c).After-decode-d) c.entry_ok.ensures c.if-not-entry_ok.false
    (search rules)

pub branch_of-branch-requires : goal.branch_of-branch-requires
branch_of-branch-requires c =
    let a = c.args in
    let f = decoded_fields (checked (goal.at.branch_of-branch-requires c).After-decode-d) in
    (f.0, f.1, f.2, checked_six a.rec.now a.pointers.now a.cells.now c.requires)

pub run_statement-requires : goal.run_statement-requires
run_statement-requires c =
    step_ready (checked (goal.at.run_statement-requires c).After-decode-d) c.entry_ok.ensures c.if-not-entry_ok.false

pub returns-in-Ok : goal.returns-in-Ok
returns-in-Ok c =
    step_went (checked (goal.at.returns-in-Ok c).After-decode-d) c.entry_ok.ensures c.if-not-entry_ok.false
    (search rules) c.in-Ok.ensures c.branch_of-branch.ensures c.next_of.ensures

pub returns-in-Err : goal.returns-in-Err
returns-in-Err c =
    step_faulted (checked (goal.at.returns-in-Err c).After-decode-d) c.entry_ok.ensures c.if-not-entry_ok.false
    (search rules) c.in-Err.fault c.in-Err.ensures

-- `translate` meets its contract: the input is refused, the starting shapes have no place, or the routine is listed.
use mathlib.Core.Path.{ap₂, ◌∙◌}
use lib.ListN.{length}
use Rattle.std.specs.Prelude.{Ok}
use Rattle.std.proofs.lemmas.Result.{err_from_is_err_and}
use Rattle.model.specs.Translate.{translate}
use Rattle.automaton.proofs.Answers.{Looked, answer_bad, answer_few, answered, ready_to_list}
use Rattle.automaton.proofs.translate.Goals as goal
use Rattle.automaton.proofs.translate.Goals.{In_ok-routine}

-- once the tables are cleared and the input is checked
looked : (c : In_ok-routine) → Looked c.args.input.now c.args.locations.now c.args.edges.now
    c.clear_both.new.locations c.clear_both.new.edges (Ok c.in_ok-routine.routine)
looked c =
    let b = c.clear_both in
    let k = c.in_ok-routine.ensures in
    record { cleared = b.ensures; wide = b.auto.locations; wide' = b.auto.edges; said = k.outcome; counts = k.counts }

pub returns-in_err-routine : goal.returns-in_err-routine
returns-in_err-routine c =
    let b = c.clear_both in
    let k = c.in_err-routine.ensures in
    let p = err_from_is_err_and c.from_residual.result c.from_residual.ensures.1 in
    let h = answer_bad (record {
      cleared = b.ensures;
      wide = b.auto.locations;
      wide' = b.auto.edges;
      said = k.outcome;
      counts = k.counts;
    }) in
    rw (p.1, p.2) (record { outcome = h.0; automaton = h.1 })

pub returns-then-most-routine : goal.returns-then-most-routine
returns-then-most-routine c =
    let h = answer_few (looked (goal.at.returns-then-most-routine c).In_ok-routine) c.places-most.ensures
    c.if-most-routine.true in
    rw c.at.ensures (record { outcome = h.0; automaton = h.1 })

pub list-requires : goal.list-requires
list-requires c =
    ready_to_list (looked (goal.at.list-requires c).In_ok-routine) c.places-most.ensures c.if-most-routine.false

pub returns : goal.returns
returns c =
    let l = c.list in
    let b = c.clear_both in
    let a = c.args in
    let h = answered a.input.now (length a.locations.now) (length a.edges.now) l.result _ _
    (l.ensures ∙ ap₂ (translate a.input.now) b.auto.locations b.auto.edges) in
    record { outcome = h.0; automaton = h.1 }

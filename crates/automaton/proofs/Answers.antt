-- The answers of the translator, from the cleared tables and the check of the input.
use Prim.Native.Nat.{ℕ, ◌<◌, ◌≤◌}
use Rattle.model.specs.Base.{most_locations}
use Rattle.model.specs.Records.{is_accepted}
use native.Mathlib.Omega.{arith}
use mathlib.Core.Path.{◌≡◌, ap, sym, ◌∙◌}
use mathlib.Core.List.{List}
use lib.ListN.{length, replicate}
use Rattle.model.specs.Answers.{outcome_of}
use Rattle.model.specs.Runs.{IsRoutineOf}
use Rattle.model.specs.Translate.{check, good, places, translate}
use Rattle.std.specs.Prelude.{Result, Ok, Err}
use Rattle.model.specs.Codes.{refusal_for}
use Rattle.model.specs.declared.Counts.{Counts}
use Rattle.model.specs.declared.codes.Reason.TheVariants.{LocationsFull}
use Rattle.model.specs.declared.codes.Refusal.{Refusal}
use Rattle.input.specs.declared.Routine.{Routine}
use Rattle.input.specs.Accepted.{Accepted}
use Rattle.input.specs.Input.{GoodCounts, checked_of, routine_in}
use Rattle.input.proofs.Facts.{accepted, starts_length}
use Rattle.automaton.specs.Ready.{ListReady}
use Rattle.automaton.proofs.Outcomes.{outcome_automaton, outcome_bad, outcome_few}

-- the contract of the translator, of an answer and what the tables then hold
abbrev pub Answered : List ℕ → ℕ → ℕ → Result Counts Refusal → List ℕ → List ℕ → Type 0
Answered s a b o ls es =
    (outcome_of o ls es ≡ translate s a b)
    × ((outcome_of o ls es).verdict ≡ is_accepted → IsRoutineOf s (outcome_of o ls es).tables)

pub answered : (s : List ℕ) (a b : ℕ) (o : Result Counts Refusal) (ls es : List ℕ)
    → outcome_of o ls es ≡ translate s a b → Answered s a b o ls es
answered s a b o ls es e = (e, outcome_automaton s a b o ls es e)

-- ks and fs are the tables ls and es cleared, and o is what the check of the input s said
pub record Looked (s ls es ks fs : List ℕ) (o : Result Routine Refusal) : Type 0 where
  pub cleared : (ks ≡ replicate (length ls) 0) × (fs ≡ replicate (length es) 0)
  pub wide : length ks ≡ length ls
  pub wide' : length fs ≡ length es
  pub said : checked_of o s ≡ check s
  pub counts : GoodCounts o s

pub answer_bad : {s ls es ks fs : List ℕ} {y : Refusal} → Looked s ls es ks fs (Err y)
    → Answered s (length ls) (length es) (Err y) ks fs
answer_bad {s} {ls} {es} {ks} {fs} {y} L =
    answered s (length ls) (length es) (Err y) ks fs
    (outcome_bad s (length ls) (length es) y ks fs L.said L.cleared.0 L.cleared.1)

module _ {s ls es ks fs : List ℕ} {r : Routine} (L : Looked s ls es ks fs (Ok r)) {most : ℕ}
    (e : most ≡ places most_locations (length ks)) where
  is_good_lem : check s ≡ good (routine_in r.statements s)
  is_good_lem = sym L.said

  is_accepted_lem : Accepted s r.statements r.shapes
  is_accepted_lem = accepted s r L.said L.counts

  pub answer_few : most < r.shapes
      → Answered s (length ls) (length es) (Err (refusal_for LocationsFull most)) ks fs
  answer_few h =
      let l = starts_length s r.statements r.shapes is_accepted_lem.whole in
      let z : most ≡ places most_locations (length ls) = e ∙ ap (places most_locations) L.wide in
      answered s (length ls) (length es) (Err (refusal_for LocationsFull most)) ks fs
      (ap (λ x. outcome_of (Err (refusal_for LocationsFull x)) ks fs) z
      ∙ outcome_few s (length ls) (length es) (routine_in r.statements s) is_good_lem ks fs (omega arith)
      L.cleared.0 L.cleared.1)

  pub ready_to_list : r.shapes ≤ most → ListReady s r.statements r.shapes ks fs
  ready_to_list h = record {
    starts = record {
      is_good = is_good_lem;
      accepted = is_accepted_lem;
      room = omega arith;
      blank = L.cleared.0 ∙ ap (λ k. replicate k 0) (sym L.wide);
    };
    blank = L.cleared.1 ∙ ap (λ k. replicate k 0) (sym L.wide');
  }

-- What each case of an answer says, in 01's numbers. The contracts go by these: no two answers say the same. Assumes
-- nothing.
use Rattle.std.specs.Prelude.{ℕ, List, [], ◌∷◌, replicate, Option, Some, None, Result, Ok, Err}
use Rattle.std.proofs.Math.Option.{Option as MathOption, none, some}
use Rattle.model.specs.Base.{most_nodes, record_size}
use Rattle.model.specs.Records.{Refusal, refusal, refusal_at, Verdict, is_accepted, is_refused}
use Rattle.model.specs.Translate.{Outcome}
use Rattle.model.specs.Image.{Folding, Unfolding, StepAnswer, to_next, to_fault, to_stop, no_step, Stepping}
use Rattle.model.specs.Codes.{fault_code, reason_node, reason_number}
use Rattle.model.specs.declared.Counts.{Counts}
use Rattle.model.specs.declared.Folded.{Folded}
use Rattle.model.specs.declared.Stepped.{Stepped}
use Rattle.model.specs.declared.Stepped.TheVariants as stepped
use Rattle.model.specs.declared.codes.Refusal as declared

-- a refusal of the code in numbers
abbrev pub refusal_in : declared.Refusal → Refusal
refusal_in r = refusal_at (reason_number r.reason) r.place (reason_node r.reason)

abbrev pub verdict_of : {A : Type 0} → Result A declared.Refusal → Verdict
verdict_of (Ok _) = is_accepted
verdict_of (Err r) = is_refused (refusal_in r)

-- the answer of `translate` with the bytes of the two tables
abbrev pub outcome_of : Result Counts declared.Refusal → List ℕ → List ℕ → Outcome
outcome_of (Ok c) ls es =
    record {
      verdict = is_accepted;
      tables = record { loc_bytes = ls; edge_bytes = es; loc_count = c.locations; edge_count = c.edges };
    }
outcome_of (Err r) ls es =
    record {
      verdict = is_refused (refusal_in r);
      tables = record {
        loc_bytes = ls;
        edge_bytes = es;
        loc_count = 0;
        edge_count = 0;
      };
    }

-- a refused fold gives zeros
abbrev pub folding_of : Result Folded declared.Refusal → Folding
folding_of (Ok f) = record { verdict = is_accepted; record_bytes = f.shape; counts = f.counters }
folding_of (Err r) =
    record {
      verdict = is_refused (refusal_in r);
      record_bytes = replicate record_size 0;
      counts = replicate most_nodes 0;
    }

-- the answer of `unfold` with the bytes of the pointers and cells
abbrev pub unfolding_of : Result (Unit {0}) declared.Refusal → List ℕ → List ℕ → Unfolding
unfolding_of u ps cs = record { verdict = verdict_of u; ptr_bytes = ps; cell_bytes = cs }

abbrev pub step_answer_of : Result Stepped declared.Refusal → StepAnswer
step_answer_of (Ok (stepped.Went b n)) = to_next b n.0
step_answer_of (Ok (stepped.Faulted f)) = to_fault (fault_code f)
step_answer_of (Ok stepped.Stopped) = to_stop
step_answer_of (Err r) = no_step (refusal_in r)

-- the answer of a step with the bytes of the pointers and cells
abbrev pub stepping_of : Result Stepped declared.Refusal → List ℕ → List ℕ → Stepping
stepping_of s ps cs = record { answer = step_answer_of s; ptr_bytes = ps; cell_bytes = cs }

-- the answer of a search: "the highest number .. whose record is equal, or none"
abbrev pub found_of : Option ℕ → MathOption ℕ
found_of (Some n) = some n
found_of None = none

-- ---- in numbers alone, as the calls for Rust and C tell them: "A part of an answer with nothing to tell is 0."

abbrev pub refusal_of : Verdict → Refusal
refusal_of is_accepted = refusal 0 0
refusal_of (is_refused x) = x

-- the fault, 1 for a stop, the branch and the next statement
abbrev pub step_numbers : StepAnswer → List ℕ
step_numbers (to_next b n) = 0 ∷ 0 ∷ b ∷ n ∷ []
step_numbers (to_fault f) = f ∷ 0 ∷ 0 ∷ 0 ∷ []
step_numbers to_stop = 0 ∷ 1 ∷ 0 ∷ 0 ∷ []
step_numbers (no_step x) = 0 ∷ 0 ∷ 0 ∷ 0 ∷ []

-- of a search 1 and the number, or 0 for none, and 0
abbrev pub found_numbers : MathOption ℕ → ℕ × ℕ
found_numbers (some n) = (1, n)
found_numbers none = (0, 0)

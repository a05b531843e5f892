-- What an answer of the check says of the input: the routine that was read from its records, or the refusal. Assumes
-- nothing.
use Rattle.std.specs.Prelude.{ℕ, ◌+◌, ◌*◌, ◌≤◌, ◌≡◌, true, List, length, Result, Ok, Err}
use Rattle.std.proofs.Math.Option.{Option, none, some}
use Rattle.model.specs.Answers.{refusal_in}
use Rattle.model.specs.Base.{mem, record_size, most_statements, most_shapes}
use Rattle.model.specs.Codes.{reason_number}
use Rattle.model.specs.Records.{Refusal}
use Rattle.model.specs.Translate.{Checked as CheckedInput, bad, good, Routine, routine_of}
use Rattle.model.specs.Listings.{numbers_input, records_of}
use Rattle.model.specs.declared.codes.Refusal as declared
use Rattle.input.specs.declared.Routine.{Routine as RoutineCounts}

-- the routine of an input with n statements
abbrev pub routine_in : ℕ → List ℕ → Routine
routine_in n s = routine_of n (records_of s)

abbrev pub checked_of : Result RoutineCounts declared.Refusal → List ℕ → CheckedInput
checked_of (Ok r) s = good (routine_in r.statements s)
checked_of (Err x) s = bad (refusal_in x)

-- the refusal, if it is one
abbrev pub refused_in : Result (Unit {0}) declared.Refusal → Option Refusal
refused_in (Ok _) = none
refused_in (Err x) = some (refusal_in x)

-- the statements and shapes are the whole input, neither too many; a refusal of the input has one of its numbers
abbrev pub GoodCounts : Result RoutineCounts declared.Refusal → List ℕ → Type 0
GoodCounts (Ok r) s = (1 ≤ r.statements) × (r.statements ≤ most_statements) × (1 ≤ r.shapes)
    × (r.shapes ≤ most_shapes) × (record_size * (r.statements + r.shapes) ≡ length s)
GoodCounts (Err x) s = mem (reason_number x.reason) numbers_input ≡ true

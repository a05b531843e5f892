-- How a call for a record ended, and the part that it hands out. Assumes nothing.
use Rattle.std.specs.Prelude.{ℕ, List, Result, Ok, Err}
use Rattle.std.specs.Borrow.{Bor}
use Rattle.model.specs.Codes.{no_record_number}
use Rattle.model.specs.Records.{Verdict, is_accepted, is_refused, refusal}
use Rattle.model.specs.declared.codes.NoRecord.{NoRecord}

-- refused at place 0
abbrev pub ended_by : {A : Type 0} → Result A NoRecord → Verdict
ended_by (Ok _) = is_accepted
ended_by (Err _) = is_refused (refusal no_record_number 0)

-- the part, with a record or, where it is refused, beside the refusal
abbrev pub part_in : Result (Bor (List ℕ)) NoRecord → Bor (List ℕ)
part_in (Ok p) = p
part_in (Err e) = e.part

-- `check_records` meets its contract: the records from i on decide.
use mathlib.Core.Path.{◌≡◌}
use mathlib.Core.List.{[]}
use lib.ListN.{drop}
use Rattle.model.specs.Translate.{first_bad_record}
use Rattle.model.specs.Listings.{records_of}
use Rattle.input.specs.RecordChecks.{earlier}
use Rattle.input.proofs.check_records.Given as goal

abbrev pub invariant-loop-i : goal.invariant-loop-i
invariant-loop-i l = first_bad_record l.routine.statements 0 [] (records_of l.input)
    ≡ first_bad_record l.routine.statements l.i-counter (earlier l.input l.i-counter)
    (drop l.i-counter (records_of l.input))

-- `wrong_kind` meets its contract: the records from i on decide.
use mathlib.Core.Path.{◌≡◌}
use mathlib.Core.Bool.{false}
use lib.ListN.{drop}
use Rattle.model.specs.Translate.{first_bad_kind}
use Rattle.model.specs.Listings.{records_of}
use Rattle.input.proofs.wrong_kind.Given as goal

abbrev pub invariant-loop-i : goal.invariant-loop-i
invariant-loop-i l = first_bad_kind false 0 (records_of l.input)
    ≡ first_bad_kind l.after l.i (drop l.i (records_of l.input))

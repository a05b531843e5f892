-- `enter_starts` meets its contract: the first j starting shapes are entered.
use mathlib.Core.Path.{◌≡◌}
use mathlib.Core.List.{map}
use lib.ListN.{length, take}
use Rattle.model.specs.Records.{loc_record}
use Rattle.model.specs.Translate.{table_of}
use Rattle.starts.specs.Starts.{start_locs}
use Rattle.starts.proofs.enter_starts.Given as goal

abbrev pub invariant-loop-j : goal.invariant-loop-j
invariant-loop-j l =
    l.locations ≡ table_of (length l.initial.locations) (take l.j (map loc_record (start_locs l.n l.input)))

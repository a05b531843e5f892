-- `count_statements` meets its contract: those before record i are counted, those from i on are left.
use Prim.Native.Nat.{◌+◌, ◌≤◌}
use mathlib.Core.Path.{◌≡◌}
use lib.ListN.{drop}
use Rattle.model.specs.Base.{count}
use Rattle.model.specs.Records.{is_s}
use Rattle.model.specs.Listings.{records_of}
use Rattle.input.proofs.count_statements.Given as goal

abbrev pub invariant-loop-i : goal.invariant-loop-i
invariant-loop-i l = (l.n ≤ l.i)
    × (l.n + count is_s (drop l.i (records_of l.input)) ≡ count is_s (records_of l.input))

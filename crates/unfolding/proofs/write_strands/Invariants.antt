-- `write_strands` meets its contract: the strands of the nodes below n are written, and the others follow them.
use Prim.Native.Nat.{◌+◌}
use mathlib.Core.Path.{◌≡◌}
use mathlib.Core.List.{◌++◌}
use lib.ListN.{drop, take}
use Rattle.model.specs.Base.{sum}
use Rattle.unfolding.specs.Bytes.{strands_bytes}
use Rattle.unfolding.proofs.write_strands.Given as goal

abbrev pub invariant-loop-n : goal.invariant-loop-n
invariant-loop-n l =
    (l.at + sum (λ v. v) (drop l.n l.counters) ≡ sum (λ v. v) l.counters)
    × (take l.at l.cells ++ strands_bytes l.firsts l.at (drop l.n l.successors) (drop l.n l.counters)
    ≡ strands_bytes l.firsts 0 l.successors l.counters)

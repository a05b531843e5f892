-- `read_ends` meets its contract: the ends of the first i ranges are put.
use Prim.Native.Nat.{ℕ, ◌+◌}
use mathlib.Core.Path.{◌≡◌}
use mathlib.Core.List.{List, ◌++◌, map}
use lib.ListN.{drop, get_or, take}
use Rattle.model.specs.Base.{numbers}
use Rattle.ranging.proofs.read_ends.Given as goal

-- the end given for counter i
abbrev pub end : List ℕ → ℕ → ℕ → ℕ
end rs from i = get_or rs (from + i) 0

abbrev pub invariant-loop-i : goal.invariant-loop-i
invariant-loop-i l = l.ends ≡ map (end l.ranges l.from) (take l.i (numbers 0 l.k)) ++ drop l.i l.initial.ends

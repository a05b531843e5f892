-- `folding::code_each` meets its contract: the number so far is that of what is found at the places from i on.
use Prim.Native.Nat.{ℕ}
use mathlib.Core.List.{List}
use lib.ListN.{drop}
use Rattle.std.specs.List.{AllZip}
use Rattle.folding.specs.Fold.{fold_byte}
use Rattle.folding.proofs.Coded.{Coded}
use Rattle.folding.proofs.code_each.Given as goal

abbrev pub invariant-loop-i : goal.invariant-loop-i
invariant-loop-i g l =
    (bs : List ℕ) × AllZip (λ x b. goal.F-post g l.byte x b) (drop l.i l.places) bs
    × Coded (fold_byte l.node) bs l.code

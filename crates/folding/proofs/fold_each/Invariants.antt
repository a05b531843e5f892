-- `folding::fold_each` meets its contract: the first i bytes are what is found at the first i places, folded.
use Prim.Native.Nat.{ℕ}
use mathlib.Core.Path.{◌≡◌}
use mathlib.Core.List.{List, ◌++◌, map}
use lib.ListN.{take, drop}
use Rattle.std.specs.List.{AllZip}
use Rattle.folding.specs.Fold.{fold_byte}
use Rattle.folding.proofs.fold_each.Given as goal

abbrev pub invariant-loop-i : goal.invariant-loop-i
invariant-loop-i g l =
    (bs : List ℕ) × AllZip (λ x b. goal.F-post g l.byte x b) (take l.i l.places) bs
    × (l.to ≡ map (fold_byte l.node) bs ++ drop l.i l.initial.to)

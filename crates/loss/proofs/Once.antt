-- Where one element of a list passes a test, two places of one that does are one place.
use Prim.Native.Nat.{ℕ, zero, suc, ◌≤◌, ◌<◌}
use mathlib.Core.Path.{◌≡◌, ap, refl}
use mathlib.Core.Bool.{Bool, true}
use mathlib.Core.List.{List, [], ◌∷◌}
use native.Mathlib.Omega.{arith}
use lib.ListN.{get_or, length}
use Rattle.model.specs.Base.{count}

counted : (p : ℕ → Bool) (l : List ℕ) (i : ℕ) → i < length l → p (get_or l i 0) ≡ true → 1 ≤ count p l
counted p [] i h e = absurd (omega arith)
counted p (x ∷ l) zero h e = rw e (omega arith)
counted p (x ∷ l) (suc i) h e = let k = counted p l i (omega arith) e in omega arith

pub one_place : (p : ℕ → Bool) (l : List ℕ) (i j : ℕ) → i < length l → j < length l → p (get_or l i 0) ≡ true
    → p (get_or l j 0) ≡ true → count p l ≡ 1 → i ≡ j
one_place p [] i j h k e f c = absurd (omega arith)
one_place p (x ∷ l) zero zero h k e f c = refl
one_place p (x ∷ l) zero (suc j) h k e f c =
    absurd (let m = counted p l j (omega arith) f in let z = rw e at c in omega arith)
one_place p (x ∷ l) (suc i) zero h k e f c =
    absurd (let m = counted p l i (omega arith) e in let z = rw f at c in omega arith)
one_place p (x ∷ l) (suc i) (suc j) h k e f c =
    let m = counted p l i (omega arith) e in
    ap suc (one_place p l i j (omega arith) (omega arith) e f (omega arith))

-- The first of the numbers below n that passes a test, as `find` over a range tells it.
use Prim.Native.Nat.{ℕ, zero, suc, ◌≤◌, ◌<◌}
use mathlib.Core.Path.{◌≡◌, subst, sym}
use mathlib.Core.Bool.{Bool, true, false}
use native.Mathlib.Numerals.{add-one}
use native.Mathlib.Omega.{arith}
use Rattle.std.specs.Prelude.{Option, Some, None, MatchOption}
use Rattle.model.specs.Base.{numbers, place_of}
use Rattle.model.proofs.lists.Finding.{Found, found_here, found_later, found_none, found_start}

module _ (p : ℕ → Bool) (n : ℕ) where
  found_past : (i : ℕ) → i ≤ n → ((k : ℕ) → 0 ≤ k → k < i → p k ≡ false)
      → Found p n (place_of p (numbers 0 n)) i
  found_past zero l none = found_start p n
  found_past (suc i) l none = subst (Found p n (place_of p (numbers 0 n))) (add-one i)
      (found_later p (found_past i (omega arith) (λ k z lt. none k z (omega arith))) (omega arith)
      (none i (omega arith) (omega arith)))

  pub first_below : (r : Option ℕ)
      → MatchOption r ((k : ℕ) → 0 ≤ k → k < n → p k ≡ false)
      (λ i. (0 ≤ i) × (i < n) × (p i ≡ true) × ((k : ℕ) → 0 ≤ k → k < i → p k ≡ false))
      → MatchOption r (place_of p (numbers 0 n) ≡ n) (λ i. (i < n) × (place_of p (numbers 0 n) ≡ i))
  first_below None h = sym (found_none p (found_past n (omega arith) h) (omega arith) (omega arith))
  first_below (Some i) h =
      (h.1, sym (found_here p (found_past i (omega arith) h.3) h.1 h.2))

-- The first of the numbers below n that passes a test, as a loop finds it.
use Prim.Native.Nat.{ℕ, suc, ◌+◌, ◌-◌, ◌<◌, ◌≤◌}
use native.Mathlib.Numerals.{add-one}
use native.Mathlib.Omega.{arith}
use mathlib.Core.Path.{◌≡◌, sym, ap, ◌∙◌}
use mathlib.Core.Bool.{Bool, true, false, cond}
use Rattle.model.specs.Base.{numbers, place_of}

-- the invariant: the place found, f, is as far past i as it is in the numbers from i on
abbrev pub Found : (ℕ → Bool) → ℕ → ℕ → ℕ → Type 0
Found p n f i = f ≡ i + place_of p (numbers i (n - i))

pub found_start : (p : ℕ → Bool) (n : ℕ) → Found p n (place_of p (numbers 0 n)) 0
found_start p n =
    let e : n - 0 ≡ n = omega arith in
    let z = ap (λ k. place_of p (numbers 0 k)) e in
    omega arith

module _ (p : ℕ → Bool) {n f i : ℕ} (inv : Found p n f i) where
  first_is_lem : i < n → place_of p (numbers i (n - i))
      ≡ cond (p i) 0 (suc (place_of p (numbers (i + 1) (n - (i + 1)))))
  first_is_lem h =
      let e : n - i ≡ suc (n - (i + 1)) = omega arith in
      ap (λ k. place_of p (numbers i k)) e
      ∙ ap (λ k. cond (p i) 0 (suc (place_of p (numbers k (n - (i + 1)))))) (sym (add-one i))

  pub found_here : i < n → p i ≡ true → i ≡ f
  found_here h t = let e : place_of p (numbers i (n - i)) ≡ 0 = first_is_lem h ∙ rw t in omega arith

  pub found_later : i < n → p i ≡ false → Found p n f (i + 1)
  found_later h t =
      let e : place_of p (numbers i (n - i)) ≡ suc (place_of p (numbers (i + 1) (n - (i + 1)))) =
      first_is_lem h ∙ rw t in
      omega arith

  pub found_none : n ≤ i → i ≤ n → n ≡ f
  found_none h k =
      let z : n - i ≡ 0 = omega arith in
      let e : place_of p (numbers i (n - i)) ≡ 0 = ap (λ m. place_of p (numbers i m)) z in
      omega arith

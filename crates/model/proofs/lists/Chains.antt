-- The words of the definitions beside the library's, in which chains of iterators say what they give.
use Prim.Native.Nat.{ℕ, zero, suc, ◌+◌}
use mathlib.Core.Path.{◌≡◌, refl, sym, ap, ap₂, ◌∙◌}
use mathlib.Core.Bool.{Bool, true, false, ◌&&◌, ◌||◌, cond}
use mathlib.Core.List.{List, [], ◌∷◌}
use native.Mathlib.Nat.{zero-add}
use native.Mathlib.Omega.{arith}
use Rattle.std.specs.List.{list_all, list_any, position_or_len, sum_by, count_by}
use Rattle.std.proofs.lemmas.List.Recursion.{is_count_by, is_position_or_len, is_sum_by}
use Rattle.model.specs.Base.{all, any, count, place_of, sum}

pub all_is : {A : Type 0} (p : A → Bool) (xs : List A) → all p xs ≡ list_all p xs
all_is p [] = refl
all_is p (x ∷ xs) = ap (λ b. p x && b) (all_is p xs)

pub any_is : {A : Type 0} (p : A → Bool) (xs : List A) → any p xs ≡ list_any p xs
any_is p [] = refl
any_is p (x ∷ xs) = ap (λ b. p x || b) (any_is p xs)

pub sum_is : {A : Type 0} (f : A → ℕ) (xs : List A) → sum f xs ≡ sum_by f xs
sum_is f xs = is_sum_by (sum f) f refl (λ x ys. refl) xs

pub count_is : {A : Type 0} (p : A → Bool) (xs : List A) → count p xs ≡ count_by p xs
count_is p xs = is_count_by (count p) p refl (λ x ys. one (p x) (count p ys)) xs
  where
    one : (b : Bool) (n : ℕ) → cond b 1 0 + n ≡ cond b (1 + n) n
    one true n = refl
    one false n = zero-add n

pub place_is : {A : Type 0} (p : A → Bool) (xs : List A) → place_of p xs ≡ position_or_len p xs
place_is p xs = is_position_or_len (place_of p) p refl (λ x ys. ap (λ n. cond (p x) 0 n) (omega arith)) xs

-- Loops over a list: one that tests each element, one that adds them up, one that stores at each place.
use Prim.Native.Nat.{ℕ, ◌+◌, ◌≤◌, ◌<◌}
use mathlib.Core.Path.{◌≡◌, sym, ap, subst, ◌∙◌}
use mathlib.Core.Bool.{Bool, true, false}
use mathlib.Core.List.{List, [], ◌∷◌, ◌++◌, append-nil}
use native.Mathlib.Numerals.{add-one}
use native.Mathlib.Omega.{arith}
use lib.ListN.{length, take, drop, get_or, set, drop_of_length-le}
use lib.Seq.{append_snoc, get_or-set_other, get_or-set_same, take_all, take-suc-set}
use borrow.Author.Tests.{eqb-false}
use Rattle.model.specs.Base.{all, sum}
use Rattle.model.proofs.lists.Logic.{eq-case}
use Rattle.model.proofs.lists.Slices.{drop_step}

-- ---- each element is tested

-- the invariant: b, whether all elements pass, is whether all of the rest do; the rest begins with x, or is at its end
module _ {A : Type 0} (p : A → Bool) {b : Bool} {rest : List A} (inv : b ≡ all p rest) where
  pub test_pass : {x : A} {l : List A} → rest ≡ x ∷ l → p x ≡ true → b ≡ all p l
  test_pass e h = inv ∙ ap (all p) e ∙ rw h

  pub test_fail : {x : A} {l : List A} → rest ≡ x ∷ l → p x ≡ false → false ≡ b
  test_fail e h = sym (inv ∙ ap (all p) e ∙ rw h)

  pub test_end : rest ≡ [] → true ≡ b
  test_end e = sym (inv ∙ ap (all p) e)

-- ---- the sum of what is left

pub sum_step : (l : List ℕ) (i : ℕ) → i < length l
    → sum (λ v. v) (drop i l) ≡ get_or l i 0 + sum (λ v. v) (drop (i + 1) l)
sum_step l i h = ap (sum (λ v. v)) (drop_step l i h)

pub sum_end : (l : List ℕ) (i : ℕ) → length l ≤ i → sum (λ v. v) (drop i l) ≡ 0
sum_end l i h = ap (sum (λ v. v)) (drop_of_length-le l h)

-- ---- a store at place i

-- where the first i elements are done: what follows them now begins with the element stored
pub push : (l : List ℕ) (i a : ℕ) (rest : List ℕ) → i < length l
    → take (i + 1) (set l i a) ++ rest ≡ take i l ++ (a ∷ rest)
push l i a rest h =
    ap (λ n. take n (set l i a) ++ rest) (add-one i) ∙ ap (λ t. t ++ rest) (take-suc-set l i a h)
    ∙ append_snoc (take i l) a rest

-- once all is done, the first elements are the list
pub pushed : (l : List ℕ) (i : ℕ) → length l ≤ i → take i l ++ [] ≡ l
pushed l i h = append-nil (take i l) ∙ take_all i l h

-- where the elements below n are those of f
pub set_below : (f : ℕ → ℕ) (l : List ℕ) (n a : ℕ) → n < length l → a ≡ f n → ((k : ℕ) → k < n → get_or l k 0 ≡ f k)
    → (k : ℕ) → k < n + 1 → get_or (set l n a) k 0 ≡ f k
set_below f l n a h e below k lt =
    eq-case k n (λ q. subst (λ m. get_or (set l n a) m 0 ≡ f m) (sym q) (get_or-set_same l n a 0 h ∙ e))
    (λ q. let ne = eqb-false k n q in get_or-set_other l n k a 0 ne ∙ below k (omega arith))

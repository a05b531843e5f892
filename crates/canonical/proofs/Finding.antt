-- What `position` answers, said of the numbers of the places; and the first number that does not stand at its own place
-- in a list.
use Prim.Native.Nat.{ℕ, zero, suc, ◌+◌, ◌<◌, ◌≤◌}
use native.Mathlib.Omega.{arith}
use mathlib.Core.Path.{◌≡◌, refl, sym, ap, ap₂, subst, ◌∙◌}
use mathlib.Core.Bool.{Bool, false, cond, not}
use mathlib.Core.List.{List, [], ◌∷◌, ◌++◌}
use lib.Dec.{eqb, ltb}
use lib.ListN.{length, get_or, take}
use borrow.Author.Tests.{eq-eqb, eqb-false, ltb-false, ltb-true, ne_eqb}
use Rattle.std.specs.List.{enumerate_from, position, position_or_len}
use Rattle.std.proofs.lemmas.List.FromFn.{get_or-enumerate_from, length-enumerate_from}
use Rattle.std.specs.Prelude.{Option, Some, None}
use Rattle.model.specs.Base.{any, mem, numbers, place_of}
use Rattle.model.proofs.lists.Logic.{bool_case, eq-case, not-true, or_false_l, or_false_r}
use Rattle.model.proofs.lists.Numbers.{length_numbers, numbers_mem, numbers_snoc}
use Rattle.model.proofs.lists.Chains.{place_is}
use lib.Seq.{append_snoc, get_or-take, length-take-le}

-- ---- what `position` answers, said of the numbers of the places

some_none : {A : Type 0} {x : A} → Some x ≡ None → ⊥
some_none e = cc

place_in_order : {A : Type 0} (p : A → Bool) (q : ℕ → Bool) (d : A) (xs : List A) (i : ℕ)
    → ((j : ℕ) → j < length xs → p (get_or xs j d) ≡ q (i + j)) → place_of p xs ≡ place_of q (numbers i (length xs))
place_in_order p q d [] i h = refl
place_in_order p q d (x ∷ xs) i h =
    ap₂ (λ b m. cond b 0 (suc m)) (h 0 (omega arith) ∙ ap q (omega arith))
    (place_in_order p q d xs (suc i) (λ j l. h (suc j) (omega arith) ∙ ap q (omega arith)))

-- r is what `position` answers, in the words of the library; a test of the numbers below n passes where p does
module _ {A : Type 0} (p : A → Bool) (q : ℕ → Bool) (d : A) (xs : List A) {r : Option ℕ} {n : ℕ}
    (e : r ≡ position p xs) (k : length xs ≡ n)
    (h : (j : ℕ) → j < n → p (get_or xs j d) ≡ q j) where
  place : position_or_len p xs ≡ place_of q (numbers 0 n)
  place = sym (place_is p xs) ∙ place_in_order p q d xs 0 (λ j l. h j (omega arith) ∙ ap q (omega arith))
      ∙ ap (λ m. place_of q (numbers 0 m)) k

  first_at : {i : ℕ} → r ≡ Some i → (i ≡ place_of q (numbers 0 n)) × (i < n)
  first_at {i} s = bool_case (ltb (position_or_len p xs) (length xs))
      (λ t. let f : r ≡ Some (position_or_len p xs) = rw (t, position) at e in
      let m : i ≡ position_or_len p xs = cc in (m ∙ place, omega (arith, ltb-true _ _ t)))
      (λ t. let f : r ≡ None = rw (t, position) at e in absurd (some_none (sym s ∙ f)))

  first_none : ((i : ℕ) → r ≡ Some i → ⊥) → n ≤ place_of q (numbers 0 n)
  first_none s = bool_case (ltb (position_or_len p xs) (length xs))
      (λ t. let f : r ≡ Some (position_or_len p xs) = rw (t, position) at e in absurd (s _ f))
      (λ t. omega (arith, ltb-false _ _ t, place))

-- the marks of n cells against a bound
module _ (b : ℕ) (s : List ℕ) {n : ℕ} (few : n ≤ length s) {r : Option ℕ}
    (e : r ≡ position (λ m. ltb m b) (take n s)) where
  mark : (j : ℕ) → j < n → ltb (get_or (take n s) j 0) b ≡ ltb (get_or s j 0) b
  mark j l = ap (λ m. ltb m b) (get_or-take n s j 0 l)

  pub below_at : {i : ℕ} → r ≡ Some i → (i ≡ place_of (λ c. ltb (get_or s c 0) b) (numbers 0 n)) × (i < n)
  below_at = first_at _ _ 0 _ e (length-take-le n s few) mark

  pub below_none : ((i : ℕ) → r ≡ Some i → ⊥) → n ≤ place_of (λ c. ltb (get_or s c 0) b) (numbers 0 n)
  below_none = first_none _ _ 0 _ e (length-take-le n s few) mark

-- the order of n cells against their own places
module _ (o : List ℕ) {n : ℕ} (few : n ≤ length o) {r : Option ℕ}
    (e : r ≡ position (λ (v : ℕ × ℕ). not (eqb v.1 v.0)) (enumerate_from 0 (take n o))) where
  long : length (enumerate_from 0 (take n o)) ≡ n
  long = length-enumerate_from 0 (take n o) ∙ length-take-le n o few

  visit_at : (j : ℕ) → j < n → (λ (v : ℕ × ℕ). not (eqb v.1 v.0)) (get_or (enumerate_from 0 (take n o)) j (0, 0))
      ≡ not (eqb (get_or o j 0) j)
  visit_at j l =
      ap (λ (v : ℕ × ℕ). not (eqb v.1 v.0))
      (get_or-enumerate_from 0 (take n o) j (0, 0) (omega (arith, length-take-le n o few)))
      ∙ ap₂ (λ x y. not (eqb x y)) (get_or-take n o j 0 l) (omega arith)

  pub moved_at : {i : ℕ} → r ≡ Some i → (i ≡ place_of (λ c. not (eqb (get_or o c 0) c)) (numbers 0 n)) × (i < n)
  moved_at = first_at _ _ (0, 0) _ e long visit_at

  pub moved_none : ((i : ℕ) → r ≡ Some i → ⊥) → n ≤ place_of (λ c. not (eqb (get_or o c 0) c)) (numbers 0 n)
  moved_none = first_none _ _ (0, 0) _ e long visit_at

-- ---- two tests

-- tests that agree on the numbers from i on find the same place
pub place_same : (p q : ℕ → Bool) (i n : ℕ) → ((j : ℕ) → i ≤ j → j < i + n → p j ≡ q j) → place_of p (numbers i n)
    ≡ place_of q (numbers i n)
place_same p q i zero h = refl
place_same p q i (suc n) h = ap₂ (λ b m. cond b 0 (suc m)) (h i (omega arith) (omega arith))
    (place_same p q (suc i) n (λ j lo hi. h j (omega arith) (omega arith)))

-- the place behind a list in which the test never passes
place_behind : (p : ℕ → Bool) (l m : List ℕ) → any p l ≡ false → place_of p (l ++ m) ≡ length l + place_of p m
place_behind p [] m h = omega arith
place_behind p (x ∷ l) m h =
    let a = or_false_l (p x) (any p l) h in
    let r = place_behind p l m (or_false_r (p x) (any p l) h) in
    rw a (omega arith)

at_behind : (l : List ℕ) (x : ℕ) (m : List ℕ) → get_or (l ++ x ∷ m) (length l) 0 ≡ x
at_behind [] x m = refl
at_behind (y ∷ l) x m = at_behind l x m

-- The numbers below i stand at their own places, and m is the rest of the list. The first number whose place holds
-- another is the first that stands at another place.
moved_from : (l : List ℕ) (i : ℕ) (m : List ℕ) → l ≡ numbers 0 i ++ m
    → place_of (λ c. not (eqb (get_or l c 0) c)) (numbers i (length m))
    ≡ place_of (λ c. not (eqb (place_of (eqb c) l) c)) (numbers i (length m))
moved_from l i [] e = refl
moved_from l i (x ∷ m) e =
    let none : mem i (numbers 0 i) ≡ false = not-true _ (λ t. let r = numbers_mem 0 i i t in omega arith) in
    let held : get_or l i 0 ≡ x = ap₂ (λ k j. get_or k j 0) e (sym (length_numbers 0 i))
    ∙ at_behind (numbers 0 i) x m in
    let place : place_of (eqb i) l ≡ i + place_of (eqb i) (x ∷ m) =
    ap (place_of (eqb i)) e ∙ place_behind (eqb i) (numbers 0 i) (x ∷ m) none
    ∙ ap (λ k. k + place_of (eqb i) (x ∷ m)) (length_numbers 0 i) in
    eq-case i x
    (λ q. let z : place_of (eqb i) (x ∷ m) ≡ 0 = rw (eq-eqb i x q) in
    rw (eq-eqb (get_or l i 0) i (held ∙ sym q), eq-eqb (place_of (eqb i) l) i (omega arith))
    (ap suc (moved_from l (suc i) m (e ∙ shifted q))))
    (λ q. let z : place_of (eqb i) (x ∷ m) ≡ suc (place_of (eqb i) m) = rw q in
    rw (
      ne_eqb (get_or l i 0) i (λ y. eqb-false i x q (sym y ∙ held)),
      ne_eqb (place_of (eqb i) l) i (λ y. omega arith),
    ))
  where
    shifted : i ≡ x → numbers 0 i ++ x ∷ m ≡ numbers 0 (suc i) ++ m
    shifted q =
        let s : numbers 0 (suc i) ≡ numbers 0 i ++ x ∷ [] =
        numbers_snoc 0 i ∙ ap (λ k. numbers 0 i ++ k ∷ []) (omega arith) in
        sym (ap (λ k. k ++ m) s ∙ append_snoc (numbers 0 i) x m)

pub moved_first : (l : List ℕ) (k : ℕ) → length l ≡ k → place_of (λ c. not (eqb (get_or l c 0) c)) (numbers 0 k)
    ≡ place_of (λ c. not (eqb (place_of (eqb c) l) c)) (numbers 0 k)
moved_first l k e = subst (λ n. place_of (λ c. not (eqb (get_or l c 0) c)) (numbers 0 n)
    ≡ place_of (λ c. not (eqb (place_of (eqb c) l) c)) (numbers 0 n)) e (moved_from l 0 l refl)

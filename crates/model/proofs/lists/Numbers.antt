-- The list of n numbers from i on: what stands in it, tests of its elements, and reading a list by it.
use Prim.Native.Nat.{◌+◌, ◌<◌, ◌≤◌, suc, zero, ℕ}
use mathlib.Core.Path.{◌∙◌, ◌≡◌, ap, refl, subst}
use mathlib.Core.Logic.{inl, inr}
use mathlib.Core.Bool.{Bool, false, true}
use mathlib.Core.List.{List, [], ◌++◌, ◌∷◌, map}
use native.Mathlib.Nat.{zero-add}
use native.Mathlib.Omega.{arith}
use lib.ListN.{get_or, length}
use borrow.Author.Tests.{eqb-false}
use Rattle.model.specs.Base.{all, mem, numbers}
use Rattle.model.specs.Notions.{In, Pairs, NoDup}
use Rattle.model.proofs.lists.Lists.{all_in, all_of, get_or_map, in_mem, mem_in}
use Rattle.model.proofs.lists.Logic.{clash, eq-case, not-true}

-- it holds the numbers from i on, below i + n, each once
pub in_numbers : (i n j : ℕ) → In j (numbers i n) → (i ≤ j) × (j < i + n)
in_numbers i zero j q = absurd q
in_numbers i (suc n) j (inl e) = (omega arith, omega arith)
in_numbers i (suc n) j (inr q) = let r = in_numbers (suc i) n j q in (omega arith, omega arith)

pub numbers_in : (k n i : ℕ) → k ≤ i → i < k + n → In i (numbers k n)
numbers_in k zero i h h' = absurd (omega arith)
numbers_in k (suc n) i h h' = eq-case i k (λ e. inl e) (λ e. let ne = eqb-false i k e in
    inr (numbers_in (suc k) n i (omega arith) (omega arith)))

pub numbers_mem : (i n c : ℕ) → mem c (numbers i n) ≡ true → (i ≤ c) × (c < i + n)
numbers_mem i n c h = in_numbers i n c (mem_in c (numbers i n) h)

pub mem_numbers : (i n c : ℕ) → i ≤ c → c < i + n → mem c (numbers i n) ≡ true
mem_numbers i n c h k = in_mem c (numbers i n) (numbers_in i n c h k)

-- a test of each number below n
pub all_numbers : (p : ℕ → Bool) (n : ℕ) → ((i : ℕ) → i < n → p i ≡ true) → all p (numbers 0 n) ≡ true
all_numbers p n h = all_of p (numbers 0 n) (λ i q. h i (let r = in_numbers 0 n i q in omega arith))

pub numbers_all : (p : ℕ → Bool) (n : ℕ) → all p (numbers 0 n) ≡ true → (i : ℕ) → i < n → p i ≡ true
numbers_all p n e i h = all_in p (numbers 0 n) i e (numbers_in 0 n i (omega arith) (omega arith))

pub numbers_nodup : (i n : ℕ) → NoDup (numbers i n)
numbers_nodup i zero = tt
numbers_nodup i (suc n) = (
  not-true (mem i (numbers (suc i) n)) (λ h. let r = numbers_mem (suc i) n i h in
      omega arith),
  numbers_nodup (suc i) n,
)

pub length_numbers : (i n : ℕ) → length (numbers i n) ≡ n
length_numbers i zero = refl
length_numbers i (suc n) = ap suc (length_numbers (suc i) n)

pub numbers_snoc : (k n : ℕ) → numbers k (suc n) ≡ numbers k n ++ (k + n) ∷ []
numbers_snoc k zero = ap (λ z. z ∷ []) (omega arith)
numbers_snoc k (suc n) = ap (λ z. k ∷ z) (numbers_snoc (suc k) n ∙ ap (λ z. numbers (suc k) n ++ z ∷ []) (omega arith))

pub pairs_numbers : (R : ℕ → ℕ → Type 0) → ((i j : ℕ) → i < j → R i j) → (i n : ℕ) → Pairs R (numbers i n)
pairs_numbers R h i zero = tt
pairs_numbers R h i (suc n) = (
  (λ j q. h i j (let r = in_numbers (suc i) n j q in omega arith)),
  pairs_numbers R h
      (suc i) n,
)

-- a list read place by place
pub numbers_shift : {A : Type 0} (f : ℕ → A) (i n : ℕ) → map f (numbers (suc i) n) ≡ map (λ j. f (suc j)) (numbers i n)
numbers_shift f i zero = refl
numbers_shift f i (suc n) = ap (λ z. f (suc i) ∷ z) (numbers_shift f (suc i) n)

pub read_all : {A : Type 0} (d : A) (l : List A) → map (λ j. get_or l j d) (numbers 0 (length l)) ≡ l
read_all d [] = refl
read_all d (x ∷ l) = ap (λ z. x ∷ z) (numbers_shift (λ j. get_or (x ∷ l) j d) 0 (length l) ∙ read_all d l)

-- a flag for each number
pub flag_at : (f : ℕ → Bool) (j k i : ℕ) → get_or (map f (numbers j k)) i false ≡ true → f (j + i) ≡ true
flag_at f j zero i h = clash h refl
flag_at f j (suc k) zero h = subst (λ x. f x ≡ true) (omega arith) h
flag_at f j (suc k) (suc i) h = subst (λ x. f x ≡ true) (omega arith) (flag_at f (suc j) k i h)

-- the number at a place
pub at_number : (i n j d : ℕ) → j < n → get_or (numbers i n) j d ≡ i + j
at_number i zero j d h = absurd (omega arith)
at_number i (suc n) zero d h = omega arith
at_number i (suc n) (suc j) d h = let r = at_number (suc i) n j d (omega arith) in omega arith

-- what a function makes of the numbers below n, by the place
pub map_number : {A : Type 0} (f : ℕ → A) (n j : ℕ) (d : A) → j < n → get_or (map f (numbers 0 n)) j d ≡ f j
map_number f n j d h =
    get_or_map f (numbers 0 n) j 0 d (omega (arith, length_numbers 0 n)) ∙ ap f (at_number 0 n j 0 h ∙ zero-add j)

-- The masks of updates bit by bit, and what updates make of the sum of the counters where no counter is added twice.
use Prim.Native.Nat.{◌%◌, ◌*◌, ◌+◌, ◌-◌, ◌/◌, ◌<◌, ◌^◌, ◌≤◌, suc, zero, ℕ}
use mathlib.Core.Path.{◌∙◌, ◌≡◌, ap, ap₂, refl, sym}
use mathlib.Core.Bool.{cond, true}
use mathlib.Core.List.{List, [], ◌∷◌, map}
use native.Mathlib.Nat.{mul-le-mul_right}
use native.Mathlib.Numerals.{one-add}
use native.Mathlib.Omega.{arith}
use lib.Dec.{eqb, leb}
use lib.ListN.{get_or, length}
use lib.Pow.{field, mod-mod-pow, shr-shr}
use borrow.Author.Tests.{leb-true}
use Rattle.model.specs.Base.{count, sum}
use Rattle.model.specs.Layout.{added_once, adds_old}
use Rattle.model.specs.Runs.{added, applied}
use Rattle.model.proofs.lists.Numbers.{numbers_all}

-- ---- masks bit by bit

-- bit i of a mask, by halving, as `added` goes through it
abbrev pub bit : ℕ → ℕ → ℕ
bit zero m = m % 2
bit (suc i) m = bit i (m / 2)

bit_is : (i m : ℕ) → bit i m ≡ m / 2 ^ i % 2
bit_is zero m = omega arith
bit_is (suc i) m = bit_is i (m / 2) ∙ ap (λ n. n % 2) (shr-shr m 1 i ∙ ap (λ n. m / 2 ^ n) (one-add i))

-- the mask of an update: its low 12 bits
abbrev pub mask_of : ℕ → ℕ
mask_of u = u % 4096

mask_bit : (i u : ℕ) → i < 12 → bit i (mask_of u) ≡ u / 2 ^ i % 2
mask_bit i u lt =
    let v = u / 2 ^ i in
    let whole : 12 - i + i ≡ 12 = omega arith in
    let more : 11 - i + 1 ≡ 12 - i = omega arith in
    bit_is i (mask_of u) ∙ ap (λ n. u % 2 ^ n / 2 ^ i % 2) (sym whole) ∙ ap (λ n. n % 2) (field u (12 - i) i)
    ∙ ap (λ n. v % 2 ^ n % 2) (sym more) ∙ mod-mod-pow v (11 - i) 1

one_if : (b : ℕ) → b < 2 → cond (eqb b 1) 1 0 ≡ b
one_if zero h = refl
one_if (suc zero) h = refl
one_if (suc (suc b)) h = absurd (omega arith)

-- of the first n bits, none is set in two masks
abbrev pub Once : ℕ → List ℕ → Type 0
Once n ms = (i : ℕ) → i < n → sum (bit i) ms ≤ 1

count_bits : (i : ℕ) (us : List ℕ) → i < 12 → count (adds_old i) us ≡ sum (bit i) (map mask_of us)
count_bits i [] lt = refl
count_bits i (u ∷ us) lt =
    ap₂ ◌+◌ (one_if (u / 2 ^ i % 2) (omega arith) ∙ sym (mask_bit i u lt)) (count_bits i us lt)

pub once_masks : (us : List ℕ) → added_once us ≡ true → Once 12 (map mask_of us)
once_masks us h i lt =
    let c = leb-true (count (adds_old i) us) 1 (numbers_all (λ j. leb (count (adds_old j) us) 1) 12 h i lt) in
    omega (arith, count_bits i us lt)

-- ---- sums

-- an element is no more than the sum
pub at_most_sum : (l : List ℕ) (i : ℕ) → get_or l i 0 ≤ sum (λ v. v) l
at_most_sum [] i = omega arith
at_most_sum (x ∷ l) zero = omega arith
at_most_sum (x ∷ l) (suc i) = let h = at_most_sum l i in omega arith

sum_none : (ms : List ℕ) → sum (λ m. 0) ms ≡ 0
sum_none [] = refl
sum_none (m ∷ ms) = omega (arith, sum_none ms)

abbrev halves : List ℕ → List ℕ
halves = map (λ m. m / 2)

sum_halves : (f : ℕ → ℕ) (ms : List ℕ) → sum f (halves ms) ≡ sum (λ m. f (m / 2)) ms
sum_halves f [] = refl
sum_halves f (m ∷ ms) = ap (λ n. f (m / 2) + n) (sum_halves f ms)

-- the first counter is added once for each mask with its first bit
sum_first : (h : ℕ) (hs ms : List ℕ)
    → sum (λ m. added m (h ∷ hs)) ms ≡ sum (bit 0) ms * h + sum (λ m. added m hs) (halves ms)
sum_first h hs [] = omega arith
sum_first h hs (m ∷ ms) = let r = sum_first h hs ms in omega arith

sum_added : (hs ms : List ℕ) → Once (length hs) ms → sum (λ m. added m hs) ms ≤ sum (λ v. v) hs
sum_added [] ms o = omega (arith, sum_none ms)
sum_added (h ∷ hs) ms o =
    let p = sum_first h hs ms in
    let q = mul-le-mul_right h (o 0 (omega arith)) in
    let r = sum_added hs (halves ms) (λ i lt. rw (sum_halves (bit i) ms) (o (suc i) (omega arith))) in
    omega arith

-- an update gives at most 2 more than the counters that it adds
sum_applied : (us hs : List ℕ)
    → sum (λ v. v) (map (applied hs) us) ≤ sum (λ m. added m hs) (map mask_of us) + 2 * length us
sum_applied [] hs = omega arith
sum_applied (u ∷ us) hs = let r = sum_applied us hs in omega arith

-- counters add up to no more than before, but for the constants
pub image_sum : (us hs : List ℕ) → length hs ≤ 12 → added_once us ≡ true
    → sum (λ v. v) (map (applied hs) us) ≤ sum (λ v. v) hs + 2 * length us
image_sum us hs few once =
    let p = sum_applied us hs in
    let q = sum_added hs (map mask_of us) (λ i lt. once_masks us once i (omega arith)) in
    omega arith

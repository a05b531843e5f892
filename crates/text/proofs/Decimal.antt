-- The digits that `io::decimal` writes are the number's text.
use Prim.Native.Nat.{ℕ, zero, suc, ◌+◌, ◌-◌, ◌/◌, ◌%◌, ◌^◌, ◌<◌, ◌≤◌}
use mathlib.Core.Path.{◌≡◌, refl, ap, ap₂, ◌∙◌}
use mathlib.Core.List.{[], ◌∷◌, ◌++◌, map}
use native.Mathlib.Nat.{one-le-pow, pow-le-pow_right, pow-succ'}
use native.Mathlib.Omega.{arith}
use lib.Dec.{leb}
use borrow.Author.Tests.{le-ltb, leb-false, leb-true, lt-ltb}
use Rattle.io.specs.Digits.{IsDigitCount, last_digits, hex_digit_ascii}
use Rattle.model.proofs.lists.Logic.{bool_case}
use Rattle.text.specs.Text.{decimal_of, digits_within}

glyph_is : (n : ℕ) → hex_digit_ascii (n % 10) ≡ 48 + n % 10
glyph_is n = rw (lt-ltb (n % 10) 10 (omega arith))

single : (f n : ℕ) → n < 10 → (48 + n % 10) ∷ [] ≡ digits_within (suc f) n
single f n h =
    let e : n % 10 ≡ n = omega arith in
    rw (e, lt-ltb n 10 h, digits_within)

longer : (f n : ℕ) → 10 ≤ n → digits_within f (n / 10) ++ (48 + n % 10) ∷ [] ≡ digits_within (suc f) n
longer f n h = rw (le-ltb n 10 h, digits_within)

-- the texts of 0, 9, 10 and 1024
four_texts : map decimal_of (0 ∷ 9 ∷ 10 ∷ 1024 ∷ [])
    ≡ (48 ∷ []) ∷ (57 ∷ []) ∷ (49 ∷ 48 ∷ []) ∷ (49 ∷ 48 ∷ 50 ∷ 52 ∷ []) ∷ []
unfolding decimal_of
four_texts = refl

-- one digit less holds a tenth of the number
fewest_less : (n j : ℕ) → IsDigitCount 10 1 n (suc (suc j)) → (10 ≤ n) × IsDigitCount 10 1 (n / 10) (suc j)
fewest_less n j F =
    let p = pow-succ' 10 (suc j) in
    let q = pow-succ' 10 j in
    let r = one-le-pow j 10 (omega arith) in
    let d : suc (suc j) - 1 ≡ suc j = omega arith in
    let f : suc j - 1 ≡ j = omega arith in
    let low : 10 ^ suc j ≤ n = rw d at (F.2 (omega arith)) in
    (omega arith, (omega arith, omega arith, λ l. rw f (omega arith)))

within_is : (k f n : ℕ) → n < f → IsDigitCount 10 1 n k → last_digits 10 k n ≡ digits_within f n
within_is zero f n h F = absurd (omega (arith, F.0))
within_is (suc zero) zero n h F = absurd (omega arith)
within_is (suc zero) (suc f) n h F = ap (λ x. x ∷ []) (glyph_is n) ∙ single f n (omega (arith, F.1))
within_is (suc (suc j)) zero n h F = absurd (omega arith)
within_is (suc (suc j)) (suc f) n h F =
    let L = fewest_less n j F in
    ap₂ (λ l x. l ++ x ∷ []) (within_is (suc j) f (n / 10) (omega (arith, L.0)) L.1) (glyph_is n)
    ∙ longer f n L.0

pub decimal_is : (n k : ℕ) → IsDigitCount 10 1 n k → last_digits 10 k n ≡ decimal_of n
unfolding decimal_of
decimal_is n k F = within_is k (suc n) n (omega arith) F

-- a number of 64 bits has at most 20 digits
pub decimal_short : (n k : ℕ) → IsDigitCount 10 1 n k → n < 2 ^ 64 → k ≤ 20
decimal_short n k F h = bool_case (leb k 20)
    (λ q. leb-true k 20 q)
    (λ q. let l = leb-false k 20 q in
    let p : 10 ^ 20 ≤ 10 ^ (k - 1) = pow-le-pow_right (omega arith) {i = 20} {j = k - 1} (omega arith) in
    absurd (omega (arith, F.2 (omega arith))))

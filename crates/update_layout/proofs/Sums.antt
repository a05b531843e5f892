-- Sums of counters by the set bits of a number.
use Prim.Native.Nat.{ℕ, zero, suc, ◌+◌, ◌*◌, ◌/◌, ◌%◌, ◌^◌, ◌≤◌, ◌<◌}
use mathlib.Core.Path.{◌≡◌, refl, sym, ap, ◌∙◌}
use mathlib.Core.List.{List, [], ◌∷◌}
use native.Mathlib.Nat.{pow-suc}
use native.Mathlib.Omega.{arith}
use lib.ListN.{get_or, length, replicate}
use lib.Pow.{shr-shr}
use Rattle.model.specs.Runs.{added}
use Rattle.model.proofs.records.Bytes.{added_none}

-- bit i of a number halved is the next bit of the number
pub bit_next : (m i : ℕ) → m / 2 / 2 ^ i ≡ m / 2 ^ suc i
bit_next m i =
    let one : 2 ^ 1 ≡ 2 = refl in
    ap (λ d. m / d / 2 ^ i) (sym one) ∙ shr-shr m 1 i ∙ ap (λ n. m / 2 ^ n) (let e : 1 + i ≡ suc i = omega arith in e)

-- a sum depends on the counters of the set bits alone
pub added_same : (m : ℕ) (cs ds : List ℕ) → length cs ≡ length ds
    → ((i : ℕ) → i < length cs → m / 2 ^ i % 2 ≡ 1 → get_or cs i 0 ≡ get_or ds i 0) → added m cs ≡ added m ds
added_same m [] [] l h = refl
added_same m [] (d ∷ ds) l h = absurd (omega arith)
added_same m (c ∷ cs) [] l h = absurd (omega arith)
added_same m (c ∷ cs) (d ∷ ds) l h =
    let rest = added_same (m / 2) cs ds (omega arith) (λ i lt b. h (suc i) (omega arith) (ap (λ n. n % 2) (sym
    (bit_next m i)) ∙ b)) in
    let whole : m / 1 ≡ m = omega arith in
    each (m % 2) refl (λ b. h 0 (omega arith) (ap (λ n. n % 2) whole ∙ b)) rest
  where
    each : (b : ℕ) → m % 2 ≡ b → (m % 2 ≡ 1 → c ≡ d) → added (m / 2) cs ≡ added (m / 2) ds
        → m % 2 * c + added (m / 2) cs ≡ m % 2 * d + added (m / 2) ds
    each zero e f r = rw e (omega arith)
    each (suc zero) e f r = rw e (omega (arith, f e))
    each (suc (suc b)) e f r = absurd (omega arith)

-- the counter of a set bit is part of the sum
pub added_at : (m : ℕ) (cs : List ℕ) (i : ℕ) → i < length cs → m / 2 ^ i % 2 ≡ 1 → get_or cs i 0 ≤ added m cs
added_at m [] i lt b = absurd (omega arith)
added_at m (c ∷ cs) zero lt b = let whole : m / 1 ≡ m = omega arith in
    let one : m % 2 ≡ 1 = ap (λ n. n % 2) (sym whole) ∙ b in rw one (omega arith)
added_at m (c ∷ cs) (suc i) lt b =
    omega (arith, added_at (m / 2) cs i (omega arith) (ap (λ n. n % 2) (bit_next m i) ∙ b))

-- no bit stands past a power that the number is below
pub added_past : (k n m : ℕ) → m < 2 ^ k → k ≤ n → added m (replicate n 1) ≡ added m (replicate k 1)
added_past zero n m h l = let z : m ≡ 0 = omega arith in rw z (added_none (replicate n 1))
added_past (suc k) zero m h l = absurd (omega arith)
added_past (suc k) (suc n) m h l =
    let h' : m < 2 ^ k * 2 = rw pow-suc at h in
    omega (arith, added_past k n (m / 2) (omega arith) (omega arith))

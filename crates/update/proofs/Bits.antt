-- The set bits of a number: how many there are, which is the lowest, and the counters that they add.
use Prim.Native.Nat.{ℕ, zero, suc, ◌+◌, ◌-◌, ◌*◌, ◌/◌, ◌%◌, ◌^◌, ◌≤◌, ◌<◌}
use mathlib.Core.Path.{◌≡◌, refl, sym, ap, ap₂, ◌∙◌}
use mathlib.Core.Bool.{Bool, cond}
use mathlib.Core.List.{List, [], ◌∷◌}
use native.Mathlib.Nat.{lt_of_not-le, mod-one, pow-suc}
use native.Mathlib.Numerals.{add-one}
use native.Mathlib.Omega.{arith}
use lib.Bits.{bit_and, and_mask}
use lib.Count.{ones, ones_step, count_trailing_zeros, under}
use lib.Dec.{eqb}
use lib.ListN.{length, get_or, replicate}
use lib.Pow.{field, mod-mod-pow, pow_mono, shl_exact, shr-shr}
use Rattle.model.specs.Base.{count, numbers}
use Rattle.model.specs.Edges.{Update}
use Rattle.model.specs.Notions.{flagged}
use Rattle.model.specs.Records.{update_code}
use Rattle.model.specs.Runs.{added}
use Rattle.model.proofs.records.Bytes.{added_bits, code_flags}
use Rattle.update.specs.Counted.{added_count}

-- ---- how many

bit_counted : (b : ℕ) → b < 2 → b ≡ cond (eqb b 1) 1 0
bit_counted zero h = refl
bit_counted (suc zero) h = refl
bit_counted (suc (suc b)) h = absurd (omega arith)

ones_zero : ones 0 ≡ 0
unfolding ones
ones_zero = refl

-- the d bits of u from bit j on, counted one by one
ones_counted : (d j u : ℕ) → ones (u / 2 ^ j % 2 ^ d) ≡ count (λ i. eqb (u / 2 ^ i % 2) 1) (numbers j d)
ones_counted zero j u = rw mod-one ones_zero
ones_counted (suc d) j u =
    let v = u / 2 ^ j in
    let m = v % 2 ^ suc d in
    let low : m % 2 ≡ v % 2 = ap (λ n. v % 2 ^ n % 2) (sym (add-one d)) ∙ mod-mod-pow v d 1 in
    let next : v / 2 ≡ u / 2 ^ suc j = shr-shr u j 1 ∙ ap (λ n. u / 2 ^ n) (add-one j) in
    let high : m / 2 ≡ u / 2 ^ suc j % 2 ^ d = ap (λ n. v % 2 ^ n / 2) (sym (add-one d)) ∙ field v d 1
    ∙ ap (λ n. n % 2 ^ d) next in
    ones_step m ∙ ap₂ ◌+◌ (low ∙ bit_counted (v % 2) (omega arith)) (ap ones high ∙ ones_counted d (suc j) u)

pub masked : (u : ℕ) → bit_and u 0x0fff ≡ u % 4096
masked u = and_mask u 12

pub added_counted : (u : ℕ) → ones (bit_and u 0x0fff) ≡ added_count u
added_counted u =
    let e : u / 1 ≡ u = omega arith in
    ap ones (masked u) ∙ ap (λ n. ones (n % 4096)) (sym e) ∙ ones_counted 12 0 u

-- as many as the sum is where each counter is 1
pub counted_added : (u : ℕ) → added_count u ≡ added (u % 4096) (replicate 12 1)
counted_added u = sym (added_counted u) ∙ ap ones (masked u) ∙ each 12 (u % 4096) (omega arith)
  where
    each : (d n : ℕ) → n < 2 ^ d → ones n ≡ added n (replicate d 1)
    each zero n h = let e : n ≡ 0 = omega arith in rw e ones_zero
    each (suc d) n h =
        let h' : n < 2 ^ d * 2 = rw pow-suc at h in
        ones_step n ∙ omega (arith, each d (n / 2) (omega arith))

flagged_ones : (fs : List Bool) (n : ℕ) → length fs ≤ n → flagged fs (replicate n 1) ≡ count (λ b. b) fs
flagged_ones [] n h = refl
flagged_ones (b ∷ fs) zero h = absurd (omega arith)
flagged_ones (b ∷ fs) (suc n) h = ap (λ k. cond b 1 0 + k) (flagged_ones fs n (omega arith))

-- how many old counters an update adds is the count of ones in bits 0 to 11: as many as it flags, whatever its constant
abbrev pub CountOfOnes : Type 0
CountOfOnes = (u : Update) → length u.adds ≤ 12 → added_count (update_code u) ≡ count (λ b. b) u.adds

pub count_of_ones : CountOfOnes
count_of_ones u h =
    counted_added (update_code u) ∙ ap (λ n. added n (replicate 12 1)) (code_flags u h)
    ∙ added_bits u.adds (replicate 12 1) ∙ flagged_ones u.adds 12 h

-- ---- the lowest set bit

-- its power is within the number
pub lowest_pow : (d n : ℕ) → 0 < n → n < 2 ^ d → 2 ^ count_trailing_zeros d n ≤ n
unfolding count_trailing_zeros
lowest_pow zero n p h = absurd (omega arith)
lowest_pow (suc d) n p h =
    let h' : n < 2 ^ d * 2 = rw pow-suc at h in
    each (n % 2) refl (λ q. lowest_pow d (n / 2) q (omega arith))
  where
    each : (b : ℕ) → n % 2 ≡ b → (0 < n / 2 → 2 ^ count_trailing_zeros d (n / 2) ≤ n / 2)
        → 2 ^ under b (count_trailing_zeros d (n / 2)) ≤ n
    each zero e ih = rw pow-suc (omega (arith, ih (omega arith)))
    each (suc b) e ih = omega arith

-- and taking it off takes its counter off the sum
pub added_lowest : (d n : ℕ) (cs : List ℕ) → length cs ≤ d → 0 < n → n < 2 ^ length cs
    → added n cs ≡ get_or cs (count_trailing_zeros d n) 0 + added (n - 2 ^ count_trailing_zeros d n) cs
unfolding count_trailing_zeros
added_lowest d n [] l p h = absurd (omega arith)
added_lowest zero n (c ∷ cs) l p h = absurd (omega arith)
added_lowest (suc d) n (c ∷ cs) l p h =
    let h' : n < 2 ^ length cs * 2 = rw pow-suc at h in
    each (n % 2) refl (λ q. lowest_pow d (n / 2) q (below q)) (λ q. added_lowest d (n / 2) cs (omega arith) q
    (omega arith))
  where
    below : 0 < n / 2 → n / 2 < 2 ^ d
    below q = let h' : n < 2 ^ length cs * 2 = rw pow-suc at h in let m : 2 ^ length cs ≤ 2 ^ d =
        pow_mono (omega arith) in omega arith

    each : (b : ℕ) → n % 2 ≡ b → (0 < n / 2 → 2 ^ count_trailing_zeros d (n / 2) ≤ n / 2)
        → (0 < n / 2 → added (n / 2) cs ≡ get_or cs (count_trailing_zeros d (n / 2)) 0 + added
        (n / 2 - 2 ^ count_trailing_zeros d (n / 2)) cs)
        → n % 2 * c + added (n / 2) cs
        ≡ get_or (c ∷ cs) (under b (count_trailing_zeros d (n / 2))) 0
        + ((n - 2 ^ under b (count_trailing_zeros d (n / 2))) % 2 * c + added
        ((n - 2 ^ under b (count_trailing_zeros d (n / 2))) / 2) cs)
    each zero e within ih =
        let q : 0 < n / 2 = omega arith in
        let w = 2 ^ count_trailing_zeros d (n / 2) in
        let fits = within q in
        let two : 2 ^ suc (count_trailing_zeros d (n / 2)) ≡ w * 2 = pow-suc 2 (count_trailing_zeros d (n / 2)) in
        let even : (n - w * 2) % 2 ≡ 0 = omega arith in
        let half : (n - w * 2) / 2 ≡ n / 2 - w = omega arith in
        rw (e, two, even, half) (omega (arith, ih q))
    each (suc b) e within ih =
        let odd : n % 2 ≡ 1 = omega arith in
        let even : (n - 1) % 2 ≡ 0 = omega arith in
        let half : (n - 1) / 2 ≡ n / 2 = omega arith in
        rw (odd, even, half) (omega arith)

-- the lowest of twelve counters
module _ (n : ℕ) (p : 0 < n) (h : n < 4096) where
  pub lowest_within : 2 ^ count_trailing_zeros 16 n ≤ n
  lowest_within = lowest_pow 16 n p (omega arith)

  pub lowest_small : count_trailing_zeros 16 n < 12
  lowest_small = lt_of_not-le (λ k. let m : 2 ^ 12 ≤ 2 ^ count_trailing_zeros 16 n = pow_mono k in
      omega (arith, lowest_within))

  -- the bit that a shift makes
  pub lowest_bit : (1 * 2 ^ count_trailing_zeros 16 n) % 2 ^ 16 ≡ 2 ^ count_trailing_zeros 16 n
  lowest_bit =
      let one : 1 < 2 ^ 1 = omega arith in
      shl_exact 1 (count_trailing_zeros 16 n) 16 one (omega (arith, lowest_small)) ∙ omega arith

  pub lowest_added : (cs : List ℕ) → length cs ≡ 12 → added n cs ≡ get_or cs (count_trailing_zeros 16 n) 0 + added
      (n - 2 ^ count_trailing_zeros 16 n) cs
  lowest_added cs l = added_lowest 16 n cs (omega arith) p (rw l h)

-- ---- a bound on a sum of counters of 32 bits

pub added_most : (m : ℕ) (cs : List ℕ) → ((i : ℕ) → get_or cs i 0 < 2 ^ 32) → added m cs ≤ 4294967295 * length cs
added_most m [] h = omega arith
added_most m (c ∷ cs) h = each (m % 2) (omega arith) (added_most (m / 2) cs (λ i. h (suc i)))
  where
    each : (b : ℕ) → b < 2 → added (m / 2) cs ≤ 4294967295 * length cs → b * c + added (m / 2) cs ≤ 4294967295 * suc
        (length cs)
    each zero k e = omega arith
    each (suc zero) k e = omega (arith, h 0)
    each (suc (suc b)) k e = absurd (omega arith)

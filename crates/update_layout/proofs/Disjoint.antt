-- Updates of which none adds a counter that an earlier one added: the counters seen so far are the bits of a number.
use Prim.Native.Nat.{ℕ, zero, suc, ◌+◌, ◌*◌, ◌-◌, ◌/◌, ◌%◌, ◌^◌, ◌≤◌, ◌<◌, min, max}
use mathlib.Core.Path.{◌≡◌, refl, sym, ap, ◌∙◌}
use mathlib.Core.Bool.{Bool, true, false, ◌&&◌, cond}
use mathlib.Core.List.{List, [], ◌∷◌, map}
use native.Mathlib.Nat.{pow-suc, zero-div}
use native.Mathlib.Numerals.{add-one}
use native.Mathlib.Omega.{arith}
use lib.Bits.{bit_and, bit_or, and_le_r, and_shr, and_step, or_shr, or_step}
use lib.Dec.{eqb, leb}
use lib.Pow.{field, mod-mod-pow}
use borrow.Author.Tests.{eq-eqb, eqb-true, le-leb, leb-true}
use Rattle.model.specs.Base.{all, count, numbers}
use Rattle.model.specs.Layout.{added_once, adds_old}
use Rattle.model.specs.Records.{word}
use Rattle.model.specs.Runs.{updates_of}
use Rattle.model.proofs.lists.Lists.{all_in, all_of}
use Rattle.model.proofs.lists.Logic.{and_both, and_l, and_r, bool_ext}
use Rattle.model.proofs.lists.Numbers.{in_numbers, numbers_in}
use Rattle.update_layout.proofs.Sums.{bit_next}

-- no update adds a counter that is seen, or that an earlier one adds
abbrev pub apart_from : ℕ → List ℕ → Bool
apart_from seen [] = true
apart_from seen (u ∷ us) = eqb (bit_and seen (u % 4096)) 0 && apart_from (bit_or seen (u % 4096)) us

-- the bits of a conjunction and of a disjunction
and_bit : (a b i : ℕ) → bit_and a b / 2 ^ i % 2 ≡ min (a / 2 ^ i % 2) (b / 2 ^ i % 2)
and_bit a b i = ap (λ n. n % 2) (and_shr a b i ∙ and_step (a / 2 ^ i) (b / 2 ^ i)) ∙ omega arith

or_bit : (a b i : ℕ) → bit_or a b / 2 ^ i % 2 ≡ max (a / 2 ^ i % 2) (b / 2 ^ i % 2)
or_bit a b i = ap (λ n. n % 2) (or_shr a b i ∙ or_step (a / 2 ^ i) (b / 2 ^ i)) ∙ omega arith

-- a number without set bits is 0
no_bits : (d n : ℕ) → n < 2 ^ d → ((i : ℕ) → i < d → n / 2 ^ i % 2 ≡ 0) → n ≡ 0
no_bits zero n h z = omega arith
no_bits (suc d) n h z =
    let h' : n < 2 ^ d * 2 = rw pow-suc at h in
    let whole : n / 1 ≡ n = omega arith in
    let low : n % 2 ≡ 0 = ap (λ m. m % 2) (sym whole) ∙ z 0 (omega arith) in
    let high = no_bits d (n / 2) (omega arith) (λ i lt. ap (λ m. m % 2) (bit_next n i) ∙ z (suc i) (omega arith)) in
    omega arith

-- a low bit of an update's code is one of its counters
pub low_bit : (u i : ℕ) → i < 12 → u % 4096 / 2 ^ i % 2 ≡ u / 2 ^ i % 2
low_bit u i lt =
    let v = u / 2 ^ i in
    let whole : 12 - i + i ≡ 12 = omega arith in
    let more : 11 - i + 1 ≡ 12 - i = omega arith in
    ap (λ n. u % 2 ^ n / 2 ^ i % 2) (sym whole) ∙ ap (λ n. n % 2) (field u (12 - i) i)
    ∙ ap (λ n. v % 2 ^ n % 2) (sym more) ∙ mod-mod-pow v (11 - i) 1

adds_bit : (u i : ℕ) → cond (adds_old i u) 1 0 ≡ u / 2 ^ i % 2
adds_bit u i = bit (u / 2 ^ i % 2) (omega arith)
  where
    bit : (b : ℕ) → b < 2 → cond (eqb b 1) 1 0 ≡ b
    bit zero h = refl
    bit (suc zero) h = refl
    bit (suc (suc b)) h = absurd (omega arith)

abbrev Once : ℕ → List ℕ → Type 0
Once seen us = (i : ℕ) → i < 12 → seen / 2 ^ i % 2 + count (adds_old i) us ≤ 1

once_apart : (seen : ℕ) (us : List ℕ) → Once seen us → apart_from seen us ≡ true
once_apart seen [] h = refl
once_apart seen (u ∷ us) h =
    let m = u % 4096 in
    let none : bit_and seen m ≡ 0 =
    no_bits 12 (bit_and seen m) (omega (arith, and_le_r seen m)) (λ i lt.
    let b = and_bit seen m i in let l = low_bit u i lt in let a = adds_bit u i in let o = h i lt in omega arith) in
    and_both (eqb (bit_and seen m) 0) (apart_from (bit_or seen m) us) (eq-eqb (bit_and seen m) 0 none)
    (once_apart (bit_or seen m) us (λ i lt.
    let b = or_bit seen m i in let l = low_bit u i lt in let a = adds_bit u i in let o = h i lt in omega arith))

apart_once : (seen : ℕ) (us : List ℕ) → apart_from seen us ≡ true → Once seen us
apart_once seen [] h i lt = omega arith
apart_once seen (u ∷ us) h i lt =
    let m = u % 4096 in
    let none = eqb-true (bit_and seen m) 0 (and_l (eqb (bit_and seen m) 0) (apart_from (bit_or seen m) us) h) in
    let rest = apart_once (bit_or seen m) us (and_r (eqb (bit_and seen m) 0) (apart_from (bit_or seen m) us) h) i lt in
    let z : bit_and seen m / 2 ^ i ≡ 0 = ap (λ n. n / 2 ^ i) none ∙ zero-div (2 ^ i) in
    let b = and_bit seen m i in
    let o = or_bit seen m i in
    let l = low_bit u i lt in
    let a = adds_bit u i in
    omega arith

-- with none seen, that is the layout's clause
pub apart_added : (us : List ℕ) → apart_from 0 us ≡ added_once us
apart_added us = bool_ext (apart_from 0 us) (added_once us)
    (λ h. all_of (λ i. leb (count (adds_old i) us) 1) (numbers 0 12) (λ i q.
    let lt = in_numbers 0 12 i q in
    le-leb (count (adds_old i) us) 1 (omega (arith, apart_once 0 us h i (omega arith)))))
    (λ h. once_apart 0 us (λ i lt.
    let z : 0 / 2 ^ i ≡ 0 = zero-div (2 ^ i) in
    let c = leb-true (count (adds_old i) us) 1 (all_in (λ j. leb (count (adds_old j) us) 1) (numbers 0 12) i h
    (numbers_in 0 12 i (omega arith) (omega arith))) in
    omega arith))

-- ---- the updates of a record, from one on

-- each of them keeps the layout by itself, and adds none that is seen
abbrev pub kept_from : (ℕ → Bool) → ℕ → List ℕ → Bool
kept_from p seen [] = true
kept_from p seen (u ∷ us) = p u && eqb (bit_and seen (u % 4096)) 0 && kept_from p (bit_or seen (u % 4096)) us

regroup : (a b c d : Bool) → a && b && (c && d) ≡ a && c && (b && d)
regroup true true c d = refl
regroup true false true d = refl
regroup true false false d = refl
regroup false b c d = refl

kept_apart : (p : ℕ → Bool) (seen : ℕ) (us : List ℕ) → kept_from p seen us ≡ all p us && apart_from seen us
kept_apart p seen [] = refl
kept_apart p seen (u ∷ us) =
    let m = u % 4096 in
    ap (λ k. p u && eqb (bit_and seen m) 0 && k) (kept_apart p (bit_or seen m) us)
    ∙ regroup (p u) (eqb (bit_and seen m) 0) (all p us) (apart_from (bit_or seen m) us)

kept_updates : (p : ℕ → Bool) (us : List ℕ) → kept_from p 0 us ≡ all p us && added_once us
kept_updates p us = kept_apart p 0 us ∙ ap (λ b. all p us && b) (apart_added us)

-- the updates of new nodes j to n
abbrev pub updates_from : List ℕ → ℕ → ℕ → List ℕ
updates_from r j n = map (λ i. word r (8 + 2 * i)) (numbers j (n - j))

pub updates_step : (r : List ℕ) (j n : ℕ) → j < n → updates_from r j n ≡ word r (8 + 2 * j) ∷ updates_from r (j + 1) n
updates_step r j n h =
    let e : n - j ≡ suc (n - (j + 1)) = omega arith in rw (e, add-one)

pub updates_end : (r : List ℕ) (j n : ℕ) → n ≤ j → updates_from r j n ≡ []
updates_end r j n h = let e : n - j ≡ 0 = omega arith in rw e

pub kept_start : (p : ℕ → Bool) (r : List ℕ) (n : ℕ)
    → all p (updates_of n r) && added_once (updates_of n r) ≡ kept_from p 0 (updates_from r 0 n)
kept_start p r n = let e : n - 0 ≡ n = omega arith in rw e (sym (kept_updates p (updates_of n r)))

-- turns of the loop over them: the rest decides
module _ (p : ℕ → Bool) (seen : ℕ) (r : List ℕ) (j n : ℕ) {whole : Bool}
    (inv : whole ≡ kept_from p seen (updates_from r j n)) where
  abbrev pub update : ℕ
  update = word r (8 + 2 * j)

  kept_next : j < n → whole ≡ p update && eqb (bit_and seen (update % 4096)) 0
      && kept_from p (bit_or seen (update % 4096)) (updates_from r (j + 1) n)
  kept_next h = inv ∙ ap (kept_from p seen) (updates_step r j n h)

  pub kept_fail : j < n → p update && eqb (bit_and seen (update % 4096)) 0 ≡ false → false ≡ whole
  kept_fail h e =
      sym (kept_next h ∙ ap (λ b. b && kept_from p (bit_or seen (update % 4096)) (updates_from r (j + 1) n)) e)

  pub kept_pass : j < n → p update && eqb (bit_and seen (update % 4096)) 0 ≡ true
      → whole ≡ kept_from p (bit_or seen (update % 4096)) (updates_from r (j + 1) n)
  kept_pass h e =
      kept_next h ∙ ap (λ b. b && kept_from p (bit_or seen (update % 4096)) (updates_from r (j + 1) n)) e

  pub kept_end : n ≤ j → true ≡ whole
  kept_end h = sym (inv ∙ ap (kept_from p seen) (updates_end r j n h))

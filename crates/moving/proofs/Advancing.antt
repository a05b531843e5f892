-- The new counters, put one by one.
use Prim.Native.Nat.{ℕ, zero, suc, ◌+◌, ◌-◌, ◌*◌, ◌/◌, ◌%◌, ◌^◌, ◌≤◌, ◌<◌}
use mathlib.Core.Path.{◌≡◌, refl, sym, ap, ap₂, ◌∙◌}
use mathlib.Core.Bool.{Bool, true, false}
use mathlib.Core.List.{List, [], ◌∷◌, ◌++◌, map}
use native.Mathlib.Nat.{pow-suc}
use native.Mathlib.Omega.{arith}
use lib.Dec.{ltb}
use lib.ListN.{drop, get_or, length, length-drop, length-map, replicate, set, take, take-append-drop}
use lib.Pow.{pow_mono}
use lib.Seq.{ext_get_or, get_or-take, length-take-le, take_all}
use borrow.Author.Tests.{lt-ltb}
use Rattle.model.specs.Base.{all, numbers}
use Rattle.model.specs.Records.{filled, is_zero, word}
use Rattle.model.specs.Runs.{added, applied, updates_of}
use Rattle.model.specs.Walking.{in_counters, stays_with}
use Rattle.model.specs.declared.Configuration.{Configuration}
use Rattle.model.proofs.lists.Lists.{all_of, get_or_map, in_get_or_lem}
use Rattle.model.proofs.lists.Loops.{test_end, test_fail, test_pass}
use Rattle.model.proofs.lists.Numbers.{length_numbers, map_number}
use Rattle.model.proofs.lists.Slices.{map_end, map_fill, map_step}
use Rattle.model.proofs.records.Bytes.{added_none, all_zero_lem, filled_length}
use Rattle.moving.specs.Advanced.{Carries, advanced, standing}

-- a counter of 32 bits
abbrev pub fits : ℕ → Bool
fits v = ltb v (2 ^ 32)

zeros : ℕ → List ℕ
zeros n = replicate n 0

drop_zeros : (n m : ℕ) → drop n (zeros m) ≡ zeros (m - n)
unfolding zeros
drop_zeros zero m = let e : m - 0 ≡ m = omega arith in ap zeros (sym e)
drop_zeros (suc n) zero = let e : 0 - suc n ≡ 0 = omega arith in ap zeros (sym e)
drop_zeros (suc n) (suc m) = drop_zeros n m ∙ ap zeros (let e : m - n ≡ suc m - suc n = omega arith in e)

module _ (r cs : List ℕ) (n : ℕ) where
  abbrev us : List ℕ
  us = updates_of n r

  pub us_length : length us ≡ n
  us_length = length-map (numbers 0 n) (λ i. word r (8 + 2 * i)) ∙ length_numbers 0 n

  pub us_at : (j : ℕ) → j < n → get_or us j 0 ≡ word r (8 + 2 * j)
  us_at j lt = map_number (λ i. word r (8 + 2 * i)) n j 0 lt

  -- the counters of the first j nodes are put, and whether the others fit decides
  abbrev pub Put : List ℕ → ℕ → List ℕ → Type 0
  Put before j next = (j ≤ n) × (next ≡ map (applied cs) (take j us) ++ drop j before)
      × (in_counters (map (applied cs) us) ≡ in_counters (map (applied cs) (drop j us)))

  pub put_none : (before : List ℕ) → Put before 0 before
  put_none before = (omega arith, refl, refl)

  module _ (before next : List ℕ) (j : ℕ) (P : Put before j next) (lt : j < n) where
    rest_is : map (applied cs) (drop j us) ≡ applied cs (word r (8 + 2 * j)) ∷ map (applied cs) (drop (j + 1) us)
    rest_is = map_step (applied cs) us j (omega (arith, us_length))
        ∙ ap (λ u. applied cs u ∷ map (applied cs) (drop (j + 1) us)) (us_at j lt)

    pub put_over : fits (applied cs (word r (8 + 2 * j))) ≡ false → false ≡ in_counters (map (applied cs) us)
    put_over h = test_fail fits P.2 rest_is h

    pub put_one : {after : List ℕ} → n ≤ length before → fits (applied cs (word r (8 + 2 * j))) ≡ true
        → after ≡ set next j (applied cs (word r (8 + 2 * j))) → Put before (j + 1) after
    put_one l h e = (
      omega arith,
      e ∙ map_fill (applied cs) us before next 0 j (applied cs (word r (8 + 2 * j))) (omega (arith, us_length))
          (omega arith) P.1 (ap (applied cs) (sym (us_at j lt))),
      test_pass fits P.2 rest_is h,
    )

  pub put_all : (before next : List ℕ) (j : ℕ) → Put before j next → n ≤ j
      → (true ≡ in_counters (map (applied cs) us)) × (next ≡ map (applied cs) us ++ drop n before)
  put_all before next j P h =
      let e : j ≡ n = omega arith in (
        test_end fits P.2 (map_end (applied cs) us j (omega (arith, us_length))),
        P.1 ∙ ap (λ i. map (applied cs) (take i us) ++ drop i before) e
            ∙ ap (λ l. map (applied cs) l ++ drop n before) (take_all n us (omega (arith, us_length))),
      )

  -- twelve zeros before
  pub put_filled : n ≤ 12 → map (applied cs) us ++ drop n (replicate 12 0) ≡ filled 12 (map (applied cs) us)
  unfolding zeros
  put_filled h =
      let vs = map (applied cs) us in
      let l : length vs ≡ n = length-map us (applied cs) ∙ us_length in
      ap (λ z. vs ++ z) (drop_zeros n 12 ∙ ap (λ m. zeros (12 - m)) (sym l))

  pub filled_twelve : n ≤ 12 → length (filled 12 (map (applied cs) us)) ≡ 12
  filled_twelve h = filled_length 12 (map (applied cs) us) (omega (arith, length-map us (applied cs), us_length))

-- a move along an edge that leads on: the new counters do not fit, or take the place of the old
module _ (r : List ℕ) (k : ℕ) (c : Configuration) where
  abbrev vs : List ℕ
  vs = map (applied c.counters) (updates_of k r)

  pub advanced_over : in_counters vs ≡ false → stays_with 21 c ≡ advanced r k c
  advanced_over h = rw (h, advanced)

  pub advanced_done : (to : ℕ) (next : List ℕ) → to ≡ word r 4 → in_counters vs ≡ true → next ≡ filled 12 vs
      → stays_with 0 (standing to next) ≡ advanced r k c
  advanced_done to next t h e = rw (h, advanced) (ap₂ (λ l cs. stays_with 0 (standing l cs)) t e)

-- ---- a counter that is carried

-- the power of one bit adds its counter alone
added_bit : (j : ℕ) (cs : List ℕ) → j < length cs → added (2 ^ j) cs ≡ get_or cs j 0
added_bit j [] lt = absurd (omega arith)
added_bit zero (c ∷ cs) lt = omega (arith, added_none cs)
added_bit (suc j) (c ∷ cs) lt =
    let two : 2 ^ suc j ≡ 2 ^ j * 2 = pow-suc 2 j in
    let even : (2 ^ j * 2) % 2 ≡ 0 = omega arith in
    let half : (2 ^ j * 2) / 2 ≡ 2 ^ j = omega arith in
    rw (two, even, half) (omega (arith, added_bit j cs (omega arith)))

carried : (j : ℕ) (cs : List ℕ) → j < 12 → length cs ≡ 12 → applied cs (4096 + 2 ^ j) ≡ get_or cs j 0
carried j cs lt l =
    let h11 : j ≤ 11 = omega arith in
    let small : 2 ^ j ≤ 2 ^ 11 = pow_mono h11 in
    let low : (4096 + 2 ^ j) % 4096 ≡ 2 ^ j = omega arith in
    let once : (4096 + 2 ^ j) / 4096 ≡ 1 = omega arith in
    let one : (4096 + 2 ^ j) / 4096 % 4 ≡ 1 = ap (λ n. n % 4) once in
    let back : (get_or cs j 0 + 1) - 1 ≡ get_or cs j 0 = omega arith in
    ap₂ (λ s d. (s + d) - 1) (ap (λ m. added m cs) low ∙ added_bit j cs (omega arith)) one ∙ back

-- where each counter of the k nodes is carried, the counters are as they were
module _ (r cs : List ℕ) (k : ℕ) (few : k ≤ 12) (l : length cs ≡ 12) (C : Carries r k) where
  carried_all : map (applied cs) (updates_of k r) ≡ take k cs
  carried_all = ext_get_or 0 (map (applied cs) (updates_of k r)) (take k cs)
      (length-map (updates_of k r) (applied cs) ∙ us_length r cs k ∙ sym (length-take-le k cs (omega arith)))
      (λ j lt.
      let q : j < k = omega (arith, length-map (updates_of k r) (applied cs), us_length r cs k) in
      get_or_map (applied cs) (updates_of k r) j 0 0 (omega (arith, us_length r cs k))
      ∙ ap (applied cs) (us_at r cs k j q ∙ C j q) ∙ carried j cs (omega arith) l ∙ sym (get_or-take k cs j 0 q))

  -- and fit, since each has 32 bits
  pub carried_fits : ((i : ℕ) → get_or cs i 0 < 2 ^ 32) → in_counters (map (applied cs) (updates_of k r)) ≡ true
  carried_fits h = ap in_counters carried_all ∙ all_of fits (take k cs) (λ v i.
      let q = in_get_or_lem (take k cs) 0 v i in
      let lt : q.0 < k = omega (arith, length-take-le k cs (omega arith)) in
      let e = sym (get_or-take k cs q.0 0 lt) ∙ q.2 in
      lt-ltb v (2 ^ 32) (omega (arith, h q.0)))

  pub carried_filled : all is_zero (drop k cs) ≡ true → cs ≡ filled 12 (map (applied cs) (updates_of k r))
  carried_filled z =
      let e : length (drop k cs) ≡ 12 - length (take k cs) =
      omega (arith, length-drop k cs, length-take-le k cs (omega arith)) in
      sym (ap (filled 12) carried_all
      ∙ ap (λ m. take k cs ++ m) (ap (λ n. replicate n 0) (sym e) ∙ sym (all_zero_lem (drop k cs) z))
      ∙ take-append-drop k cs)

-- Ranges cut by guards: exactly the values that pass are left.
use Prim.Native.Nat.{◌<◌, ◌≤◌, suc, zero, ℕ}
use mathlib.Core.Path.{◌∙◌, ◌≡◌, refl, sym}
use mathlib.Core.Logic.Iff
use mathlib.Core.Logic.{◌↔◌, inl, inr}
use mathlib.Core.Option.{none, some}
use mathlib.Core.Bool.{Bool, ◌||◌, false, not, true}
use mathlib.Core.List.{List, [], ◌∷◌}
use native.Mathlib.Nat.{le_refl, le_trans}
use native.Mathlib.Omega.{arith}
use lib.Dec.{eqb, leb, ltb}
use lib.ListN.{get_or, length, length-set, set}
use lib.Seq.{get_or-set_other, get_or-set_same, set_out}
use borrow.Author.Tests.{eq-eqb, eqb-false, eqb-true, le-leb, leb-false, leb-true, ltb-false, ltb-true}
use Rattle.model.specs.Base.{sum}
use Rattle.model.specs.Notions.{In}
use Rattle.model.specs.Ranges.{Box, Within, cut, cut_by, high_passed, left_at, low_passed}
use Rattle.model.specs.Records.{GuardCode, is_zero}
use Rattle.model.specs.Runs.{guard_holds, guards_hold}
use Rattle.model.proofs.lists.Lists.{some_inj, some-none}
use Rattle.model.proofs.lists.Logic.{and_both, and_l, and_r, bool_case, eq-case, or_cases}
use Rattle.model.proofs.runs.Boxes.{Full, GuardFits}

-- ---- one value of a list put anew

-- what holds of the value at each place, and of the new value at its place, holds at each place after
set_all : (P : ℕ → ℕ → Type 0) (l : List ℕ) (n v : ℕ) → ((i : ℕ) → P i (get_or l i 0)) → P n v
    → (i : ℕ) → P i (get_or (set l n v) i 0)
set_all P l n v h k i = eq-case i n
    (λ e. bool_case (ltb n (length l))
    (λ t. rw (e, get_or-set_same l n v 0 (ltb-true n (length l) t)) k)
    (λ t. rw (set_out l n v (ltb-false n (length l) t)) (h i)))
    (λ e. rw (get_or-set_other l n i v 0 (eqb-false i n e)) (h i))

-- no more at a place, no more in all
sum_set : (l : List ℕ) (n v : ℕ) → v ≤ get_or l n 0 → sum (λ x. x) (set l n v) ≤ sum (λ x. x) l
sum_set [] n v h = omega arith
sum_set (x ∷ l) zero v h = omega arith
sum_set (x ∷ l) (suc n) v h = omega (arith, sum_set l n v h)

-- ---- one range

low_rises : (t v : ℕ) → v ≤ low_passed t v
low_rises t v = bool_case (eqb t 2) (λ e. rw e (omega arith)) (λ e. rw e (omega arith))

high_falls : (t v : ℕ) → high_passed t v ≤ v
high_falls t v = bool_case (eqb t 1) (λ e. rw e (omega arith)) (λ e. rw e (omega arith))

-- a value of the range that passes the test is left
low_left : (t v c : ℕ) → guard_holds t c ≡ true → v ≤ c → low_passed t v ≤ c
low_left t v c p h = eq-case t 2
    (λ e. rw e (let l = leb-true 2 c (rw e at p) in omega arith))
    (λ e. rw e h)

high_left : (t v c : ℕ) → guard_holds t c ≡ true → c ≤ v → c ≤ high_passed t v
high_left t v c p h = eq-case t 1
    (λ e. rw e (let l = eqb-true c 1 (rw e at p) in omega arith))
    (λ e. rw e h)

-- a value that is left passes, where the range has none below 1
left_passes : (t u v c : ℕ) → t ≤ 2 → 1 ≤ u → low_passed t u ≤ c → c ≤ high_passed t v → guard_holds t c ≡ true
left_passes zero u v c h p l k = refl
left_passes (suc zero) u v c h p l k = eq-eqb c 1 (omega arith)
left_passes (suc (suc zero)) u v c h p l k = le-leb 2 c (omega arith)
left_passes (suc (suc (suc t))) u v c h p l k = absurd (omega arith)

-- ---- one guard

-- the ends that it leaves at its node
abbrev new_low : GuardCode → Box → ℕ
new_low g b = low_passed g.test (get_or b.lows g.node 0)

abbrev new_high : GuardCode → Box → ℕ
new_high g b = high_passed g.test (get_or b.highs g.node 0)

-- the values pass it
abbrev holds_of : List ℕ → GuardCode → Bool
holds_of cs g = guard_holds g.test (get_or cs g.node 0)

module _ (g : GuardCode) (b : Box) where
  pub cut_length : length (cut g b).lows ≡ length b.lows
  cut_length = length-set b.lows g.node (new_low g b)

  -- what fits the ranges fits them after too
  cut_fits : (x : GuardCode) → GuardFits (length b.lows) x → GuardFits (length (cut g b).lows) x
  cut_fits x G = rw cut_length G

  -- no lowest value falls, and no highest one rises
  lows_rise : (i : ℕ) → get_or b.lows i 0 ≤ get_or (cut g b).lows i 0
  lows_rise = set_all (λ i x. get_or b.lows i 0 ≤ x) b.lows g.node (new_low g b)
      (λ i. le_refl (get_or b.lows i 0)) (low_rises g.test (get_or b.lows g.node 0))

  highs_fall : (i : ℕ) → get_or (cut g b).highs i 0 ≤ get_or b.highs i 0
  highs_fall = set_all (λ i x. x ≤ get_or b.highs i 0) b.highs g.node (new_high g b)
      (λ i. le_refl (get_or b.highs i 0)) (high_falls g.test (get_or b.highs g.node 0))

  pub cut_highs : sum (λ v. v) (cut g b).highs ≤ sum (λ v. v) b.highs
  cut_highs = sum_set b.highs g.node (new_high g b) (high_falls g.test (get_or b.highs g.node 0))

  -- where no value is left at its node, no values are within what is left
  pub cut_empty : left_at g (cut g b) ≡ false → (cs : List ℕ) → Within cs (cut g b) → ⊥
  cut_empty e cs w =
      let l = leb-false (get_or (cut g b).lows g.node 0) (get_or (cut g b).highs g.node 0) e in
      omega (arith, w.at_least g.node, w.at_most g.node)

  pub cut_full : Full b → GuardFits (length b.lows) g → left_at g (cut g b) ≡ true → Full (cut g b)
  cut_full F G e = record {
    alike = length-set b.highs g.node (new_high g b) ∙ F.alike ∙ sym cut_length;
    ordered = λ i. eq-case i g.node
        (λ q. rw q (leb-true (get_or (cut g b).lows g.node 0) (get_or (cut g b).highs g.node 0) e))
        (λ q. let ne = eqb-false i g.node q in
        rw (
          get_or-set_other b.lows g.node i (new_low g b) 0 ne,
          get_or-set_other b.highs g.node i (new_high g b) 0 ne,
        ) (F.ordered i));
    positive = λ i h. le_trans (F.positive i (omega (arith, cut_length))) (lows_rise i);
  }

  -- "a box cut by a guard is a box": exactly the values that pass the guard are left
  pub cut_within : Full b → GuardFits (length b.lows) g → (cs : List ℕ)
      → Within cs (cut g b) ↔ (Within cs b × (guard_holds g.test (get_or cs g.node 0) ≡ true))
  cut_within F G cs = (λ w. (wider w, passes w), λ p. narrower p.0 p.1)
    where
      wider : Within cs (cut g b) → Within cs b
      wider w = record {
        one_each = w.one_each ∙ cut_length;
        at_least = λ i. le_trans (lows_rise i) (w.at_least i);
        at_most = λ i. le_trans (w.at_most i) (highs_fall i);
      }

      narrower : Within cs b → holds_of cs g ≡ true → Within cs (cut g b)
      narrower w p = record {
        one_each = w.one_each ∙ sym cut_length;
        at_least = set_all (λ i x. x ≤ get_or cs i 0) b.lows g.node (new_low g b) w.at_least
            (low_left g.test (get_or b.lows g.node 0) (get_or cs g.node 0) p (w.at_least g.node));
        at_most = set_all (λ i x. get_or cs i 0 ≤ x) b.highs g.node (new_high g b) w.at_most
            (high_left g.test (get_or b.highs g.node 0) (get_or cs g.node 0) p (w.at_most g.node));
      }

      -- at a node that is there
      passes_at : Within cs (cut g b) → g.node < length b.lows → holds_of cs g ≡ true
      passes_at w h =
          let k : g.node < length b.highs = omega (arith, F.alike) in
          left_passes g.test (get_or b.lows g.node 0) (get_or b.highs g.node 0) (get_or cs g.node 0)
          (leb-true g.test 2 (and_l (leb g.test 2) (not (is_zero g.test) || is_zero g.node) G.keeps))
          (F.positive g.node h)
          (rw (get_or-set_same b.lows g.node (new_low g b) 0 h) at (w.at_least g.node))
          (rw (get_or-set_same b.highs g.node (new_high g b) 0 k) at (w.at_most g.node))

      passes : Within cs (cut g b) → holds_of cs g ≡ true
      passes w = or_cases (is_zero g.test) (ltb g.node (length b.lows)) G.there
          (λ e. rw e)
          (λ e. passes_at w (ltb-true g.node (length b.lows) e))

-- ---- all guards of an edge, also where two of them are on one node

pub cut_by_some : (gs : List GuardCode) (b c : Box) → Full b
    → ((g : GuardCode) → In g gs → GuardFits (length b.lows) g) → cut_by gs b ≡ some c
    → Full c × (length c.lows ≡ length b.lows) × (sum (λ v. v) c.highs ≤ sum (λ v. v) b.highs)
    × ((cs : List ℕ) → Within cs c ↔ (Within cs b × (guards_hold cs gs ≡ true)))
cut_by_some [] b c F G e =
    rw (← (some_inj e)) (F, refl, le_refl (sum (λ v. v) b.highs), λ cs. (λ w. (w, refl), λ p. p.0))
cut_by_some (g ∷ gs) b c F G e = bool_case (left_at g (cut g b))
    (λ t. let G₀ = G g (inl refl) in
    let r = cut_by_some gs (cut g b) c (cut_full g b F G₀ t) (λ x i. cut_fits g b x (G x (inr i))) (rw t at e) in (
      r.0,
      r.1 ∙ cut_length g b,
      le_trans r.2 (cut_highs g b),
      λ cs. Iff.trans (r.3 cs) (Iff.trans (Iff.and (cut_within g b F G₀ cs) Iff.rfl) (both cs)),
    ))
    (λ t. some-none (rw t at e))
  where
    both : (cs : List ℕ) → ((Within cs b × (holds_of cs g ≡ true)) × (guards_hold cs gs ≡ true))
        ↔ (Within cs b × (guards_hold cs (g ∷ gs) ≡ true))
    both cs =
        let h = holds_of cs g in
        let k = guards_hold cs gs in
        (λ p. (p.0.0, and_both h k p.0.1 p.1), λ p. ((p.0, and_l h k p.1), and_r h k p.1))

pub cut_by_none : (gs : List GuardCode) (b : Box) → Full b
    → ((g : GuardCode) → In g gs → GuardFits (length b.lows) g) → cut_by gs b ≡ none
    → (cs : List ℕ) → Within cs b → guards_hold cs gs ≡ true → ⊥
cut_by_none [] b F G e cs w p = some-none (sym e)
cut_by_none (g ∷ gs) b F G e cs w p =
    let G₀ = G g (inl refl) in
    let h = holds_of cs g in
    let k = guards_hold cs gs in
    let n = (cut_within g b F G₀ cs).1 (w, and_l h k p) in
    bool_case (left_at g (cut g b))
    (λ t. cut_by_none gs (cut g b) (cut_full g b F G₀ t) (λ x i. cut_fits g b x (G x (inr i))) (rw t at e) cs n
    (and_r h k p))
    (λ t. cut_empty g b t cs n)

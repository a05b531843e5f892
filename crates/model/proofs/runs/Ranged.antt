-- The outcome for ranges and a path: its cases, when it is a refusal, and the ranges that it begins with.
use Prim.Native.Nat.{◌+◌, ◌*◌, ◌-◌, ◌<◌, ◌≤◌, suc, zero, ℕ}
use mathlib.Core.Path.{◌∙◌, ◌≡◌, ap, ap₂, refl, subst, sym}
use mathlib.Core.Bool.{Bool, ◌&&◌, cond, false, not, true}
use mathlib.Core.List.{List, [], ◌∷◌, map}
use native.Mathlib.Omega.{arith}
use lib.Dec.{leb, ltb}
use lib.ListN.{get_or-eq_default, get_or, length, length-map}
use borrow.Author.Tests.{le-ltb, leb-false, leb-true, lt-leb, lt-ltb, ltb-false, ltb-true}
use Rattle.model.specs.Base.{numbers, sum}
use Rattle.model.specs.Layout.{keeps_layout}
use Rattle.model.specs.Ranges.{Box, Ranging, Stuck, WhyRefused, along, askable, ends_at, first_wrong, follows, high_given, in_limits, led_to, linked, linked_at, linked_part, low_given, no_range, no_start, not_linked, range_keeps, ranging, refused_at, start_box, tables_break, too_long}
use Rattle.model.specs.Runs.{nodes_at}
use Rattle.model.specs.Translate.{Tables}
use Rattle.model.proofs.lists.Logic.{and_both, and_l, and_r, bool_case, clash}
use Rattle.model.proofs.lists.Numbers.{at_number, length_numbers, map_number}
use Rattle.model.proofs.records.ToldNodes.{place_before}
use Rattle.model.proofs.records.LayoutFacts.{layout_nodes}
use Rattle.model.proofs.runs.Boxes.{Full}
use Rattle.model.proofs.runs.Follows.{Exact, Ranges, Says, along_says}
use Rattle.model.proofs.runs.Sums.{at_most_sum}
use Rattle.model.proofs.shapes.Same.{place_le, place_passes}

-- ---- a path, guards aside

pub linked_most : (t : Tables) (l : ℕ) (ns : List ℕ) → linked_part t l ns ≤ length ns
linked_most t l [] = omega arith
linked_most t l (n ∷ ns) =
    let h = linked_most t (led_to t n) ns in
    bool_case (linked t l n) (λ e. rw e (omega arith)) (λ e. rw e (omega arith))

-- its edges lead on so far, and there the next one does not
pub linked_before : (t : Tables) (l : ℕ) (ns : List ℕ) (i : ℕ) → i < linked_part t l ns → linked_at t l ns i ≡ true
linked_before t l [] i h = absurd (omega arith)
linked_before t l (n ∷ ns) zero h = bool_case (linked t l n) (λ e. e) (λ e. absurd (let k = rw e at h in omega arith))
linked_before t l (n ∷ ns) (suc i) h = bool_case (linked t l n)
    (λ e. let k = rw e at h in linked_before t (led_to t n) ns i (omega arith))
    (λ e. absurd (let k = rw e at h in omega arith))

pub linked_stops : (t : Tables) (l : ℕ) (ns : List ℕ) → linked_part t l ns < length ns
    → linked_at t l ns (linked_part t l ns) ≡ false
linked_stops t l [] h = absurd (omega arith)
linked_stops t l (n ∷ ns) h = bool_case (linked t l n)
    (λ e. let k = rw e at h in rw e (linked_stops t (led_to t n) ns (omega arith)))
    (λ e. rw e e)

-- ---- the ranges that are given

module _ (k : ℕ) (rs : List ℕ) where
  counter_at : (i : ℕ) → i < k → get_or (numbers 0 k) i 0 ≡ i
  counter_at i h = at_number 0 k i 0 h ∙ omega arith

  pub wrong_most : first_wrong k rs ≤ k
  wrong_most = let h = place_le (λ i. not (range_keeps rs i)) (numbers 0 k) in omega (arith, length_numbers 0 k)

  pub wrong_before : (i : ℕ) → i < first_wrong k rs → range_keeps rs i ≡ true
  wrong_before i h =
      let m = wrong_most in
      let p = subst (λ j. not (range_keeps rs j) ≡ false) (counter_at i (omega arith))
      (place_before (λ i. not (range_keeps rs i)) (numbers 0 k) 0 i h) in
      bool_case (range_keeps rs i) (λ e. e) (λ e. clash (rw e) p)

  pub wrong_there : first_wrong k rs < k → range_keeps rs (first_wrong k rs) ≡ false
  wrong_there h =
      let p = subst (λ j. not (range_keeps rs j) ≡ true) (counter_at (first_wrong k rs) h)
      (place_passes (λ i. not (range_keeps rs i)) (numbers 0 k) 0 (omega (arith, length_numbers 0 k))) in
      bool_case (range_keeps rs (first_wrong k rs)) (λ e. clash p (rw e)) (λ e. e)

  -- the ends of a range that is one
  ends_keep_lem : (i : ℕ) → range_keeps rs i ≡ true
      → (1 ≤ low_given rs i) × (low_given rs i ≤ high_given rs i) × (high_given rs i ≤ 65535)
  ends_keep_lem i h =
      let a = in_limits (low_given rs i) in
      let b = in_limits (high_given rs i) in
      let c = leb (low_given rs i) (high_given rs i) in
      let ab = and_l (a && b) c h in (
        leb-true 1 (low_given rs i) (and_l (leb 1 (low_given rs i)) (leb (low_given rs i) 65535) (and_l a b ab)),
        leb-true (low_given rs i) (high_given rs i) (and_r (a && b) c h),
        leb-true (high_given rs i) 65535
            (and_r (leb 1 (high_given rs i)) (leb (high_given rs i) 65535) (and_r a b ab)),
      )

  -- where none of the ranges is wrong
  module _ (h : k ≤ first_wrong k rs) where
    each_keeps : (i : ℕ) → i < k → (1 ≤ low_given rs i) × (low_given rs i ≤ high_given rs i) × (high_given rs i ≤ 65535)
    each_keeps i lt = ends_keep_lem i (wrong_before i (omega arith))

    pub start_length : length (start_box k rs).lows ≡ k
    start_length = length-map (numbers 0 k) (low_given rs) ∙ length_numbers 0 k

    highs_length : length (start_box k rs).highs ≡ k
    highs_length = length-map (numbers 0 k) (high_given rs) ∙ length_numbers 0 k

    pub start_full : Full (start_box k rs)
    start_full = record {
      alike = highs_length ∙ sym start_length;
      ordered = λ i. bool_case (ltb i k)
          (λ e. let lt = ltb-true i k e in
          omega (arith, map_number (low_given rs) k i 0 lt, map_number (high_given rs) k i 0 lt, (each_keeps i lt).1))
          (λ e. let le = ltb-false i k e in
          omega (arith, get_or-eq_default (start_box k rs).lows 0 {n = i} (omega (arith, start_length))));
      positive = λ i lt. let l : i < k = omega (arith, start_length) in
          omega (arith, map_number (low_given rs) k i 0 l, (each_keeps i l).0);
    }

    -- what they add up to
    sum_most : (m j : ℕ) → j + m ≤ k → sum (λ v. v) (map (high_given rs) (numbers j m)) ≤ 65535 * m
    sum_most zero j le = omega arith
    sum_most (suc m) j le =
        let r = sum_most m (suc j) (omega arith) in omega (arith, (each_keeps j (omega arith)).2)

    pub start_sum : sum (λ v. v) (start_box k rs).highs ≤ 65535 * k
    start_sum = sum_most k 0 (omega arith)

-- ---- the outcome

module _ (t : Tables) (l : ℕ) (rs ns : List ℕ) where
  abbrev k : ℕ
  k = nodes_at t l

  -- the outcome with why: it is not askable; an edge does not lead on; a range is none; or the path is followed
  pub data RangingCase : Ranging → Type 0 where
    unasked : askable t l ns ≡ false → RangingCase (refused_at 23 0)
    unlinked : askable t l ns ≡ true → linked_part t l ns < length ns → RangingCase (refused_at 23 (linked_part t l ns))
    wrong : askable t l ns ≡ true → length ns ≤ linked_part t l ns → first_wrong k rs < k
        → RangingCase (refused_at 22 (first_wrong k rs))
    went : askable t l ns ≡ true → length ns ≤ linked_part t l ns → k ≤ first_wrong k rs
        → RangingCase (along t 0 l (start_box k rs) ns)

  -- by its three tests
  abbrev by_tests : Bool → Bool → Bool → Ranging
  by_tests a u w =
      cond a
      (cond u (refused_at 23 (linked_part t l ns))
      (cond w (refused_at 22 (first_wrong k rs)) (along t 0 l (start_box k rs) ns)))
      (refused_at 23 0)

  -- what they are
  tests : (a u w : Bool) → askable t l ns ≡ a → ltb (linked_part t l ns) (length ns) ≡ u → ltb (first_wrong k rs) k ≡ w
      → ranging t l rs ns ≡ by_tests a u w
  unfolding ranging
  tests a u w e f g = ap (λ b. by_tests b (ltb (linked_part t l ns) (length ns)) (ltb (first_wrong k rs) k)) e
      ∙ ap₂ (by_tests a) f g

  pub ranging_unasked : askable t l ns ≡ false → ranging t l rs ns ≡ refused_at 23 0
  ranging_unasked a = tests false _ _ a refl refl

  module _ (a : askable t l ns ≡ true) where
    pub ranging_unlinked : linked_part t l ns < length ns → ranging t l rs ns ≡ refused_at 23 (linked_part t l ns)
    ranging_unlinked h = tests true true _ a (lt-ltb (linked_part t l ns) (length ns) h) refl

    module _ (h : length ns ≤ linked_part t l ns) where
      pub ranging_wrong : first_wrong k rs < k → ranging t l rs ns ≡ refused_at 22 (first_wrong k rs)
      ranging_wrong w =
          tests true false true a (le-ltb (linked_part t l ns) (length ns) h) (lt-ltb (first_wrong k rs) k w)

      pub ranging_went : k ≤ first_wrong k rs → ranging t l rs ns ≡ along t 0 l (start_box k rs) ns
      ranging_went w =
          tests true false false a (le-ltb (linked_part t l ns) (length ns) h) (le-ltb (first_wrong k rs) k w)

  pub ranging_case : RangingCase (ranging t l rs ns)
  ranging_case = bool_case (askable t l ns)
      (λ a. bool_case (ltb (linked_part t l ns) (length ns))
      (λ h. let lt = ltb-true (linked_part t l ns) (length ns) h in
      subst RangingCase (sym (ranging_unlinked a lt)) (unlinked a lt))
      (λ h. let le = ltb-false (linked_part t l ns) (length ns) h in bool_case (ltb (first_wrong k rs) k)
      (λ w. let lt = ltb-true (first_wrong k rs) k w in
      subst RangingCase (sym (ranging_wrong a le lt)) (wrong a le lt))
      (λ w. let lw = ltb-false (first_wrong k rs) k w in
      subst RangingCase (sym (ranging_went a le lw)) (went a le lw))))
      (λ a. subst RangingCase (sym (ranging_unasked a)) (unasked a))

  -- what is asked for
  module _ (a : askable t l ns ≡ true) where
    pub asked_layout : keeps_layout t ≡ true
    asked_layout = and_l (keeps_layout t) (ltb l t.loc_count)
        (and_l (keeps_layout t && ltb l t.loc_count) (leb (length ns) 4096) a)

    pub asked_start : l < t.loc_count
    asked_start = ltb-true l t.loc_count (and_r (keeps_layout t) (ltb l t.loc_count)
        (and_l (keeps_layout t && ltb l t.loc_count) (leb (length ns) 4096) a))

    pub asked_length : length ns ≤ 4096
    asked_length = leb-true (length ns) 4096 (and_r (keeps_layout t && ltb l t.loc_count) (leb (length ns) 4096) a)

    -- a path whose edges all lead on
    pub linked_all : length ns ≤ linked_part t l ns → linked_part t l ns ≡ length ns
    linked_all h = omega (arith, linked_most t l ns)

    pub start_ranges : k ≤ first_wrong k rs → Ranges t l (start_box k rs)
    start_ranges w = record { is_location = asked_start; one_each = start_length k rs w; full = start_full k rs w }

  -- ---- what the outcome says

  -- where it is no refusal
  pub record Went (A : Type 0) : Type 0 where
    pub asked : askable t l ns ≡ true
    pub ranges : k ≤ first_wrong k rs
    pub says : A

  abbrev pub Told : Ranging → Type 0
  Told (follows m c) = Went (Exact t l (start_box k rs) ns m c)
  Told (ends_at p) = Went (Stuck t l (start_box k rs) ns p)
  Told (refused_at x p) = WhyRefused t l rs ns x p

  why_unasked : askable t l ns ≡ false → WhyRefused t l rs ns 23 0
  why_unasked a = bool_case (keeps_layout t)
      (λ u. bool_case (ltb l t.loc_count)
      (λ v. bool_case (leb (length ns) 4096)
      (λ w. clash (and_both (keeps_layout t && ltb l t.loc_count) (leb (length ns) 4096)
      (and_both (keeps_layout t) (ltb l t.loc_count) u v) w) a)
      (λ w. too_long u (ltb-true l t.loc_count v) (leb-false (length ns) 4096 w)))
      (λ v. no_start u (ltb-false l t.loc_count v)))
      tables_break

  told_case : (o : Ranging) → RangingCase o → Told o
  told_case o (unasked a) = why_unasked a
  told_case o (unlinked a h) = not_linked a (linked_part t l ns) h (linked_stops t l ns h) (linked_before t l ns)
  told_case o (wrong a h w) = no_range a (λ i lt. linked_before t l ns i (omega arith)) (first_wrong k rs) w
      (wrong_there k rs w) (wrong_before k rs)
  told_case o (went a h w) = by_outcome (along t 0 l (start_box k rs) ns)
      (along_says t (asked_layout a) ns 0 l (start_box k rs) (start_ranges a w) (linked_all a h))
    where
      by_outcome : (x : Ranging) → Says t 0 l (start_box k rs) ns x → Told x
      by_outcome (follows m c) z = record { asked = a; ranges = w; says = z }
      by_outcome (ends_at p) z = let e : p - 0 ≡ p = omega arith in
          record { asked = a; ranges = w; says = subst (Stuck t l (start_box k rs) ns) e z.1 }
      by_outcome (refused_at x p) z = absurd z

  pub ranging_told : (o : Ranging) → ranging t l rs ns ≡ o → Told o
  ranging_told o e = subst Told e (told_case (ranging t l rs ns) ranging_case)

  -- a refusal is given exactly for its cause
  first_is_lem : (f : ℕ → Bool) (m p q : ℕ) → ((i : ℕ) → i < m → f i ≡ true) → (m < q → f m ≡ false) → p < q
      → f p ≡ false → ((i : ℕ) → i < p → f i ≡ true) → m ≡ p
  first_is_lem f m p q before there lt bad below = bool_case (ltb m p)
      (λ e. let h = ltb-true m p e in clash (below m h) (there (omega arith)))
      (λ e. let h = ltb-false m p e in bool_case (ltb p m)
      (λ d. clash (before p (ltb-true p m d)) bad)
      (λ d. omega (arith, ltb-false p m d)))

  pub why_refused : (x p : ℕ) → WhyRefused t l rs ns x p → ranging t l rs ns ≡ refused_at x p
  why_refused x p (tables_break e) = ranging_unasked (rw e)
  why_refused x p (no_start e h) = ranging_unasked (rw (e, le-ltb l t.loc_count h))
  why_refused x p (too_long e h m) = ranging_unasked (rw (e, lt-ltb l t.loc_count h, lt-leb (length ns) 4096 m))
  why_refused x p (not_linked a q lt bad below) =
      let e = first_is_lem (linked_at t l ns) (linked_part t l ns) q (length ns) (linked_before t l ns)
      (linked_stops t l ns)
      lt bad below in
      ranging_unlinked a (omega arith) ∙ ap (refused_at 23) e
  why_refused x p (no_range a each q lt bad below) =
      let e = first_is_lem (range_keeps rs) (first_wrong k rs) q k (wrong_before k rs) (wrong_there k rs) lt bad
      below in
      ranging_wrong a (all_lead each) (omega arith) ∙ ap (refused_at 22) e
    where
      all_lead : ((i : ℕ) → i < length ns → linked_at t l ns i ≡ true) → length ns ≤ linked_part t l ns
      all_lead f = bool_case (ltb (linked_part t l ns) (length ns))
          (λ h. let lt = ltb-true (linked_part t l ns) (length ns) h in
          clash (f (linked_part t l ns) lt) (linked_stops t l ns lt))
          (λ h. ltb-false (linked_part t l ns) (length ns) h)

  -- no value passes 12 * 65,535 and 24 for each edge
  pub ranging_small : (m : ℕ) (c : Box) → ranging t l rs ns ≡ follows m c → (i : ℕ) → get_or c.highs i 0 ≤ 884724
  ranging_small m c e i =
      let W = ranging_told (follows m c) e in
      let few = layout_nodes t (asked_layout W.asked) l (asked_start W.asked) in
      omega (arith, at_most_sum c.highs i, W.says.grows, start_sum k rs W.ranges, asked_length W.asked)

-- Ranges followed along a path, edge by edge, in two lists of twelve: the rest of the path decides.
use Prim.Native.Nat.{ℕ, ◌+◌, ◌*◌, ◌^◌, ◌<◌, ◌≤◌}
use mathlib.Core.Path.{◌≡◌, ◌∙◌, ap, ap₂, refl, subst, sym}
use mathlib.Core.Bool.{true, ◌||◌, not}
use mathlib.Core.Option as math
use mathlib.Core.Option.{none, some}
use mathlib.Core.List.{List, ◌∷◌}
use native.Mathlib.Numerals.{add-one}
use native.Mathlib.Omega.{arith}
use lib.Dec.{eqb, leb, ltb}
use lib.ListN.{drop, drop_of_length-le, get_or, length, length-drop, length-take}
use borrow.Author.Tests.{eqb-true, lt-ltb, ltb-true}
use Rattle.std.specs.Prelude.{Option, Some, None, Ok, Err}
use Rattle.model.specs.Base.{sum}
use Rattle.model.specs.Layout.{keeps_layout}
use Rattle.model.specs.Notions.{In}
use Rattle.model.specs.Ranges.{Box, along, cut_by, ends_at, first_wrong, led_to, linked, linked_part, moved_box, start_box}
use Rattle.model.specs.Records.{GuardCode, filled, is_zero, record_at, word}
use Rattle.model.specs.Runs.{guards_of, nodes_at, updates_of}
use Rattle.model.specs.Translate.{Tables}
use Rattle.model.specs.Walking.{in_counters}
use Rattle.model.proofs.lists.Lists.{all_of, in_get_or_lem}
use Rattle.model.proofs.lists.Logic.{and_l, and_r, or_cases}
use Rattle.model.proofs.lists.Slices.{drop_step}
use Rattle.model.proofs.records.LayoutFacts.{EdgeKept, layout_kept, layout_nodes, layout_room}
use Rattle.model.proofs.runs.Boxes.{GuardFits}
use Rattle.model.proofs.runs.Follows.{Ranges, along_none, along_some, guards_fit, linked_first, moved_sum, ranges_moved}
use Rattle.model.proofs.runs.Ranged.{asked_layout, asked_start, start_ranges, start_sum}
use Rattle.model.proofs.runs.Sums.{at_most_sum}
use Rattle.range_edge.specs.OneEdge.{EdgeReady, Moved, PassedTo, box_in, box_of}
use Rattle.range_edge.specs.declared.Ranges.{Ranges as Kept}
use Rattle.ranging.specs.Follow.{FollowReady, IsFollowed}
use Rattle.ranging.proofs.Twelve.{cut_by_twelve, image_twelve, twelve_of}

-- after i edges from l₀ with the ranges b₀ the path stands here with the ranges of the box, kept in two lists of
-- twelve; the rest leads on and decides, and the highest values add up to so little that each has 32 bits
pub record Going (t : Tables) (l₀ : ℕ) (b₀ : Box) (ns : List ℕ) (i : ℕ) (m : Kept) : Type 0 where
  pub here : ℕ
  pub box : Box
  pub ranges : Ranges t here box
  pub lows_are : m.lows ≡ filled 12 box.lows
  pub highs_are : m.highs ≡ filled 12 box.highs
  pub within : i ≤ length ns
  pub led : linked_part t here (drop i ns) ≡ length (drop i ns)
  pub rest : along t 0 l₀ b₀ ns ≡ along t i here box (drop i ns)
  pub small : sum (λ v. v) box.highs ≤ 12 * 65535 + 24 * i

pub begin_going : (t : Tables) (l : ℕ) (rs ns : List ℕ) (m : Kept) → FollowReady t l rs ns
    → m.lows ≡ filled 12 (start_box (nodes_at t l) rs).lows → m.highs ≡ filled 12 (start_box (nodes_at t l) rs).highs
    → Going t l (start_box (nodes_at t l) rs) ns 0 m
begin_going t l rs ns m R p q =
    let lt = asked_start t l rs ns R.asked in
    let few = layout_nodes t (asked_layout t l rs ns R.asked) l lt in
    let w : nodes_at t l ≤ first_wrong (nodes_at t l) rs = omega (arith, R.ranges) in
    record {
      here = l;
      box = start_box (nodes_at t l) rs;
      ranges = start_ranges t l rs ns R.asked w;
      lows_are = p;
      highs_are = q;
      within = omega arith;
      led = R.linked;
      rest = refl;
      small = omega (arith, start_sum (nodes_at t l) rs w, few);
    }

-- ---- values of 32 bits

fit_below : (xs hs : List ℕ) → ((i : ℕ) → get_or xs i 0 ≤ get_or hs i 0) → sum (λ v. v) hs < 2 ^ 32 → in_counters xs
    ≡ true
fit_below xs hs o s = all_of (λ v. ltb v (2 ^ 32)) xs (λ v h.
    let r = in_get_or_lem xs 0 v h in
    lt-ltb v (2 ^ 32) (omega (arith, r.2, o r.0, at_most_sum hs r.0)))

some_none : {A : Type 0} {x : A} → Some x ≡ None → ⊥
some_none e = cc

-- ---- one edge

module _ (t : Tables) (k : keeps_layout t ≡ true) (l₀ : ℕ) (b₀ : Box) (ns : List ℕ) (i : ℕ) (m : Kept)
    (G : Going t l₀ b₀ ns i m) (lt : i < length ns) where
  abbrev n : ℕ
  n = get_or ns i 0

  abbrev rec : List ℕ
  rec = record_at t.edge_bytes n

  abbrev us : List ℕ
  us = updates_of (nodes_at t (led_to t n)) rec

  -- the edge leads on, and so does the rest
  on : (linked t G.here n ≡ true) × (linked_part t (led_to t n) (drop (i + 1) ns) ≡ length (drop (i + 1) ns))
  on = linked_first t G.here n (drop (i + 1) ns)
      (subst (λ x. linked_part t G.here x ≡ length x) (drop_step ns i lt) G.led)

  in_table : n < t.edge_count
  in_table = ltb-true n t.edge_count (and_l (ltb n t.edge_count) (eqb (word rec 2) G.here) on.0)

  pub in_bytes : 32 * n + 32 ≤ length t.edge_bytes
  in_bytes = omega (arith, layout_room t k, in_table)

  kept : EdgeKept t.loc_count (nodes_at t (word rec 2)) (nodes_at t (word rec 4)) rec
  kept = layout_kept t k n in_table

  fits : (g : GuardCode) → In g (guards_of rec) → GuardFits (length G.box.lows) g
  fits = guards_fit t k G.here G.box G.ranges n on.0

  twelve_nodes : length G.box.lows ≤ 12
  twelve_nodes = omega (arith, G.ranges.one_each, layout_nodes t k G.here G.ranges.is_location)

  guard_node : (g : GuardCode) → In g (guards_of rec) → g.node < 12
  guard_node g h =
      let F = fits g h in
      let k = length G.box.lows in
      or_cases (is_zero g.test) (ltb g.node k) F.there
      (λ z. let o : is_zero g.node ≡ true =
      rw z at (and_r (leb g.test 2) (not (is_zero g.test) || is_zero g.node) F.keeps) in
      omega (arith, eqb-true g.node 0 o))
      (λ z. omega (arith, ltb-true g.node k z, twelve_nodes))

  pub ready : EdgeReady rec t.loc_bytes
  ready = record {
    whole = let b = in_bytes in simp (length-take, length-drop) (omega arith);
    target = omega (arith, layout_room t k, kept.target);
    few = layout_nodes t k (led_to t n) kept.target;
    guard_nodes = guard_node;
  }

  next : along t 0 l₀ b₀ ns ≡ along t i G.here G.box (n ∷ drop (i + 1) ns)
  next = G.rest ∙ ap (along t i G.here G.box) (drop_step ns i lt)

  cut_is : cut_by (guards_of rec) (box_in m) ≡ twelve_of (cut_by (guards_of rec) G.box)
  cut_is = ap₂ (λ x y. cut_by (guards_of rec) (box_of x y)) G.lows_are G.highs_are
      ∙ cut_by_twelve (guards_of rec) G.box G.ranges.full.alike fits

  module _ (o : Option (Unit {0})) (m' : Kept) (P : PassedTo us (cut_by (guards_of rec) (box_in m)) o m') where
    told : PassedTo us (twelve_of (cut_by (guards_of rec) G.box)) o m'
    told = subst (λ c. PassedTo us c o m') cut_is P

    pub stops : o ≡ None → along t 0 l₀ b₀ ns ≡ ends_at i
    stops e =
        by (cut_by (guards_of rec) G.box) refl
        (subst (λ x. PassedTo us (twelve_of (cut_by (guards_of rec) G.box)) x m') e told)
      where
        by : (b : math.Option Box) → cut_by (guards_of rec) G.box ≡ b → PassedTo us (twelve_of b) None m'
            → along t 0 l₀ b₀ ns ≡ ends_at i
        by none q p = next ∙ along_none t i G.here G.box n (drop (i + 1) ns) q
        by (some c) q p = absurd p

    pub goes_on : length ns ≤ 4096 → (v : Unit {0}) → o ≡ Some v → Going t l₀ b₀ ns (i + 1) m'
    goes_on few v e =
        by (cut_by (guards_of rec) G.box) refl
        (subst (λ x. PassedTo us (twelve_of (cut_by (guards_of rec) G.box)) x m') e told)
      where
        by : (b : math.Option Box) → cut_by (guards_of rec) G.box ≡ b → PassedTo us (twelve_of b) (Some v) m'
            → Going t l₀ b₀ ns (i + 1) m'
        by none q p = absurd (some_none p)
        by (some c) q p =
            let d = moved_box t n c in
            let R = ranges_moved t k G.here G.box G.ranges n on.0 c q in
            let s = moved_sum t k G.here G.box G.ranges n on.0 c q in
            let most : sum (λ v. v) d.highs ≤ 12 * 65535 + 24 * (i + 1) = omega (arith, G.small) in
            let w : sum (λ v. v) d.highs < 2 ^ 32 = omega arith in
            let M : Moved d m' = subst (λ x. Moved x m') (image_twelve us c) p in
            record {
              here = led_to t n;
              box = d;
              ranges = R;
              lows_are = M.lows_are (fit_below d.lows d.highs R.full.ordered w);
              highs_are = M.highs_are (fit_below d.highs d.highs (λ j. omega arith) w);
              within = omega arith;
              led = on.1;
              rest = next ∙ along_some t i G.here G.box n (drop (i + 1) ns) c q
                  ∙ ap (λ x. along t x (led_to t n) d (drop (i + 1) ns)) (sym (add-one i));
              small = most;
            }

-- ---- the outcome

module _ (t : Tables) (l₀ : ℕ) (b₀ : Box) (ns : List ℕ) (i : ℕ) where
  pub is_stopped : along t 0 l₀ b₀ ns ≡ ends_at i → IsFollowed (along t 0 l₀ b₀ ns) (Err i)
  is_stopped e = subst (λ o. IsFollowed o (Err i)) (sym e) refl

  pub is_followed : (m : Kept) → Going t l₀ b₀ ns i m → length ns ≤ i → IsFollowed (along t 0 l₀ b₀ ns) (Ok m)
  is_followed m G h = subst (λ o. IsFollowed o (Ok m))
      (sym (G.rest ∙ ap (along t i G.here G.box) (drop_of_length-le ns h))) (G.lows_are, G.highs_are)

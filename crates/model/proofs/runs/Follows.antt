-- Ranges along a path: at each edge, and at its end, exactly the values within them are reached by starts.
use Prim.Native.Nat.{◌+◌, ◌*◌, ◌-◌, ◌<◌, ◌≤◌, suc, ℕ}
use mathlib.Core.Path.{◌∙◌, ◌≡◌, ap, refl, subst, sym}
use mathlib.Core.Logic.{◌↔◌}
use mathlib.Core.Option.{Option, none, some}
use mathlib.Core.Bool.{false, true}
use mathlib.Core.List.{List, [], ◌∷◌}
use native.Mathlib.Omega.{arith}
use lib.Dec.{eqb, leb, ltb}
use lib.ListN.{length, length-map, take}
use borrow.Author.Tests.{eqb-true, le-leb, ltb-true}
use Rattle.model.specs.Base.{all, sum}
use Rattle.model.specs.Layout.{guard_keeps, guard_there, keeps_layout}
use Rattle.model.specs.Notions.{In}
use Rattle.model.specs.Ranges.{Box, Ranging, Reaches, Stuck, Within, along, cut_by, ends_at, followed, follows, led_to, linked, linked_part, moved_box, refused_at}
use Rattle.model.specs.Records.{GuardCode, record_at, word}
use Rattle.model.specs.Runs.{Advance, Config, applied, enabled, guards_hold, guards_of, move_of, nodes_at, taken, updates_of}
use Rattle.model.specs.Translate.{Tables}
use Rattle.model.proofs.lists.Lists.{all_in, all_of, in_get_or_lem, some_inj, some-none}
use Rattle.model.proofs.lists.Logic.{and_both, and_l, and_r, bool_case, not-true}
use Rattle.model.proofs.records.LayoutFacts.{EdgeKept, could_keeps, layout_kept, layout_nodes}
use Rattle.model.proofs.runs.Boxes.{Full, GuardFits}
use Rattle.model.proofs.runs.Cuts.{cut_by_none, cut_by_some}
use Rattle.model.proofs.runs.Sources.{image_full, image_source, image_within}
use Rattle.model.proofs.runs.Stands.{move_enabled, updates_number}
use Rattle.model.proofs.runs.Sums.{image_sum}

abbrev pub at : ℕ → List ℕ → Config
at l cs = record { loc = l; values = cs }

-- ranges that hold some value for each node of a location
pub record Ranges (t : Tables) (l : ℕ) (b : Box) : Type 0 where
  pub is_location : l < t.loc_count
  pub one_each : length b.lows ≡ nodes_at t l
  pub full : Full b

-- the lowest values are within full ranges
pub lows_within : (b : Box) → Full b → Within b.lows b
lows_within b F = record { one_each = refl; at_least = λ i. omega arith; at_most = F.ordered }

lows_positive : (b : Box) → Full b → all (leb 1) b.lows ≡ true
lows_positive b F = all_of (leb 1) b.lows (λ x i.
    let r = in_get_or_lem b.lows 0 x i in
    le-leb 1 x (omega (arith, r.2, F.positive r.0 r.1)))

module _ (t : Tables) (k : keeps_layout t ≡ true) (l : ℕ) (b : Box) (R : Ranges t l b) (n : ℕ)
    (j : linked t l n ≡ true) where
  abbrev rec : List ℕ
  rec = record_at t.edge_bytes n

  abbrev us : List ℕ
  us = updates_of (nodes_at t (led_to t n)) rec

  in_table : n < t.edge_count
  in_table = ltb-true n t.edge_count (and_l (ltb n t.edge_count) (eqb (word rec 2) l) j)

  leaves_there : word rec 2 ≡ l
  leaves_there = eqb-true (word rec 2) l (and_r (ltb n t.edge_count) (eqb (word rec 2) l) j)

  kept : EdgeKept t.loc_count (nodes_at t (word rec 2)) (nodes_at t (word rec 4)) rec
  kept = layout_kept t k n in_table

  nodes_are : nodes_at t (word rec 2) ≡ length b.lows
  nodes_are = ap (nodes_at t) leaves_there ∙ sym R.one_each

  pub guards_fit : (g : GuardCode) → In g (guards_of rec) → GuardFits (length b.lows) g
  guards_fit g i = record {
    keeps = all_in guard_keeps (guards_of rec) g kept.guards i;
    there = subst (λ m. guard_there m g ≡ true) nodes_are
        (all_in (guard_there (nodes_at t (word rec 2))) (guards_of rec) g kept.guard_nodes i);
  }

  -- the edge is taken exactly where its guards hold
  pub taken_there : (cs : List ℕ) → guards_hold cs (guards_of rec) ≡ true
      → move_of t (at l cs) n ≡ some (taken t (at l cs) rec)
  taken_there cs h =
      let e : enabled t (at l cs) n ≡ true =
      and_both (linked t l n) (guards_hold cs (guards_of rec)) j h in
      rw e

  pub not_taken : (cs : List ℕ) → guards_hold cs (guards_of rec) ≡ false → move_of t (at l cs) n ≡ none
  not_taken cs h = let e : enabled t (at l cs) n ≡ false = rw (j, h) in rw e

  -- no value passes
  pub none_passes : cut_by (guards_of rec) b ≡ none → (cs : List ℕ) → Within cs b → move_of t (at l cs) n ≡ none
  none_passes e cs w = not_taken cs (not-true _ (cut_by_none (guards_of rec) b R.full guards_fit e cs w))

  -- the values that pass
  module _ (c : Box) (e : cut_by (guards_of rec) b ≡ some c) where
    passed : Full c × (length c.lows ≡ length b.lows) × (sum (λ v. v) c.highs ≤ sum (λ v. v) b.highs)
        × ((cs : List ℕ) → Within cs c ↔ (Within cs b × (guards_hold cs (guards_of rec) ≡ true)))
    passed = cut_by_some (guards_of rec) b c R.full guards_fit e

    few : length c.lows ≤ 12
    few = let m = layout_nodes t k l R.is_location in omega (arith, passed.1, R.one_each)

    rises : (u : ℕ) → In u us → 1 ≤ applied c.lows u
    rises u i = could_keeps (nodes_at t (word rec 2)) (guards_of rec) u (kept.positive u i) c.lows
        (passed.1 ∙ sym nodes_are) (lows_positive c passed.0)
        ((passed.3 c.lows).0 (lows_within c passed.0)).1

    pub ranges_moved : Ranges t (led_to t n) (moved_box t n c)
    ranges_moved = record {
      is_location = kept.target;
      one_each = length-map us (applied c.lows) ∙ updates_number (nodes_at t (led_to t n)) rec;
      full = image_full us c passed.0 rises;
    }

    -- what is reached from a value within is within, and each value within is reached from one
    pub moved_within : (cs : List ℕ) (y : Advance Config) → Within cs b → move_of t (at l cs) n ≡ some y
        → (y.after.loc ≡ led_to t n) × Within y.after.values (moved_box t n c)
    moved_within cs y w m =
        let E = move_enabled t (at l cs) n y m in
        let i = image_within us c cs ((passed.3 cs).1 (w, E.2)) in
        subst (λ (x : Advance Config). (x.after.loc ≡ led_to t n) × Within x.after.values (moved_box t n c))
        (sym E.3) (refl, i)

    pub moved_from : (vs : List ℕ) → Within vs (moved_box t n c) → (cs : List ℕ) × Within cs b
        × (y : Advance Config) × (move_of t (at l cs) n ≡ some y) × (y.after ≡ at (led_to t n) vs)
    moved_from vs w =
        let S = image_source us c passed.0 few kept.once rises vs w in
        let p = (passed.3 S.0).0 S.1 in
        (S.0, p.0, taken t (at l S.0) rec, taken_there S.0 p.1, ap (at (led_to t n)) S.2)

    -- counters grow by the constants alone
    pub moved_sum : sum (λ v. v) (moved_box t n c).highs ≤ sum (λ v. v) b.highs + 24
    moved_sum =
        let m = layout_nodes t k (led_to t n) kept.target in
        let s = image_sum us c.highs (omega (arith, few, passed.0.alike)) kept.once in
        omega (arith, s, passed.2, updates_number (nodes_at t (led_to t n)) rec)

-- ---- a whole path

-- by what the guards leave, as `along` goes on
module _ (t : Tables) (i l : ℕ) (b : Box) (n : ℕ) (ns : List ℕ) where
  pub along_none : cut_by (guards_of (record_at t.edge_bytes n)) b ≡ none → along t i l b (n ∷ ns) ≡ ends_at i
  along_none e = rw (e, along)

  pub along_some : (c : Box) → cut_by (guards_of (record_at t.edge_bytes n)) b ≡ some c
      → along t i l b (n ∷ ns) ≡ along t (suc i) (led_to t n) (moved_box t n c) ns
  along_some c e = rw (e, along)

-- a path that leads on: its first edge does, and so does the rest
pub linked_first : (t : Tables) (l n : ℕ) (ns : List ℕ) → linked_part t l (n ∷ ns) ≡ length (n ∷ ns)
    → (linked t l n ≡ true) × (linked_part t (led_to t n) ns ≡ length ns)
linked_first t l n ns e = bool_case (linked t l n)
    (λ h. (h, (let z : suc (linked_part t (led_to t n) ns) ≡ suc (length ns) = rw h at e in omega arith)))
    (λ h. absurd (let z : ◌≡◌ {A = ℕ} 0 (suc (length ns)) = rw h at e in omega arith))

pub followed_none : (t : Tables) (a : Config) (n : ℕ) (ns : List ℕ) → move_of t a n ≡ none
    → followed t a (n ∷ ns) ≡ none
followed_none t a n ns e = rw (e, followed)

pub followed_some : (t : Tables) (a : Config) (n : ℕ) (ns : List ℕ) (y : Advance Config) → move_of t a n ≡ some y
    → followed t a (n ∷ ns) ≡ followed t y.after ns
followed_some t a n ns y e = rw (e, followed)

-- the path leads from the ranges b to the ranges c, exactly, whose values add up to no more but for the constants
pub record Exact (t : Tables) (l : ℕ) (b : Box) (ns : List ℕ) (m : ℕ) (c : Box) : Type 0 where
  pub ranges : Ranges t m c
  pub grows : sum (λ v. v) c.highs ≤ sum (λ v. v) b.highs + 24 * length ns
  pub reached : (vs : List ℕ) → Within vs c ↔ Reaches t l b ns m vs

exact_here : (t : Tables) (l : ℕ) (b : Box) → Ranges t l b → Exact t l b [] l b
exact_here t l b R = record {
  ranges = R;
  grows = omega arith;
  reached = λ vs. (
    (λ w. (vs, w, refl)),
    (λ r. subst (λ x. Within x b) (ap (λ (x : Config). x.values) (some_inj r.2)) r.1),
  );
}

module _ (t : Tables) (k : keeps_layout t ≡ true) (l : ℕ) (b : Box) (R : Ranges t l b) (n : ℕ) (ns : List ℕ)
    (j : linked t l n ≡ true) where
  exact_step : (d : Box) → cut_by (guards_of (record_at t.edge_bytes n)) b ≡ some d → (m : ℕ) (c : Box)
      → Exact t (led_to t n) (moved_box t n d) ns m c → Exact t l b (n ∷ ns) m c
  exact_step d q m c I = record {
    ranges = I.ranges;
    grows = omega (arith, I.grows, moved_sum t k l b R n j d q);
    reached = λ vs. ((λ w. from vs ((I.reached vs).0 w)), (λ r. to vs r (move_of t (at l r.0) n) refl));
  }
    where
      from : (vs : List ℕ) → Reaches t (led_to t n) (moved_box t n d) ns m vs → Reaches t l b (n ∷ ns) m vs
      from vs r =
          let s = moved_from t k l b R n j d q r.0 r.1 in (
            s.0,
            s.1,
            followed_some t (at l s.0) n ns s.2 s.3 ∙ ap (λ a. followed t a ns) s.4 ∙ r.2,
          )

      to : (vs : List ℕ) (r : Reaches t l b (n ∷ ns) m vs) (o : Option (Advance Config)) → move_of t (at l r.0) n ≡ o
          → Within vs c
      to vs r none z = some-none (sym (followed_none t (at l r.0) n ns z) ∙ r.2)
      to vs r (some y) z =
          let w = moved_within t k l b R n j d q r.0 y r.1 z in
          (I.reached vs).1 (
            y.after.values,
            w.1,
            ap (λ x. followed t (at x y.after.values) ns) (sym w.0)
                ∙ sym (followed_some t (at l r.0) n ns y z) ∙ r.2,
          )

  stuck_here : cut_by (guards_of (record_at t.edge_bytes n)) b ≡ none → Stuck t l b (n ∷ ns) 0
  stuck_here q = record {
    before = omega arith;
    sofar = (b.lows, lows_within b R.full, at l b.lows, refl);
    further = λ cs w. followed_none t (at l cs) n [] (none_passes t k l b R n j q cs w);
  }

  stuck_step : (d : Box) → cut_by (guards_of (record_at t.edge_bytes n)) b ≡ some d → (p : ℕ)
      → Stuck t (led_to t n) (moved_box t n d) ns p → Stuck t l b (n ∷ ns) (suc p)
  stuck_step d q p S =
      let s = moved_from t k l b R n j d q S.sofar.0 S.sofar.1 in
      record {
        before = omega (arith, S.before);
        sofar = (
          s.0,
          s.1,
          S.sofar.2,
          followed_some t (at l s.0) n (take p ns) s.2 s.3
              ∙ ap (λ a. followed t a (take p ns)) s.4 ∙ S.sofar.3,
        );
        further = λ cs w. none_on cs w (move_of t (at l cs) n) refl;
      }
    where
      none_on : (cs : List ℕ) → Within cs b → (o : Option (Advance Config)) → move_of t (at l cs) n ≡ o
          → followed t (at l cs) (n ∷ take (suc p) ns) ≡ none
      none_on cs w none z = followed_none t (at l cs) n (take (suc p) ns) z
      none_on cs w (some y) z =
          let v = moved_within t k l b R n j d q cs y w z in
          followed_some t (at l cs) n (take (suc p) ns) y z
          ∙ ap (λ x. followed t (at x y.after.values) (take (suc p) ns)) v.0
          ∙ S.further y.after.values v.1

-- what an outcome says of ranges and a path, where i edges were followed before
abbrev pub Says : Tables → ℕ → ℕ → Box → List ℕ → Ranging → Type 0
Says t i l b ns (follows m c) = Exact t l b ns m c
Says t i l b ns (ends_at p) = (i ≤ p) × Stuck t l b ns (p - i)
Says t i l b ns (refused_at x p) = ⊥

pub along_says : (t : Tables) → keeps_layout t ≡ true → (ns : List ℕ) (i l : ℕ) (b : Box) → Ranges t l b
    → linked_part t l ns ≡ length ns → Says t i l b ns (along t i l b ns)
along_says t k [] i l b R e = exact_here t l b R
along_says t k (n ∷ ns) i l b R e =
    by_cut (cut_by (guards_of (record_at t.edge_bytes n)) b) refl
    (λ d R'. along_says t k ns (suc i) (led_to t n) (moved_box t n d) R' (linked_first t l n ns e).1)
  where
    j : linked t l n ≡ true
    j = (linked_first t l n ns e).0

    later : (d : Box) → cut_by (guards_of (record_at t.edge_bytes n)) b ≡ some d → (o : Ranging)
        → Says t (suc i) (led_to t n) (moved_box t n d) ns o → Says t i l b (n ∷ ns) o
    later d q (follows m c) I = exact_step t k l b R n ns j d q m c I
    later d q (ends_at p) I =
        let z : p - i ≡ suc (p - suc i) = omega (arith, I.0) in (
          omega (arith, I.0),
          subst (Stuck t l b (n ∷ ns)) (sym z) (stuck_step t k l b R n ns j d q (p - suc i) I.1),
        )
    later d q (refused_at x p) I = absurd I

    by_cut : (o : Option Box) → cut_by (guards_of (record_at t.edge_bytes n)) b ≡ o
        → ((d : Box) → Ranges t (led_to t n) (moved_box t n d)
        → Says t (suc i) (led_to t n) (moved_box t n d) ns (along t (suc i) (led_to t n) (moved_box t n d) ns))
        → Says t i l b (n ∷ ns) (along t i l b (n ∷ ns))
    by_cut none q rec =
        let z : i - i ≡ 0 = omega arith in
        subst (Says t i l b (n ∷ ns)) (sym (along_none t i l b n ns q)) (
          omega arith,
          subst (Stuck t l b (n ∷ ns)) (sym z) (stuck_here t k l b R n ns j q),
        )
    by_cut (some d) q rec =
        subst (Says t i l b (n ∷ ns)) (sym (along_some t i l b n ns d q))
        (later d q (along t (suc i) (led_to t n) (moved_box t n d) ns) (rec d (ranges_moved t k l b R n j d q)))

-- Configurations of the automaton that stand in the tables, and configurations that keep the layout: the one is the
-- other without zeros past the last node. The automaton's moves lead from what stands to what stands.
use Prim.Native.Nat.{◌*◌, ◌+◌, ◌-◌, ◌<◌, ◌≤◌, ℕ}
use mathlib.Core.Path.{◌∙◌, ◌≡◌, ap, refl, subst, sym}
use mathlib.Core.Logic.{◌↔◌, inl, inr}
use mathlib.Core.Option.{Option, none, some}
use mathlib.Core.Bool.{◌&&◌, cond, true}
use mathlib.Core.List.{List, ◌++◌, map}
use native.Mathlib.Omega.{arith}
use lib.Dec.{eqb, leb, ltb}
use lib.ListN.{drop, length, length-map, replicate, take}
use lib.Seq.{drop_at, length-take-le, take_at}
use borrow.Author.Tests.{eq-eqb, eqb-true, le-leb, lt-ltb, ltb-false, ltb-true}
use Rattle.model.specs.Base.{all, numbers}
use Rattle.model.specs.Image.{counters_of}
use Rattle.model.specs.Layout.{keeps_layout}
use Rattle.model.specs.Notions.{In}
use Rattle.model.specs.Records.{is_zero, record_at, word}
use Rattle.model.specs.Runs.{Advance, Config, applied, enabled, guards_hold, guards_of, move_of, nodes_at, taken, updates_of}
use Rattle.model.specs.Translate.{Tables}
use Rattle.model.specs.Walking.{configuration_keeps, configuration_of, in_automaton, keeps}
use Rattle.model.specs.Walks.{NotEnabled, Stands}
use Rattle.model.specs.declared.Configuration.{Configuration}
use Rattle.model.proofs.lists.Lists.{all_of, in_map, some_inj, some-none}
use Rattle.model.proofs.lists.Logic.{and_both, and_l, and_r, bool_case, clash}
use Rattle.model.proofs.lists.Numbers.{length_numbers}
use Rattle.model.proofs.images.RoundTrips.{filled_back}
use Rattle.model.proofs.records.Bytes.{filled_length, zeros_pass}
use Rattle.model.proofs.records.LayoutFacts.{could_keeps, layout_kept, layout_nodes}

-- one update for each node of the target
pub updates_number : (j : ℕ) (r : List ℕ) → length (updates_of j r) ≡ j
updates_number j r = length-map (numbers 0 j) (λ i. word r (8 + 2 * i)) ∙ length_numbers 0 j

-- a move that was made was enabled
pub move_enabled : (t : Tables) (a : Config) (n : ℕ) (y : Advance Config) → move_of t a n ≡ some y
    → let r = record_at t.edge_bytes n in
    (n < t.edge_count) × (word r 2 ≡ a.loc) × (guards_hold a.values (guards_of r) ≡ true) × (y ≡ taken t a r)
move_enabled t a n y m = bool_case (enabled t a n)
    (λ e.
    let r = record_at t.edge_bytes n in
    let p = ltb n t.edge_count in
    let q = eqb (word r 2) a.loc in
    let g = guards_hold a.values (guards_of r) in
    let pq = and_l (p && q) g e in
    let z : some (taken t a r) ≡ some y = rw e at m in (
      ltb-true n t.edge_count (and_l p q pq),
      eqb-true (word r 2) a.loc (and_r p q pq),
      and_r (p && q) g e,
      sym (some_inj z),
    ))
    (λ e. let z : none ≡ some y = rw e at m in some-none z)

-- no move is made exactly where the edge isn't in the table, doesn't leave the location or isn't enabled
pub no_move_is : (t : Tables) (a : Config) (n : ℕ) → (move_of t a n ≡ none) ↔ NotEnabled t a n
no_move_is t a n = (none_why, why_none)
  where
    none_why : move_of t a n ≡ none → NotEnabled t a n
    none_why m =
        let r = record_at t.edge_bytes n in
        let p = ltb n t.edge_count in
        let q = eqb (word r 2) a.loc in
        let g = guards_hold a.values (guards_of r) in
        bool_case p
        (λ x. bool_case q
        (λ y. bool_case g
        (λ z. let e : enabled t a n ≡ true = and_both (p && q) g (and_both p q x y) z in
        some-none (sym m ∙ ap (λ b. cond b (some (taken t a r)) none) e))
        (λ z. inr (inr z)))
        (λ y. inr (inl (λ e. clash (eq-eqb (word r 2) a.loc e) y))))
        (λ x. inl (ltb-false n t.edge_count x))

    why_none : NotEnabled t a n → move_of t a n ≡ none
    why_none w = made_none w (move_of t a n) refl
      where
        made_none : NotEnabled t a n → (o : Option (Advance Config)) → move_of t a n ≡ o → move_of t a n ≡ none
        made_none w none m = m
        made_none (inl h) (some y) m = absurd (omega (arith, (move_enabled t a n y m).0))
        made_none (inr (inl h)) (some y) m = absurd (h (move_enabled t a n y m).1)
        made_none (inr (inr h)) (some y) m = clash (move_enabled t a n y m).2 h

module _ (t : Tables) (k : keeps_layout t ≡ true) where
  -- the automaton's moves lead from what stands to what stands
  pub stands_move : (a : Config) (n : ℕ) (y : Advance Config) → Stands t a → move_of t a n ≡ some y → Stands t y.after
  stands_move a n y s m =
      let r = record_at t.edge_bytes n in
      let us = updates_of (nodes_at t (word r 4)) r in
      let e = move_enabled t a n y m in
      let E = layout_kept t k n e.0 in
      let each : (u : ℕ) → In u us → 1 ≤ applied a.values u = λ u i.
      could_keeps (nodes_at t (word r 2)) (guards_of r) u (E.positive u i) a.values
      (s.one_each ∙ ap (nodes_at t) (sym e.1)) s.positive e.2 in
      subst (λ (x : Advance Config). Stands t x.after) (sym e.3) (record {
        is_location = E.target;
        one_each = length-map us (applied a.values) ∙ updates_number (nodes_at t (word r 4)) r;
        positive = all_of (leb 1) (map (applied a.values) us) (λ x i.
            let q = in_map (applied a.values) x us i in
            let o = each q.0 q.1 in
            le-leb 1 x (omega (arith, q.2)));
      })

-- ---- a configuration that keeps the layout

-- with its twelve counters it stands in the tables
pub keeps_stands : (t : Tables) (c : Configuration) → keeps t c ≡ true → length c.counters ≡ 12
    → Stands t (in_automaton t c)
keeps_stands t c h l =
    let j = nodes_at t c.location in
    let k = and_l (keeps_layout t) (configuration_keeps t c) h in
    let g = and_r (keeps_layout t) (configuration_keeps t c) h in
    let p = ltb c.location t.loc_count in
    let q = counters_of j c.counters in
    let b = ltb-true c.location t.loc_count (and_l p q g) in
    let f = layout_nodes t k c.location b in
    record {
      is_location = b;
      one_each = length-take-le j c.counters (omega arith);
      positive = and_l (all (leb 1) (take j c.counters)) (all is_zero (drop j c.counters)) (and_r p q g);
    }

-- and is the configuration of what stands there
pub keeps_back : (t : Tables) (c : Configuration) → keeps t c ≡ true → length c.counters ≡ 12
    → configuration_of (in_automaton t c) ≡ c
keeps_back t c h l =
    let j = nodes_at t c.location in
    let k = and_l (keeps_layout t) (configuration_keeps t c) h in
    let q = and_r (ltb c.location t.loc_count) (counters_of j c.counters)
    (and_r (keeps_layout t) (configuration_keeps t c) h) in
    let f = layout_nodes t k c.location (keeps_stands t c h l).is_location in
    ap (λ vs. record { location = c.location; counters = vs }) (filled_back j c.counters l f
    (and_r (all (leb 1) (take j c.counters)) (all is_zero (drop j c.counters)) q))

module _ (t : Tables) (k : keeps_layout t ≡ true) (a : Config) (s : Stands t a) where
  abbrev zeros : List ℕ
  zeros = replicate (12 - length a.values) 0

  -- what stands keeps the layout, with 0 past the last node
  pub stands_keeps : keeps t (configuration_of a) ≡ true
  stands_keeps =
      let j = nodes_at t a.loc in
      let vs = a.values in
      let w : counters_of j (vs ++ zeros) ≡ true =
      and_both (all (leb 1) (take j (vs ++ zeros))) (all is_zero (drop j (vs ++ zeros)))
      (ap (all (leb 1)) (take_at vs zeros j s.one_each) ∙ s.positive)
      (ap (all is_zero) (drop_at vs zeros j s.one_each) ∙ zeros_pass (12 - length vs)) in
      and_both (keeps_layout t) (configuration_keeps t (configuration_of a)) k
      (and_both (ltb a.loc t.loc_count) (counters_of j (vs ++ zeros))
      (lt-ltb a.loc t.loc_count s.is_location) w)

  -- and is the automaton's configuration again
  pub stands_back : in_automaton t (configuration_of a) ≡ a
  stands_back = ap (λ vs. record { loc = a.loc; values = vs })
      (take_at a.values zeros (nodes_at t a.loc) s.one_each)

  pub stands_length : length (configuration_of a).counters ≡ 12
  stands_length =
      let f = layout_nodes t k a.loc s.is_location in
      filled_length 12 a.values (omega (arith, s.one_each))

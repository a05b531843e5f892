-- One move in tables and a configuration that keep the layout, of twelve counters as they are kept.
use Prim.Native.Nat.{ℕ, zero, suc, ◌+◌, ◌*◌, ◌/◌, ◌%◌, ◌≤◌, ◌<◌}
use mathlib.Core.Path.{◌≡◌, refl, sym, ap, ap₂, subst, ◌∙◌}
use mathlib.Core.Bool.{Bool, true, false, ◌&&◌, ◌||◌, cond, not}
use mathlib.Core.List.{List, [], ◌∷◌, map}
use mathlib.Core.Option.{none, some}
use native.Mathlib.Omega.{arith}
use lib.Dec.{eqb, leb, ltb}
use lib.ListN.{drop, get_or, length, length-drop, length-take, take}
use lib.Seq.{get_or-take}
use borrow.Author.Tests.{eqb-true, le-ltb, lt-ltb, ltb-true}
use Rattle.model.specs.Base.{all}
use Rattle.model.specs.Image.{counters_of}
use Rattle.model.specs.Layout.{guard_there, guard_keeps, keeps_layout}
use Rattle.model.specs.Notions.{In}
use Rattle.model.specs.Records.{GuardCode, filled, is_zero, record_at, word}
use Rattle.model.specs.Runs.{Config, added, applied, enabled, guard_holds, guards_hold, guards_of, move_of, nodes_at, taken, updates_of}
use Rattle.model.specs.Translate.{Tables}
use Rattle.model.specs.Walking.{configuration_keeps, in_automaton, in_counters, keeps, moved, stays_with}
use Rattle.model.specs.declared.Configuration.{Configuration}
use Rattle.model.proofs.lists.Lists.{all_in, map_same}
use Rattle.model.proofs.lists.Logic.{and_l, and_r, and_true, bool_case}
use Rattle.model.proofs.records.LayoutFacts.{EdgeKept, layout_kept, layout_nodes, layout_room}
use Rattle.model.proofs.runs.OneMove.{moved_done, moved_none, moved_over}
use Rattle.moving.specs.Advanced.{Ready, advanced, standing}

-- ---- guards on counters

pub both_hold : (cs : List ℕ) (a b : GuardCode) {gs : List GuardCode} → a ∷ b ∷ [] ≡ gs
    → guard_holds a.test (get_or cs a.node 0) && guard_holds b.test (get_or cs b.node 0) ≡ guards_hold cs gs
both_hold cs a b e =
    ap (λ x. guard_holds a.test (get_or cs a.node 0) && x)
    (sym (and_true (guard_holds b.test (get_or cs b.node 0))))
    ∙ ap (guards_hold cs) e

-- ---- counters of the nodes alone, and with the zeros past them

added_zeros : (m : ℕ) (cs : List ℕ) → all is_zero cs ≡ true → added m cs ≡ 0
added_zeros m [] h = refl
added_zeros m (c ∷ cs) h =
    let z = eqb-true c 0 (and_l (is_zero c) (all is_zero cs) h) in
    let r = added_zeros (m / 2) cs (and_r (is_zero c) (all is_zero cs) h) in
    rw z (omega arith)

added_take : (m k : ℕ) (cs : List ℕ) → all is_zero (drop k cs) ≡ true → added m (take k cs) ≡ added m cs
added_take m zero cs h = sym (added_zeros m cs h)
added_take m (suc k) [] h = refl
added_take m (suc k) (c ∷ cs) h = ap (λ s. m % 2 * c + s) (added_take (m / 2) k cs h)

pub applied_take : (u k : ℕ) (cs : List ℕ) → all is_zero (drop k cs) ≡ true → applied (take k cs) u ≡ applied cs u
applied_take u k cs h = let e = added_take (u % 4096) k cs h in omega arith

-- a guard on one of the nodes
guard_take : (k : ℕ) (cs : List ℕ) (g : GuardCode) → guard_there k g ≡ true
    → guard_holds g.test (get_or (take k cs) g.node 0) ≡ guard_holds g.test (get_or cs g.node 0)
guard_take k cs g h = bool_case (is_zero g.test)
    (λ z. rw z)
    (λ z. let lt : ltb g.node k ≡ true = rw z at h in
    ap (guard_holds g.test) (get_or-take k cs g.node 0 (ltb-true g.node k lt)))

guards_take : (k : ℕ) (cs : List ℕ) (gs : List GuardCode) → all (guard_there k) gs ≡ true
    → guards_hold (take k cs) gs ≡ guards_hold cs gs
guards_take k cs [] h = refl
guards_take k cs (g ∷ gs) h = ap₂ ◌&&◌ (guard_take k cs g (and_l (guard_there k g) (all (guard_there k) gs) h))
    (guards_take k cs gs (and_r (guard_there k g) (all (guard_there k) gs) h))

-- ---- the move

module _ (t : Tables) (c : Configuration) (n : ℕ) (k : keeps t c ≡ true) where
  abbrev r : List ℕ
  r = record_at t.edge_bytes n

  abbrev cs : List ℕ
  cs = c.counters

  abbrev a : Config
  a = in_automaton t c

  layout : keeps_layout t ≡ true
  layout = and_l (keeps_layout t) (configuration_keeps t c) k

  stands : configuration_keeps t c ≡ true
  stands = and_r (keeps_layout t) (configuration_keeps t c) k

  zeros : all is_zero (drop (nodes_at t c.location) cs) ≡ true
  zeros =
      let m = nodes_at t c.location in
      and_r (all (leb 1) (take m cs)) (all is_zero (drop m cs))
      (and_r (ltb c.location t.loc_count) (counters_of m cs) stands)

  -- what is asked of a number below the count
  abbrev pub Leads : Bool
  Leads = eqb (word r 2) c.location && guards_hold cs (guards_of r)

  kept : n < t.edge_count → EdgeKept t.loc_count (nodes_at t (word r 2)) (nodes_at t (word r 4)) r
  kept lt = layout_kept t layout n lt

  enabled_is : n < t.edge_count → enabled t a n ≡ Leads
  enabled_is lt = bool_case (eqb (word r 2) c.location)
      (λ e.
      let at = eqb-true (word r 2) c.location e in
      let g = guards_take (nodes_at t c.location) cs (guards_of r)
      (subst (λ l. all (guard_there (nodes_at t l)) (guards_of r) ≡ true) at (kept lt).guard_nodes) in
      rw (lt-ltb n t.edge_count lt, e) g)
      (λ e. rw (lt-ltb n t.edge_count lt, e))

  pub past_last : t.edge_count ≤ n → stays_with 20 c ≡ moved t c n
  past_last h = sym (moved_none t c n k (ap (λ b. cond b (some (taken t a r)) none)
      (ap (λ b. b && eqb (word r 2) c.location && guards_hold a.values (guards_of r)) (le-ltb n t.edge_count h))))

  pub stuck : n < t.edge_count → Leads ≡ false → stays_with 20 c ≡ moved t c n
  stuck lt e = sym (moved_none t c n k (ap (λ b. cond b (some (taken t a r)) none) (enabled_is lt ∙ e)))

  -- the counters after it are those of all twelve
  values_are : map (applied a.values) (updates_of (nodes_at t (word r 4)) r)
      ≡ map (applied cs) (updates_of (nodes_at t (word r 4)) r)
  values_are = map_same (applied a.values) (applied cs) (updates_of (nodes_at t (word r 4)) r)
      (λ u i. applied_take u (nodes_at t c.location) cs zeros)

  pub goes : n < t.edge_count → Leads ≡ true → advanced r (nodes_at t (word r 4)) c ≡ moved t c n
  goes lt e =
      let vs = map (applied cs) (updates_of (nodes_at t (word r 4)) r) in
      let m : move_of t a n ≡ some (taken t a r) =
      ap (λ b. cond b (some (taken t a r)) none) (enabled_is lt ∙ e) in
      bool_case (in_counters vs)
      (λ i. rw (i, advanced) (ap (λ l. stays_with 0 (standing (word r 4) (filled 12 l))) (sym values_are)
      ∙ sym (moved_done t c n (taken t a r) k m (ap in_counters values_are ∙ i))))
      (λ i. rw (i, advanced) (sym (moved_over t c n (taken t a r) k m (ap in_counters values_are ∙ i))))

  -- what the code asks for
  source_there : c.location < t.loc_count
  source_there = ltb-true c.location t.loc_count
      (and_l (ltb c.location t.loc_count) (counters_of (nodes_at t c.location) cs) stands)

  pub guard_nodes_lem : n < t.edge_count → (g : GuardCode) → In g (guards_of r) → g.node < 12
  guard_nodes_lem lt g i =
      let K = kept lt in
      let few = layout_nodes t layout (word r 2) K.source in
      let ok = all_in guard_keeps (guards_of r) g K.guards i in
      let there = all_in (guard_there (nodes_at t (word r 2))) (guards_of r) g K.guard_nodes i in
      bool_case (is_zero g.test)
      (λ z. let q = and_r (leb g.test 2) (not (is_zero g.test) || is_zero g.node) ok in
      let e : is_zero g.node ≡ true = rw z at q in
      omega (arith, eqb-true g.node 0 e))
      (λ z. let l : ltb g.node (nodes_at t (word r 2)) ≡ true = rw z at there in
      omega (arith, ltb-true g.node (nodes_at t (word r 2)) l))

  pub in_table : n < t.edge_count → 32 * n + 32 ≤ length t.edge_bytes
  in_table lt = let m = layout_room t layout in omega arith

  pub ready : n < t.edge_count → Ready r t.loc_bytes c.location cs
  ready lt =
      let m = layout_room t layout in
      let K = kept lt in
      let i = in_table lt in
      record {
        whole = simp (length-take, length-drop) (omega arith);
        target = omega (arith, K.target);
        few = layout_nodes t layout (word r 4) K.target;
        source = omega (arith, source_there);
        zeros = zeros;
      }

-- What tables that keep the layout have: the clauses of the layout read out, record by record.
use Prim.Native.Nat.{◌*◌, ◌+◌, ◌/◌, ◌<◌, ◌≤◌, ℕ}
use mathlib.Core.Path.{◌≡◌, refl}
use mathlib.Core.Bool.{Bool, ◌&&◌, cond, false, not, true}
use mathlib.Core.List.{List, [], ◌∷◌}
use native.Mathlib.Nat.{min-le_right}
use native.Mathlib.Omega.{arith}
use lib.Dec.{eqb, leb, ltb}
use lib.ListN.{drop, get_or, length, length-drop, length-take, take}
use lib.Seq.{get_or-drop}
use borrow.Author.Tests.{eqb-true, leb-true, ltb-false, ltb-true}
use Rattle.model.specs.Base.{all, numbers}
use Rattle.model.specs.Layout.{added_once, bytes_keep, constant_keeps, could_fall, counters_there, edge_keeps, edge_keeps_in, ends_keep, guard_keeps, guard_there, keeps_layout, location_keeps, nodes_keep}
use Rattle.model.specs.Notions.{In}
use Rattle.model.specs.Part.{counts_in_places, in_places}
use Rattle.model.specs.Records.{GuardCode, byte, is_zero, record_at, shape_fields, value_byte, word}
use Rattle.model.specs.Runs.{applied, guards_hold, guards_of, nodes_at, updates_of}
use Rattle.model.specs.Translate.{Tables, places}
use Rattle.model.proofs.lists.Lists.{all_in}
use Rattle.model.proofs.records.Falls.{could_fall_is}
use Rattle.model.proofs.lists.Logic.{and_l, and_r, bool_case, clash, not-false}
use Rattle.model.proofs.lists.Numbers.{numbers_in}

-- ---- the tables

module _ (t : Tables) (k : keeps_layout t ≡ true) where
  abbrev locations_keep : Bool
  locations_keep = all (λ n. location_keeps (record_at t.loc_bytes n)) (numbers 0 t.loc_count)

  abbrev edges_keep : Bool
  edges_keep = all (λ n. edge_keeps_in t (record_at t.edge_bytes n)) (numbers 0 t.edge_count)

  -- neither count exceeds its table's places
  pub layout_counts : counts_in_places t ≡ true
  unfolding keeps_layout
  layout_counts = and_l (counts_in_places t) locations_keep (and_l (counts_in_places t && locations_keep) edges_keep k)

  -- each location and each edge in use keeps the layout
  pub layout_location : (i : ℕ) → i < t.loc_count → location_keeps (record_at t.loc_bytes i) ≡ true
  unfolding keeps_layout
  layout_location i h =
      all_in (λ n. location_keeps (record_at t.loc_bytes n)) (numbers 0 t.loc_count) i
      (and_r (counts_in_places t) locations_keep (and_l (counts_in_places t && locations_keep) edges_keep k))
      (numbers_in 0 t.loc_count i (omega arith) (omega arith))

  pub layout_edge : (n : ℕ) → n < t.edge_count → edge_keeps_in t (record_at t.edge_bytes n) ≡ true
  unfolding keeps_layout
  layout_edge n h =
      all_in (λ n. edge_keeps_in t (record_at t.edge_bytes n)) (numbers 0 t.edge_count) n
      (and_r (counts_in_places t && locations_keep) edges_keep k)
      (numbers_in 0 t.edge_count n (omega arith) (omega arith))

-- ---- a location

-- the first of bytes that are all zero, or of none
first_zero : (l : List ℕ) → all is_zero l ≡ true → get_or l 0 0 ≡ 0
first_zero [] h = refl
first_zero (x ∷ l) h = eqb-true x 0 (and_l (is_zero x) (all is_zero l) h)

-- a record that keeps the layout has at most 12 nodes: those of its shape, and at a fault none
pub location_few : (r : List ℕ) → location_keeps r ≡ true → byte r 3 ≤ 12
location_few r h = bool_case (is_zero (byte r 2))
    (λ e. let f : shape_fields r ≡ true = rw e at rest in
    leb-true (byte r 3) 12 (and_l (leb (byte r 3) 12) (all (value_byte (byte r 3)) (take (6 + byte r 3) (drop 4 r)))
    (and_l (leb (byte r 3) 12 && all (value_byte (byte r 3)) (take (6 + byte r 3) (drop 4 r)))
    (all is_zero (drop (10 + byte r 3) r)) f)))
    (λ e. let f : all is_zero (drop 3 r) ≡ true = rw e at rest in
    let z = first_zero (drop 3 r) f in let g = get_or-drop 3 r 0 0 in omega arith)
  where
    rest : cond (is_zero (byte r 2)) (shape_fields r) (all is_zero (drop 3 r)) ≡ true
    rest = and_r (eqb (byte r 0) 0x4c && ltb (byte r 1) 64 && leb (byte r 2) 3)
        (cond (is_zero (byte r 2)) (shape_fields r) (all is_zero (drop 3 r))) h

pub layout_nodes : (t : Tables) → keeps_layout t ≡ true → (i : ℕ) → i < t.loc_count → nodes_at t i ≤ 12
layout_nodes t k i h = location_few (record_at t.loc_bytes i) (layout_location t k i h)

-- a count within its table's places
pub places_hold : (most n bytes : ℕ) → in_places most n bytes ≡ true → 32 * n ≤ bytes
places_hold most n bytes h =
    let p = min-le_right most (bytes / 32) in let l = leb-true n (places most bytes) h in omega arith

-- the records in use are within their tables
pub layout_room : (t : Tables) → keeps_layout t ≡ true
    → (32 * t.loc_count ≤ length t.loc_bytes) × (32 * t.edge_count ≤ length t.edge_bytes)
layout_room t k =
    let p = in_places 1024 t.loc_count (length t.loc_bytes) in
    let q = in_places 2048 t.edge_count (length t.edge_bytes) in (
      places_hold 1024 t.loc_count (length t.loc_bytes) (and_l p q (layout_counts t k)),
      places_hold 2048 t.edge_count (length t.edge_bytes) (and_r p q (layout_counts t k)),
    )

pub layout_whole : (t : Tables) → keeps_layout t ≡ true → (i : ℕ) → i < t.loc_count
    → length (record_at t.loc_bytes i) ≡ 32
layout_whole t k i h = let r = layout_room t k in simp (length-take, length-drop) (omega arith)

-- ---- an edge

-- the clauses for an edge's record among n locations, its source with ks nodes and its target with kt
pub record EdgeKept (n ks kt : ℕ) (r : List ℕ) : Type 0 where
  pub source : word r 2 < n
  pub target : word r 4 < n
  pub kind : byte r 0 ≡ 0x45
  pub spare : byte r 1 < 128
  pub guards : all guard_keeps (guards_of r) ≡ true
  pub constants : all constant_keeps (updates_of kt r) ≡ true
  pub absent : all is_zero (drop (8 + 2 * kt) r) ≡ true
  pub guard_nodes : all (guard_there ks) (guards_of r) ≡ true
  pub counter_nodes : all (counters_there ks) (updates_of kt r) ≡ true
  pub once : added_once (updates_of kt r) ≡ true
  pub positive : (u : ℕ) → In u (updates_of kt r) → could_fall ks (guards_of r) u ≡ false

pub edge_kept : (n ks kt : ℕ) (r : List ℕ) → edge_keeps n ks kt r ≡ true → EdgeKept n ks kt r
edge_kept n ks kt r h =
    let us = updates_of kt r in
    let gs = guards_of r in
    let E = ends_keep n r in
    let B = bytes_keep kt r in
    let N = nodes_keep ks kt r in
    let O = added_once us in
    let P = all (λ u. not (could_fall ks gs u)) us in
    let h4 = and_l (E && B && N && O) P h in
    let h3 = and_l (E && B && N) O h4 in
    let h2 = and_l (E && B) N h3 in
    let e = and_l E B h2 in
    let b = and_r E B h2 in
    let m = and_r (E && B) N h3 in
    let b0 = eqb (byte r 0) 0x45 in
    let b1 = ltb (byte r 1) 128 in
    let b2 = all guard_keeps gs in
    let b3 = all constant_keeps us in
    let b4 = all is_zero (drop (8 + 2 * kt) r) in
    let c3 = and_l (b0 && b1 && b2 && b3) b4 b in
    let c2 = and_l (b0 && b1 && b2) b3 c3 in
    let c1 = and_l (b0 && b1) b2 c2 in
    record {
      source = ltb-true (word r 2) n (and_l (ltb (word r 2) n) (ltb (word r 4) n) e);
      target = ltb-true (word r 4) n (and_r (ltb (word r 2) n) (ltb (word r 4) n) e);
      kind = eqb-true (byte r 0) 0x45 (and_l b0 b1 c1);
      spare = ltb-true (byte r 1) 128 (and_r b0 b1 c1);
      guards = and_r (b0 && b1) b2 c2;
      constants = and_r (b0 && b1 && b2) b3 c3;
      absent = and_r (b0 && b1 && b2 && b3) b4 b;
      guard_nodes = and_l (all (guard_there ks) gs) (all (counters_there ks) us) m;
      counter_nodes = and_r (all (guard_there ks) gs) (all (counters_there ks) us) m;
      once = and_r (E && B && N) O h4;
      positive = λ u i. not-false (could_fall ks gs u)
          (all_in (λ v. not (could_fall ks gs v)) us u (and_r (E && B && N && O) P h) i);
    }

-- edge n of tables that keep the layout
pub layout_kept : (t : Tables) → keeps_layout t ≡ true → (n : ℕ) → n < t.edge_count
    → let r = record_at t.edge_bytes n in
    EdgeKept t.loc_count (nodes_at t (word r 2)) (nodes_at t (word r 4)) r
layout_kept t k n h =
    let r = record_at t.edge_bytes n in
    edge_kept t.loc_count (nodes_at t (word r 2)) (nodes_at t (word r 4)) r (layout_edge t k n h)

-- ---- updates

-- an update that could not fall gives 1 or more from counters of 1 or more under its guards
pub could_keeps : (k : ℕ) (gs : List GuardCode) (u : ℕ) → could_fall k gs u ≡ false
    → (cs : List ℕ) → length cs ≡ k → all (leb 1) cs ≡ true → guards_hold cs gs ≡ true → 1 ≤ applied cs u
could_keeps k gs u e cs l p g = bool_case (ltb (applied cs u) 1)
    (λ z. clash ((could_fall_is k gs u).1 (cs, l, p, g, ltb-true (applied cs u) 1 z)) e)
    (λ z. ltb-false (applied cs u) 1 z)

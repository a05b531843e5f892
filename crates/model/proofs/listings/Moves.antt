-- The automaton read from the bytes of the tables: its moves are the listing's edges, and its locations read as they
-- were written.
use Prim.Native.Nat.{◌<◌, ◌≤◌, ℕ}
use mathlib.Core.Path.{◌∙◌, ◌≡◌, ap, refl, sym}
use mathlib.Core.Option.{some}
use mathlib.Core.Bool.{◌&&◌, true}
use mathlib.Core.List.{List, [], map, map-map}
use native.Mathlib.Omega.{arith}
use lib.Dec.{eqb, ltb}
use lib.ListN.{length, length-map}
use borrow.Author.Tests.{eq-eqb, eqb-true, lt-ltb, ltb-true}
use Rattle.model.specs.Base.{numbers}
use Rattle.model.specs.Edges.{Loc, at, failed}
use Rattle.model.specs.Machine.{leak}
use Rattle.model.specs.Records.{byte, edge_record, loc_record, record_at, update_code, word}
use Rattle.model.specs.Runs.{Config, Advance, applied, enabled, leaves, move_of, nodes_at, taken, updates_of, guards_hold, guards_of}
use Rattle.model.specs.Translate.{Link, Listing, Routine, Tables, link_record, tables_of}
use Rattle.model.proofs.records.Bytes.{applied_code, records_wide, table_record}
use Rattle.model.proofs.records.Checked.{GoodStarts}
use Rattle.model.proofs.records.EdgeBack.{edge_branch, edge_from, edge_length_lem, edge_to, edge_updates, edge_guards}
use Rattle.model.proofs.listings.Exact.{LinkGood, link_good}
use Rattle.model.specs.Listings.{Exact, WritableLoc, link_at, loc_at, no_link, GoodLoc}
use Rattle.model.specs.Notions.{In, SmallEdge, nodes_of, worth, guards_on}
use Rattle.model.proofs.lists.Lists.{any_find, any_in, get_or_in_lem, get_or_map, map_same, some_inj, some-none}
use Rattle.model.proofs.lists.Logic.{and_both, and_l, and_r, bool_case}
use Rattle.model.proofs.lists.Numbers.{in_numbers, numbers_in}
use Rattle.model.proofs.listings.Reached.{good_edge, reached_good}
use Rattle.model.proofs.records.ReadBack.{canon_writable, record_length}

-- the move by an edge
abbrev pub by_link : Config → Link → Advance Config
by_link c k = record {
  branch_no = k.edge.branch_no;
  after = record { loc = k.dest; values = map (worth c.values) k.edge.updates };
}

pub good_writable : (l : Loc) → GoodLoc l → WritableLoc l
good_writable (at s h) g = canon_writable h g.0 g.1
good_writable (failed s f) g = tt

pub nodes_few : (l : Loc) → GoodLoc l → nodes_of l ≤ 12
nodes_few (at s h) g = (canon_writable h g.0 g.1).few
nodes_few (failed s f) g = omega arith

record_nodes : (l : Loc) → byte (loc_record l) 3 ≡ nodes_of l
record_nodes (at s h) = refl
record_nodes (failed s f) = refl

module _ (r : Routine) (t : Listing) (X : Exact r t) (G : GoodStarts r) (a b : ℕ) where
  abbrev T : Tables
  T = tables_of a b t

  pub loc_good : (i : ℕ) → i < length t.locs → GoodLoc (loc_at t.locs i)
  loc_good i h = reached_good r G (loc_at t.locs i)
      (X.sound (loc_at t.locs i) (get_or_in_lem t.locs (failed 0 leak) i h))

  pub link_facts : (n : ℕ) → n < length t.links → LinkGood r.stmts t (link_at t n)
  link_facts n h = link_good r t X (link_at t n) (get_or_in_lem t.links no_link n h)

  pub link_small : (k : Link) → LinkGood r.stmts t k → SmallEdge (nodes_of (loc_at t.locs k.from)) k.edge
      × GoodLoc k.edge.to
  link_small k L = good_edge r.stmts (loc_at t.locs k.from) (loc_good k.from L.from_below) k.edge
      L.edge_of

  -- records of the tables
  pub locs_wide : (x : List ℕ) → In x (map loc_record t.locs) → length x ≡ 32
  locs_wide = records_wide loc_record t.locs
      (λ l q. record_length l (good_writable l (reached_good r G l (X.sound l q))))

  pub links_wide : (x : List ℕ) → In x (map link_record t.links) → length x ≡ 32
  links_wide = records_wide link_record t.links (λ k q.
      let s = link_small k (link_good r t X k q) in
      edge_length_lem k.from k.dest k.edge (omega (arith, s.0.number, nodes_few k.edge.to s.1)))

  pub loc_record_lem : (i : ℕ) → i < length t.locs → record_at T.loc_bytes i ≡ loc_record (loc_at t.locs i)
  loc_record_lem i h =
      table_record a (map loc_record t.locs) i locs_wide (omega (arith, length-map t.locs loc_record))
      ∙ get_or_map loc_record t.locs i (failed 0 leak) [] h

  pub loc_nodes : (i : ℕ) → i < length t.locs → nodes_at T i ≡ nodes_of (loc_at t.locs i)
  loc_nodes i h = ap (λ x. byte x 3) (loc_record_lem i h) ∙ record_nodes (loc_at t.locs i)

  pub edge_record_lem : (n : ℕ) → n < length t.links → record_at T.edge_bytes n ≡ link_record (link_at t n)
  edge_record_lem n h =
      table_record b (map link_record t.links) n links_wide (omega (arith, length-map t.links link_record))
      ∙ get_or_map link_record t.links n no_link [] h

  edge_word : (n : ℕ) → n < length t.links → word (record_at T.edge_bytes n) 2 ≡ (link_at t n).from
  edge_word n h = let k = link_at t n in ap (λ x. word x 2) (edge_record_lem n h) ∙ edge_from k.from k.dest k.edge

  pub from_few : (n : ℕ) → n < length t.links → nodes_of (loc_at t.locs (link_at t n).from) ≤ 12
  from_few n h =
      let i = (link_at t n).from in nodes_few (loc_at t.locs i) (loc_good i (link_facts n h).from_below)

  edge_on : (n : ℕ) (cs : List ℕ) → n < length t.links
      → guards_hold cs (guards_of (record_at T.edge_bytes n)) ≡ guards_on (link_at t n).edge.guards cs
  edge_on n cs h =
      let k = link_at t n in
      ap (λ x. guards_hold cs (guards_of x)) (edge_record_lem n h)
      ∙ (let S = (link_small k (link_facts n h)).0 in
      edge_guards k.from k.dest (nodes_of (loc_at t.locs k.from)) k.edge S.branch S.guarded
      (omega (arith, from_few n h)) cs)

  -- taking an edge
  taken_along : (n : ℕ) (c : Config) → n < length t.links → taken T c (record_at T.edge_bytes n)
      ≡ by_link c (link_at t n)
  taken_along n c h =
      let k = link_at t n in
      let L = link_facts n h in
      let S = link_small k L in
      let R = edge_record k.from k.dest k.edge in
      let us = k.edge.updates in
      let few = from_few n h in
      let nodes : nodes_at T k.dest ≡ length us =
      loc_nodes k.dest L.dest_below ∙ ap nodes_of L.dest_is ∙ sym S.0.number in
      let worths : map (applied c.values) (map update_code us) ≡ map (worth c.values) us =
      map-map (applied c.values) update_code us
      ∙ map_same (λ u. applied c.values (update_code u)) (worth c.values) us
      (λ u i. let s = S.0.small u i in applied_code u c.values (let z = s.1 in omega arith) (let z = s.0 in
      omega arith)) in
      let vals : map (applied c.values) (updates_of (nodes_at T (word R 4)) R) ≡ map (worth c.values) us =
      ap (λ m. map (applied c.values) (updates_of m R)) (ap (nodes_at T) (edge_to k.from k.dest k.edge)
      ∙ nodes)
      ∙ ap (map (applied c.values)) (edge_updates k.from k.dest k.edge) ∙ worths in
      ap (taken T c) (edge_record_lem n h)
      ∙ (λ i. record {
        branch_no = edge_branch k.from k.dest (nodes_of (loc_at t.locs k.from)) k.edge S.0.branch
            S.0.guarded (omega arith) i;
        after = record { loc = edge_to k.from k.dest k.edge i; values = vals i };
      })

  pub move_of_lem : (n : ℕ) (c : Config) → n < length t.links → (link_at t n).from ≡ c.loc
      → guards_on (link_at t n).edge.guards c.values ≡ true
      → move_of T c n ≡ some (by_link c (link_at t n))
  move_of_lem n c h f g =
      let e : enabled T c n ≡ true = and_both (ltb n (length t.links) && eqb (word (record_at T.edge_bytes n) 2)
      c.loc) _
      (and_both (ltb n (length t.links)) (eqb (word (record_at T.edge_bytes n) 2) c.loc)
      (lt-ltb n (length t.links) h)
      (eq-eqb (word (record_at T.edge_bytes n) 2) c.loc (edge_word n h ∙ f)))
      (edge_on n c.values h ∙ g) in
      rw e (ap some (taken_along n c h))

  pub move_some : (n : ℕ) (c : Config) (y : Advance Config) → move_of T c n ≡ some y
      → (n < length t.links) × ((link_at t n).from ≡ c.loc) × (guards_on (link_at t n).edge.guards c.values
      ≡ true) × (y ≡ by_link c (link_at t n))
  move_some n c y m = bool_case (enabled T c n)
      (λ e.
      let p = ltb n (length t.links) in
      let q = eqb (word (record_at T.edge_bytes n) 2) c.loc in
      let g = guards_hold c.values (guards_of (record_at T.edge_bytes n)) in
      let pq = and_l (p && q) g e in
      let h = ltb-true n (length t.links) (and_l p q pq) in (
        h,
        sym (edge_word n h) ∙ eqb-true (word (record_at T.edge_bytes n) 2) c.loc (and_r p q pq),
        sym (edge_on n c.values h) ∙ and_r (p && q) g e,
        sym (some_inj (rw e at m)) ∙ taken_along n c h,
      ))
      (λ e. some-none (rw e at m))

  -- an edge leaves a location
  pub leaves_link : (i : ℕ) → leaves T i ≡ true → (n : ℕ) × (n < length t.links) × ((link_at t n).from ≡ i)
  leaves_link i h =
      let q = any_find (λ n. eqb (word (record_at T.edge_bytes n) 2) i) (numbers 0 (length t.links)) h in
      let lt : q.0 < length t.links = omega (arith, in_numbers 0 (length t.links) q.0 q.1) in
      (q.0, lt, sym (edge_word q.0 lt) ∙ eqb-true (word (record_at T.edge_bytes q.0) 2) i q.2)

  pub link_leaves : (n : ℕ) → n < length t.links → leaves T (link_at t n).from ≡ true
  link_leaves n h = any_in (λ m. eqb (word (record_at T.edge_bytes m) 2) (link_at t n).from)
      (numbers 0 (length t.links)) n
      (numbers_in 0 (length t.links) n (omega arith) (omega arith))
      (eq-eqb (word (record_at T.edge_bytes n) 2) (link_at t n).from (edge_word n h))

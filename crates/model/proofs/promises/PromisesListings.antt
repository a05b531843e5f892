-- The promises of demand 2 about locations, edges, listings, places, records and expansions. Each is a type; its proof
-- under it cites a law.
use Prim.Native.Nat.{◌+◌, ◌-◌, ◌<◌, ◌≤◌, ℕ}
use mathlib.Core.Path.{◌≡◌, refl}
use mathlib.Core.Logic.{◌↔◌, ◌⊎◌}
use mathlib.Core.Bool.{false, true}
use mathlib.Core.List.{List, [], ◌∷◌, map}
use native.Mathlib.Omega.{arith}
use lib.ListN.{drop, length, replicate}
use Rattle.model.specs.Base.{mem}
use Rattle.model.specs.Edges.{Edge, Loc, Update, at, edges_of, failed, split_heap, view}
use Rattle.model.specs.Heap.{Heap, IsHeap, in_use, kept, next, order}
use Rattle.model.specs.Machine.{Fault, Op, Stmt, effect, fault_number, action}
use Rattle.model.specs.Records.{byte, edge_record, guard_code, is_s, layout_h, loc_record, record_at, refusal, refusal_s, shape_of, shape_record, stmt_of, update_code, word, Refusal, is_accepted, is_refused}
use Rattle.model.specs.Runs.{applied, branch_of, guards_of, updates_of}
use Rattle.model.specs.Shape.{Seg, cells, core, counters, segments, shape}
use Rattle.model.specs.Translate.{Listing, Routine, check, good, link_record, places, tables_of, translate}
use Rattle.model.proofs.records.Bytes.{applied_code, code_below}
use Rattle.model.proofs.records.Checked.{check_good}
use Rattle.model.proofs.expansion.Cores.{core_head, core_inner}
use Rattle.model.proofs.records.EdgeBack.{edge_bit, edge_branch, edge_codes, edge_from, edge_length_lem, edge_to, edge_updates}
use Rattle.model.proofs.expansion.Effects.{effect_alike, exp_split}
use Rattle.model.proofs.expansion.Facts.{heap_closed, heap_kept, kept_same, unused_of, used_of}
use Rattle.model.proofs.expansion.Folds.{counters_grow, fold_same, order_cat}
use Rattle.model.proofs.listings.Exact.{full_exact}
use Rattle.model.proofs.listings.FullListing.{full_exists}
use Rattle.model.specs.Listings.{Exact, GoodLoc, IsFull, Reached, Refused, UnusedZero, Writable, WritableLoc, link_at, loc_at, stmt_record}
use Rattle.model.specs.Notions.{In, Pairs, AddApart, Alike, Exclude, Expansion, Positive, Room, SmallEdge, SmallGuards, cat, flagged, nodes_of, seg_at, sg_after, statement_of, total, upd, seg, guards_on, Alone}
use Rattle.model.proofs.listings.Moves.{good_writable, nodes_few}
use Rattle.model.proofs.listings.Once.{good_once}
use Rattle.model.proofs.listings.Outcomes.{accepted_exact, fits_accepted, full_one, is_accepted_lem, records_distinct, refused_says, tables_hold}
use Rattle.model.proofs.listings.Reached.{good_cover, good_edge, good_exclude, reached_good, reached_stmt}
use Rattle.model.proofs.records.ReadBack.{failed_fault, failed_length, failed_statement, location_fault, location_length, location_nodes, location_shape, location_statement, shape_length, shape_shape}
use Rattle.model.proofs.records.Refusals.{accepted_input}
use Rattle.model.proofs.records.ShapeBack.{layout_writable, shape_record_back}
use Rattle.model.proofs.expansion.Start.{start}
use Rattle.model.proofs.records.Statements.{record_back, statement_back}

-- ==== locations and edges: of every location that is reached in an accepted input

-- "A location is a statement with a shape, or a statement with a fault.": one of the routine's statements; a shape that
-- is closed, with every node reachable, core and numbered at first visit, six pointers and at most twelve nodes
abbrev pub LocationsAre : Type 0
LocationsAre = (s : List ℕ) (r : Routine) → check s ≡ good r → (l : Loc) → Reached r.stmts r.starts l
    → (statement_of l < length r.stmts) × GoodLoc l × (nodes_of l ≤ 12)

pub locations_are : LocationsAre
locations_are s r e l p = let g = reached_good r (check_good s r e) l p in
    (reached_stmt s r (accepted_input s r e) l p, g, nodes_few l g)

-- What a record holds is all of an edge: branch 0 or 1; two guards at most, on nodes of its location; one update for
-- each new node, with a flag for each old one; "bits 12 and 13 the constant (−1, 0 or 1) plus one".
abbrev pub EdgesSmall : Type 0
EdgesSmall = (s : List ℕ) (r : Routine) → check s ≡ good r → (l : Loc) → Reached r.stmts r.starts l → (E : Edge)
    → In E (edges_of r.stmts l) → SmallEdge (nodes_of l) E

pub edges_small : EdgesSmall
edges_small s r e l p E i = (good_edge r.stmts l (reached_good r (check_good s r e) l p) E i).0

-- each old counter is added in at most one update of an edge
abbrev pub CountersOnce : Type 0
CountersOnce = (s : List ℕ) (r : Routine) → check s ≡ good r → (l : Loc) → Reached r.stmts r.starts l
    → (E : Edge) → In E (edges_of r.stmts l)
    → Pairs AddApart E.updates

pub counters_once : CountersOnce
counters_once s r e l p = good_once r.stmts l (reached_good r (check_good s r e) l p)

-- the guards of the edges of one branch exclude each other, and leave nothing out
abbrev pub GuardsExclude : Type 0
GuardsExclude = (s : List ℕ) (r : Routine) → check s ≡ good r → (l : Loc) → Reached r.stmts r.starts l
    → Pairs Exclude (edges_of r.stmts l)

pub guards_exclude : GuardsExclude
guards_exclude s r e l p = good_exclude r.stmts l (reached_good r (check_good s r e) l p)

abbrev pub GuardsCover : Type 0
GuardsCover = (s : List ℕ) (r : Routine) → check s ≡ good r → (l : Loc) → Reached r.stmts r.starts l
    → (cs : List ℕ) → length cs ≡ nodes_of l → Positive cs → (E : Edge) → In E (edges_of r.stmts l)
    → (D : Edge) × In D (edges_of r.stmts l) × (D.branch_no ≡ E.branch_no) × (guards_on D.guards cs ≡ true)

pub guards_cover : GuardsCover
guards_cover s r e l p = good_cover r.stmts l (reached_good r (check_good s r e) l p)

-- ==== the listing

-- an accepted translation is one of an accepted input
abbrev pub AcceptedIsChecked : Type 0
AcceptedIsChecked = (s : List ℕ) (a b : ℕ) → (translate s a b).verdict ≡ is_accepted → (r : Routine)
    × (check s ≡ good r)

pub accepted_is_checked : AcceptedIsChecked
accepted_is_checked s a b z = let A = is_accepted_lem s a b z in (A.0, A.2)

-- "The starting shapes are locations 0 on, in input order. Locations are explored by number; each new target takes the
-- next number; edges stand in the order found." The tables hold every location that is reached, no other, each once,
-- and every edge of each; and the counts are theirs.
abbrev pub ListingExact : Type 0
ListingExact = (s : List ℕ) (a b : ℕ) (r : Routine) → check s ≡ good r → (translate s a b).verdict ≡ is_accepted
    → (t : Listing) × Exact r t × ((translate s a b).tables ≡ tables_of a b t)

pub listing_is_exact : ListingExact
listing_is_exact = accepted_exact

-- 11 and 12: a routine is translated exactly when its full listing has places; the full listing is one, whatever the
-- places
abbrev pub FitsIsAccepted : Type 0
FitsIsAccepted = (s : List ℕ) (a b : ℕ) (r : Routine) (t : Listing) → check s ≡ good r → IsFull r t
    → ((translate s a b).verdict ≡ is_accepted) ↔ ((length t.locs ≤ places 1024 a)
    × (length t.links ≤ places 2048 b))

pub fits_is_accepted : FitsIsAccepted
fits_is_accepted = fits_accepted

abbrev pub OneListing : Type 0
OneListing = (s : List ℕ) (r : Routine) → check s ≡ good r → (t : Listing) × IsFull r t
    × ((u : Listing) → IsFull r u → u ≡ t)

pub one_full_listing : OneListing
one_full_listing s r e = let f = full_exists s r e in (f.0, f.1, λ u k. full_one r u f.0 k f.1)

-- and it is exact, whether or not any tables have places for it
abbrev pub FullIsExact : Type 0
FullIsExact = (s : List ℕ) (r : Routine) (t : Listing) → check s ≡ good r → IsFull r t → Exact r t

pub full_is_exact : FullIsExact
full_is_exact s r t e = full_exact r t (check_good s r e).distinct

-- "for 11 and 12 the number of the location being explored, or, while starting shapes are entered, the number, from 0
-- among them, of the shape that found no place"; "For each edge, its target's place comes before its own."
abbrev pub NoPlaceSays : Type 0
NoPlaceSays = (s : List ℕ) (a b : ℕ) (r : Routine) (x : Refusal) → check s ≡ good r → (translate s a b).verdict
    ≡ is_refused x
    → ((places 1024 a < length r.starts) × (x ≡ refusal 11 (places 1024 a)))
    ⊎ Refused r.stmts r.starts (places 1024 a) (places 2048 b) x

pub no_place_says : NoPlaceSays
no_place_says = refused_says

-- ==== records

-- record i of a table is that of location i or of edge i
abbrev pub TablesHold : Type 0
TablesHold = (s : List ℕ) (r : Routine) (a b : ℕ) (t : Listing) → check s ≡ good r → Exact r t
    → ((i : ℕ) → i < length t.locs → record_at (tables_of a b t).loc_bytes i ≡ loc_record (loc_at t.locs i))
    × ((n : ℕ) → n < length t.links → record_at (tables_of a b t).edge_bytes n ≡ link_record (link_at t n))

pub tables_hold_records : TablesHold
tables_hold_records = tables_hold

-- no two locations of a table have equal records
abbrev pub RecordsDistinct : Type 0
RecordsDistinct = (s : List ℕ) (a b i j : ℕ) → (translate s a b).verdict ≡ is_accepted
    → i < (translate s a b).tables.loc_count → j < (translate s a b).tables.loc_count
    → record_at (translate s a b).tables.loc_bytes i ≡ record_at (translate s a b).tables.loc_bytes j → i ≡ j

pub records_are_distinct : RecordsDistinct
records_are_distinct = records_distinct

-- every location that is reached can be written
abbrev pub ReachedWritable : Type 0
ReachedWritable = (s : List ℕ) (r : Routine) → check s ≡ good r → (l : Loc) → Reached r.stmts r.starts l
    → WritableLoc l

pub reached_writable : ReachedWritable
reached_writable s r e l p = good_writable l (reached_good r (check_good s r e) l p)

-- a location's record has 32 bytes and is read back: statement, fault, node count and shape
abbrev pub LocationReadBack : Type 0
LocationReadBack = (n : ℕ) (h : Heap) → Writable h → (length (loc_record (at n h)) ≡ 32)
    × (byte (loc_record (at n h)) 1 ≡ n)
    × (byte (loc_record (at n h)) 2 ≡ 0) × (byte (loc_record (at n h)) 3 ≡ length h.slots)
    × (shape_of (loc_record (at n h)) ≡ h)

pub location_read_back : LocationReadBack
location_read_back n h W = (
  location_length n h W,
  location_statement n h,
  location_fault n h,
  location_nodes n h,
  location_shape n h W,
)

-- "For a fault, the statement is the one that faulted and bytes 3 to 31 are zero."
abbrev pub FaultReadBack : Type 0
FaultReadBack = (n : ℕ) (f : Fault) → (length (loc_record (failed n f)) ≡ 32) × (byte (loc_record (failed n f)) 1 ≡ n)
    × (byte (loc_record (failed n f)) 2 ≡ fault_number f) × (drop 3 (loc_record (failed n f)) ≡ replicate 29 0)

pub fault_read_back : FaultReadBack
fault_read_back n f = (failed_length n f, failed_statement n f, failed_fault n f, refl)

-- an edge's record has 32 bytes and is read back: branch, ends, both guards and updates; bit 7 of byte 1 is zero
abbrev pub EdgeReadBack : Type 0
EdgeReadBack = (from to : ℕ) (e : Edge) → length e.updates ≤ 12 → e.branch_no ≤ 1 → SmallGuards 12 e.guards
    → (length (edge_record from to e) ≡ 32) × (branch_of (edge_record from to e) ≡ e.branch_no)
    × (word (edge_record from to e) 2 ≡ from)
    × (word (edge_record from to e) 4 ≡ to)
    × (guards_of (edge_record from to e) ≡ guard_code e.guards 0 ∷ guard_code e.guards 1 ∷ [])
    × (byte (edge_record from to e) 1 < 128)
    × (updates_of (length e.updates) (edge_record from to e) ≡ map update_code e.updates)

pub edge_read_back : EdgeReadBack
edge_read_back from to e h b g = (
  edge_length_lem from to e h,
  edge_branch from to 12 e b g (omega arith),
  edge_from from to e,
  edge_to from to e,
  edge_codes from to 12 e b g (omega arith),
  edge_bit from to 12 e b g (omega arith),
  edge_updates from to e,
)

-- "each new counter its constant plus the old counters that it adds", from the code of an update; its bits 14 and 15
-- are zero
abbrev pub UpdateReadBack : Type 0
UpdateReadBack = (u : Update) (cs : List ℕ) → length u.adds ≤ 12 → u.plus ≤ 3
    → (applied cs (update_code u) ≡ (flagged u.adds cs + u.plus) - 1) × (update_code u < 16384)

pub update_read_back : UpdateReadBack
update_read_back u cs h k = (applied_code u cs h k, code_below u h k)

-- a shape's record and a statement's are read back, and an accepted record is what is written for what it was read as
abbrev pub ShapeReadBack : Type 0
ShapeReadBack = ((h : Heap) → Writable h → (length (shape_record h) ≡ 32) × (shape_of (shape_record h) ≡ h))
    × ((r : List ℕ) → length r ≡ 32 → layout_h r ≡ true → Writable (shape_of r) × (shape_record (shape_of r) ≡ r))

pub shape_read_back : ShapeReadBack
shape_read_back = (
  (λ h W. (shape_length h W, shape_shape h W)),
  λ r l h. (
    layout_writable r l h,
    shape_record_back r
        l h,
  ),
)

abbrev pub StatementReadBack : Type 0
StatementReadBack = ((st : Stmt) → UnusedZero st → stmt_of (stmt_record st) ≡ st)
    × ((n : ℕ) (r : List ℕ) → length r ≡ 32 → is_s r ≡ true → refusal_s n r ≡ 0 → stmt_record (stmt_of r) ≡ r)

pub statement_read_back : StatementReadBack
statement_read_back = (statement_back, record_back)

-- ==== expansions: what the machine does on a heap it does on an expansion

-- every heap is an expansion of its shape, by its segments
abbrev pub HeapExpandsShape : Type 0
HeapExpandsShape = (h : Heap) → IsHeap h → Expansion (shape h) (seg_at (segments h)) h

pub heap_expands_shape : HeapExpandsShape
heap_expands_shape h x = start h (heap_closed h x) (heap_kept h x)

-- the visit goes along the chains, in the order of their cells
abbrev pub ExpansionOrder : Type 0
ExpansionOrder = (W : Heap) (sg : ℕ → Seg) (H : Heap) → Expansion W sg H → order H ≡ cat sg (order W)

pub expansion_order : ExpansionOrder
expansion_order = order_cat

-- the first cell of a chain is core as its cell is, the others are not
abbrev pub ExpansionCores : Type 0
ExpansionCores = (W : Heap) (sg : ℕ → Seg) (H : Heap) → Expansion W sg H → (n : ℕ) → in_use (next W n) ≡ true
    → (core H (sg n).first ≡ core W n) × ((d : ℕ) → mem d (sg n).rest ≡ true → core H d ≡ false)

pub expansion_cores : ExpansionCores
expansion_cores W sg H X n u = let k = used_of (next W n) u in (core_head W sg H X n k, λ d. core_inner W sg H X n d k)

-- both fold to one shape, and the counters are the numbers of cells of the chains
abbrev pub ExpansionFold : Type 0
ExpansionFold = (W : Heap) (sg : ℕ → Seg) (H : Heap) → Expansion W sg H
    → (shape H ≡ shape W) × (counters H ≡ map (λ (s : Seg). total sg (cells s)) (segments W))

pub expansion_fold : ExpansionFold
expansion_fold W sg H X = (fold_same W sg H X, counters_grow W sg H X)

-- both have lost a cell, or none
abbrev pub ExpansionKept : Type 0
ExpansionKept = (W : Heap) (sg : ℕ → Seg) (H : Heap) → Expansion W sg H → kept H ≡ kept W

pub expansion_kept : ExpansionKept
expansion_kept = kept_same

-- "with the head split off": a chain of two cells or more is split into its head and the rest
abbrev pub ExpansionSplit : Type 0
ExpansionSplit = (W : Heap) (sg : ℕ → Seg) (H : Heap) → Expansion W sg H → (n k h t : ℕ) (ts : List ℕ) → sg n
    ≡ seg h (t ∷ ts)
    → in_use (next W n) ≡ true → in_use (next W k) ≡ false
    → Expansion (split_heap n k W) (upd (upd sg k (seg t ts)) n (seg h [])) H

pub expansion_split : ExpansionSplit
expansion_split W sg H X n k h t ts e u f = exp_split W sg H X n k h t ts e (used_of (next W n) u)
    (unused_of (next W k) f)

-- every effect faults alike on both, or finishes in an expansion, where what is read, written or freed is a chain of
-- one cell
abbrev pub ExpansionEffects : Type 0
ExpansionEffects = (W : Heap) (sg : ℕ → Seg) (H : Heap) → Expansion W sg H → (op : Op) (k c : ℕ)
    → Alone (view (action op) W) sg → Room (action op) W k → Room (action op) H c
    → Alike (sg_after (action op) k c sg) (effect op k W) (effect op c H)

pub expansion_effects : ExpansionEffects
expansion_effects W sg H X op = effect_alike W sg H X (action op)

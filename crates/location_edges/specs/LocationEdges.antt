-- The parts of exploring a location: the location as bytes, its statement decoded, the edge by one way, and all edges.
-- Assumes nothing.
use Rattle.std.specs.Prelude.{ℕ, ◌≤◌, ◌<◌, ◌≡◌, false, List, [], ◌∷◌, length, Result}
use Rattle.model.specs.Base.{most_nodes, most_statements, pointer_count}
use Rattle.model.specs.Heap.{Heap}
use Rattle.model.specs.Machine.{action, branch, is_stop, kind, target}
use Rattle.model.specs.Edges.{Edge, at, edge_by, edges_at, step_by, view}
use Rattle.model.specs.Records.{loc_record}
use Rattle.model.specs.Structs.{DecodedOk, op_in, stmt_in}
use Rattle.model.specs.Translate.{Listing}
use Rattle.model.specs.Notions.{Canon, SmallGuards}
use Rattle.model.specs.Listings.{WritableLoc}
use Rattle.model.specs.declared.Counts.{Counts}
use Rattle.model.specs.declared.codes.Reason.{Reason}
use Rattle.model.specs.declared.Decoded.{Decoded}
use Rattle.way.specs.Ready.{WayReady}
use Rattle.way.specs.Way.{view_in, way_in, way_number}
use Rattle.way.specs.declared.Looked.{Looked}
use Rattle.way.specs.declared.Way.{Way}
use Rattle.listing.specs.Grow.{Holds, GrownTo}
use Rattle.location_edges.specs.Added.{LocsOk, AddedTo, added_in}

-- d is an accepted statement among n: its fields, and where its branches lead
pub record Among (d : Decoded) (n : ℕ) : Type 0 where
  pub fields : DecodedOk d
  pub leads : is_stop (kind (op_in d)) ≡ false → (p : ℕ) (h : Heap) → target (stmt_in d) (branch (op_in d) p h) < n
  pub few : n ≤ most_statements

-- l is the record of statement s, which is d, with shape h
pub record AtShape (l : List ℕ) (d : Decoded) (n s : ℕ) (h : Heap) : Type 0 where
  pub is_record : l ≡ loc_record (at s h)
  pub is_shape : Canon h
  pub six : length h.ptrs ≡ pointer_count
  pub statement : Among d n
  pub low : s < n

-- the way y makes the edge E
pub record WayEdge (l : List ℕ) (d : Decoded) (s : ℕ) (h : Heap) (y : Way) (E : Edge) : Type 0 where
  pub ready : WayReady l d s h y
  pub made : edge_by s (length h.slots) (way_in y h) (step_by (stmt_in d) (length h.slots) (way_in y h)) ≡ E ∷ []
  pub good : WritableLoc E.to
  pub branch : E.branch_no ≤ 1
  pub guarded : SmallGuards most_nodes E.guards

-- the way makes some edge, and some listing is held
pub record WayGiven (l : List ℕ) (d : Decoded) (y : Way) (ls es ix : List ℕ) (c : Counts) (i : ℕ) : Type 0 where
  pub number : ℕ
  pub shape : Heap
  pub edge : Edge
  pub is_edge : WayEdge l d number shape y edge
  pub list : Listing
  pub held : Holds list ls es ix c
  pub low : i < 65536

-- whichever edge the way makes and whichever listing was held, the edge is added
abbrev pub WayAdded : List ℕ → Decoded → Way → List ℕ → List ℕ → List ℕ → Counts → ℕ → List ℕ → List ℕ → List ℕ
    → Counts → Result (Unit {0}) Reason → Type 0
WayAdded l d y ls es ix c i ls' es' ix' c' x =
    (s : ℕ) (h : Heap) (E : Edge) (t : Listing) → WayEdge l d s h y E → Holds t ls es ix c
    → GrownTo t i E ls' es' ix' c' x

-- v is what the statement looks at, and k the number of its ways
pub record Counted (d : Decoded) (h : Heap) (v : Looked) (k : ℕ) : Type 0 where
  pub looks : view_in v ≡ view (action (op_in d)) h
  pub number : k ≡ way_number (kind (op_in d)) (view (action (op_in d)) h) h

-- some location is given, and some listing is held
pub record ShapeGiven (l : List ℕ) (d : Decoded) (ls es ix : List ℕ) (c : Counts) (i : ℕ) : Type 0 where
  pub statements : ℕ
  pub number : ℕ
  pub shape : Heap
  pub here : AtShape l d statements number shape
  pub list : Listing
  pub held : Holds list ls es ix c
  pub low : i < 65536

-- whichever location was given and whichever listing was held, the location's edges are added
abbrev pub EdgesAdded : List ℕ → Decoded → List ℕ → List ℕ → List ℕ → Counts → ℕ → List ℕ → List ℕ → List ℕ → Counts
    → Result (Unit {0}) Reason → Type 0
EdgesAdded l d ls es ix c i ls' es' ix' c' x =
    (n s : ℕ) (h : Heap) (t : Listing) → AtShape l d n s h → Holds t ls es ix c → LocsOk n t
    → AddedTo n i (added_in ls es i (edges_at s (stmt_in d) h) t) ls' es' ix' c' x

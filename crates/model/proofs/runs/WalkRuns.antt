-- A walk of an accepted translation's tables is a run of the routine: the moves made and the steps of the routine pair
-- off, by demand 3.
use Prim.Native.Nat.{◌<◌, ◌≤◌, ℕ}
use mathlib.Core.Path.{◌∙◌, ◌≡◌, ap, sym}
use mathlib.Core.Option.{some}
use mathlib.Core.Bool.{true}
use mathlib.Core.List.{List}
use native.Mathlib.Omega.{arith}
use lib.Dec.{leb}
use lib.ListN.{drop, get_elem?, length, length-drop, length-map, take}
use lib.Seq.{length-take-le}
use borrow.Author.Tests.{le-leb}
use Rattle.model.specs.Base.{all}
use Rattle.model.specs.Heap.{Heap, holds}
use Rattle.model.specs.Layout.{keeps_layout}
use Rattle.model.specs.Machine.{Stmt}
use Rattle.model.specs.Records.{byte, is_accepted, record_at, shape_of, val_of}
use Rattle.model.specs.Runs.{Config, Demand3, Describes, Matching, State, final, running}
use Rattle.model.specs.Shape.{counters, segments, size}
use Rattle.model.specs.Translate.{Routine, Tables, check, good, translate}
use Rattle.model.specs.Walking.{configuration_of, walked}
use Rattle.model.specs.Walks.{Stands, WalkRun, edges_taken}
use Rattle.model.proofs.expansion.Facts.{heap_closed, heap_kept}
use Rattle.model.proofs.lists.Lists.{all_of, in_map}
use Rattle.model.proofs.records.LayoutFacts.{layout_nodes, layout_whole}
use Rattle.model.proofs.listings.Layouts.{translation_keeps}
use Rattle.model.proofs.runs.Demand.{demand_three}
use Rattle.model.proofs.runs.Stands.{stands_back, stands_keeps, stands_length}
use Rattle.model.proofs.ways.Ways.{count_length}
use Rattle.model.proofs.runs.Walks.{walk_made, walk_stops_none, walk_stops_over}

-- ---- a shape with the counters of a heap that it describes stands in the tables

counters_positive : (h : Heap) → all (leb 1) (counters h) ≡ true
counters_positive h = all_of (leb 1) (counters h) (λ x i.
    let q = in_map size x (segments h) i in
    le-leb 1 x (omega (arith, q.2)))

-- the shape of a whole record has its nodes
shape_slots : (r : List ℕ) → length r ≡ 32 → byte r 3 ≤ 12 → length (shape_of r).slots ≡ byte r 3
shape_slots r l h = length-map (take (byte r 3) (drop 10 r)) (λ b. holds (val_of b))
    ∙ length-take-le (byte r 3) (drop 10 r) (omega (arith, length-drop 10 r))

pub describes_stands : (t : Tables) → keeps_layout t ≡ true → (i : ℕ) → i < t.loc_count → (cs : List ℕ) (h : Heap)
    → Describes (shape_of (record_at t.loc_bytes i)) cs h → Stands t (record { loc = i; values = cs })
describes_stands t k i b cs h d =
    let r = record_at t.loc_bytes i in
    record {
      is_location = b;
      one_each = ap length (sym d.counters_are)
          ∙ count_length h (heap_closed h d.is_heap) (heap_kept h d.is_heap)
          ∙ ap (λ (x : Heap). length x.slots) d.shape_is
          ∙ shape_slots r (layout_whole t k i b) (layout_nodes t k i b);
      positive = ap (all (leb 1)) (sym d.counters_are) ∙ counters_positive h;
    }

-- ---- walks from where whole lists are matched

pub matching_walks : (sts : List Stmt) (t : Tables) (q : State) (a : Config) → keeps_layout t ≡ true
    → Stands t a → Matching sts t q a → (ns : List ℕ) → WalkRun sts t q a ns (walked t (configuration_of a) ns)
matching_walks sts t q a k s M ns =
    let c = configuration_of a in
    let kc = stands_keeps t k a s in
    let back = stands_back t k a s in
    let l = stands_length t k a s in
    let w = walked t c ns in
    let W = walk_made t c l ns in
    record {
      begins = kc;
      is_start = back;
      taken = ap (λ x. length (edges_taken t x w.made ns)) (sym back) ∙ W.traced kc;
      reaches = ap (λ x. final x (edges_taken t x w.made ns)) (sym back) ∙ W.reaches kc;
      supply = M.supply (take w.made ns);
      matches = M.to_routine (take w.made ns);
      whole = λ e. (W.whole e).1;
      stops_none = λ h. walk_stops_none t c l ns h kc;
      stops_over = λ h. walk_stops_over t c l ns h kc;
    }

-- From a starting shape's location with the counters of a heap that it describes, any walk is a run of the routine from
-- statement 0 on that heap.
pub walk_is_run : (s : List ℕ) (a b : ℕ) → (translate s a b).verdict ≡ is_accepted
    → (r : Routine) → check s ≡ good r
    → (i : ℕ) (sh h : Heap) (cs : List ℕ) → get_elem? r.starts i ≡ some sh → Describes sh cs h → (ns : List ℕ)
    → WalkRun r.stmts (translate s a b).tables (record { stmt = 0; status = running; heap = h })
    (record { loc = i; values = cs }) ns
    (walked (translate s a b).tables (configuration_of (record { loc = i; values = cs })) ns)
unfolding Demand3
walk_is_run s a b z r e i sh h cs g d ns =
    let k = translation_keeps s a b z in
    let t = (translate s a b).tables in
    let q : State = record { stmt = 0; status = running; heap = h } in
    let c : Config = record { loc = i; values = cs } in
    let M : Matching r.stmts t q c = demand_three s a b z r e i sh h cs g d in
    matching_walks r.stmts t q c k
    (describes_stands t k i M.start.is_location cs h M.start.describes) M ns

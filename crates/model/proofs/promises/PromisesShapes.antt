-- The promises of demand 2 about heaps and shapes: the visit, lost cells, core cells, segments, folding as merging,
-- shapes, unfolding. Each is a type, and under it stands its proof, which cites a law.
use Prim.Native.Nat.{◌<◌, ◌≤◌, ℕ}
use Rattle.model.specs.Records.{is_accepted}
use mathlib.Core.Path.{◌≡◌, sym}
use mathlib.Core.Logic.{◌↔◌, ◌⊎◌}
use mathlib.Core.Bool.{false, true}
use mathlib.Core.List.{List, [], map}
use lib.ListN.{length, length-map}
use Rattle.model.specs.Base.{mem, numbers, sum}
use Rattle.model.specs.Heap.{Heap, IsHeap, cell, closed, in_use, kept, next, order}
use Rattle.model.specs.Image.{fold_image, heap_of, unfold_heap, unfold_image}
use Rattle.model.specs.Machine.{Entry, Stmt, step, went}
use Rattle.model.specs.Shape.{Seg, canonical, cells, core, counters, node_val, segments, shape}
use Rattle.model.proofs.shapes.Canon.{fold_canon}
use Rattle.model.proofs.shapes.Canonical.{canon_canonical, canonical_canon, canonical_is}
use Rattle.model.proofs.expansion.Cores.{core_is}
use Rattle.model.proofs.expansion.Facts.{closed_test, heap_closed, heap_kept, kept_test, test_closed, test_kept, used_of, used_test}
use Rattle.model.proofs.shapes.Iso.{renamed_same}
use Rattle.model.specs.Notions.{In, NoDup, EveryCore, IsSegment, Merges, MergesTo, Positive, Reaches, Renames, Tours, Two, counted, flat, heads, seg_at}
use Rattle.model.proofs.shapes.Merge.{merge_ends, merge_exists, merge_heap_lem, merge_keeps, merged_is_fold, merged_nodes}
use Rattle.model.proofs.visits.Order.{order_once, toured, tours_same}
use Rattle.model.proofs.expansion.Reach.{cell_lost, kept_reaches, lost_cell, order_reaches, reaches_order}
use Rattle.model.proofs.images.RoundTrips.{fold_room, fold_unfold_bytes, unfold_fold_bytes}
use Rattle.model.proofs.shapes.SameShape.{fold_unfold, same_renamed}
use Rattle.model.proofs.shapes.Segments.{each_cell_once, itself_again, segment_listed, segment_unique, segments_are, twelve}
use Rattle.model.proofs.shapes.Unfold.{counters_unfold, shape_unfold, unfold_is_heap}
use Rattle.model.proofs.ways.Location.{step_heap}
use Rattle.model.proofs.ways.Ways.{count_length}

-- ==== the visit

-- "Nodes are numbered at first visit: from pointer 0 along successors until the walk ends or repeats, then pointer 1,
-- and so on.": the order is that of the walk without a bound on its steps, and of no other
abbrev pub OrderIsWalk : Type 0
OrderIsWalk = (h : Heap) → closed h ≡ true → Tours (next h) [] h.ptrs (order h)
    × ((l : List ℕ) → Tours (next h) [] h.ptrs l → l ≡ order h)

pub order_is_walk : OrderIsWalk
order_is_walk h k = let t = (toured h (test_closed h k)).tours in (t, λ l w. tours_same (next h) w t)

-- the visit holds exactly the reachable cells, each once
abbrev pub OrderIsReachable : Type 0
OrderIsReachable = (h : Heap) → closed h ≡ true → (c : ℕ) → (mem c (order h) ≡ true) ↔ Reaches h c

pub order_is_reachable : OrderIsReachable
order_is_reachable h k c = (order_reaches h (test_closed h k) c, reaches_order h (test_closed h k) c)

abbrev pub OrderOnce : Type 0
OrderOnce = (h : Heap) → NoDup (order h)

pub each_visited_once : OrderOnce
each_visited_once = order_once

-- "Every cell is reachable from a pointer." The test says so, and it fails exactly where a cell is lost.
abbrev pub KeptIsReachable : Type 0
KeptIsReachable = (h : Heap) → closed h ≡ true → (kept h ≡ true) ↔ ((c : ℕ) → in_use (next h c) ≡ true → Reaches h c)

pub kept_is_reachable : KeptIsReachable
kept_is_reachable h k = let r = kept_reaches h (test_closed h k) in
    ((λ e c u. r.0 e c (used_of (next h c) u)), λ f. r.1 (λ c u. f c (used_test (next h) c u)))

abbrev pub LostCell : Type 0
LostCell = (h : Heap) → closed h ≡ true → (kept h ≡ false) ↔ ((c : ℕ) × (in_use (next h c) ≡ true) × (Reaches h c → ⊥))

pub lost_is_unreachable : LostCell
lost_is_unreachable h k = let cl = test_closed h k in (
  (λ e. let r = lost_cell h cl e in (r.0, used_test (next h) r.0 r.1, r.2)),
  λ r. cell_lost h cl r.0
      (used_of (next h r.0) r.1) r.2,
)

-- and so it stays: a step that is made leaves a heap, whatever the statement and the entry
abbrev pub StepKeepsHeaps : Type 0
StepKeepsHeaps = (st : Stmt) (e : Entry) (h : Heap) → IsHeap h → (b t : ℕ) (g : Heap) → step st e h ≡ went b t g
    → IsHeap g

pub step_keeps_heaps : StepKeepsHeaps
step_keeps_heaps = step_heap

-- ==== core cells and segments

-- "A core cell is held by a pointer or by the next of two or more cells."
abbrev pub CoreIsHeld : Type 0
CoreIsHeld = (h : Heap) (c : ℕ) → (core h c ≡ true) ↔ (In (cell c) h.ptrs ⊎ Two (next h) c)

pub core_is_held : CoreIsHeld
core_is_held = core_is

-- "A segment is a core cell and the cells after it up to the next core cell, null, undefined, or itself again." The
-- segments of a heap are these, and they are all of them; a segment is known by its first cell; where it ends in a
-- cell of its own it ends in its first.
abbrev pub SegmentsAre : Type 0
SegmentsAre = (h : Heap) → IsHeap h → (n : ℕ) → n < length (segments h) → IsSegment h (seg_at (segments h) n)

pub segments_are_segments : SegmentsAre
segments_are_segments = segments_are

abbrev pub SegmentsAll : Type 0
SegmentsAll = (h : Heap) → IsHeap h → (s : Seg) → IsSegment h s → (n : ℕ) × (n < length (segments h))
    × (seg_at (segments h) n ≡ s)

pub segments_are_all : SegmentsAll
segments_are_all = segment_listed

abbrev pub SegmentByFirst : Type 0
SegmentByFirst = (h : Heap) (s t : Seg) → IsSegment h s → IsSegment h t → s.first ≡ t.first → s ≡ t

pub segment_by_first : SegmentByFirst
segment_by_first = segment_unique

abbrev pub ItselfAgain : Type 0
ItselfAgain = (h : Heap) (s : Seg) (i : IsSegment h s) (c : ℕ) → i.upto ≡ cell c → mem c (cells s) ≡ true → c
    ≡ s.first

pub ends_in_itself : ItselfAgain
ends_in_itself = itself_again

-- together they hold each cell in use, and no other, and none twice, in the order of the visit
abbrev pub EachCellOnce : Type 0
EachCellOnce = (h : Heap) → IsHeap h
    → (flat (segments h) ≡ order h) × NoDup (flat (segments h))
    × ((c : ℕ) → (in_use (next h c) ≡ true) ↔ (mem c (flat (segments h)) ≡ true))

pub each_in_one_segment : EachCellOnce
each_in_one_segment h x = let r = each_cell_once h x in
    (r.0, r.1, λ c. ((λ u. (r.2 c).0 (used_of (next h c) u)), λ m. used_test (next h) c ((r.2 c).1 m)))

-- "A shape has 0 to 12 nodes."
abbrev pub TwelveNodes : Type 0
TwelveNodes = (h : Heap) → IsHeap h → length h.ptrs ≡ 6 → length (segments h) ≤ 12

pub twelve_nodes : TwelveNodes
twelve_nodes = twelve

-- ==== folding is merging: "nodes that are no longer core are merged into their predecessor and their counters added"

-- merging until every cell is core gives the shape and, in the order of the visit, the counters; the heads of the
-- segments are left
abbrev pub FoldIsMerge : Type 0
FoldIsMerge = (h W : Heap) (w : ℕ → ℕ) → IsHeap h → MergesTo h (λ _. 1) W w → EveryCore W
    → (shape W ≡ shape h) × (map w (order W) ≡ counters h) × (order W ≡ heads h)

pub fold_is_merge : FoldIsMerge
fold_is_merge h W w x m k = let r = merged_is_fold h W w x m k in (r.0, r.1, merged_nodes h W (λ _. 1) w x m k)

-- each merge keeps the shape and the counters of the segments, and leaves a heap
abbrev pub MergeKeeps : Type 0
MergeKeeps = (W U : Heap) (w u : ℕ → ℕ) → Merges W w U u → (shape U ≡ shape W) × (counted U u ≡ counted W w) × IsHeap U

pub merge_keeps_fold : MergeKeeps
merge_keeps_fold W U w u m = let k = merge_keeps m in (k.0, k.1, merge_heap_lem m)

-- while a cell is not core there is a merge, and merging comes to an end
abbrev pub MergeExists : Type 0
MergeExists = (W : Heap) (w : ℕ → ℕ) → IsHeap W → (d : ℕ) → in_use (next W d) ≡ true → core W d ≡ false → (U : Heap)
    × (u : ℕ → ℕ) × Merges W w U u

pub inner_merges : MergeExists
inner_merges W w x d u n = merge_exists W w x d (used_of (next W d) u) n

abbrev pub MergeEnds : Type 0
MergeEnds = (W : Heap) (w : ℕ → ℕ) → IsHeap W → (U : Heap) × (u : ℕ → ℕ) × MergesTo W w U u × EveryCore U

pub merging_ends : MergeEnds
merging_ends = merge_ends

-- ==== shapes

-- "a node unreachable or not core, or another numbering" (9, 18, 19): the test is passed exactly where there is none of
-- it
abbrev pub CanonicalIs : Type 0
CanonicalIs = (h : Heap) → closed h ≡ true → (canonical h ≡ true)
    ↔ (((c : ℕ) → in_use (next h c) ≡ true → Reaches h c) × ((n : ℕ) → n < length h.slots → core h n ≡ true)
    × (order h ≡ numbers 0 (length h.slots)))

pub canonical_is_shape : CanonicalIs
canonical_is_shape h k =
    let r = kept_is_reachable h k in
    let q = canonical_is h (test_closed h k) in (
      (λ e. let z = q.0 e in (r.0 (kept_test h z.0), z.1, z.2)),
      λ z. q.1
          (test_kept h (r.1 z.0), z.1, z.2),
    )

-- what folding gives is a shape: one node for each segment, and as many pointers as before
abbrev pub FoldIsShape : Type 0
FoldIsShape = (h : Heap) → IsHeap h → (closed (shape h) ≡ true) × (canonical (shape h) ≡ true)
    × (length (shape h).slots ≡ length (counters h)) × (length (shape h).ptrs ≡ length h.ptrs)

pub fold_is_shape : FoldIsShape
fold_is_shape h x =
    let cl = heap_closed h x in
    let kp = heap_kept h x in
    let C = fold_canon h cl kp in (
      closed_test (shape h) C.closed,
      canon_canonical (shape h) C,
      sym (count_length h cl kp),
      length-map h.ptrs
          (node_val (segments h)),
    )

-- a heap whose cells are renamed has the same shape and counters, and heaps with the same shape and counters are
-- renamed into each other
abbrev pub RenamedSame : Type 0
RenamedSame = (f : ℕ → ℕ) (a b : Heap) → IsHeap a → Renames f a b → IsHeap b × (shape b ≡ shape a)
    × (counters b ≡ counters a)

pub renamed_have_one_shape : RenamedSame
renamed_have_one_shape = renamed_same

abbrev pub SameRenamed : Type 0
SameRenamed = (a b : Heap) → IsHeap a → IsHeap b → shape a ≡ shape b → counters a ≡ counters b → (f : ℕ → ℕ)
    × Renames f a b

pub one_shape_is_renamed : SameRenamed
one_shape_is_renamed = same_renamed

-- ==== unfolding

-- folding a heap and unfolding what it gives leads to the heap with its cells renamed
abbrev pub FoldThenUnfold : Type 0
FoldThenUnfold = (h : Heap) → IsHeap h → (f : ℕ → ℕ) × Renames f h (unfold_heap (shape h) (counters h))

pub fold_then_unfold : FoldThenUnfold
fold_then_unfold = fold_unfold

-- unfolding a shape with counters of at least 1 gives a heap, and folding that gives the shape and the counters back
abbrev pub UnfoldThenFold : Type 0
UnfoldThenFold = (h : Heap) → closed h ≡ true → canonical h ≡ true → (cs : List ℕ) → length cs ≡ length h.slots
    → Positive cs
    → IsHeap (unfold_heap h cs) × (shape (unfold_heap h cs) ≡ h) × (counters (unfold_heap h cs) ≡ cs)

pub unfold_then_fold : UnfoldThenFold
unfold_then_fold h k e cs len pos = let C = canonical_canon h (test_closed h k) e in
    (unfold_is_heap h C cs len pos, shape_unfold h C cs len pos, counters_unfold h C cs len pos)

-- the same for the calls, on bytes: what an accepted unfolding leaves folds to what was unfolded,
abbrev pub UnfoldThenFoldBytes : Type 0
UnfoldThenFoldBytes = (r vs ps cs : List ℕ) → (unfold_image r vs ps cs).verdict ≡ is_accepted
    → fold_image (unfold_image r vs ps cs).ptr_bytes (unfold_image r vs ps cs).cell_bytes
    ≡ record { verdict = is_accepted; record_bytes = r; counts = vs }

pub unfold_then_fold_bytes : UnfoldThenFoldBytes
unfold_then_fold_bytes = unfold_fold_bytes

-- and what an accepted fold gives unfolds, into as many cells as its counters add up to, or more, to the heap with its
-- cells renamed; the cells of the image are room enough
abbrev pub FoldThenUnfoldBytes : Type 0
FoldThenUnfoldBytes = (ps cs : List ℕ) → (fold_image ps cs).verdict ≡ is_accepted
    → let F = fold_image ps cs in
    (sum (λ v. v) F.counts ≤ length cs)
    × ((qs ds : List ℕ) → length qs ≡ 6 → sum (λ v. v) F.counts ≤ length ds → length ds ≤ 240
    → let U = unfold_image F.record_bytes F.counts qs ds in
    (U.verdict ≡ is_accepted) × ((f : ℕ → ℕ) × Renames f (heap_of ps cs) (heap_of U.ptr_bytes U.cell_bytes)))

pub fold_then_unfold_bytes : FoldThenUnfoldBytes
fold_then_unfold_bytes ps cs e = (fold_room ps cs e, λ qs ds. fold_unfold_bytes ps cs qs ds e)

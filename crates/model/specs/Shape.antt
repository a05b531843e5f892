-- 01, "Shapes": core cells, segments, and the shape and counters of a heap. A shape is a heap whose cells are the
-- nodes. Assumes nothing.
use Rattle.std.specs.Prelude.{ℕ, suc, Bool, true, false, ◌&&◌, ◌||◌, List, [], ◌∷◌, ◌++◌, map, eqb, leb, length}
use Rattle.model.specs.Base.{any, all, count, mem, place_of, numbers}
use Rattle.model.specs.Heap.{Val, cell, null, undef, Slot, unused, holds, Heap, next, order}

abbrev pub is_cell : ℕ → Val → Bool
is_cell c (cell d) = eqb c d
is_cell c null = false
is_cell c undef = false

abbrev pub holds_cell : ℕ → Slot → Bool
holds_cell c unused = false
holds_cell c (holds v) = is_cell c v

-- "A core cell is held by a pointer or by the next of two or more cells." A cell that holds itself is one of them.
abbrev pub core : Heap → ℕ → Bool
core h c = any (is_cell c) h.ptrs || leb 2 (count (holds_cell c) h.slots)

-- a segment: its first cell and the cells after that
pub record Seg : Type 0 where
  pub first : ℕ
  pub rest : List ℕ

abbrev pub cells : Seg → List ℕ
cells s = s.first ∷ s.rest

abbrev pub last_from : ℕ → List ℕ → ℕ
last_from c [] = c
last_from c (d ∷ l) = last_from d l

abbrev pub last : Seg → ℕ
last s = last_from s.first s.rest

-- a list of cells cut before each one that passes the test; c and cur are the segment being read
abbrev pub cut_from : (ℕ → Bool) → ℕ → List ℕ → List ℕ → List Seg
cut_from p c cur [] = record { first = c; rest = cur } ∷ []
cut_from p c cur (d ∷ l) =
    elim (p d) [
      | true ↦ record { first = c; rest = cur } ∷ cut_from p d [] l
      | false ↦ cut_from p c (cur ++ d ∷ []) l
    ]

abbrev pub cut : (ℕ → Bool) → List ℕ → List Seg
cut p [] = []
cut p (c ∷ l) = cut_from p c [] l

-- "A segment is a core cell and the cells after it up to the next core cell, null, undefined, or itself again."
abbrev pub segments : Heap → List Seg
segments h = cut (core h) (order h)

-- the node whose segment begins with cell c; values and slots in terms of nodes
abbrev pub node : List Seg → ℕ → ℕ
node ss c = place_of (λ (s : Seg). eqb c s.first) ss

abbrev pub node_val : List Seg → Val → Val
node_val ss (cell c) = cell (node ss c)
node_val ss null = null
node_val ss undef = undef

abbrev pub node_slot : List Seg → Slot → Slot
node_slot ss unused = unused
node_slot ss (holds v) = holds (node_val ss v)

-- a heap folded by its segments: the pointers, and what the last cell of each segment holds
abbrev pub fold_by : List Seg → Heap → Heap
fold_by ss h = record {
  ptrs = map (node_val ss) h.ptrs;
  slots = map (λ (s : Seg). node_slot ss (next h (last s))) ss;
}

-- "A shape has one node for each segment; its counter is the number of cells."
abbrev pub shape : Heap → Heap
shape h = fold_by (segments h) h

abbrev pub size : Seg → ℕ
size s = suc (length s.rest)

abbrev pub counters : Heap → List ℕ
counters h = map size (segments h)

-- ---- what a shape must be, said of each of its nodes: reachable, core, and numbered as the walk numbers it

-- the nodes of a shape, "in node order"
abbrev pub nodes : Heap → List ℕ
nodes h = numbers 0 (length h.slots)

abbrev pub reachable : Heap → ℕ → Bool
reachable h n = mem n (order h)

-- the number that the walk gives node n: "Nodes are numbered at first visit"
abbrev pub visit_number : Heap → ℕ → ℕ
visit_number h n = place_of (eqb n) (order h)

abbrev pub as_visited : Heap → ℕ → Bool
as_visited h n = eqb (visit_number h n) n

abbrev pub canonical : Heap → Bool
canonical h = all (reachable h) (nodes h) && all (core h) (nodes h) && all (as_visited h) (nodes h)

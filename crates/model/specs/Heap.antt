-- 01, "The plain machine": what a pointer and a cell hold, heaps, and the order in which cells are visited.
-- A heap has any number of cells. Assumes nothing.
use Rattle.std.specs.Prelude.{ℕ, zero, suc, ◌≡◌, Bool, true, false, ◌&&◌, List, [], ◌∷◌, ◌++◌, eqb, length, get_or}
use Rattle.model.specs.Base.{all, mem, same_list}

-- "A pointer, and the next of a cell, holds a cell, null or undefined."
pub data Val : Type 0 where
  cell : ℕ → Val
  null : Val
  undef : Val

-- A cell's number is its place among the slots. A cell in use holds its next.
pub data Slot : Type 0 where
  unused : Slot
  holds : Val → Slot

pub record Heap : Type 0 where
  pub ptrs : List Val
  pub slots : List Slot

-- what pointer u holds, and the slot of cell c; past the last pointer undefined, past the last cell none in use
abbrev pub ptr : Heap → ℕ → Val
ptr h u = get_or h.ptrs u undef

abbrev pub next : Heap → ℕ → Slot
next h c = get_or h.slots c unused

abbrev pub in_use : Slot → Bool
in_use unused = false
in_use (holds v) = true

-- the same value; what comparing undefined pointers comes to is said where tests are (`look` in `Machine`)
abbrev pub same_val : Val → Val → Bool
same_val (cell c) (cell d) = eqb c d
same_val (cell c) null = false
same_val (cell c) undef = false
same_val null (cell d) = false
same_val null null = true
same_val null undef = false
same_val undef (cell d) = false
same_val undef null = false
same_val undef undef = true

abbrev pub same_slot : Slot → Slot → Bool
same_slot unused unused = true
same_slot unused (holds w) = false
same_slot (holds v) unused = false
same_slot (holds v) (holds w) = same_val v w

abbrev pub same_heap : Heap → Heap → Bool
same_heap a b = same_list same_val a.ptrs b.ptrs && same_list same_slot a.slots b.slots

-- A value names a cell only if that cell is in use.
abbrev pub named : (ℕ → Slot) → Val → Bool
named nx (cell c) = in_use (nx c)
named nx null = true
named nx undef = true

abbrev pub slot_named : (ℕ → Slot) → Slot → Bool
slot_named nx unused = true
slot_named nx (holds v) = named nx v

abbrev pub closed : Heap → Bool
closed h = all (named (next h)) h.ptrs && all (slot_named (next h)) h.slots

-- The visit. A walk follows nexts from a value and adds each cell to those seen, until null, undefined or a cell seen
-- before. The fuel f bounds its steps; the number of slots is enough (`OrderIsWalk`).
abbrev pub walk : (ℕ → Slot) → ℕ → List ℕ → Val → List ℕ
walk nx zero seen v = seen
walk nx (suc f) seen null = seen
walk nx (suc f) seen undef = seen
walk nx (suc f) seen (cell c) =
    elim (mem c seen) [
      | true ↦ seen
      | false ↦ elim (nx c) [ unused ↦ seen | holds v ↦ walk nx f (seen ++ c ∷ []) v ]
    ]

-- one walk for each pointer in turn
abbrev pub tour : (ℕ → Slot) → ℕ → List ℕ → List Val → List ℕ
tour nx f seen [] = seen
tour nx f seen (v ∷ vs) = tour nx f (walk nx f seen v) vs

-- the cells in order of first visit: "from pointer 0 along successors until the walk ends or repeats, then pointer 1,
-- and so on"
abbrev pub order : Heap → List ℕ
order h = tour (next h) (length h.slots) [] h.ptrs

-- every cell in use, numbered from i, passes the test
abbrev pub each_used : (ℕ → Bool) → ℕ → List Slot → Bool
each_used p i [] = true
each_used p i (unused ∷ ss) = each_used p (suc i) ss
each_used p i (holds v ∷ ss) = p i && each_used p (suc i) ss

-- "Every cell is reachable from a pointer."
abbrev pub kept : Heap → Bool
kept h = let o = order h in each_used (λ c. mem c o) 0 h.slots

-- the heaps of 01: values name cells in use, and every cell is reachable
pub record IsHeap (h : Heap) : Type 0 where
  pub is_closed : closed h ≡ true
  pub is_kept : kept h ≡ true

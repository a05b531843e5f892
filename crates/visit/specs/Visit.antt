-- What a visit of a heap image asks and gives. Assumes nothing.
use Rattle.std.specs.Prelude.{ℕ, ◌<◌, ◌≤◌, ◌≡◌, true, not, List, eqb, leb, length, get_or, take}
use Rattle.model.specs.Base.{mem, most_cells}
use Rattle.model.specs.Heap.{closed, order}
use Rattle.model.specs.Image.{heap_of}
use Rattle.model.specs.Machine.{collect}
use Rattle.model.specs.Shape.{core}

-- pointers ps and cells cs; room for the order in o and a clear mark in s for each cell
pub record VisitReady (ps cs o s : List ℕ) : Type 0 where
  pub is_closed : closed (heap_of ps cs) ≡ true
  pub few : length cs ≤ most_cells
  pub room : length cs ≤ length o
  pub marks : length cs ≤ length s
  pub clear : (c : ℕ) → c < length cs → get_or s c 0 ≡ 0

-- a count of two or more says that the cell is core
abbrev pub Held : List ℕ → List ℕ → List ℕ → Type 0
Held ps cs h = (c : ℕ) → c < length cs → leb 2 (get_or h c 0) ≡ core (heap_of ps cs) c

-- the first r numbers of o are the cells in order of first visit, and s marks exactly these; the marks tell the core
-- cells of what is left once lost cells are collected, since a lost cell is no holder
pub record Visited (ps cs o s : List ℕ) (r : ℕ) : Type 0 where
  pub visited : take r o ≡ order (heap_of ps cs)
  pub few : r ≤ length cs
  pub marked : (c : ℕ) → c < length cs → eqb (get_or s c 0) 0 ≡ not (mem c (order (heap_of ps cs)))
  pub held : (c : ℕ) → c < length cs → leb 2 (get_or s c 0) ≡ core (collect (heap_of ps cs)) c

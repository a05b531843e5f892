-- The cells of an image, and what the inner functions ask and give: one walk, one cell that may be lost. Assumes
-- nothing.
use Rattle.std.specs.Prelude.{ℕ, ◌+◌, ◌<◌, ◌≤◌, ◌≡◌, ◌⊎◌, Bool, not, ◌&&◌, cond, List, map, eqb, length, get_or, take}
use Rattle.model.specs.Base.{count, mem, most_cells}
use Rattle.model.specs.Heap.{Val, Slot, unused, holds}
use Rattle.model.specs.Image.{cell_slot}
use Rattle.model.specs.Records.{val_of}
use Rattle.model.specs.Shape.{holds_cell}
use Rattle.model.specs.Notions.{NoDup, AllUsed, Closed, Walks}

-- the slot of a cell of the image; past the end there is none
abbrev pub slot_at : List ℕ → ℕ → Slot
slot_at cs c = get_or (map cell_slot cs) c unused

-- ---- one walk

-- n cells are in the order o, each once and in use, and s marks exactly these
pub record Visiting (cs o s : List ℕ) (n : ℕ) : Type 0 where
  pub few : length cs ≤ most_cells
  pub room : length cs ≤ length o
  pub marks : length cs ≤ length s
  pub counted : n ≤ length cs
  pub nexts : (c : ℕ) (v : Val) → slot_at cs c ≡ holds v → Closed (slot_at cs) v
  pub nodup : NoDup (take n o)
  pub used : AllUsed (slot_at cs) (take n o)
  pub marked : (c : ℕ) → c < length cs → eqb (get_or s c 0) 0 ≡ not (mem c (take n o))

pub record WalkReady (cs o s : List ℕ) (n v : ℕ) : Type 0 where
  pub visiting : Visiting cs o s n
  pub is_named : Closed (slot_at cs) (val_of v)

-- numbers that are the same, or both two or more
abbrev pub Alike : ℕ → ℕ → Type 0
Alike a b = (a ≡ b) ⊎ ((2 ≤ a) × (2 ≤ b))

-- how many of the cells l hold the cell c
abbrev pub held_by : List ℕ → ℕ → List ℕ → ℕ
held_by cs c l = count (holds_cell c) (map (slot_at cs) l)

-- the walk from the value v with the cells l seen before and the marks m; a mark counts holders: v, a pointer's value,
-- counts twice, each next once
pub record Walked (cs l m : List ℕ) (v : ℕ) (o s : List ℕ) (r : ℕ) : Type 0 where
  pub visiting : Visiting cs o s r
  pub walks : Walks (slot_at cs) l (val_of v) (take r o)
  pub held : (c k b : ℕ) → c < length cs → Alike (get_or m c 0 + (cond (eqb c v) 2 0 + k)) (b + held_by cs c l)
      → Alike (get_or s c 0 + k) (b + held_by cs c (take r o))

-- ---- one cell that may be lost: in use and without a mark
abbrev pub lost_at : ℕ → ℕ → Bool
lost_at b m = not (eqb b 0xfd) && eqb m 0

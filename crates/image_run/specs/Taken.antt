-- What a statement takes away: the value through which the cells that it loses, if any, were reached. Assumes nothing.
use Rattle.std.specs.Prelude.{ℕ, ◌≡◌, List, length, get_or}
use Rattle.model.specs.Base.{pointer_count}
use Rattle.model.specs.Heap.{Val, cell, null, undef, Slot, unused, Heap, ptr}
use Rattle.model.specs.Machine.{Action, compare, follow, held, link, make, point, release, splice, stay}
use Rattle.model.specs.Notions.{In}
use Rattle.model.specs.Structs.{DecodedOk}
use Rattle.model.specs.declared.Decoded.{Decoded}
use Rattle.effect.specs.Effect.{Named}

-- the next of the cell that a value names; null where it names none
abbrev pub next_at : List Slot → Val → Val
next_at ss (cell c) = held (get_or ss c unused)
next_at ss null = null
next_at ss undef = null

-- the value that an action takes away; null where it leaves the heap
abbrev pub takes : Action → Heap → Val
takes stay h = null
takes (compare u s) h = null
takes (point u s) h = ptr h u
takes (follow u w) h = ptr h u
takes (link u s) h = next_at h.slots (ptr h u)
takes (splice u w) h = next_at h.slots (ptr h u)
takes (make u) h = ptr h u
takes (release u) h = next_at h.slots (ptr h u)

-- a value that is a cell is one of the list's
abbrev pub Stands : Val → List Val → Type 0
Stands v vs = (c : ℕ) → v ≡ cell c → In (cell c) vs

-- a known op on two of six pointers, of which u names a cell in use or none
pub record TakenReady (d : Decoded) (ps cs : List ℕ) : Type 0 where
  pub fields : DecodedOk d
  pub six : length ps ≡ pointer_count
  pub named : Named cs (get_or ps d.u.0 0)

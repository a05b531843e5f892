-- A leak that is seen before the statement is run: what is asked of the location's record, and what it says of the
-- run. Assumes nothing.
use Rattle.std.specs.Prelude.{ℕ, ◌+◌, ◌<◌, ◌≤◌, ◌≡◌, false, List, length}
use Rattle.model.specs.Codes.{op_number}
use Rattle.model.specs.Heap.{Heap}
use Rattle.model.specs.Machine.{fault, leak, carry_out}
use Rattle.model.specs.Records.{byte}
use Rattle.model.specs.Structs.{keeps_at, op_in}
use Rattle.model.specs.declared.Decoded.{Decoded}
use Rattle.way.specs.Ready.{WayReady}
use Rattle.way.specs.Way.{way_in}
use Rattle.way.specs.declared.Way.{Way}

-- the byte at place a stands at no other place of the pointers and the successors
abbrev pub StandsOnce : List ℕ → ℕ → Type 0
StandsOnce l a = (i : ℕ) → 4 ≤ i → i < byte l 3 + 10 → byte l i ≡ byte l a → i ≡ a

-- u := w has another w, u := w.next a w that holds a node, and drop collects what it loses
abbrev pub Overwrites : List ℕ → ℕ → ℕ → ℕ → Type 0
Overwrites l op u w = (op ≡ 2 → u ≡ w → ⊥) × (op ≡ 3 → byte l (w + 4) < byte l 3) × (op ≡ 13 → ⊥)

abbrev pub AloneHolds : List ℕ → ℕ → Type 0
AloneHolds l u = (byte l (u + 4) < byte l 3) × StandsOnce l (u + 4)

-- some location is given of which the way is ready, and its statement may change the heap
pub record LossReady (l : List ℕ) (d : Decoded) (y : Way) : Type 0 where
  pub number : ℕ
  pub shape : Heap
  pub ready : WayReady l d number shape y
  pub changes : keeps_at (op_number d.op) ≡ false

-- whichever location was given, the run is a leak
abbrev pub Leaks : List ℕ → Decoded → Way → Type 0
Leaks l d y = (s : ℕ) (h : Heap) → WayReady l d s h y → carry_out (op_in d) (length h.slots) (way_in y h).heap
    ≡ fault leak

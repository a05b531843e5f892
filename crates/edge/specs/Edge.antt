-- One edge of a location: what it asks of the record and the way, what it leaves, and what its parts make. Assumes
-- nothing.
use Rattle.std.specs.Prelude.{ℕ, ◌≤◌, ◌≡◌, List, [], ◌∷◌, length, drop, Result, Ok, Err}
use Rattle.model.specs.Base.{record_size}
use Rattle.model.specs.Codes.{fault_code}
use Rattle.model.specs.Edges.{Edge, edge_by, step_by}
use Rattle.model.specs.Heap.{Heap}
use Rattle.model.specs.Machine.{carry_out, done, effect, target}
use Rattle.model.specs.Records.{byte, shape_of}
use Rattle.model.specs.Structs.{IsEdge, op_in, stmt_in}
use Rattle.model.specs.declared.Decoded.{Decoded}
use Rattle.model.specs.declared.EdgeMade.{EdgeMade}
use Rattle.model.specs.declared.Guards.{Guards}
use Rattle.model.specs.declared.codes.Fault.{Fault}
use Rattle.effect.specs.Effect.{effect_of}
use Rattle.record.specs.Written.{fault_bytes}
use Rattle.way.specs.Ready.{WayReady}
use Rattle.way.specs.Way.{way_in}
use Rattle.way.specs.declared.Way.{Way}

-- whichever location is given of which the way is ready, the edge that the way makes is the one left
abbrev pub LeavesBy : List ℕ → Decoded → Way → List ℕ → List ℕ → EdgeMade → Type 0
LeavesBy l d y t us r =
    (s : ℕ) (h : Heap) → WayReady l d s h y → (E : Edge)
    → edge_by s (length h.slots) (way_in y h) (step_by (stmt_in d) (length h.slots) (way_in y h)) ≡ E ∷ []
    → IsEdge E t us r

-- whichever location is given of which the way is ready, the run is this fault
abbrev pub Faults : List ℕ → Decoded → Way → Fault → Type 0
Faults l d y f =
    (s : ℕ) (h : Heap) → WayReady l d s h y → (g : Heap)
    → effect_of (fault_code f) g ≡ carry_out (op_in d) (length h.slots) (way_in y h).heap

-- the edge, or the fault
abbrev pub Leaves : List ℕ → Decoded → Way → List ℕ → List ℕ → Result EdgeMade Fault → Type 0
Leaves l d y t us (Ok r) = LeavesBy l d y t us r
Leaves l d y t us (Err f) = Faults l d y f

-- some location is given of which the way is ready, and there is room for the target and the updates
pub record EdgeReady (l : List ℕ) (d : Decoded) (y : Way) (t us : List ℕ) : Type 0 where
  pub number : ℕ
  pub shape : Heap
  pub ready : WayReady l d number shape y
  pub wide : length t ≡ record_size
  pub room : 13 ≤ length us

-- the statement is done on the location's shape and leaves it, so that it looks at no undefined pointer
abbrev pub KeepsShape : List ℕ → Decoded → Type 0
KeepsShape l d = (n : ℕ) → effect (op_in d) n (shape_of l) ≡ done (shape_of l)

-- what is made of a fault f of the location l: t is the fault's record
abbrev pub FaultMade : List ℕ → ℕ → Guards → List ℕ → EdgeMade → Type 0
FaultMade l f g t r = (r.branch ≡ 0) × (r.guards ≡ g) × (r.nodes ≡ 0) × (t ≡ fault_bytes (byte l 1) f)

-- the edge by branch b, with guards g and m new nodes, to the statement of that branch: its target before (t) and
-- after (t')
abbrev pub EdgeOn : Decoded → ℕ → Guards → ℕ → List ℕ → List ℕ → EdgeMade → Type 0
EdgeOn d b g m t t' r =
    (r ≡ record { branch = b; guards = g; nodes = m }) × (t' ≡ 0x4c ∷ target (stmt_in d) b ∷ 0 ∷ m ∷ drop 4 t)

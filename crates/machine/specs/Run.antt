-- What a run of a statement on a lent heap image asks and gives. Assumes nothing.
use Rattle.std.specs.Prelude.{ℕ, ◌<◌, ◌≤◌, ◌≡◌, Bool, cond, not, ◌||◌, List, map, eqb, length, get_or, take, Result}
use Rattle.std.specs.Result.{IfOk}
use Rattle.model.specs.Codes.{fault_in}
use Rattle.model.specs.Heap.{Heap, IsHeap, each_used, order}
use Rattle.model.specs.Image.{cell_slot, heap_of}
use Rattle.model.specs.Machine.{action, carry_out}
use Rattle.model.specs.Notions.{Room}
use Rattle.model.specs.Structs.{op_in}
use Rattle.model.specs.declared.Decoded.{Decoded}
use Rattle.model.specs.declared.codes.Fault.{Fault}
use Rattle.effect.specs.Effect.{EffectReady, effect_of}
use Rattle.visit.specs.Visit.{Held}
use Rattle.collection.specs.Left.{left_bytes}

-- a heap image
pub record Bytes : Type 0 where
  pub pointers : List ℕ
  pub cells : List ℕ

abbrev pub bytes : List ℕ → List ℕ → Bytes
bytes ps cs = record { pointers = ps; cells = cs }

abbrev pub heap_in : Bytes → Heap
heap_in b = heap_of b.pointers b.cells

-- the statement, the image, and room for the visit: its order, and clear marks
pub record RunReady (d : Decoded) (x : ℕ) (before : Bytes) (visit seen : List ℕ) : Type 0 where
  pub ready : EffectReady d x before.pointers before.cells
  pub fresh : Room (action (op_in d)) (heap_in before) x
  pub room : length before.cells ≤ length visit
  pub marks : length before.cells ≤ length seen
  pub clear : (c : ℕ) → c < length before.cells → get_or seen c 0 ≡ 0

-- every cell in use has a mark
abbrev pub all_marked : List ℕ → List ℕ → Bool
all_marked cs s = each_used (λ c. not (eqb (get_or s c 0) 0)) 0 (map cell_slot cs)

-- no cell is lost, where n cells have marks
abbrev pub kept_by : List ℕ → List ℕ → ℕ → Bool
kept_by cs s n = eqb n (length cs) || all_marked cs s

-- the fault r for lost cells, and the cells afterwards, where lost cells are collected and where they are a leak
pub record Settled (collects : Bool) (cs s : List ℕ) (n r : ℕ) (left : List ℕ) : Type 0 where
  pub fault : r ≡ cond (collects || kept_by cs s n) 0 3
  pub cells : left ≡ cond collects (left_bytes s 0 cs) cs

-- A run that has no fault: the visited cells, n of them, stand in their order, and the marks tell the core cells.
pub record RunDone (after : Bytes) (visit seen : List ℕ) (n : ℕ) : Type 0 where
  pub is_heap : IsHeap (heap_in after)
  pub visited : take n visit ≡ order (heap_in after)
  pub few : n ≤ length after.cells
  pub held : Held after.pointers after.cells seen

-- The fault and the image afterwards are what the machine's run gives.
pub record IsRun (d : Decoded) (x : ℕ) (before after : Bytes) (visit seen : List ℕ) (r : Result ℕ Fault) : Type 0 where
  pub outcome : effect_of (fault_in r) (heap_in after) ≡ carry_out (op_in d) x (heap_in before)
  pub done : IfOk r (RunDone after visit seen)

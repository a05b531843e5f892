-- The run by a way: what it asks and what it gives. Assumes nothing.
use Rattle.std.specs.Prelude.{ℕ, ◌+◌, ◌≤◌, ◌≡◌, List, length, get_or, take, Result, Ok, Err}
use Rattle.model.specs.Base.{pointer_count}
use Rattle.model.specs.Codes.{fault_code}
use Rattle.model.specs.Heap.{Heap, IsHeap, order}
use Rattle.model.specs.Image.{heap_of}
use Rattle.model.specs.Machine.{branch, carry_out, done}
use Rattle.model.specs.Records.{byte, shape_of}
use Rattle.model.specs.Structs.{op_in}
use Rattle.model.specs.declared.Decoded.{Decoded}
use Rattle.model.specs.declared.codes.Fault.{Fault}
use Rattle.effect.specs.Effect.{effect_of}
use Rattle.visit.specs.Visit.{Held}
use Rattle.machine.specs.Run.{Bytes}
use Rattle.way.specs.Ready.{WayReady}
use Rattle.way.specs.Way.{way_in}
use Rattle.way.specs.declared.Way.{Way}
use Rattle.shape_run.specs.declared.Gone.{Gone}

-- some location is given of which the way is ready, and there is room for the heap image and the visit
pub record RunsReady (l : List ℕ) (d : Decoded) (y : Way) (image : Bytes) (visit seen : List ℕ) : Type 0 where
  pub number : ℕ
  pub shape : Heap
  pub ready : WayReady l d number shape y
  pub six : length image.pointers ≡ pointer_count
  pub room : 13 ≤ length image.cells
  pub places : 13 ≤ length visit
  pub marks : 13 ≤ length seen
  pub clear : (c : ℕ) → get_or seen c 0 ≡ 0

-- the heap that a run leaves in an image
abbrev pub left_in : Bytes → Gone → Heap
left_in image r = heap_of image.pointers (take r.cells image.cells)

-- a run without fault: the image afterwards is that of the statement run on the way's heap, the visited cells stand in
-- their order, and the marks tell the core cells
pub record WayDone (l : List ℕ) (d : Decoded) (y : Way) (image : Bytes) (visit seen : List ℕ) (r : Gone) : Type 0 where
  pub outcome : done (left_in image r) ≡ carry_out (op_in d) (byte l 3) (way_in y (shape_of l)).heap
  pub branch : r.branch ≡ branch (op_in d) y.pick (shape_of l)
  pub count : r.cells ≤ byte l 3 + 1
  pub is_heap : IsHeap (left_in image r)
  pub visited : take r.visited visit ≡ order (left_in image r)
  pub few : r.visited ≤ r.cells
  pub held : Held image.pointers (take r.cells image.cells) seen

-- what the run gave, and the image afterwards: a fault is that of the statement run on the way's heap
abbrev pub WayRan : List ℕ → Decoded → Way → Bytes → List ℕ → List ℕ → Result Gone Fault → Type 0
WayRan l d y image visit seen (Ok r) = WayDone l d y image visit seen r
WayRan l d y image visit seen (Err f) =
    (g : Heap) → effect_of (fault_code f) g ≡ carry_out (op_in d) (byte l 3) (way_in y (shape_of l)).heap

-- The fold of a heap, as the call answers it. Assumes nothing.
use Rattle.model.specs.Base.{most_nodes}
use Rattle.model.specs.Heap.{Heap}
use Rattle.model.specs.Shape.{shape, counters}
use Rattle.model.specs.Records.{filled, is_accepted, shape_record}
use Rattle.model.specs.Image.{Folding}

-- the record and the counters of a heap
unfoldable pub folded_heap : Heap → Folding
folded_heap h =
    record { verdict = is_accepted; record_bytes = shape_record (shape h); counts = filled most_nodes (counters h) }

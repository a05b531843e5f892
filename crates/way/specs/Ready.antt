-- A way out of a location that is ready to be taken. Assumes nothing.
use Rattle.std.specs.Prelude.{ℕ, ◌≤◌, ◌<◌, ◌≡◌, false, List, length, Some}
use Rattle.model.specs.Base.{pointer_count, most_statements}
use Rattle.model.specs.Edges.{at, view}
use Rattle.model.specs.Heap.{Heap}
use Rattle.model.specs.Machine.{action, is_stop, kind}
use Rattle.model.specs.Notions.{Canon, Views}
use Rattle.model.specs.Records.{loc_record}
use Rattle.model.specs.Structs.{DecodedOk, Writes, op_in}
use Rattle.model.specs.declared.Decoded.{Decoded}
use Rattle.model.specs.declared.Node.{Node}
use Rattle.way.specs.declared.Way.{Way}

-- the record l is that of statement s with shape h; d is the statement; and the way is one of the location's
pub record WayReady (l : List ℕ) (d : Decoded) (s : ℕ) (h : Heap) (y : Way) : Type 0 where
  pub is_record : l ≡ loc_record (at s h)
  pub is_shape : Canon h
  pub six : length h.ptrs ≡ pointer_count
  pub statement : DecodedOk d
  pub low : s < most_statements
  pub goes : is_stop (kind (op_in d)) ≡ false
  pub pick : y.pick ≤ 1
  pub guards : Writes y.guards
  pub is_node : (n : Node) → y.split ≡ Some n → Views (view (action (op_in d)) h) n.0

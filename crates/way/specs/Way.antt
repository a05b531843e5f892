-- The ways out of a location as the code has them, and what opening a shape for one of them gives. Assumes nothing.
use Rattle.std.specs.Prelude.{ℕ, ◌+◌, ◌≤◌, ◌<◌, Bool, true, cond, List, [], ◌∷◌, ◌++◌, ◌≡◌, eqb, length, get_or, set, take, drop, Option, Some, None}
use Rattle.std.proofs.Math.Option.{some}
use Rattle.std.proofs.Math.ListN.{get_elem?}
use Rattle.model.specs.Base.{all, mem, most_nodes, record_size, pointer_count}
use Rattle.model.specs.Edges.{View, Way, no_node, one_node, split, split_heap, two_nodes, ways_of, whole}
use Rattle.model.specs.Heap.{Heap, unused}
use Rattle.model.specs.Machine.{Kind, is_stop}
use Rattle.model.specs.Records.{byte, value_byte}
use Rattle.model.specs.Notions.{Views}
use Rattle.model.specs.Structs.{Writes, guards_in}
use Rattle.model.specs.declared.Node.{Node}
use Rattle.way.specs.declared.Looked.{Looked}
use Rattle.way.specs.declared.Looked.TheVariants as looked
use Rattle.way.specs.declared.Way as declared

-- ---- ways

-- the way that the struct stands for, out of a location with shape h
abbrev pub way_by : Option Node → declared.Way → Heap → Way
way_by (Some n) y h = split (guards_in y.guards) n.0 h
way_by None y h = whole (guards_in y.guards) y.pick h

abbrev pub way_in : declared.Way → Heap → Way
way_in y h = way_by y.split y h

-- how many ways make an edge: none at a stop
abbrev pub way_number : Kind → View → Heap → ℕ
way_number k v h = cond (is_stop k) 0 (length (ways_of k v h))

-- what the code looks at
abbrev pub view_in : Looked → View
view_in looked.Nothing = no_node
view_in (looked.One n) = one_node n.0
view_in (looked.Two n m) = two_nodes n.0 m.0

-- y is way j of a statement that looks at v, and ready to be written: a node that is split is looked at
pub record IsWayOf (v : View) (j : ℕ) (y : declared.Way) (k : Kind) (h : Heap) : Type 0 where
  pub is_way : get_elem? (ways_of k v h) j ≡ some (way_in y h)
  pub pick : y.pick ≤ 1
  pub guards : Writes y.guards
  pub is_node : (n : Node) → y.split ≡ Some n → Views v n.0

abbrev pub IsWay : View → ℕ → declared.Way → Type 0
IsWay v j y = (k : Kind) (h : Heap) → j < length (ways_of k v h) → IsWayOf v j y k h

-- the ops that read, write or free through a pointer
abbrev pub looks_at : ℕ → Bool
looks_at op = mem op (3 ∷ 4 ∷ 5 ∷ 7 ∷ 12 ∷ [])

-- the op that takes a cell
abbrev pub makes_at : ℕ → Bool
makes_at op = eqb op 6

-- ---- opening a shape

-- what `open_way` asks of the record r, the pointers p and the cells c, where sp is the node that is split, if one is
pub record OpenReady (r p c : List ℕ) (sp : Option Node) : Type 0 where
  pub wide : length r ≡ record_size
  pub few : byte r 3 ≤ most_nodes
  pub values : all (value_byte (byte r 3)) (take (pointer_count + byte r 3) (drop 4 r)) ≡ true
  pub six : length p ≡ pointer_count
  pub room : 13 ≤ length c
  pub is_node : (n : Node) → sp ≡ Some n → n.0 < byte r 3

-- a cell not in use after the last one
abbrev pub with_unused : Heap → Heap
with_unused h = record { ptrs = h.ptrs; slots = h.slots ++ unused ∷ [] }

-- the heap that a statement is run on: the head of a node split off; for new a cell for it; else the shape
abbrev pub opened_heap : Option Node → ℕ → Heap → Heap
opened_heap (Some n) op h = split_heap n.0 (length h.slots) h
opened_heap None op h = cond (makes_at op) (with_unused h) h

-- its number of cells, for k nodes
abbrev pub opened_count : Option Node → ℕ → ℕ → ℕ
opened_count (Some n) op k = k + 1
opened_count None op k = cond (makes_at op) (k + 1) k

-- its cells as bytes, ss being the successors: at a split the node's successor becomes the tail, which gets the one
-- that the node had
abbrev pub opened_bytes : Option Node → ℕ → List ℕ → List ℕ
opened_bytes (Some n) op ss = set ss n.0 (length ss) ++ get_or ss n.0 0 ∷ []
opened_bytes None op ss = cond (makes_at op) (ss ++ 0xfd ∷ []) ss

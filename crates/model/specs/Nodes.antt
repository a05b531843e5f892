-- 02, job 5: what can be said of the nodes of a shape in a record that keeps the layout, and of which node first.
-- Assumes nothing.
use Rattle.std.specs.Prelude.{ℕ, ◌<◌, ◌≡◌, ◌↔◌, true, false, List, [], get_or, length}
use Rattle.model.specs.Heap.{Heap}
use Rattle.model.specs.Records.{Refusal, is_s, layout_h, shape_of, tells_node}
use Rattle.model.specs.Shape.{core, visit_number}
use Rattle.model.specs.Listings.{records_of}
use Rattle.model.specs.Notions.{Canon, Reaches}

-- "the first node concerned, in node order": n is the first node of which P holds
pub record FirstNode (h : Heap) (P : ℕ → Type 0) (n : ℕ) : Type 0 where
  pub below : n < length h.slots
  pub concerned : P n
  pub first : (m : ℕ) → m < n → P m → ⊥

-- P holds of every node
abbrev pub EveryNode : Heap → (ℕ → Type 0) → Type 0
EveryNode h P = (n : ℕ) → n < length h.slots → P n

-- What is told of the nodes, the number of a refusal and a node: "An unreachable node keeps 9 and is looked for first.
-- Refused: 18, when all are reachable and a node isn't core; 19, when only the numbering differs, at the first node
-- that the walk numbers otherwise." Or nothing, of a shape.
pub data Told (h : Heap) : ℕ → ℕ → Type 0 where
  unreachable : {n : ℕ} → FirstNode h (λ m. Reaches h m → ⊥) n → Told h 9 n
  not_core : {n : ℕ} → EveryNode h (Reaches h) → FirstNode h (λ m. core h m ≡ false) n → Told h 18 n
  numbered_otherwise : {n : ℕ} → EveryNode h (Reaches h) → EveryNode h (λ m. core h m ≡ true)
      → FirstNode h (λ m. visit_number h m ≡ m → ⊥) n → Told h 19 n
  nothing : Canon h → Told h 0 0

-- exactly one of the four holds, with one node
abbrev pub OneTold : Heap → Type 0
OneTold h = (n : ℕ) × (v : ℕ) × Told h n v × ((m w : ℕ) → Told h m w → (m ≡ n) × (w ≡ v))

-- number k and node d are given exactly as what is told of the nodes: 9, 18 and 19 with exactly that node, and none of
-- the three exactly to a shape
abbrev pub GivenAsTold : Heap → ℕ → ℕ → Type 0
GivenAsTold h k d = ((n v : ℕ) → tells_node n ≡ true → ((k ≡ n) × (d ≡ v)) ↔ Told h n v)
    × ((tells_node k ≡ false) ↔ Told h 0 0)

-- the record at a place of an input
abbrev pub record_of : List ℕ → ℕ → List ℕ
record_of s i = get_or (records_of s) i []

-- what a translation that is refused with 9, 18 or 19 says of the record at its place
abbrev pub SaysNode : List ℕ → Refusal → Type 0
SaysNode s x = (x.place < length (records_of s)) × (is_s (record_of s x.place) ≡ false)
    × (layout_h (record_of s x.place) ≡ true) × Told (shape_of (record_of s x.place)) x.number x.node

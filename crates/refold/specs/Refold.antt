-- What folding the heap that a run leaves asks and gives. Assumes nothing.
use Rattle.std.specs.Prelude.{ℕ, ◌+◌, ◌≤◌, ◌<◌, ◌≡◌, List, ◌∷◌, map, length, take, drop, Some}
use Rattle.model.specs.Base.{most_nodes, record_size}
use Rattle.model.specs.Edges.{at, update_of}
use Rattle.model.specs.Heap.{next}
use Rattle.model.specs.Image.{heap_of}
use Rattle.model.specs.Notions.{Used}
use Rattle.model.specs.Records.{loc_record, update_code}
use Rattle.model.specs.Shape.{segments, shape}
use Rattle.model.specs.declared.Node.{Node}
use Rattle.folding.specs.Shape.{ShapeReady}
use Rattle.cell_sum.specs.Codes.{weight_in}
use Rattle.cell_sum.specs.declared.Weights.{Weights}

-- a heap image in visit order with the counts of holders, of at most one cell past the old nodes, and room for the
-- target t and the updates us; at a split the tail is in use
pub record LeaveReady (ps cs visit held : List ℕ) (w : Weights) (t us : List ℕ) : Type 0 where
  pub image : ShapeReady ps cs visit held
  pub few_old : w.nodes ≤ most_nodes
  pub few : length cs ≤ w.nodes + 1
  pub short : length visit ≤ 13
  pub is_node : (n : Node) → w.split ≡ Some n → n.0 < w.nodes
  pub has_tail : (n : Node) → w.split ≡ Some n → Used (next (heap_of ps cs)) w.nodes
  pub wide : length t ≡ record_size
  pub room : 13 ≤ length us

-- with a head t is the record of the image's shape; us holds the codes of its m segments' updates
pub record IsLeft (ps cs : List ℕ) (w : Weights) (t us : List ℕ) (m : ℕ) : Type 0 where
  pub target : (s : ℕ) → 0x4c ∷ s ∷ 0 ∷ m ∷ drop 4 t ≡ loc_record (at s (shape (heap_of ps cs)))
  pub number : m ≡ length (segments (heap_of ps cs))
  pub few : m ≤ most_nodes
  pub updates : take m us ≡ map (λ x. update_code (update_of w.nodes (weight_in w) x)) (segments (heap_of ps cs))

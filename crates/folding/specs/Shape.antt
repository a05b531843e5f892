-- The shape of a heap image, by the cut of its visit order: what folding asks of the image, and what it gives.
use Rattle.std.specs.Prelude.{ℕ, ◌+◌, ◌<◌, ◌≤◌, ◌≡◌, true, List, ◌++◌, map, length, get_or, take, drop}
use Rattle.model.specs.Base.{mem, most_nodes, pointer_count, most_cells}
use Rattle.model.specs.Heap.{IsHeap, order}
use Rattle.model.specs.Image.{heap_of}
use Rattle.model.specs.Records.{val_byte, slot_byte}
use Rattle.model.specs.Shape.{cells, core, segments, shape, counters}
use Rattle.model.specs.Notions.{seg_at}
use Rattle.segment.specs.Cut.{held_core}

-- a heap image with its visit order and the counts of holders
pub record ShapeReady (ps cs visit held : List ℕ) : Type 0 where
  pub is_heap : IsHeap (heap_of ps cs)
  pub six : length ps ≡ pointer_count
  pub few : length cs ≤ most_cells
  pub visited : visit ≡ order (heap_of ps cs)
  pub holders : length cs ≤ length held
  pub counts : (c : ℕ) → c < length cs → held_core held c ≡ core (heap_of ps cs) c

-- `after` is `before` with the bytes of the shape over its front; the counters, and of each cell its node
pub record IsShape (ps cs node size before after : List ℕ) (k : ℕ) : Type 0 where
  pub number : k ≡ length (segments (heap_of ps cs))
  pub twelve : k ≤ most_nodes
  pub bytes : after
      ≡ (map val_byte (shape (heap_of ps cs)).ptrs ++ map slot_byte (shape (heap_of ps cs)).slots)
      ++ drop (pointer_count + k) before
  pub sizes : take k size ≡ counters (heap_of ps cs)
  pub nodes : (j c : ℕ) → j < k → mem c (cells (seg_at (segments (heap_of ps cs)) j)) ≡ true → get_or node c 0 ≡ j

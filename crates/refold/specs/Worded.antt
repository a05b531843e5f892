-- The record of a shape but for its head, as bytes and as four words. Assumes nothing.
use Rattle.std.specs.Prelude.{ℕ, ◌+◌, ◌-◌, ◌*◌, ◌/◌, ◌%◌, ◌≤◌, ◌≡◌, List, ◌++◌, length, replicate}
use Rattle.model.specs.Base.{most_nodes, pointer_count, record_size}
use Rattle.word.specs.Words.{bytes_of}
use Rattle.folding.specs.Fold.{AllIn, LastsIn}

-- the bytes q of the pointers and successors, behind the head's four places, and zeros
abbrev pub shape_bytes : List ℕ → List ℕ
shape_bytes q = replicate 4 0 ++ (q ++ replicate (28 - length q) 0)

-- the six pointers as a number, the first six successors, and the others
abbrev pub shape_words : ℕ → ℕ → ℕ → List ℕ
shape_words p low high =
    bytes_of 8 ((p % 0x1_0000_0000) * 0x1_0000_0000)
    ++ (bytes_of 8 (p / 0x1_0000_0000 + low * 0x1_0000) ++ (bytes_of 8 high ++ bytes_of 8 0))

-- six pointers and the last cells of at most twelve segments, each cell's node, and a record
pub record ShapeFits (ps cs last m t : List ℕ) : Type 0 where
  pub six : length ps ≡ pointer_count
  pub pointers : AllIn m ps
  pub lasts : LastsIn m cs last
  pub twelve : length last ≤ most_nodes
  pub wide : length t ≡ record_size

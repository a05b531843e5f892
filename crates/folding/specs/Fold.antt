-- Bytes of a heap in terms of nodes, by a table of each cell's node. Assumes nothing.
use Rattle.std.specs.Prelude.{ℕ, ◌+◌, ◌<◌, ◌≤◌, ◌≡◌, cond, List, ◌++◌, map, ltb, length, get_or}
use Rattle.model.specs.Base.{pointer_count}

-- a cell's byte becomes its node's; null, undefined and "not in use" stay
abbrev pub fold_byte : List ℕ → ℕ → ℕ
fold_byte m b = cond (ltb b 0xfd) (get_or m b 0) b

-- the table has a place for the cell that a byte names
abbrev pub InTable : List ℕ → ℕ → Type 0
InTable m b = b < 0xfd → b < length m

-- and for each byte of a list
abbrev pub AllIn : List ℕ → List ℕ → Type 0
AllIn m vs = (i : ℕ) → i < length vs → InTable m (get_or vs i 0)

-- each of the list is a cell, and the table has a place for what it holds
abbrev pub LastsIn : List ℕ → List ℕ → List ℕ → Type 0
LastsIn m cs last = (i : ℕ) → i < length last → (get_or last i 0 < length cs)
    × InTable m (get_or cs (get_or last i 0) 0)

-- the pointers ps, and what the cells `last` hold, in terms of nodes
abbrev pub folded_bytes : List ℕ → List ℕ → List ℕ → List ℕ → List ℕ
folded_bytes m ps cs last = map (fold_byte m) ps ++ map (λ c. fold_byte m (get_or cs c 0)) last

-- six pointers, the last cells of the segments, each cell's node, and room for the bytes of both
pub record FoldReady (ps cs last m shape : List ℕ) : Type 0 where
  pub six : length ps ≡ pointer_count
  pub pointers : AllIn m ps
  pub lasts : LastsIn m cs last
  pub room : pointer_count + length last ≤ length shape

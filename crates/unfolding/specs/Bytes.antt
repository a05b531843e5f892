-- The unfolded heap as bytes, over a table fs of the first cell of each node: a value, one strand, all strands.
-- Assumes nothing.
use Rattle.std.specs.Prelude.{ℕ, zero, suc, ◌+◌, ◌-◌, ◌<◌, ◌≡◌, cond, List, [], ◌∷◌, ◌++◌, ltb, length, get_or, replicate}
use Rattle.model.specs.Image.{first_cell}

-- the table has the first cell of each node
abbrev pub FirstCells : List ℕ → List ℕ → Type 0
FirstCells vs fs = (n : ℕ) → n < length vs → get_or fs n 0 ≡ first_cell vs n

-- a node becomes its first cell; null and undefined stay
abbrev pub placed_byte : List ℕ → ℕ → ℕ
placed_byte fs b = cond (ltb b (length fs)) (get_or fs b 0) b

-- c cells from b on: each holds the one after it, the last holds the value v
unfoldable pub strand_bytes : ℕ → ℕ → ℕ → List ℕ
strand_bytes b zero v = []
strand_bytes b (suc zero) v = v ∷ []
strand_bytes b (suc (suc c)) v = (b + 1) ∷ strand_bytes (b + 1) (suc c) v

-- a strand for each successor byte of ss and each counter of cs, from cell b on
unfoldable pub strands_bytes : List ℕ → ℕ → List ℕ → List ℕ → List ℕ
strands_bytes fs b [] cs = []
strands_bytes fs b (s ∷ ss) [] = []
strands_bytes fs b (s ∷ ss) (c ∷ cs) = strand_bytes b c (placed_byte fs s) ++ strands_bytes fs (b + c) ss cs

-- n cells of which the first hold l, the others not in use
abbrev pub image_bytes : ℕ → List ℕ → List ℕ
image_bytes n l = l ++ replicate (n - length l) 0xfd

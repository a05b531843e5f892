-- The bytes that are left of the cells, by the marks of a visit. Assumes nothing.
use Rattle.std.specs.Prelude.{ℕ, suc, cond, List, [], ◌∷◌, eqb, get_or}

abbrev pub left_byte : ℕ → ℕ → ℕ
left_byte mark b = cond (eqb mark 0) 0xfd b

-- the cells are numbered from i
abbrev pub left_bytes : List ℕ → ℕ → List ℕ → List ℕ
left_bytes s i [] = []
left_bytes s i (b ∷ cs) = left_byte (get_or s i 0) b ∷ left_bytes s (suc i) cs

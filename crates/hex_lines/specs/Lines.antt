-- Records as lines of hex digits, as the request's P1 fixes them: "64 hex digits a line". Assumes nothing.
use Rattle.std.specs.Prelude.{ℕ, ◌+◌, ◌*◌, ◌/◌, ◌%◌, ◌≤◌, true, false, List, [], ◌∷◌, ◌++◌, map, ltb, length}
use Rattle.model.specs.Base.{joined, record_size, most_locations, most_edges}
use Rattle.model.specs.Translate.{chunks}

-- a digit below 16: 0 to 9, then a to f
abbrev pub digit_of : ℕ → ℕ
digit_of n = elim (ltb n 10) [
  | true ↦ 48 + n
  | false ↦ 87 + n
]

-- a byte: two digits, the high one first
abbrev pub byte_of : ℕ → List ℕ
byte_of b = digit_of (b / 16) ∷ digit_of (b % 16) ∷ []

-- a record as a line: the digits of each byte, and a line's end
abbrev pub line_of : List ℕ → List ℕ
line_of r = joined (map byte_of r) ++ 10 ∷ []

-- the first n records of a table, a line each
abbrev pub lines_of : ℕ → List ℕ → List ℕ
lines_of n t = joined (map line_of (chunks n t))

-- the records that are counted stand in the tables, and the text has room for them
abbrev pub Stand : ℕ → List ℕ → ℕ → List ℕ → Type 0
Stand i ls j es = (i ≤ most_locations) × (j ≤ most_edges) × (record_size * i ≤ length ls)
    × (record_size * j ≤ length es)

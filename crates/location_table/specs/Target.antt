-- The location table and its count after the target of an edge is kept: a known one has its number, a new one the next.
-- Assumes nothing.
use Rattle.std.specs.Prelude.{ℕ, ◌+◌, cond, List, ltb}
use Rattle.record.specs.Written.{placed}

-- a target with number j, of nl locations
abbrev pub count_kept : ℕ → ℕ → ℕ
count_kept nl j = cond (ltb j nl) nl (nl + 1)

abbrev pub target_kept : List ℕ → ℕ → ℕ → List ℕ → List ℕ
target_kept ls nl j r = cond (ltb j nl) ls (placed ls nl r)

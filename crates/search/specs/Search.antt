-- What a search of a table finds. Assumes nothing.
use Rattle.std.specs.Prelude.{ℕ, ◌+◌, List}
use Rattle.std.proofs.Math.Option.{Option, none, some}
use Rattle.model.specs.Search.{equal_at, highest_below}
use Rattle.word.specs.Words.{eight_at}

-- the number that was found, or d
abbrev pub number_or : ℕ → Option ℕ → ℕ
number_or d (some i) = i
number_or d none = d

-- the newest of the first n records that equals r, or n
abbrev pub found_at : List ℕ → List ℕ → ℕ → ℕ
found_at t r n = number_or n (highest_below n (equal_at t r))

-- bytes 1 to 8 of the record at n, as a number
abbrev pub key_at : List ℕ → ℕ → ℕ
key_at t n = eight_at t (n + 1)

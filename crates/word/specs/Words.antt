-- Bytes as one number, the low byte first, and back. Assumes nothing.
use Rattle.std.specs.Prelude.{ℕ, zero, suc, ◌+◌, ◌*◌, ◌/◌, ◌%◌, List, [], ◌∷◌}
use Rattle.model.specs.Records.{word}

-- four bytes from n on as a number
abbrev pub four_at : List ℕ → ℕ → ℕ
four_at t n = word t n + 0x1_0000 * word t (n + 2)

-- eight bytes from n on as a number
abbrev pub eight_at : List ℕ → ℕ → ℕ
eight_at t n = four_at t n + 0x1_0000_0000 * four_at t (n + 4)

-- n bytes of the number x
abbrev pub bytes_of : ℕ → ℕ → List ℕ
bytes_of zero x = []
bytes_of (suc n) x = x % 256 ∷ bytes_of n (x / 256)

-- bytes as one number
abbrev pub number_of : List ℕ → ℕ
number_of [] = 0
number_of (b ∷ l) = b + 256 * number_of l

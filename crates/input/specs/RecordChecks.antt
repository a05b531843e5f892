-- Parts of the check, as the code makes them: one record's kind, the records before one, its checks. Assumes nothing.
use Rattle.std.specs.Prelude.{ℕ, zero, suc, Bool, ◌&&◌, ◌||◌, not, List, [], ◌∷◌, eqb}
use Rattle.model.specs.Records.{Row, checks_record, record_at}

-- H may stand anywhere, S only before the first H
abbrev pub kind_fits : Bool → ℕ → Bool
kind_fits after_h tag = eqb tag 0x48 || (eqb tag 0x53 && not after_h)

-- the first i records, the last of them first
abbrev pub earlier : List ℕ → ℕ → List (List ℕ)
earlier s zero = []
earlier s (suc i) = record_at s i ∷ earlier s i

-- the checks of record i of an input with n statements
abbrev pub record_checks : ℕ → List ℕ → ℕ → List Row
record_checks n s i = checks_record n (earlier s i) (record_at s i)

-- 02, job 8, "Newest shape first": the search for a record in a table, for all tables, counts and records. Assumes
-- nothing.
use Rattle.std.specs.Prelude.{ℕ, zero, suc, min, ◌≤◌, ◌<◌, ◌≡◌, Bool, cond, List, eqb, ltb, length}
use Rattle.std.proofs.Math.Option.{Option, none, some}
use Rattle.model.specs.Base.{most_locations, same_list}
use Rattle.model.specs.Records.{record_at}
use Rattle.model.specs.Translate.{places}

-- "count (cut to the table's places)", which are its length ÷ 32 rounded down, at most 1,024
abbrev pub cut_count : List ℕ → ℕ → ℕ
cut_count t n = min n (places most_locations (length t))

-- "whose record is equal": record i of the table, byte for byte. Below the places a record of the table has 32 bytes,
-- so that one of another length is equal to none.
abbrev pub equal_at : List ℕ → List ℕ → ℕ → Bool
equal_at t r i = same_list eqb (record_at t i) r

-- "the highest number below the count" that passes, "or none exactly if there is none": "begin at the newest and work
-- back"
abbrev pub highest_below : ℕ → (ℕ → Bool) → Option ℕ
highest_below zero p = none
highest_below (suc n) p = cond (p n) (some n) (highest_below n p)

unfoldable pub searched : List ℕ → ℕ → List ℕ → Option ℕ
searched t n r = highest_below (cut_count t n) (equal_at t r)

-- ---- the words of the promises

-- the number i where it is below n
abbrev pub number_below : ℕ → ℕ → Option ℕ
number_below n i = cond (ltb i n) (some i) none

-- number i is below the count and below the table's places, and the record there is r
pub record Equal (t : List ℕ) (n : ℕ) (r : List ℕ) (i : ℕ) : Type 0 where
  pub counted : i < n
  pub placed : i < places 1024 (length t)
  pub same : record_at t i ≡ r

-- "the highest number below the count whose record is equal, or none exactly if there is none"
abbrev pub TellsNewest : List ℕ → ℕ → List ℕ → Option ℕ → Type 0
TellsNewest t n r (some i) = Equal t n r i × ((j : ℕ) → Equal t n r j → j ≤ i)
TellsNewest t n r none = (j : ℕ) → Equal t n r j → ⊥

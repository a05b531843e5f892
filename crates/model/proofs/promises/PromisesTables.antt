-- The promises about reading the two tables: one record out of them. Each is a type; its proof under it cites a law.
use Prim.Native.Nat.{◌*◌, ◌+◌, ◌<◌, ◌≤◌, ℕ}
use mathlib.Core.Path.{◌≡◌}
use mathlib.Core.Logic.{◌↔◌, ◌⊎◌}
use mathlib.Core.List.{List, []}
use lib.ListN.{length}
use Rattle.model.specs.Listings.{EachRecord, Exact}
use Rattle.model.specs.Part.{meant_count, meant_table, part_bytes, record_part}
use Rattle.model.specs.Records.{Refusal, is_accepted, is_refused, record_at, refusal}
use Rattle.model.specs.Translate.{Listing, Routine, Tables, check, good, places, tables_of, translate}
use Rattle.model.proofs.listings.Parts.{part_accepts, part_empty, part_ends, part_holds, part_refuses, parts_listed}

-- ==== one record out of two tables

-- "Refused: 17, when the mark for the table is above 1, a count exceeds its table's places .. or the number isn't below
-- the meant table's count": exactly then; and accepted exactly when none of these is so
abbrev pub PartRefusals : Type 0
PartRefusals = (t : Tables) (mark n : ℕ)
    → ((x : Refusal) → ((record_part t mark n).verdict ≡ is_refused x)
    ↔ ((x ≡ refusal 17 0) × ((1 < mark) ⊎ ((places 1024 (length t.loc_bytes) < t.loc_count)
    ⊎ ((places 2048 (length t.edge_bytes) < t.edge_count) ⊎ (meant_count t mark ≤ n))))))
    × (((record_part t mark n).verdict ≡ is_accepted)
    ↔ ((mark ≤ 1) × (t.loc_count ≤ places 1024 (length t.loc_bytes))
    × (t.edge_count ≤ places 2048 (length t.edge_bytes)) × (n < meant_count t mark)))

pub part_refusals : PartRefusals
part_refusals t mark n = (part_refuses t mark n, part_accepts t mark n)

-- "hands back the 32 bytes as a part of whichever table was meant": record n of it; "the part is then empty". The part
-- stands inside that table.
abbrev pub PartHolds : Type 0
PartHolds = (t : Tables) (mark n : ℕ)
    → ((record_part t mark n).begins + (record_part t mark n).size ≤ length (meant_table t mark))
    × ((record_part t mark n).verdict ≡ is_accepted
    → ((record_part t mark n).begins ≡ 32 * n) × ((record_part t mark n).size ≡ 32)
    × (part_bytes t mark n ≡ record_at (meant_table t mark) n) × (length (part_bytes t mark n) ≡ 32))
    × ((x : Refusal) → (record_part t mark n).verdict ≡ is_refused x
    → ((record_part t mark n).begins ≡ 0) × ((record_part t mark n).size ≡ 0) × (part_bytes t mark n ≡ []))

pub part_is : PartHolds
part_is t mark n = (part_ends t mark n, part_holds t mark n, part_empty t mark n)

-- of the tables and counts that an accepted translation leaves, every number below a count is answered with the record
-- of that location or edge, and no other number
abbrev pub PartsOfListing : Type 0
PartsOfListing = (s : List ℕ) (a b : ℕ) (r : Routine) → check s ≡ good r → (translate s a b).verdict ≡ is_accepted
    → (t : Listing) × Exact r t × ((translate s a b).tables ≡ tables_of a b t) × EachRecord t (translate s a b).tables

pub parts_of_listing : PartsOfListing
parts_of_listing = parts_listed

-- The promises about the search for a record, which begins at the newest. Each is a type; its proof under it cites a
-- law.
use Prim.Native.Nat.{◌≤◌, ◌<◌, ℕ}
use mathlib.Core.Path.{◌≡◌}
use mathlib.Core.Logic.{◌↔◌}
use mathlib.Core.List.{List, ◌++◌, map}
use mathlib.Core.Option.{Option, none, some}
use lib.ListN.{length}
use Rattle.model.specs.Answers.{found_numbers, found_of}
use Rattle.model.specs.Base.{place_of}
use Rattle.model.specs.Edges.{Edge, Loc, edges_of, same_loc}
use Rattle.model.specs.Listings.{WritableLoc, explored, extend, loc_at}
use Rattle.model.specs.Records.{is_accepted, loc_record, record_at}
use Rattle.model.specs.Search.{TellsNewest, number_below, searched}
use Rattle.model.specs.Translate.{Routine, check, good, places, table_of, translate}
use Rattle.std.specs.Prelude.{Option as declared_option}
use Rattle.model.proofs.images.OneToOne.{found_numbers_one, found_one}
use Rattle.model.proofs.listings.Searches.{now_searched, own_number, search_length, search_tells}
use Rattle.model.proofs.records.Checked.{check_good}

-- ==== the search for a known location

-- "on any table, count (cut to the table's places) and record, it answers the highest number below the count whose
-- record is equal, or none exactly if there is none": each answer exactly then
abbrev pub SearchAnswers : Type 0
SearchAnswers = (t : List ℕ) (n : ℕ) (r : List ℕ) (o : Option ℕ) → (searched t n r ≡ o) ↔ TellsNewest t n r o

pub search_answers : SearchAnswers
search_answers = search_tells

-- a record that is not 32 bytes long is equal to none
abbrev pub SearchOtherLength : Type 0
SearchOtherLength = (t : List ℕ) (n : ℕ) (r : List ℕ) → (length r ≡ 32 → ⊥) → searched t n r ≡ none

pub search_other_length : SearchOtherLength
search_other_length = search_length

-- no two answers say the same, in numbers too: so a contract that is an equation with the definition leaves nothing
-- free
abbrev pub OneSearch : Type 0
OneSearch = ((x y : declared_option ℕ) → found_of x ≡ found_of y → x ≡ y)
    × ((x y : Option ℕ) → found_numbers x ≡ found_numbers y → x ≡ y)

pub one_search : OneSearch
one_search = (found_one, found_numbers_one)

-- "All listings, numbers and refusals come out equal": whenever an edge is added, its target is looked for among the
-- locations known then. These are distinct, so that the newest record that is equal is the first one, whose number
-- `add_edges` gives the target; and none is equal where that number is the next. This is so before each edge of each
-- location, of every routine that passes the checks, whatever location is looked for that a record can hold, as every
-- target is, and in a table of any length that has the places.
abbrev pub KnownIsFirst : Type 0
KnownIsFirst = (s : List ℕ) (r : Routine) → check s ≡ good r
    → (i : ℕ) (es later : List Edge)
    → edges_of r.stmts (loc_at (explored r.stmts r.starts i).locs i) ≡ es ++ later
    → (l : Loc) → WritableLoc l → (a : ℕ)
    → let ls = (extend i es (explored r.stmts r.starts i)).locs in length ls ≤ places 1024 a
    → searched (table_of a (map loc_record ls)) (length ls) (loc_record l)
    ≡ number_below (length ls) (place_of (same_loc l) ls)

pub known_is_first : KnownIsFirst
known_is_first s r e i es later front = now_searched r (check_good s r e) i es later front

-- in the tables that an accepted translation leaves, each location's record is found at its own number
abbrev pub LocationFound : Type 0
LocationFound = (s : List ℕ) (a b : ℕ) → (translate s a b).verdict ≡ is_accepted → (i : ℕ)
    → i < (translate s a b).tables.loc_count
    → searched (translate s a b).tables.loc_bytes (translate s a b).tables.loc_count
    (record_at (translate s a b).tables.loc_bytes i) ≡ some i

pub location_found : LocationFound
location_found = own_number

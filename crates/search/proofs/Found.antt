-- A search of a table from the newest record on, and what it finds in a table of distinct locations: the number of the
-- known location.
use Prim.Native.Nat.{ℕ, suc, ◌<◌, ◌≤◌}
use mathlib.Core.Path.{◌≡◌, sym, ap, ◌∙◌}
use mathlib.Core.Bool.{Bool, true, false}
use mathlib.Core.List.{List, map}
use mathlib.Core.Option.{some}
use native.Mathlib.Omega.{arith}
use lib.Dec.{ltb}
use lib.ListN.{length}
use borrow.Author.Tests.{le-ltb, lt-ltb, ltb-false}
use Rattle.std.specs.Prelude as std
use Rattle.std.specs.Option.{IfSome, is_some, unwrap_or}
use Rattle.model.specs.Answers.{found_of}
use Rattle.model.specs.Base.{place_of}
use Rattle.model.specs.Edges.{Loc, same_loc}
use Rattle.model.specs.Listings.{WritableLoc}
use Rattle.model.specs.Notions.{Distinct, In}
use Rattle.model.specs.Records.{loc_record}
use Rattle.model.specs.Search.{equal_at, highest_below, number_below}
use Rattle.model.specs.Translate.{table_of}
use Rattle.model.proofs.listings.Searches.{known_place}
use Rattle.model.proofs.lists.Logic.{bool_case}
use Rattle.model.proofs.shapes.Same.{place_le}
use Rattle.search.specs.Search.{found_at, number_or}

-- one number of the search, the one before i
module _ (p : ℕ → Bool) (i j : ℕ) (newest : i ≡ suc j) where
  pub highest_here : p j ≡ true → highest_below i p ≡ some j
  highest_here h = ap (λ n. highest_below n p) newest ∙ rw h

  pub highest_next : p j ≡ false → highest_below i p ≡ highest_below j p
  highest_next h = ap (λ n. highest_below n p) newest ∙ rw h

-- a number that is at most n
number_is : (n i : ℕ) → i ≤ n → number_or n (number_below n i) ≡ i
number_is n i h = bool_case (ltb i n) (λ e. rw e) (λ e. let k = ltb-false i n e in rw e (omega arith))

-- what a search answers, with the count for none
pub found_number : (o : std.Option ℕ) (t r : List ℕ) (n : ℕ) → found_of o ≡ highest_below n (equal_at t r)
    → unwrap_or o n ≡ found_at t r n
found_number std.None t r n e = ap (number_or n) e
found_number (std.Some i) t r n e = ap (number_or n) e

-- whether it answers a number, told by that
pub found_some : (o : std.Option ℕ) (n : ℕ) → IfSome o (λ i. i < n) → is_some o ≡ ltb (unwrap_or o n) n
found_some std.None n h = sym (le-ltb n n (omega arith))
found_some (std.Some i) n h = sym (lt-ltb i n h)

-- in a table of distinct locations, the record of a location is found at the location's number
pub found_location : (ls : List Loc) (l : Loc) (n : ℕ) (t r : List ℕ) → Distinct ls
    → ((m : Loc) → In m ls → WritableLoc m) → WritableLoc l
    → t ≡ table_of n (map loc_record ls) → r ≡ loc_record l → found_at t r (length ls) ≡ place_of (same_loc l) ls
found_location ls l n t r once W L p q =
    ap (number_or (length ls)) (known_place ls l n t r once W L p q)
    ∙ number_is (length ls) (place_of (same_loc l) ls) (place_le (same_loc l) ls)

-- Locations that are listed, and edges added to a listing held in the tables. Assumes nothing.
use Rattle.std.specs.Prelude.{ℕ, ◌<◌, ◌≡◌, List, length, Result, Ok, Err}
use Rattle.model.specs.Base.{most_edges, most_locations}
use Rattle.model.specs.Edges.{Edge, Loc, at, failed}
use Rattle.model.specs.Answers.{refusal_in}
use Rattle.model.specs.Codes.{refusal_for}
use Rattle.model.specs.Translate.{Explored, Listing, add_edges, full, listed, places}
use Rattle.model.specs.Notions.{In}
use Rattle.model.specs.Listings.{GoodLoc}
use Rattle.model.specs.declared.Counts.{Counts}
use Rattle.model.specs.declared.codes.Reason.{Reason}
use Rattle.listing.specs.Grow.{Holds}

-- a location that is listed: a shape with six pointers, or a fault, at one of n statements
abbrev pub LocOk : ℕ → Loc → Type 0
LocOk n (at s h) = GoodLoc (at s h) × (s < n)
LocOk n (failed s f) = s < n

abbrev pub LocsOk : ℕ → Listing → Type 0
LocsOk n t = (l : Loc) → In l t.locs → LocOk n l

-- the tables hold what the edges of location i give; or one of them found no place
abbrev pub AddedTo : ℕ → ℕ → Explored → List ℕ → List ℕ → List ℕ → Counts → Result (Unit {0}) Reason → Type 0
AddedTo n i (listed t) ls es ix c (Ok _) = Holds t ls es ix c × LocsOk n t
AddedTo n i (listed t) ls es ix c (Err r) = ⊥
AddedTo n i (full x) ls es ix c (Ok _) = ⊥
AddedTo n i (full x) ls es ix c (Err r) = x ≡ refusal_in (refusal_for r i)

-- edges of location i added to the listing t, with the places of the tables ls and es
abbrev pub added_in : List ℕ → List ℕ → ℕ → List Edge → Listing → Explored
added_in ls es i e t = add_edges (places most_locations (length ls)) (places most_edges (length es)) i e t

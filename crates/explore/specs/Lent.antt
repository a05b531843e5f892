-- What exploring asks of a listing that the code lends, and what is left of it. Assumes nothing.
use Rattle.std.specs.Prelude.{ℕ, List, Result}
use Rattle.model.specs.declared.Counts.{Counts}
use Rattle.model.specs.declared.codes.Reason.{Reason}
use Rattle.model.specs.declared.codes.Refusal.{Refusal}
use Rattle.listing.specs.declared.Listing.{Listing}
use Rattle.explore.specs.Explore.{AllExplored, ExploreReady, LocationExplored}

abbrev pub Ready : List ℕ → ℕ → Listing → Type 0
Ready s n t = ExploreReady s n t.locations.now t.edges.now t.index.now t.counts

abbrev pub LocationExplores : List ℕ → ℕ → Listing → ℕ → Listing → Result (Unit {0}) Reason → Type 0
LocationExplores s n t i t' x =
    LocationExplored s n t.locations.now t.edges.now t.index.now t.counts i t'.locations.now t'.edges.now t'.index.now
    t'.counts x

abbrev pub AllExplore : List ℕ → ℕ → Listing → Listing → Result Counts Refusal → Type 0
AllExplore s n t t' x =
    AllExplored s n t.locations.now t.edges.now t.index.now t.counts t'.locations.now t'.edges.now t'.index.now x

-- A listing as the code lends it: the two tables, the index and the counts. Assumes nothing.
use Rattle.std.specs.Prelude.{ℕ, ◌≡◌, List, Result, length}
use Rattle.model.specs.declared.EdgeMade.{EdgeMade}
use Rattle.model.specs.declared.codes.Reason.{Reason}
use Rattle.index.specs.Index.{index_kept}
use Rattle.location_table.specs.Target.{count_kept, target_kept}
use Rattle.listing.specs.Grow.{GrowReady, Grows}
use Rattle.listing.specs.declared.Listing.{Listing}

-- it is lent in the same places, as long as they were, whatever is in them
pub record SamePlaces (l l' : Listing) : Type 0 where
  pub locations : l'.locations.ghost_name ≡ l.locations.ghost_name
  pub edges : l'.edges.ghost_name ≡ l.edges.ghost_name
  pub index : l'.index.ghost_name ≡ l.index.ghost_name
  pub locations_length : length l'.locations.now ≡ length l.locations.now
  pub edges_length : length l'.edges.now ≡ length l.edges.now
  pub index_length : length l'.index.now ≡ length l.index.now

-- an edge can be added
abbrev pub Ready : Listing → ℕ → EdgeMade → List ℕ → List ℕ → Type 0
Ready l i m r us = GrowReady l.locations.now l.edges.now l.index.now l.counts i m r us

-- what comes of it
abbrev pub GrowsInto : Listing → ℕ → EdgeMade → List ℕ → List ℕ → Listing → Result (Unit {0}) Reason → Type 0
GrowsInto l i m r us l' x =
    Grows l.locations.now l.edges.now l.index.now l.counts i m r us l'.locations.now l'.edges.now l'.index.now
    l'.counts x

-- a location with number j, hash h and record r is kept
pub record IsKept (l : Listing) (j h : ℕ) (r : List ℕ) (l' : Listing) : Type 0 where
  pub locations : l'.locations.now ≡ target_kept l.locations.now l.counts.locations j r
  pub count : l'.counts.locations ≡ count_kept l.counts.locations j
  pub index : l'.index.now ≡ index_kept l.index.now l.counts.locations j h
  pub edges : l'.edges.now ≡ l.edges.now
  pub edge_count : l'.counts.edges ≡ l.counts.edges

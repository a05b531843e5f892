-- A listing held in the two tables, and one edge more. Assumes nothing.
use Rattle.std.specs.Prelude.{ℕ, ◌+◌, ◌*◌, ◌≤◌, ◌<◌, ◌≡◌, true, false, List, map, ltb, length, Result, Ok, Err}
use Rattle.model.specs.Base.{most_edges, most_locations, place_of, most_nodes, record_size}
use Rattle.model.specs.Edges.{Loc, Edge, same_loc}
use Rattle.model.specs.Records.{byte, loc_record}
use Rattle.model.specs.Structs.{IsEdge}
use Rattle.model.specs.Translate.{Link, Listing, link_record, table_of, places, grown}
use Rattle.model.specs.Listings.{WritableLoc}
use Rattle.model.specs.Notions.{Distinct, In, SmallGuards}
use Rattle.model.specs.declared.codes.Reason.{Reason}
use Rattle.model.specs.declared.codes.Reason.TheVariants.{EdgesFull, LocationsFull}
use Rattle.model.specs.declared.Counts.{Counts}
use Rattle.model.specs.declared.EdgeMade.{EdgeMade}
use Rattle.index.specs.Index.{Indexed, hash_count, hash_of, index_size}

-- the tables ls and es hold the listing t, in as many records as c counts, and ix is the index of its locations
pub record Holds (t : Listing) (ls es ix : List ℕ) (c : Counts) : Type 0 where
  pub locs : ls ≡ table_of (length ls) (map loc_record t.locs)
  pub edges : es ≡ table_of (length es) (map link_record t.links)
  pub loc_number : c.locations ≡ length t.locs
  pub edge_number : c.edges ≡ length t.links
  pub locs_fit : length t.locs ≤ places most_locations (length ls)
  pub edges_fit : length t.links ≤ places most_edges (length es)
  pub indexed : Indexed (map hash_of (map loc_record t.locs)) ix
  pub distinct : Distinct t.locs
  pub good_locs : (l : Loc) → In l t.locs → WritableLoc l
  pub good_links : (k : Link) → In k t.links → length k.edge.updates ≤ most_nodes

-- a location with the record r can have the number j: it is a place of the table, and the index is whole
pub record KeepReady (ls ix : List ℕ) (j h : ℕ) (r : List ℕ) : Type 0 where
  pub place : record_size * j + record_size ≤ length ls
  pub low : j < most_locations
  pub size : length ix ≡ index_size
  pub hashed : h < hash_count
  pub wide : length r ≡ record_size
  pub is_location : byte r 0 ≡ 0x4c

-- some listing is held, and an edge of location i is given as bytes: its target's record r, its updates us, and m
pub record GrowReady (ls es ix : List ℕ) (c : Counts) (i : ℕ) (m : EdgeMade) (r us : List ℕ) : Type 0 where
  pub list : Listing
  pub held : Holds list ls es ix c
  pub edge : Edge
  pub good : WritableLoc edge.to
  pub branch : edge.branch_no ≤ 1
  pub guarded : SmallGuards most_nodes edge.guards
  pub bytes : IsEdge edge r us m
  pub low : i < 65536
  pub wide : length r ≡ record_size
  pub room : m.nodes ≤ length us

-- what comes of adding the edge e of location i to the listing t: one edge more; or no place for a new location, looked
-- at first, or for the edge
abbrev pub GrownTo : Listing → ℕ → Edge → List ℕ → List ℕ → List ℕ → Counts → Result (Unit {0}) Reason → Type 0
GrownTo t i e ls es ix c (Ok _) =
    let j = place_of (same_loc e.to) t.locs in
    (ltb j (places most_locations (length ls)) ≡ true) × (ltb (length t.links) (places most_edges (length es)) ≡ true)
    × Holds (grown i j e t) ls es ix c
GrownTo t i e ls es ix c (Err LocationsFull) =
    ltb (place_of (same_loc e.to) t.locs) (places most_locations (length ls)) ≡ false
GrownTo t i e ls es ix c (Err EdgesFull) =
    (ltb (place_of (same_loc e.to) t.locs) (places most_locations (length ls)) ≡ true)
    × (ltb (length t.links) (places most_edges (length es)) ≡ false)
GrownTo t i e ls es ix c (Err _) = ⊥

-- whichever listing was held and whichever edge was given
abbrev pub Grows : List ℕ → List ℕ → List ℕ → Counts → ℕ → EdgeMade → List ℕ → List ℕ → List ℕ → List ℕ → List ℕ
    → Counts → Result (Unit {0}) Reason → Type 0
Grows ls es ix c i m r us ls' es' ix' c' x =
    (t : Listing) (e : Edge) → Holds t ls es ix c → WritableLoc e.to → IsEdge e r us m
    → GrownTo t i e ls' es' ix' c' x

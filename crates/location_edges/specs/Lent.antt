-- What is asked of a listing that the code lends, and what is left of it. Assumes nothing.
use Rattle.std.specs.Prelude.{ℕ, List, Result}
use Rattle.model.specs.declared.Decoded.{Decoded}
use Rattle.model.specs.declared.codes.Reason.{Reason}
use Rattle.way.specs.declared.Way.{Way}
use Rattle.listing.specs.declared.Listing.{Listing}
use Rattle.location_edges.specs.LocationEdges.{EdgesAdded, ShapeGiven, WayAdded, WayGiven}

abbrev pub WayReady : List ℕ → Decoded → Way → Listing → ℕ → Type 0
WayReady l d y t i = WayGiven l d y t.locations.now t.edges.now t.index.now t.counts i

abbrev pub WayAdds : List ℕ → Decoded → Way → Listing → ℕ → Listing → Result (Unit {0}) Reason → Type 0
WayAdds l d y t i t' x =
    WayAdded l d y t.locations.now t.edges.now t.index.now t.counts i t'.locations.now t'.edges.now t'.index.now
    t'.counts x

abbrev pub ShapeReady : List ℕ → Decoded → Listing → ℕ → Type 0
ShapeReady l d t i = ShapeGiven l d t.locations.now t.edges.now t.index.now t.counts i

abbrev pub EdgesAdd : List ℕ → Decoded → Listing → ℕ → Listing → Result (Unit {0}) Reason → Type 0
EdgesAdd l d t i t' x =
    EdgesAdded l d t.locations.now t.edges.now t.index.now t.counts i t'.locations.now t'.edges.now t'.index.now
    t'.counts x

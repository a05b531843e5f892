-- `add_edges` meets its contract: the edges by the ways from j on are left to be added.
use Rattle.listing.specs.Lent.{SamePlaces}
use Rattle.location_edges.proofs.WayByWay.{Adds}
use Rattle.location_edges.proofs.add_edges.Given as goal

abbrev pub invariant-loop-j : goal.invariant-loop-j
invariant-loop-j l =
    let t = l.initial.listing in
    SamePlaces t l.listing
    × Adds l.location l.d t.locations.now t.edges.now t.index.now t.counts l.i l.listing.locations.now
    l.listing.edges.now l.listing.index.now l.listing.counts l.j

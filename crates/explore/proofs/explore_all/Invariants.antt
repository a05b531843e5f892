-- `explore_all` meets its contract: what is left to explore from location i on gives the whole.
use Prim.Native.Nat.{◌-◌}
use Rattle.model.specs.Base.{most_locations}
use Rattle.listing.specs.Lent.{SamePlaces}
use Rattle.explore.proofs.Exploration.{Explores}
use Rattle.explore.proofs.explore_all.Given as goal

abbrev pub invariant-loop-i : goal.invariant-loop-i
invariant-loop-i l =
    let t = l.initial.listing in
    SamePlaces t l.listing
    × Explores l.input l.n t.locations.now t.edges.now t.index.now t.counts l.listing.locations.now
    l.listing.edges.now l.listing.index.now l.listing.counts l.i

abbrev pub decreases-loop-i : goal.decreases-loop-i
decreases-loop-i l = most_locations - l.i

-- `explore_all` meets its contract: what is left to explore from location i on gives the whole.
use Prim.Native.Nat.{◌≤◌}
use mathlib.Core.Path.{◌≡◌, sym, ◌∙◌}
use Rattle.std.proofs.lemmas.Result.{err_from_is_err_and}
use native.Mathlib.Omega.{arith}
use borrow.Author.Rules.{rules}
use Rattle.model.specs.Base.{most_locations}
use Rattle.listing.proofs.Places.{same_on, same_places}
use Rattle.explore.proofs.Exploration.{explores_end, explores_start, goes_no_further, goes_on, grown_since, most_locations_lem, next_ready, placed_at}
use Rattle.explore.proofs.explore_all.Goals as goal
use Rattle.explore.proofs.explore_all.Goals.{At-loop-i}

pub loop-i-init : goal.loop-i-init
loop-i-init c = (same_places _, explores_start _ _ _ _ _ _)

-- at the loop's head no location is lost, and there are at most 1,024
since : (c : At-loop-i) → c.args.listing.now.counts.locations ≤ c.loop-i.listing.counts.locations
since c = grown_since _ _ _ _ _ _ _ _ _ _ _ c.loop-i.invariant.1 c.requires

few : (c : At-loop-i) → c.loop-i.listing.counts.locations ≤ most_locations
few c = most_locations_lem _ _ _ _ _ _ (next_ready _ _ _ _ _ _ _ _ _ _ _ c.loop-i.invariant.1 c.requires)

pub explore_location-requires : goal.explore_location-requires
explore_location-requires c =
    let l = c.loop-i in
    (next_ready _ _ _ _ _ _ _ _ _ _ _ l.invariant.1 c.requires, c.loop-i-test.true)

pub overflow_add-i : goal.overflow_add-i
overflow_add-i c = omega (arith, few (goal.at.overflow_add-i c).At-loop-i, c.loop-i-test.true)

pub loop-i-smaller : goal.loop-i-smaller
loop-i-smaller c = omega (arith, few (goal.at.loop-i-smaller c).At-loop-i, c.loop-i-test.true)

pub loop-i-preserved : goal.loop-i-preserved
loop-i-preserved c =
    let l = c.loop-i in
    let w = c.explore_location in
    let k : c.map_err.result ≡ placed_at l.i w.result = search rules in (
      same_on l.invariant.0 w.ensures.same,
      goes_on _ _ _ _ _ _ _ _ _ _ l.i l.invariant.1 l.invariant.0.locations_length l.invariant.0.edges_length
          c.loop-i-test.true _ _ _ _ w.result _ w.ensures.explored (sym k ∙ c.in_ok-map_err.was),
    )

pub returns-in_err-map_err-clause-explored : goal.returns-in_err-map_err-clause-explored
returns-in_err-map_err-clause-explored c =
    let l = c.loop-i in
    let w = c.explore_location in
    let k : c.map_err.result ≡ placed_at l.i w.result = search rules in
    let p = err_from_is_err_and c.from_residual.result c.from_residual.ensures.1 in
    rw (p.1, p.2) (goes_no_further _ _ _ _ _ _ _ _ _ _ l.i l.invariant.1 l.invariant.0.locations_length
    l.invariant.0.edges_length c.loop-i-test.true _ _ _ _ w.result _ w.ensures.explored
    (sym k ∙ c.in_err-map_err.was))

pub returns-clause-explored : goal.returns-clause-explored
returns-clause-explored c =
    let l = c.loop-i in
    explores_end _ _ _ _ _ _ _ _ _ _ l.i l.invariant.1 l.invariant.0.locations_length l.invariant.0.edges_length
    (search rules)

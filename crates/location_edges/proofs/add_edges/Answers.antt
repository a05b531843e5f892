-- `add_edges` meets its contract: the op and the value that it looks at tell how many ways there are, and the edges by
-- the ways from j on are left to be added.
use native.Mathlib.Omega.{arith}
use borrow.Author.Rules.{rules}
use Rattle.std.proofs.lemmas.Result.{err_from_is_err_and}
use Rattle.listing.proofs.Places.{same_on, same_places}
use Rattle.location_edges.proofs.LocationBytes.{counted, location_wide}
use Rattle.location_edges.proofs.WayByWay.{adds_end, adds_full, adds_next, adds_start, way_given}
use Rattle.location_edges.proofs.add_edges.Goals as goal

pub slice_bounds-view-end : goal.slice_bounds-view-end
slice_bounds-view-end c = omega (arith, location_wide c.requires.here)

pub loop-j-init : goal.loop-j-init
loop-j-init c = (same_places _, adds_start _ _ _ _ _ _ _)

pub add_way-requires : goal.add_way-requires
add_way-requires c =
    let l = c.loop-j in
    let y = c.way_at-way in
    way_given _ _ _ _ _ _ _ _ _ (λ n s h A. counted A _ _ c.view-view.ensures c.way_count-count.ensures) _ _ _ _ l.j
    l.invariant.1 (search rules) y.result y.ensures c.requires

pub returns-in_err-add_way-clause-added : goal.returns-in_err-add_way-clause-added
returns-in_err-add_way-clause-added c =
    let l = c.loop-j in
    let y = c.way_at-way in
    let a = c.in_err-add_way.ensures in
    let same = same_on l.invariant.0 a.same in
    let p = err_from_is_err_and c.from_residual.result c.from_residual.ensures.1 in
    rw (p.1, p.2) (adds_full _ _ _ _ _ _ _ _ _
    (λ n s h A. counted A _ _ c.view-view.ensures c.way_count-count.ensures) _ _ _ _ l.j
    l.invariant.1 (search rules) y.result y.ensures _ _ _ _ same.locations_length same.edges_length _ a.added)

pub loop-j-preserved : goal.loop-j-preserved
loop-j-preserved c =
    let l = c.loop-j in
    let y = c.way_at-way in
    let a = c.in_ok-add_way.ensures in
    let same = same_on l.invariant.0 a.same in (
      same,
      adds_next _ _ _ _ _ _ _ _ _ (λ n s h A. counted A _ _ c.view-view.ensures c.way_count-count.ensures) _ _ _ _ l.j
          l.invariant.1 (search rules) y.result y.ensures _ _ _ _ same.locations_length same.edges_length a.added,
    )

pub returns-clause-added : goal.returns-clause-added
returns-clause-added c =
    let l = c.loop-j in
    adds_end _ _ _ _ _ _ _ _ _ (λ n s h A. counted A _ _ c.view-view.ensures c.way_count-count.ensures) _ _ _ _ l.j
    l.invariant.1 (search rules)

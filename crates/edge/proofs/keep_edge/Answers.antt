-- `edge::keep_edge` meets its contract: the branch is read off the record's pointers; the record and the counters are
-- carried over.
use native.Mathlib.Omega.{arith}
use Rattle.edge.proofs.Keeping.{keep_leaves}
use mathlib.Core.List.{[]}
use Rattle.way.proofs.Ready.{location_wide, nodes_few, pointers_six}
use Rattle.edge.proofs.keep_edge.Goals as goal

pub slice_bounds-branch_of-end : goal.slice_bounds-branch_of-end
slice_bounds-branch_of-end c = omega (arith, location_wide c.requires.2.ready)

pub branch_of-branch-requires : goal.branch_of-branch-requires
branch_of-branch-requires c =
    let R = c.requires.2.ready in
    let f = R.statement in
    (f.known, f.is_u, f.is_w, pointers_six R)

pub move_to-requires : goal.move_to-requires
move_to-requires c =
    let s = c.requires.2 in
    (location_wide s.ready, s.wide)

pub bounds-location-3 : goal.bounds-location-3
bounds-location-3 c = omega (
  arith,
  location_wide
      c.requires.2.ready,
)

pub overflow_cast-result : goal.overflow_cast-result
overflow_cast-result c = omega (
  arith,
  nodes_few c.requires.2.ready,
)

pub returns : goal.returns
returns c =
    let s = c.requires in
    let a = c.args in
    let b = c.branch_of-branch in
    let t = c.next_of in
    let m = c.move_to in
    let u = c.carry_updates in
    keep_leaves {l = a.location.now} {d = a.d} {y = a.way} m.new.target u.new.updates t.result.0
    b.result
    s.0 s.1 (omega (arith, s.2.room, u.auto.updates)) (b.ensures []) t.ensures m.ensures u.ensures

-- `canonical::node_failure` meets its contract: the marks tell the nodes that are reachable and core, the order their
-- numbers. Assumes nothing.
use native.Mathlib.Omega.{arith}
use Rattle.std.proofs.Common.{◌≤◌, length, refl}
use Rattle.canonical.proofs.Finding.{below_at, below_none, moved_at, moved_none}
use Rattle.canonical.proofs.NodeLaws.{tells_inner, tells_lost, tells_moved, tells_none}
use Rattle.canonical.proofs.node_failure.Goals as goal

pub returns-in-Some : goal.returns-in-Some
returns-in-Some c =
    let s = c.visit.new.seen in
    let n = length c.args.cells.now in
    let room : n ≤ length c.visit.new.order = omega (arith, c.visit.auto.order, c.requires.1) in
    let few : n ≤ length s = omega (arith, c.visit.auto.seen, c.requires.1) in
    let f = below_at 1 s few c.first_below.ensures c.in-Some.is in
    tells_lost c.visit.ensures c.requires.0 room f.0 f.1

pub returns-in-Some-first_below : goal.returns-in-Some-first_below
returns-in-Some-first_below c =
    let s = c.visit.new.seen in
    let n = length c.args.cells.now in
    let room : n ≤ length c.visit.new.order = omega (arith, c.visit.auto.order, c.requires.1) in
    let few : n ≤ length s = omega (arith, c.visit.auto.seen, c.requires.1) in
    let lost = below_none 1 s few c.first_below.ensures c.in_default.not-Some in
    let f = below_at 2 s few c.first_below-2.ensures c.in-Some-first_below.is in
    tells_inner c.visit.ensures c.requires.0 room refl lost f.0 f.1

pub returns-in-Some-first_moved : goal.returns-in-Some-first_moved
returns-in-Some-first_moved c =
    let s = c.visit.new.seen in
    let o = c.visit.new.order in
    let n = length c.args.cells.now in
    let room : n ≤ length o = omega (arith, c.visit.auto.order, c.requires.1) in
    let few : n ≤ length s = omega (arith, c.visit.auto.seen, c.requires.1) in
    let lost = below_none 1 s few c.first_below.ensures c.in_default.not-Some in
    let inner = below_none 2 s few c.first_below-2.ensures c.in_default-first_below.not-Some in
    let f = moved_at o room c.first_moved.ensures.first c.in-Some-first_moved.is in
    tells_moved c.visit.ensures c.requires.0 room refl lost refl inner f.0 f.1

pub returns : goal.returns
returns c =
    let s = c.visit.new.seen in
    let o = c.visit.new.order in
    let n = length c.args.cells.now in
    let room : n ≤ length o = omega (arith, c.visit.auto.order, c.requires.1) in
    let few : n ≤ length s = omega (arith, c.visit.auto.seen, c.requires.1) in
    let lost = below_none 1 s few c.first_below.ensures c.in_default.not-Some in
    let inner = below_none 2 s few c.first_below-2.ensures c.in_default-first_below.not-Some in
    let moved = moved_none o room c.first_moved.ensures.first c.in_default-first_moved.not-Some in
    tells_none c.visit.ensures c.requires.0 room refl lost refl inner refl moved

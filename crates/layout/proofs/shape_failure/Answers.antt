-- `shape_failure` meets its contract: the record's bytes are the heap image of its shape.
use Prim.Native.Nat.{◌+◌, ◌-◌}
use mathlib.Core.Path.{◌≡◌, sym, ap, subst, ◌∙◌}
use native.Mathlib.Omega.{arith}
use lib.ListN.{drop, length-drop}
use lib.Seq.{length-take-le}
use Rattle.model.specs.Heap.{closed}
use Rattle.model.specs.Records.{byte, checks_nodes}
use Rattle.model.specs.Structs.{Tells, failed_in}
use Rattle.model.proofs.records.ShapeBack.{layout_closed, layout_few, shape_image}
use Rattle.layout.proofs.shape_failure.Goals as goal

pub node_failure-requires : goal.node_failure-requires
node_failure-requires c =
    let r = c.args.rec.now in
    let few = layout_few r c.requires.0 c.requires.1 in
    let image = shape_image r c.requires.0 c.requires.1 in
    let successors = length-take-le (byte r 3) (drop 10 r) (omega (arith, length-drop 10 r)) in
    let e : (10 + byte r 3) - 10 ≡ byte r 3 = omega arith in
    rw e (ap closed (sym image) ∙ layout_closed r c.requires.0 c.requires.1, omega (arith, successors))

pub returns : goal.returns
returns c =
    let r = c.args.rec.now in
    let e : (10 + byte r 3) - 10 ≡ byte r 3 = omega arith in
    subst (λ h. Tells (checks_nodes h) (failed_in c.node_failure.result))
    (sym (shape_image r c.requires.0 c.requires.1))
    (rw e at c.node_failure.ensures)

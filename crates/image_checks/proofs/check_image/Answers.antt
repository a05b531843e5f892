-- `check_image` meets its contract: the lengths, the values, and the visit with the test for lost cells, each refusal
-- as it is found.
use mathlib.Core.Path.{◌≡◌}
use mathlib.Core.Bool.{true, ◌&&◌}
use Rattle.model.specs.Heap.{closed}
use Rattle.model.specs.Image.{heap_of, lengths}
use Rattle.image_checks.proofs.ImageChecks.{check_done, check_lost, check_ready, values_good}
use Rattle.image_checks.proofs.check_image.Goals as goal
use Rattle.image_checks.proofs.check_image.Goals.{Else-not-is_closed}

-- lengths and values are right
good : (c : Else-not-is_closed) → let a = c.args in
    lengths a.pointers.now a.cells.now && closed (heap_of a.pointers.now a.cells.now) ≡ true
good c =
    let a = c.args in
    values_good a.pointers.now a.cells.now c.lengths_ok.ensures c.if-not-lengths_ok.false c.is_closed.ensures
    c.if-not-is_closed.false

pub visit-n-requires : goal.visit-n-requires
visit-n-requires c =
    check_ready (good (goal.at.visit-n-requires c).Else-not-is_closed) c.requires.0 c.requires.1

pub returns : goal.returns
returns c =
    check_done (good (goal.at.returns c).Else-not-is_closed) c.visit-n.ensures c.nothing_lost.ensures
    c.if-not-nothing_lost.false

pub returns-then-not-nothing_lost : goal.returns-then-not-nothing_lost
returns-then-not-nothing_lost c =
    check_lost (good (goal.at.returns-then-not-nothing_lost c).Else-not-is_closed) c.visit-n.ensures
    c.nothing_lost.ensures c.if-not-nothing_lost.true

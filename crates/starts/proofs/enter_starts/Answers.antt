-- `enter_starts` meets its contract: the first j starting shapes are entered.
use mathlib.Core.Path.{ap, ◌∙◌}
use native.Mathlib.Omega.{arith}
use lib.ListN.{length}
use Rattle.model.specs.Translate.{table_of}
use Rattle.starts.proofs.Starts.{enter_end, enter_none, enter_turn}
use Rattle.starts.proofs.enter_starts.Goals as goal

pub loop-j-init : goal.loop-j-init
loop-j-init c =
    let a = c.args in
    let p = c.requires in
    enter_none _ a.n a.m p.is_good p.accepted a.locations.now p.blank

pub loop-j-preserved : goal.loop-j-preserved
loop-j-preserved c =
    let b = c in
    let a = b.args in
    let p = b.requires in
    let l = c.loop-j in
    let t = c.loop-j-test.true in
    c.put_start.ensures
    ∙ enter_turn _ a.n a.m p.is_good p.accepted (length a.locations.now) l.j l.locations
    (omega arith) p.room l.invariant

pub returns : goal.returns
returns c =
    let b = c in
    let a = b.args in
    let p = b.requires in
    let l = c.loop-j in
    let t = c.loop-j-test.false in
    l.invariant
    ∙ ap (table_of (length a.locations.now))
    (enter_end _ a.n a.m p.is_good p.accepted l.j (omega arith))

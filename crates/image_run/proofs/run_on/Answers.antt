-- `run_on` meets its contract: where what was taken away is no cell or stands in a pointer, nothing is lost; else the
-- work lists are clear, and the laws of a run say what its steps give.
use Rattle.machine.proofs.RunLaws.{run_settled, visit_ready}
use Rattle.machine.specs.Run.{bytes}
use Rattle.image_run.proofs.RunLaws.{ran_kept, run_ready, settled, taken_ready}
use Rattle.image_run.proofs.run_on.Goals as goal

pub taken-v-requires : goal.taken-v-requires
taken-v-requires c = taken_ready c.requires

pub returns-then-surely_kept : goal.returns-then-surely_kept
returns-then-surely_kept c =
    ran_kept c.requires c.in_ok-run_effect.ensures c.taken-v.result c.taken-v.ensures
    (c.surely_kept.ensures c.if-surely_kept.true)

pub visit-n-requires : goal.visit-n-requires
visit-n-requires c =
    let e = c.run_effect in
    visit_ready (run_ready c.requires) (bytes e.new.pointers e.new.cells) c.in_ok-run_effect.ensures

pub returns : goal.returns
returns c =
    let e = c.run_effect in
    settled c.settle.result c.visit-n.result (run_settled (run_ready c.requires) (bytes e.new.pointers e.new.cells)
    c.in_ok-run_effect.ensures c.visit-n.ensures c.visit-n.auto.order c.settle.result c.eq.ensures c.settle.ensures)

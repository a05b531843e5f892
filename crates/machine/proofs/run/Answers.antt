-- `machine::run` meets its contract, by what becomes of lost cells.
use Rattle.std.specs.Prelude.{Err, Ok}
use Rattle.std.proofs.lemmas.Result.{err_from_is_err_and}
use Rattle.machine.specs.Run.{bytes}
use Rattle.machine.proofs.RunLaws.{run_settled, visit_ready}
use Rattle.machine.proofs.run.Goals as goal

pub visit-n-requires : goal.visit-n-requires
visit-n-requires c =
    let e = c.run_effect in
    visit_ready c.requires (bytes e.new.pointers e.new.cells) c.in_ok-run_effect.ensures

pub returns-in_err-settle : goal.returns-in_err-settle
returns-in_err-settle c =
    let e = c.run_effect in
    let r = c.from_residual-in_err-settle in
    let p = err_from_is_err_and r.result r.ensures.1 in
    rw (p.1, p.2)
    (run_settled c.requires (bytes e.new.pointers e.new.cells) c.in_ok-run_effect.ensures c.visit-n.ensures
    c.visit-n.auto.order (Err c.in_err-settle.field-0.0) c.eq.ensures c.in_err-settle.ensures)

pub returns : goal.returns
returns c =
    let e = c.run_effect in
    run_settled c.requires (bytes e.new.pointers e.new.cells) c.in_ok-run_effect.ensures c.visit-n.ensures
    c.visit-n.auto.order (Ok tt) c.eq.ensures c.in_ok-settle.ensures

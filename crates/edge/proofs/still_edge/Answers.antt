-- `edge::still_edge` meets its contract: the pointers in the record are looked at first; where that is no fault, the
-- shape is kept.
use Rattle.std.proofs.lemmas.Result.{err_from_is_err_and}
use Rattle.edge.proofs.Keeping.{still_faults, still_keeps}
use Rattle.edge.proofs.still_edge.Goals as goal

pub returns-in_err-test_fault : goal.returns-in_err-test_fault
returns-in_err-test_fault c =
    let r = c.from_residual in
    let p = err_from_is_err_and r.result r.ensures.1 in
    rw (p.1, p.2) (still_faults c.in_err-test_fault.field-0.0 c.requires.0 c.in_err-test_fault.ensures)

pub keep_edge-requires : goal.keep_edge-requires
keep_edge-requires c =
    let s = c.requires in
    (s.0, still_keeps c.args.location.now c.args.d c.in_ok-test_fault.ensures, s.1)

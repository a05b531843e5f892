-- `count_statements` meets its contract: those before record i are counted, those from i on are left.
use native.Mathlib.Omega.{arith}
use borrow.Author.Tests.{eq-eqb, ne_eqb}
use Rattle.input.proofs.Records.{count_step, count_end}
use Rattle.input.proofs.count_statements.Goals as goal
use Rattle.input.proofs.count_statements.Goals.{then-input-i-eq83, else-input-i-eq83}

pub loop-i-preserved : goal.loop-i-preserved
loop-i-preserved c =
    let a = c.args in
    let l = c.loop-i in
    let k = count_step a.input.now a.records (omega arith) l.i (omega arith) in
    elim c.if-input-i-eq83.branch [
      | then-input-i-eq83 w ↦ (let n = w.n-is in let e = rw (eq-eqb _ _ w.if-input-i-eq83.true) at k in omega arith)
      | else-input-i-eq83 w ↦ (let n = w.n-is in let e = rw (ne_eqb _ _ w.if-input-i-eq83.false) at k in omega arith)
    ]

pub returns : goal.returns
returns c =
    let a = c.args in
    let l = c.loop-i in
    omega (arith, count_end a.input.now a.records (omega arith) l.i (omega arith))

-- `wrong_kind` meets its contract: the records from i on decide.
use mathlib.Core.Path.{sym, ◌∙◌}
use native.Mathlib.Omega.{arith}
use Rattle.input.proofs.Records.{kinds_pass, kinds_fail, kinds_end}
use Rattle.input.proofs.wrong_kind.Goals as goal

pub returns-then-not-kind_fits : goal.returns-then-not-kind_fits
returns-then-not-kind_fits c =
    let a = c.args in
    let l = c.loop-i in
    let k = sym c.kind_fits.ensures ∙ c.if-not-kind_fits.true in
    sym (l.invariant ∙ kinds_fail a.input.now a.records (omega arith) l.after l.i (omega arith) k)

pub loop-i-preserved : goal.loop-i-preserved
loop-i-preserved c =
    let a = c.args in
    let l = c.loop-i in
    let k = sym c.kind_fits.ensures ∙ c.if-not-kind_fits.false in
    l.invariant ∙ kinds_pass a.input.now a.records (omega arith) l.after l.i (omega arith) k

pub returns : goal.returns
returns c =
    let a = c.args in
    let l = c.loop-i in
    sym (l.invariant ∙ kinds_end a.input.now a.records (omega arith) l.after l.i (omega arith))

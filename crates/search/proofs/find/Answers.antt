-- `search::find` meets its contract: what is found is what is found among the records before i.
use Prim.Native.Nat.{◌-◌}
use mathlib.Core.Path.{sym, ◌∙◌}
use native.Mathlib.Omega.{arith}
use Rattle.search.proofs.Found.{highest_here, highest_next}
use Rattle.search.proofs.find.Goals as goal

pub loop-i-preserved : goal.loop-i-preserved
loop-i-preserved c =
    let l = c.loop-i in
    let t = c.loop-i-test.true in
    l.invariant
    ∙ highest_next _ l.i (l.i - 1) (omega arith) (sym c.same_by_key.ensures ∙ c.if-same_by_key.false)

pub returns-then-same_by_key-clause-found : goal.returns-then-same_by_key-clause-found
returns-then-same_by_key-clause-found c =
    let l = c.loop-i in
    let t = c.loop-i-test.true in
    sym (l.invariant
    ∙ highest_here _ l.i (l.i - 1) (omega arith) (sym c.same_by_key.ensures ∙ c.if-same_by_key.true))

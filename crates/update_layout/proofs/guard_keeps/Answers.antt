-- `guard_keeps` meets its contract: a guard that is none has no node, and another one of the source.
use Rattle.model.specs.Structs.{code_in}
use Rattle.update_layout.proofs.Least.{guard_none, guard_some}
use Rattle.update_layout.proofs.guard_keeps.Goals as goal

pub returns-then-guard-eq0 : goal.returns-then-guard-eq0
returns-then-guard-eq0 c =
    let a = c.args in guard_none a.nodes (code_in a.guard) c.if-guard-eq0.true

pub returns : goal.returns
returns c =
    let a = c.args in
    guard_some a.nodes (code_in a.guard) c.if-guard-eq0.false

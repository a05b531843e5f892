-- `holds` meets its contract: no guard, = 1, or at least 2.
use mathlib.Core.Path.{ap, sym}
use lib.ListN.{get_or}
use Rattle.model.specs.Runs.{guard_holds}
use Rattle.moving.proofs.holds.Goals as goal

pub returns-in-1 : goal.returns-in-1
returns-in-1 c = sym (ap (λ t. guard_holds t (get_or c.args.counters.now c.args.guard.node.0 0)) c.in-1.is)

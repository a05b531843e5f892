-- `edge::done_edge` meets its contract: what is surely lost is a leak.
use mathlib.Core.Path.{sym}
use Rattle.edge.proofs.done_edge.Goals as goal

pub returns-then-surely_lost : goal.returns-then-surely_lost
returns-then-surely_lost c s h ready g = sym (c.surely_lost.ensures c.if-surely_lost.true s h ready)

-- `segment::last_node` meets its contract.
use mathlib.Core.Path.{refl}
use Rattle.segment.proofs.last_node.Goals as goal

pub returns : goal.returns
returns c = refl

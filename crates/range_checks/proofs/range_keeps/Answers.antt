-- `range_keeps` meets its contract: the tests are those of the definition.
use mathlib.Core.Path.{refl}
use Rattle.range_checks.proofs.range_keeps.Goals as goal

pub returns : goal.returns
returns c = refl

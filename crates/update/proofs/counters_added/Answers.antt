-- `counters_added` meets its contract.
use mathlib.Core.Path.{refl}
use Rattle.update.proofs.Bits.{added_counted}
use Rattle.update.proofs.counters_added.Goals as goal

pub returns : goal.returns
returns c = (refl, added_counted c.args.update)

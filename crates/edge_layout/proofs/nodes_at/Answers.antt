-- `nodes_at` meets its contract: byte 3 of the record.
use mathlib.Core.Path.{ap}
use Rattle.model.specs.Records.{byte}
use Rattle.edge_layout.proofs.nodes_at.Goals as goal

pub returns : goal.returns
returns c = ap (λ r. byte r 3) c.record_at.ensures

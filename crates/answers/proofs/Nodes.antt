-- The number of the node that is told with a reason.
use mathlib.Core.Path.{◌≡◌, refl}
use Rattle.std.specs.Prelude.{Option, Some, None}
use Rattle.model.specs.Codes.{node_told, reason_node}
use Rattle.model.specs.declared.Node.{Node}
use Rattle.model.specs.declared.codes.Reason.{Reason}
use Rattle.answers.specs.Numbers.{node_number}

pub node_of_reason : (r : Reason) → node_number (node_told r) ≡ reason_node r
node_of_reason r = number (node_told r)
  where
    number : (o : Option Node) → node_number o ≡ elim o [ Some v ↦ v.0 | None ↦ 0 ]
    number (Some v) = refl
    number None = refl

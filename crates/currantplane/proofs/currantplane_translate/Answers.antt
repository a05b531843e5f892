-- `currantplane_translate` meets its contract: the outcome is told in numbers.
use mathlib.Core.Path.{◌∙◌, ap}
use lib.ListN.{set}
use Rattle.answers.specs.Numbers.{node_number}
use Rattle.currantplane.proofs.Told.{outcome_told}
use Rattle.currantplane.proofs.currantplane_translate.Goals as goal

pub returns-in-Ok : goal.returns-in-Ok
returns-in-Ok c = outcome_told c.in-Ok.ensures.outcome c.tell.ensures c.tell_node.ensures

pub returns-in-Err : goal.returns-in-Err
returns-in-Err c =
    rw c.number.ensures (outcome_told c.in-Err.ensures.outcome c.tell-in-Err.ensures
    (c.tell_node-in-Err.ensures ∙ ap (λ v. set c.tell-in-Err.new.answer 3 (node_number v)) c.node.ensures))

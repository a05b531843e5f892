-- `surely_kept` meets its contract: the value is no cell, or it stands among the pointers' bytes.
use mathlib.Core.Path.{sym, ◌∙◌}
use Rattle.image_run.proofs.TakenLaws.{byte_stands}
use Rattle.image_run.proofs.surely_kept.Goals as goal

pub returns-else-v-gt-UNUSED : goal.returns-else-v-gt-UNUSED
returns-else-v-gt-UNUSED c e =
    let a = c.args in byte_stands a.v a.pointers.now (sym c.contains.ensures.value ∙ e)

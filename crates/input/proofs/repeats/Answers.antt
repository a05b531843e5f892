-- `repeats` meets its contract: a record that is found is one of the first i.
use mathlib.Core.Path.{◌∙◌}
use Rattle.input.proofs.Records.{found_earlier}
use Rattle.input.proofs.repeats.Goals as goal

pub returns : goal.returns
returns c =
    let a = c.args in
    c.is_some.ensures ∙ found_earlier c.find.result a.input.now a.rec.now a.i c.find.ensures.found

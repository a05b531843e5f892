-- `all_values` meets its contract: what the tests gather is whether all pass.
use Rattle.std.proofs.Common.{rules, ◌∙◌, ◌&&◌, true}
use Rattle.std.proofs.lemmas.Iterator.{YieldsList-from_slice}
use Rattle.std.proofs.lemmas.Iterator.Consumers.{fold_from_yields_List}
use Rattle.model.specs.Records.{value_byte}
use Rattle.layout.proofs.Tests.{all_gathered}
use Rattle.layout.proofs.fields.all_values.Goals as goal

pub returns : goal.returns
returns c =
    let p = value_byte c.args.k in
    fold_from_yields_List _ (λ good b. good && p b) true _ c.fold.ensures.ran
    (YieldsList-from_slice c.args.bytes.now cc) (λ a x b q k. search rules)
    ∙ all_gathered p true c.args.bytes.now

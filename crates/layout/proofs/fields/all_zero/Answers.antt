-- `all_zero` meets its contract: bits that are gathered are none where no byte has any.
use Rattle.std.proofs.Common.{rules, ◌≡◌, ◌∙◌, ap, bit_or, eqb}
use Rattle.std.specs.List.{fold}
use Rattle.layout.proofs.Tests.{gathered}
use Rattle.layout.proofs.fields.all_zero.Goals as goal

pub returns : goal.returns
returns c =
    let e : c.fold.result ≡ fold (λ met b. bit_or met b) 0 c.args.bytes.now = search rules in
    ap (λ n. eqb n 0) e ∙ gathered 0 c.args.bytes.now

-- `blank` meets its contract: the first 32 bytes are filled.
use mathlib.Core.Path.{ap, ◌∙◌}
use mathlib.Core.List.{◌++◌}
use lib.ListN.{drop, replicate}
use lib.Seq.{length-take-le}
use Rattle.record.proofs.blank.Goals as goal

pub returns : goal.returns
returns c =
    let p = c.args.part.now in
    ap (λ l. l ++ drop 32 p)
    (c.fill.ensures.after (λ y e. e) ∙ ap (λ n. replicate n 0) (length-take-le 32 p c.requires))

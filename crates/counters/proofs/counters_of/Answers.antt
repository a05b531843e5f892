-- `counters_of` meets its contract: those from k on are all zero where their sum is.
use mathlib.Core.Path.{◌≡◌, ap, ◌∙◌}
use mathlib.Core.Bool.{◌&&◌}
use lib.Dec.{eqb}
use lib.ListN.{drop}
use Rattle.model.specs.Base.{sum}
use Rattle.model.proofs.lists.Slices.{part_from}
use Rattle.counters.proofs.Zeros.{zero_sum}
use Rattle.counters.proofs.counters_of.Goals as goal

pub returns : goal.returns
returns c =
    let a = c.args in
    let vs = a.counters.now in
    let rest : c.total.result ≡ sum (λ v. v) (drop a.k vs) =
    c.total.ensures ∙ ap (sum (λ v. v)) (part_from vs a.k) in
    let zeros = ap (λ s. eqb s 0) rest ∙ zero_sum (drop a.k vs) in
    λ i. c.all_positive.ensures i && zeros i

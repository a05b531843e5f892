-- `total` meets its contract: the chain adds the counters.
use mathlib.Core.Path.{◌≡◌, ◌∙◌, sym}
use borrow.Author.Rules.{rules}
use Rattle.std.specs.List.{sum_by}
use Rattle.model.proofs.lists.Chains.{sum_is}
use Rattle.counters.proofs.total.Goals as goal

pub returns : goal.returns
returns c = let e : c.sum.result ≡ sum_by (λ v. v) c.args.counters.now = search rules in
    e ∙ sym (sum_is (λ v. v) c.args.counters.now)

-- `all_positive` meets its contract: the chain tests each counter.
use mathlib.Core.Path.{◌∙◌, sym}
use borrow.Author.Rules.{rules}
use lib.Dec.{leb}
use Rattle.std.proofs.lemmas.Iterator.{YieldsList-from_slice}
use Rattle.std.proofs.lemmas.Iterator.Search.{all_from_yields_List}
use Rattle.model.proofs.lists.Chains.{all_is}
use Rattle.counters.proofs.all_positive.Goals as goal

pub returns : goal.returns
returns c =
    all_from_yields_List (leb 1) _ _ _ c.all.ensures.ran (YieldsList-from_slice c.args.counters.now cc)
    (λ x b q k. search rules)
    ∙ sym (all_is (leb 1) c.args.counters.now)

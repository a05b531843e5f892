-- `range_checks::first_wrong` meets its contract: the first counter found with a range that is none.
use mathlib.Core.Path.{◌≡◌}
use mathlib.Core.Bool.{true, false, not}
use borrow.Author.Rules.{rules}
use borrow.Author.Tests.{tests}
use Rattle.std.proofs.lemmas.Iterator.{first_from_Range}
use Rattle.model.specs.Ranges.{range_keeps}
use Rattle.range_checks.proofs.First.{first_below}
use Rattle.range_checks.proofs.first_wrong.Goals as goal

pub returns : goal.returns
returns c =
    let wrong = λ (i : _). not (range_keeps c.args.ranges.now i) in
    first_below wrong c.args.k c.find.result
    (first_from_Range _ _ _ c.find.result (λ i. wrong i ≡ true) (λ i. wrong i ≡ false) c.find.ensures.ran
    (λ x q k. search (rules, tests)) (λ x q k. search (rules, tests)))

-- `carries` meets its contract: each update carries its node's counter.
use Prim.Native.Nat.{ℕ, ◌+◌, ◌*◌, ◌^◌}
use mathlib.Core.Path.{◌∙◌, refl, sym}
use mathlib.Core.Bool.{Bool}
use native.Mathlib.Omega.{arith}
use lib.Dec.{eqb}
use borrow.Author.Rules.{rules}
use borrow.Author.Tests.{eqb-true, tests}
use Rattle.std.proofs.lemmas.Iterator.{YieldsList-from_range}
use Rattle.std.proofs.lemmas.Iterator.Search.{all_from_yields_List}
use Rattle.model.specs.Records.{word}
use Rattle.edge_layout.proofs.Ranges.{each_in_range}
use Rattle.moving.proofs.carries.Goals as goal

pub returns-then-old-new : goal.returns-then-old-new
returns-then-old-new c e =
    let r = c.args.rec.now in
    let p : ℕ → Bool = λ j. eqb (word r (8 + 2 * j)) (4096 + 2 ^ j) in
    let all = all_from_yields_List p _ _ c.all.result c.all.ensures.ran
    (YieldsList-from_range 0 c.args.new c.args.new refl (omega arith)) (λ x b q k. search (rules, tests)) in
    (c.if-old-new.true, λ j lt. eqb-true _ _ (each_in_range p c.args.new (sym all ∙ e) j lt))

-- `apply` meets its contract.
use Prim.Native.Nat.{◌%◌}
use mathlib.Core.Path.{◌≡◌, ap, ◌∙◌}
use native.Mathlib.Omega.{arith}
use Rattle.model.specs.Runs.{added}
use Rattle.update.proofs.Bits.{masked}
use Rattle.update.proofs.apply.Goals as goal
use Rattle.update.proofs.apply.Goals.{After-sum_of}

-- the sum is that of the counters whose bits the update has
sum_is : (c : After-sum_of) → c.sum_of.result ≡ added (c.args.update % 4096)
    c.args.counters.now
sum_is c = c.sum_of.ensures.0 ∙ ap (λ n. added n c.args.counters.now)
    (masked c.args.update)

pub returns : goal.returns
returns c = omega (arith, sum_is (goal.at.returns c).After-sum_of, c.saturating_sub.ensures)

pub sum_of-requires : goal.sum_of-requires
sum_of-requires c = omega (arith, masked c.args.update)

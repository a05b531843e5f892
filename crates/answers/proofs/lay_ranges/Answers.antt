-- `lay_ranges` meets its contract: the highest values are laid behind the lowest.
use native.Mathlib.Omega.{arith}
use Rattle.answers.proofs.Laying.{over_behind}
use Rattle.answers.proofs.lay_ranges.Goals as goal

pub returns-then-lows-to : goal.returns-then-lows-to
returns-then-lows-to c =
    let a = c.args in
    let lt = c.if-lows-to.true in
    over_behind a.lows.now a.highs.now a.to.now _ _ (omega (arith, c.lay.auto.to)) c.lay.ensures
    c.lay-then-lows-to.ensures

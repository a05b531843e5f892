-- `visit::nothing_lost` meets its contract. The whole search gives what was kept so far and what is left of the search
-- gives. Assumes nothing.
use Prim.Native.Nat.{◌+◌, ◌<◌}
use mathlib.Core.Path.{sym, ap, ◌∙◌}
use mathlib.Core.Bool.{◌&&◌}
use lib.ListN.{length}
use borrow.Author.Rules.{rules}
use Rattle.visit.proofs.Losing.{kept_from, kept_end, kept_more}
use Rattle.visit.proofs.nothing_lost.Goals as goal

pub loop-i-preserved : goal.loop-i-preserved
loop-i-preserved c =
    let a = c.args in
    let l = c.loop-i in
    let h : l.i < length a.cells.now = search rules in
    l.invariant ∙ kept_more a.seen.now a.cells.now l.i l.kept h
    ∙ ap (λ b. b && kept_from a.seen.now a.cells.now (l.i + 1)) (sym c.kept_too-kept.ensures)

pub returns : goal.returns
returns c =
    let a = c.args in
    let l = c.loop-i in
    sym (l.invariant ∙ kept_end a.seen.now a.cells.now l.i l.kept c.loop-i-test.false)

-- `loss::surely_lost` meets its contract: a split whose tail is cut off, or a node whose only pointer is overwritten.
use mathlib.Core.Path.{sym, ◌∙◌}
use Rattle.way.proofs.Ready.{location_wide, nodes_few}
use Rattle.loss.proofs.Leaking.{alone_leaks, cut_leaks}
use Rattle.loss.proofs.surely_lost.Goals as goal

pub overwrites-requires : goal.overwrites-requires
overwrites-requires c =
    let p = c.requires in
    (location_wide p.ready, p.ready.statement.is_w)

pub alone_holds-requires : goal.alone_holds-requires
alone_holds-requires c =
    let p = c.requires in
    (location_wide p.ready, p.ready.statement.is_u, nodes_few p.ready)

pub splits_at-requires : goal.splits_at-requires
splits_at-requires c =
    let p = c.requires in
    (location_wide p.ready, p.ready.statement.is_u)

pub returns-then-cuts_next : goal.returns-then-cuts_next
returns-then-cuts_next c e =
    let a = c.args in
    cut_leaks a.location.now a.d a.way
    (sym c.cuts_next.ensures ∙ c.if-cuts_next.true) (c.splits_at.ensures e)

pub returns-then-overwrites : goal.returns-then-overwrites
returns-then-overwrites c e =
    let s = c in
    let a = s.args in
    alone_leaks a.location.now a.d a.way s.requires.changes
    (sym c.cuts_next.ensures ∙ c.if-cuts_next.false)
    (c.overwrites.ensures c.if-overwrites.true) (c.alone_holds.ensures e)

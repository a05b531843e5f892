-- `segment::cut` meets its contract: after i cells the tables are those of the cut of the first i.
use mathlib.Core.Path.{◌∙◌}
use Rattle.segment.specs.Lent.{tables_in}
use Rattle.segment.proofs.CutStep.{enter_alike, ready_at, size_past, turn_at}
use Rattle.segment.proofs.cut.Goals as goal

pub put-k-requires : goal.put-k-requires
put-k-requires c =
    let l = c.loop-c in
    ready_at c.requires l.c-index c.loop-c-test.true (tables_in l.tables) l.invariant.1 l.k l.invariant.2

pub loop-c-preserved : goal.loop-c-preserved
loop-c-preserved c =
    let l = c.loop-c in
    let p = c.put-k in
    let e = p.ensures in
    let inv = l.invariant in
    let b = c.loop-c-test.true in
    let t = tables_in l.tables in
    let y = ready_at c.requires l.c-index b t inv.1 l.k inv.2 in (
      (e.same.0 ∙ inv.0.0, e.same.1 ∙ inv.0.1, e.same.2 ∙ inv.0.2),
      enter_alike e.put.entered inv.1,
      turn_at c.requires l.c-index b t inv.1 l.k inv.2 (tables_in p.new.self) p.result e.put,
      size_past _ _ l.k t (tables_in p.new.self) p.result e.put c.args.size.now (λ q. (y.more q).0) inv.3,
    )

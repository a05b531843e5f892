-- `new_counters` meets its contract: the counters of the first j nodes are put.
use Prim.Native.Nat.{◌^◌}
use mathlib.Core.Path.{◌∙◌, ap, sym}
use native.Mathlib.Omega.{arith}
use mathlib.Core.List.{◌++◌, map}
use lib.ListN.{drop, set}
use borrow.Author.Rules.{rules}
use borrow.Author.Tests.{le-ltb, lt-ltb}
use Rattle.std.proofs.lemmas.Result.{err_from_is_err_and}
use Rattle.model.specs.Runs.{applied, updates_of}
use Rattle.moving.proofs.Advancing.{fits, put_all, put_filled, put_one, put_over}
use Rattle.moving.proofs.new_counters.Goals as goal

pub returns-in_err-next : goal.returns-in_err-next
returns-in_err-next c =
    let a = c.args in
    let l = c.loop-j in
    let v = ap (λ u. fits (applied a.counters.now u)) (sym c.two.ensures)
    ∙ le-ltb (applied a.counters.now c.two.result) (2 ^ 32) c.in_err-next.ensures.1 in
    let p = err_from_is_err_and c.from_residual.result c.from_residual.ensures.1 in
    rw (p.1, p.2) (
      c.in_err-next.ensures.0,
      sym (put_over a.rec.now a.counters.now a.nodes _ l.next l.j l.invariant (search rules) v),
    )

pub loop-j-preserved : goal.loop-j-preserved
loop-j-preserved c =
    let a = c.args in
    let l = c.loop-j in
    let v = c.in_ok-next.ensures.0 ∙ ap (applied a.counters.now) c.two.ensures in
    put_one a.rec.now a.counters.now a.nodes _ l.next l.j l.invariant (search rules) (omega arith)
    (ap fits (sym v) ∙ lt-ltb c.in_ok-next.field-0 (2 ^ 32) c.in_ok-next.ensures.1) (ap (set l.next l.j) v)

pub returns : goal.returns
returns c =
    let a = c.args in
    let l = c.loop-j in
    let f = put_all a.rec.now a.counters.now a.nodes _ l.next l.j l.invariant (search rules) in
    let vs = map (applied a.counters.now) (updates_of a.nodes a.rec.now) in (
      sym f.0,
      f.1 ∙ ap (λ l. vs ++ drop a.nodes l) c.requires.2
          ∙ put_filled a.rec.now a.counters.now a.nodes (omega arith),
    )

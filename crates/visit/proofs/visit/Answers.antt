-- `visit::visit` meets its contract. The invariant: the cells so far are a visit, the tour of the pointers left is the
-- whole tour, and the marks count all holders but the pointers left. Assumes nothing.
use Prim.Native.Nat.{◌+◌, ◌<◌}
use native.Mathlib.Nat.{add-zero}
use native.Mathlib.Omega.{arith}
use mathlib.Core.Logic.{inl}
use lib.ListN.{length, take, drop}
use borrow.Author.Rules.{rules}
use Rattle.model.specs.Image.{heap_of}
use Rattle.model.proofs.expansion.Facts.{test_closed}
use Rattle.visit.proofs.ByteLaws.{pointer_closed}
use Rattle.visit.specs.Steps.{slot_at}
use Rattle.visit.proofs.Counting.{pointing, pointing_end, pointing_step}
use Rattle.visit.proofs.Walking.{tour_end, tour_step, visited_of, visiting_none}
use Rattle.visit.proofs.visit.Goals as goal

pub loop-start-init : goal.loop-start-init
loop-start-init c =
    let p = c.requires in
    (visiting_none p, (λ t w. w), λ d q. inl (omega (arith, p.clear d q)))

pub walk_from-n-requires : goal.walk_from-n-requires
walk_from-n-requires c =
    let s = c in
    let ps = s.args.pointers.now in
    let cs = s.args.cells.now in
    let l = c.loop-start in
    let h : l.start-index < length ps = search rules in
    record {
      visiting = l.invariant.0;
      is_named = pointer_closed (slot_at cs) ps l.start-index
          (test_closed (heap_of ps cs) s.requires.is_closed).0 h;
    }

pub loop-start-preserved : goal.loop-start-preserved
loop-start-preserved c =
    let a = c.args in
    let l = c.loop-start in
    let w = c.walk_from-n in
    let h : l.start-index < length a.pointers.now = search rules in (
      w.ensures.visiting,
      (λ t ts. l.invariant.1 t (tour_step a.pointers.now a.cells.now (take l.n l.order) l.seen l.start-index _ _
          _ h w.ensures t ts)),
      λ d q. w.ensures.held d (pointing d (drop (l.start-index + 1) a.pointers.now)) (pointing d a.pointers.now) q
          (rw (pointing_step d a.pointers.now l.start-index h) at (l.invariant.2 d q)),
    )

pub returns : goal.returns
returns c =
    let s = c in
    let ps = s.args.pointers.now in
    let cs = s.args.cells.now in
    let l = c.loop-start in
    visited_of ps cs l.order l.seen l.n s.requires.is_closed l.invariant.0
    (l.invariant.1 (take l.n l.order) (tour_end ps cs (take l.n l.order) l.start-index c.loop-start-test.false))
    (λ d q. rw (pointing_end d ps l.start-index c.loop-start-test.false, add-zero) at (l.invariant.2 d q))

-- `visit::walk_from` meets its contract. The invariant: the cells so far are a visit, a walk from here is a walk from
-- the start, and the marks count all holders but the one under way. A new cell finds a place, since no cell is twice
-- in the order; so the places left fall. Assumes nothing.
use Prim.Native.Nat.{◌<◌}
use native.Mathlib.Omega.{arith}
use mathlib.Core.Path.{◌≡◌}
use lib.ListN.{length, get_or, take, length-set}
use borrow.Author.Rules.{rules}
use Rattle.visit.proofs.Counting.{count_again, count_new, count_past}
use Rattle.visit.proofs.Walking.{next_closed, place_left, put_behind, visiting_again, visiting_more, walk_go, walk_past, walk_stop}
use Rattle.visit.proofs.walk_from.Goals as goal
use Rattle.visit.proofs.walk_from.Goals.{Else-seen-v-ne0}

pub loop-v-init : goal.loop-v-init
loop-v-init c = (search rules, search rules, search rules, search rules, (λ t w. w), search rules, λ d k b h y. y)

pub returns-then-seen-v-ne0 : goal.returns-then-seen-v-ne0
returns-then-seen-v-ne0 c =
    let l = c.loop-v in
    let h : l.v < length c.args.cells.now = search rules in
    let x = l.invariant.2 in
    let m = x.marks in
    record {
      visiting = visiting_again x l.v l.invariant.3 h 2 (omega arith) c.if-seen-v-ne0.true;
      walks = l.invariant.4 _ (walk_stop x l.v l.invariant.3 h c.if-seen-v-ne0.true);
      held = λ d k b q y. count_again l.seen l.v l.holders d k _ (omega arith) c.if-seen-v-ne0.true l.invariant.5
          (l.invariant.6 d k b q y);
    }

-- a new cell finds a place in the order
place : (c : Else-seen-v-ne0) → c.loop-v.n < length
    c.args.cells.now
place c =
    let l = c.loop-v in
    let h : l.v < length c.args.cells.now = search rules in
    place_left l.invariant.2 l.v l.invariant.3 h c.if-seen-v-ne0.false

pub bounds-order-n : goal.bounds-order-n
bounds-order-n c = let r = c.loop-v.invariant.2.room in omega (arith, place (goal.at.bounds-order-n c).Else-seen-v-ne0)

pub overflow_add-n : goal.overflow_add-n
overflow_add-n c = let r = c.loop-v.invariant.2.few in omega (arith, place (goal.at.overflow_add-n c).Else-seen-v-ne0)

pub overflow_cast-v-in-loop-v : goal.overflow_cast-v-in-loop-v
overflow_cast-v-in-loop-v c = omega (arith, c.type_inv.cells c.loop-v.v)

pub loop-v-smaller : goal.loop-v-smaller
loop-v-smaller c = omega (arith, place (goal.at.loop-v-smaller c).Else-seen-v-ne0)

pub loop-v-preserved : goal.loop-v-preserved
loop-v-preserved c =
    let l = c.loop-v in
    let cs = c.args.cells.now in
    let h : l.v < length cs = search rules in
    let e : get_or l.seen l.v 0 ≡ 0 = c.if-seen-v-ne0.false in
    let x = l.invariant.2 in
    let k = l.invariant.3 in (
      simp length-set l.invariant.0,
      simp length-set l.invariant.1,
      visiting_more x l.v k h l.holders l.invariant.5 e,
      next_closed x l.v k h,
      (λ t w. l.invariant.4 t (walk_go x l.v k h e t w)),
      omega arith,
      λ d j b q y. rw (put_behind x l.v k h e) (count_new cs l.seen (take l.n l.order) l.v l.holders
          d j b x.few x.marks h q e (l.invariant.6 d j b q y)),
    )

pub returns : goal.returns
returns c =
    let l = c.loop-v in
    let past = c.loop-v-test.false in
    let seen = take l.n l.order in
    record {
      visiting = l.invariant.2;
      walks = l.invariant.4 seen (walk_past c.args.cells.now seen l.v l.invariant.3 past);
      held = λ d k b q y. count_past l.v l.holders d k _ _ (omega arith) (l.invariant.6 d k b q y);
    }

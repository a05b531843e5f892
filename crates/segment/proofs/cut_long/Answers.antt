-- `segment::cut_long` meets its contract: with the cells before place i cut, the tables have their k segments.
use Prim.Native.Nat.{◌+◌, ◌-◌, ◌<◌, ◌≤◌}
use mathlib.Core.Path.{◌≡◌, ◌∙◌, ap, refl, subst}
use native.Mathlib.Omega.{arith}
use lib.ListN.{drop, length, length-drop, length-set}
use lib.Seq.{get_or-drop, take_all}
use borrow.Author.Rules.{rules}
use Rattle.segment.specs.Cut.{CutTables, cut_tables, inner}
use Rattle.segment.proofs.RunLaws.{cut_begins, cut_ends, past_next, run_low, run_room, run_turn, run_within}
use Rattle.segment.proofs.cut_long.Goals as goal
use Rattle.segment.proofs.cut_long.Goals.{After-run_length, At-loop-i}

-- the tables where a turn begins
abbrev now : At-loop-i → CutTables
now l = cut_tables l.loop-i.node l.loop-i.last l.loop-i.size

-- where the segment ends: it is looked for in what is left of the order
ends : (c : After-run_length) → let i = c.loop-i.i in
    i + 1 + c.run_length.result ≡ i + 1 + inner c.args.held.now (drop (i + 1) c.args.order.now)
ends c =
    let o = c.args.order.now in
    let n = c.loop-i.i + 1 in
    let all = take_all (length o - n) (drop n o) (omega (arith, length-drop n o)) in
    ap (λ r. n + r) (c.run_length.ensures ∙ ap (inner c.args.held.now) all)

-- it does so within the order, and there is room for one more
within : (c : After-run_length) → (c.loop-i.i < c.loop-i.i + 1 + c.run_length.result)
    × (c.loop-i.i + 1 + c.run_length.result ≤ length c.args.order.now)
within c =
    let l = c.loop-i in
    run_within c.requires l.i c.loop-i-test.true (cut_tables l.node l.last l.size) l.invariant.1 l.k l.invariant.2 _
    (ends c)

room : (c : After-run_length) → let l = c.loop-i in
    (l.k < length l.last) × (l.k < length l.size) × (l.k < 240)
room c =
    let l = c.loop-i in
    run_room c.requires l.i c.loop-i-test.true (cut_tables l.node l.last l.size) l.invariant.1 l.k l.invariant.2 _
    (ends c)

pub loop-i-init : goal.loop-i-init
loop-i-init c = (omega arith, record { node = refl; last = refl; size = refl }, cut_begins _ _ _, refl)

pub run_length-requires : goal.run_length-requires
run_length-requires c i b =
    let o = c.args.order.now in
    let n = c.loop-i.i + 1 in
    let all = take_all (length o - n) (drop n o) (omega (arith, length-drop n o)) in
    let b' : i < length (drop n o) = subst (λ l. i < length l) all b in
    let low = (c.requires.low (n + i) (omega (arith, length-drop n o))).0 in
    rw (all, get_or-drop n o i 0) low

pub overflow_add-end : goal.overflow_add-end
overflow_add-end c =
    let short = c.requires.short in
    record { fits = omega (arith, (within (goal.at.overflow_add-end c).After-run_length).1) }

pub slice_bounds-name_cells-end : goal.slice_bounds-name_cells-end
slice_bounds-name_cells-end c = (within (goal.at.slice_bounds-name_cells-end c).After-run_length).1

pub overflow_cast-k : goal.overflow_cast-k
overflow_cast-k c = record { fits = omega (arith, (room (goal.at.overflow_cast-k c).After-run_length).2) }

pub name_cells-requires : goal.name_cells-requires
name_cells-requires c =
    let e = c in
    let l = e in
    let s = l in
    let inv = l.loop-i.invariant in
    run_low s.requires l.loop-i.i e.loop-i-test.true (now (goal.at.name_cells-requires c).At-loop-i) inv.1 l.loop-i.k
    inv.2
    _ (ends (goal.at.name_cells-requires c).After-run_length)

pub bounds-order-end : goal.bounds-order-end
bounds-order-end c = omega (arith, within (goal.at.bounds-order-end c).After-run_length)

pub bounds-last-k : goal.bounds-last-k
bounds-last-k c = (room (goal.at.bounds-last-k c).After-run_length).0

pub overflow_cast-size : goal.overflow_cast-size
overflow_cast-size c =
    let e = c in
    let short = e.requires.short in
    record { fits = omega (arith, (within (goal.at.overflow_cast-size c).After-run_length).1) }

pub offset_bounds-size-k : goal.offset_bounds-size-k
offset_bounds-size-k c = record { fits = omega (arith, (room (goal.at.offset_bounds-size-k c).After-run_length).2) }

pub bounds-size-k : goal.bounds-size-k
bounds-size-k c = (room (goal.at.bounds-size-k c).After-run_length).1

pub overflow_add-k : goal.overflow_add-k
overflow_add-k c = record { fits = omega (arith, (room (goal.at.overflow_add-k c).After-run_length).2) }

pub loop-i-smaller : goal.loop-i-smaller
loop-i-smaller c = omega (arith, within (goal.at.loop-i-smaller c).After-run_length)

pub loop-i-preserved : goal.loop-i-preserved
loop-i-preserved c =
    let n = c.name_cells in
    let e = c in
    let l = e in
    let s = l in
    let inv = l.loop-i.invariant in (
      (within (goal.at.loop-i-preserved c).After-run_length).1,
      record {
        node = n.auto.node ∙ inv.1.node;
        last = simp length-set inv.1.last;
        size = simp length-set inv.1.size;
      },
      run_turn s.requires l.loop-i.i e.loop-i-test.true (now (goal.at.loop-i-preserved c).At-loop-i) inv.1 l.loop-i.k
          inv.2
          _ (ends (goal.at.loop-i-preserved c).After-run_length) n.new.node _ _ n.ensures
          (omega (arith, (within (goal.at.loop-i-preserved c).After-run_length).0))
          (omega (arith, (within (goal.at.loop-i-preserved c).After-run_length).0)),
      past_next l.loop-i.size s.args.size.now l.loop-i.k _ inv.3,
    )

pub returns : goal.returns
returns c =
    let l = c.loop-i in
    record { cut = cut_ends _ _ _ l.k l.i (search rules) l.invariant.2; past = l.invariant.3 }

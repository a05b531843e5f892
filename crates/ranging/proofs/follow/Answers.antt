-- `follow` meets its contract: after i edges the rest of the path decides.
use Prim.Native.Nat.{ℕ, ◌<◌, ◌≤◌}
use mathlib.Core.Path.{◌≡◌, ◌∙◌, ap, refl, subst, sym}
use mathlib.Core.Bool.{true}
use mathlib.Core.List.{List}
use native.Mathlib.Omega.{arith}
use lib.ListN.{get_or, length}
use borrow.Author.Rules.{rules}
use Rattle.std.specs.Prelude.{Err, Option, Some, None, ok_or}
use Rattle.std.proofs.lemmas.Result.{err_from_is_err_and}
use Rattle.model.specs.Layout.{keeps_layout}
use Rattle.model.specs.Ranges.{start_box}
use Rattle.model.specs.Records.{filled, record_at}
use Rattle.model.specs.Runs.{nodes_at}
use Rattle.model.specs.Structs.{tables_lent}
use Rattle.model.specs.Translate.{Tables}
use Rattle.model.proofs.records.LayoutFacts.{layout_nodes, layout_room}
use Rattle.model.proofs.runs.Ranged.{asked_layout, asked_length, asked_start}
use Rattle.range_edge.specs.OneEdge.{EdgeReady, OneFollowed}
use Rattle.ranging.specs.Follow.{FollowReady}
use Rattle.ranging.proofs.Going.{begin_going, goes_on, in_bytes, is_followed, is_stopped, ready, stops}
use Rattle.ranging.proofs.Starting.{lows_read}
use Rattle.ranging.proofs.follow.Goals as goal
use Rattle.ranging.proofs.follow.Goals.{After-follow_one}

-- ---- before the loop: the tables keep the layout, the start is in them, and the path is not too long

module _ (t : Tables) (start : ℕ) (rs ns : List ℕ) (R : FollowReady t start rs ns) where
  layout : keeps_layout t ≡ true
  layout = asked_layout t start rs ns R.asked

  location : start < t.loc_count
  location = asked_start t start rs ns R.asked

  short : length ns ≤ 4096
  short = asked_length t start rs ns R.asked

  nodes_few : nodes_at t start ≤ 12
  nodes_few = layout_nodes t layout start location

pub nodes_at-k-requires : goal.nodes_at-k-requires
nodes_at-k-requires c =
    let a = c.args in
    let t = tables_lent a.tables in
    omega (
      arith,
      layout_room t (layout t a.start a.ranges.now a.path.now c.requires),
      location t a.start a.ranges.now a.path.now c.requires,
    )

pub read_ends-requires : goal.read_ends-requires
read_ends-requires c =
    let a = c.args in
    let few = nodes_few (tables_lent a.tables) a.start a.ranges.now a.path.now c.requires in
    (omega (arith, c.nodes_at-k.ensures, few), omega arith)

pub read_ends-requires-2 : goal.read_ends-requires-2
read_ends-requires-2 c =
    let a = c.args in
    let few = nodes_few (tables_lent a.tables) a.start a.ranges.now a.path.now c.requires in
    (omega (arith, c.nodes_at-k.ensures, few), omega arith)

pub loop-i-init : goal.loop-i-init
loop-i-init c =
    let a = c.args in
    let rs = a.ranges.now in
    begin_going (tables_lent a.tables) a.start rs a.path.now _ c.requires
    (c.read_ends.ensures ∙ ap (filled 12) (lows_read rs c.nodes_at-k.result)
    ∙ ap (λ j. filled 12 (start_box j rs).lows) c.nodes_at-k.ensures)
    (c.read_ends-2.ensures ∙ ap (λ j. filled 12 (start_box j rs).highs) c.nodes_at-k.ensures)

-- ---- an edge

pub record_at-rec-requires : goal.record_at-rec-requires
record_at-rec-requires c =
    let a = c.args in
    let t = tables_lent a.tables in
    in_bytes t (layout t a.start a.ranges.now a.path.now c.requires) a.start
    (start_box (nodes_at t a.start) a.ranges.now) a.path.now c.loop-i.i c.loop-i.left c.loop-i.invariant (search rules)

pub follow_one-requires : goal.follow_one-requires
follow_one-requires c =
    let a = c.args in
    let t = tables_lent a.tables in
    subst (λ r. EdgeReady r a.tables.locations.now) (sym c.record_at-rec.ensures)
    (ready t (layout t a.start a.ranges.now a.path.now c.requires) a.start
    (start_box (nodes_at t a.start) a.ranges.now) a.path.now c.loop-i.i c.loop-i.left c.loop-i.invariant (search rules))

-- what is told of edge i
told : (c : After-follow_one) → OneFollowed (record_at c.args.tables.edges.now (get_or c.args.path.now c.loop-i.i 0))
    c.args.tables.locations.now c.loop-i.left c.follow_one.result c.follow_one.new.ranges
told c =
    let l = c.loop-i in
    subst (λ r. OneFollowed r c.args.tables.locations.now l.left c.follow_one.result c.follow_one.new.ranges)
    c.record_at-rec.ensures c.follow_one.ensures

none_from : {A : Type 0} (o : Option A) (i e : ℕ) → Err e ≡ ok_or o i → (o ≡ None) × (e ≡ i)
none_from None i e h = (refl, cc)
none_from (Some x) i e h = (cc, cc)

pub returns-in_err-ok_or : goal.returns-in_err-ok_or
returns-in_err-ok_or c =
    let a = c.args in
    let t = tables_lent a.tables in
    let l = c.loop-i in
    let h = none_from c.follow_one.result l.i c.in_err-ok_or.field-0.0 c.in_err-ok_or.ensures.value in
    let p = err_from_is_err_and c.from_residual.result c.from_residual.ensures.1 in
    rw (p.1, p.2, h.1) (is_stopped t a.start (start_box (nodes_at t a.start) a.ranges.now) a.path.now l.i
    (stops t (layout t a.start a.ranges.now a.path.now c.requires) a.start (start_box (nodes_at t a.start) a.ranges.now)
    a.path.now l.i l.left l.invariant (search rules) c.follow_one.result
    c.follow_one.new.ranges (told (goal.at.returns-in_err-ok_or c).After-follow_one) h.0))

pub loop-i-preserved : goal.loop-i-preserved
loop-i-preserved c =
    let a = c.args in
    let t = tables_lent a.tables in
    let l = c.loop-i in
    goes_on t (layout t a.start a.ranges.now a.path.now c.requires) a.start
    (start_box (nodes_at t a.start) a.ranges.now)
    a.path.now l.i l.left l.invariant (search rules) c.follow_one.result
    c.follow_one.new.ranges (told (goal.at.loop-i-preserved c).After-follow_one)
    (short t a.start a.ranges.now a.path.now c.requires) c.in_ok-ok_or.field-0 c.in_ok-ok_or.ensures.ok_part

pub returns : goal.returns
returns c =
    let a = c.args in
    let t = tables_lent a.tables in
    is_followed t a.start (start_box (nodes_at t a.start) a.ranges.now) a.path.now c.loop-i.i c.loop-i.left
    c.loop-i.invariant (search rules)

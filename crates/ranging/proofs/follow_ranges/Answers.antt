-- `follow_ranges` meets its contract: 23 is looked at first, then 22, and else the path decides.
use Prim.Native.Nat.{◌<◌}
use mathlib.Core.Path.{◌≡◌, ◌∙◌, ap, sym}
use mathlib.Core.Bool.{true}
use native.Mathlib.Omega.{arith}
use Rattle.std.proofs.lemmas.Result.{err_from_is_err_and}
use Rattle.model.specs.Layout.{keeps_layout}
use Rattle.model.specs.Ranges.{askable, first_wrong, ranged_of, refused_at}
use Rattle.model.specs.Runs.{nodes_at}
use Rattle.model.specs.Structs.{tables_lent}
use Rattle.model.proofs.records.LayoutFacts.{layout_nodes, layout_room}
use Rattle.model.proofs.runs.Ranged.{asked_layout, asked_start, ranging_unasked, ranging_unlinked, ranging_wrong}
use Rattle.ranging.proofs.Outcomes.{follow_ready, in_numbers, is_reached, is_stuck}
use Rattle.ranging.proofs.follow_ranges.Goals as goal
use Rattle.ranging.proofs.follow_ranges.Goals.{Else-not-is_askable, In_default}

-- ---- what can be asked

pub returns-then-not-is_askable : goal.returns-then-not-is_askable
returns-then-not-is_askable c =
    let a = c.args in
    in_numbers (tables_lent a.tables) a.start a.ranges.now a.path.now
    (sym (ap ranged_of (ranging_unasked (tables_lent a.tables) a.start a.ranges.now a.path.now
    (sym c.is_askable.ensures ∙ c.if-not-is_askable.true))))

yes : (c : Else-not-is_askable) → askable (tables_lent c.args.tables) c.args.start c.args.path.now ≡ true
yes c = sym c.is_askable.ensures ∙ c.if-not-is_askable.false

layout : (c : Else-not-is_askable) → keeps_layout (tables_lent c.args.tables) ≡ true
layout c = asked_layout (tables_lent c.args.tables) c.args.start c.args.ranges.now c.args.path.now (yes c)

begins : (c : Else-not-is_askable) → c.args.start < c.args.tables.counts.locations
begins c = asked_start (tables_lent c.args.tables) c.args.start c.args.ranges.now c.args.path.now (yes c)

pub go_along-requires : goal.go_along-requires
go_along-requires c =
    (layout_room (tables_lent c.args.tables) (layout (goal.at.go_along-requires c).Else-not-is_askable)).1

-- ---- how far the edges lead on

pub returns-in_err-location : goal.returns-in_err-location
returns-in_err-location c =
    let a = c.args in
    let p = err_from_is_err_and c.from_residual.result c.from_residual.ensures.1 in
    let h = c.in_err-location.ensures in
    rw (p.1, p.2, h.1) (in_numbers (tables_lent a.tables) a.start a.ranges.now a.path.now
    (sym (ap ranged_of (ranging_unlinked (tables_lent a.tables) a.start a.ranges.now a.path.now
    (yes (goal.at.returns-in_err-location c).Else-not-is_askable) h.0))))

pub nodes_at-k-requires : goal.nodes_at-k-requires
nodes_at-k-requires c =
    let d = (goal.at.nodes_at-k-requires c).Else-not-is_askable in
    omega (arith, layout_room (tables_lent c.args.tables) (layout d), begins d)

-- ---- the ranges

pub first_wrong-requires : goal.first_wrong-requires
first_wrong-requires c =
    let d = (goal.at.first_wrong-requires c).Else-not-is_askable in
    omega (arith, c.nodes_at-k.ensures, layout_nodes (tables_lent c.args.tables) (layout d) c.args.start (begins d))

pub returns-in-Some : goal.returns-in-Some
returns-in-Some c =
    let a = c.args in
    let h = c.in-Some.ensures in
    let w : first_wrong (nodes_at (tables_lent a.tables) a.start) a.ranges.now ≡ c.in-Some.counter =
    ap (λ k. first_wrong k a.ranges.now) (sym c.nodes_at-k.ensures) ∙ h.1 in
    in_numbers (tables_lent a.tables) a.start a.ranges.now a.path.now
    (sym (ap ranged_of (ranging_wrong (tables_lent a.tables) a.start a.ranges.now a.path.now
    (yes (goal.at.returns-in-Some c).Else-not-is_askable) (omega (arith, c.in_ok-location.ensures.0))
    (omega (arith, w, h.0, c.nodes_at-k.ensures))) ∙ ap (λ i. ranged_of (refused_at 22 i)) w))

-- ---- the path

-- no range of the start's counters is none
sound : (c : In_default) → first_wrong (nodes_at (tables_lent c.args.tables) c.args.start) c.args.ranges.now
    ≡ nodes_at (tables_lent c.args.tables) c.args.start
sound c = let e = c.nodes_at-k.ensures in ap (λ k. first_wrong k c.args.ranges.now) (sym e) ∙ c.in_default.ensures ∙ e

pub follow-requires : goal.follow-requires
follow-requires c =
    let a = c.args in
    follow_ready (tables_lent a.tables) a.start a.ranges.now a.path.now
    (yes (goal.at.follow-requires c).Else-not-is_askable) c.in_ok-location.ensures.0
    (sound (goal.at.follow-requires c).In_default)

pub returns-in-Ok : goal.returns-in-Ok
returns-in-Ok c =
    let a = c.args in
    in_numbers (tables_lent a.tables) a.start a.ranges.now a.path.now
    (is_reached (tables_lent a.tables) a.start a.ranges.now a.path.now
    (yes (goal.at.returns-in-Ok c).Else-not-is_askable)
    c.in_ok-location.ensures.0 (sound (goal.at.returns-in-Ok c).In_default) c.in-Ok.left c.in-Ok.ensures
    c.in_ok-location.location c.in_ok-location.ensures.1)

pub returns-in-Err : goal.returns-in-Err
returns-in-Err c =
    let a = c.args in
    in_numbers (tables_lent a.tables) a.start a.ranges.now a.path.now
    (is_stuck (tables_lent a.tables) a.start a.ranges.now a.path.now
    (yes (goal.at.returns-in-Err c).Else-not-is_askable)
    c.in_ok-location.ensures.0 (sound (goal.at.returns-in-Err c).In_default) c.in-Err.position c.in-Err.ensures)

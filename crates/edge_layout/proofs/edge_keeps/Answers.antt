-- `edge_keeps` meets its contract: the ends are looked at first, so that their records can be read.
use Prim.Native.Nat.{◌<◌}
use mathlib.Core.Path.{◌≡◌, ◌∙◌, ap, ap₂, sym}
use mathlib.Core.Bool.{◌||◌}
use native.Mathlib.Omega.{arith}
use lib.Dec.{leb}
use borrow.Author.Tests.{leb-false}
use Rattle.model.specs.Layout.{edge_keeps}
use Rattle.model.specs.Records.{byte, record_at, word}
use Rattle.model.proofs.lists.Logic.{or_false_l, or_false_r}
use Rattle.edge_layout.proofs.Fields.{ends_off, ends_on}
use Rattle.edge_layout.proofs.edge_keeps.Goals as goal
use Rattle.edge_layout.proofs.edge_keeps.Goals.{After-two-to, Else-count-from}

-- what the test of the ends says of the record's words
tested : (c : After-two-to)
    → let a = c.args in
    leb a.tables.counts.locations c.two-from.result || leb a.tables.counts.locations c.two-to.result
    ≡ leb a.tables.counts.locations (word a.rec.now 2) || leb a.tables.counts.locations (word a.rec.now 4)
tested c =
    let n = c.args.tables.counts.locations in
    ap₂ ◌||◌ (ap (leb n) c.two-from.ensures) (ap (leb n) c.two-to.ensures)

pub returns-then-count-from : goal.returns-then-count-from
returns-then-count-from c =
    let a = c.args in
    let r = a.rec.now in
    ends_off a.tables.counts.locations (byte (record_at a.tables.locations.now (word r 2)) 3)
    (byte (record_at a.tables.locations.now (word r 4)) 3) r
    (sym (tested (goal.at.returns-then-count-from c).After-two-to) ∙ c.if-count-from.true)

-- past it both are locations
both : (c : Else-count-from)
    → let n = c.args.tables.counts.locations in
    (c.two-from.result < n) × (c.two-to.result < n)
both c =
    let n = c.args.tables.counts.locations in
    let x = leb n c.two-from.result in
    let y = leb n c.two-to.result in (
      leb-false n c.two-from.result (or_false_l x y c.if-count-from.false),
      leb-false n c.two-to.result (or_false_r x y c.if-count-from.false),
    )

pub nodes_at-requires : goal.nodes_at-requires
nodes_at-requires c = omega (arith, both (goal.at.nodes_at-requires c).Else-count-from)

pub nodes_at-requires-2 : goal.nodes_at-requires-2
nodes_at-requires-2 c = omega (arith, both (goal.at.nodes_at-requires-2 c).Else-count-from)

pub fields_keep-requires : goal.fields_keep-requires
fields_keep-requires c =
    let s = c in
    let b = both (goal.at.fields_keep-requires c).Else-count-from in
    let p = c.nodes_at.ensures in
    let q = c.nodes_at-2.ensures in
    let x = s.requires.2 c.two-from.result b.0 in
    let y = s.requires.2 c.two-to.result b.1 in
    (s.requires.0, omega arith, omega arith)

pub returns : goal.returns
returns c =
    let d = c in
    let a = d.args in
    let r = a.rec.now in
    let l = a.tables.locations.now in
    let from = d.two-from in
    let to = d.two-to in
    let ks = c.nodes_at.ensures ∙ ap (λ i. byte (record_at l i) 3) from.ensures in
    let kt = c.nodes_at-2.ensures ∙ ap (λ i. byte (record_at l i) 3) to.ensures in
    c.fields_keep.ensures a.tables.counts.locations
    (ends_on a.tables.counts.locations 0 0 r (sym (tested (goal.at.returns c).After-two-to) ∙ d.if-count-from.false))
    ∙ ap₂ (λ x y. edge_keeps a.tables.counts.locations x y r) ks kt

-- `configuration_keeps` meets its contract: the location first, so that its record can be read.
use mathlib.Core.Path.{◌∙◌, ap, sym}
use mathlib.Core.Bool.{◌&&◌}
use native.Mathlib.Omega.{arith}
use borrow.Author.Rules.{rules}
use borrow.Author.Tests.{le-ltb, lt-ltb}
use Rattle.model.specs.Image.{counters_of}
use Rattle.model.specs.Records.{byte, record_at}
use Rattle.model.specs.Structs.{tables_lent}
use Rattle.model.proofs.records.LayoutFacts.{layout_nodes, layout_room}
use Rattle.walking.proofs.configuration_keeps.Goals as goal

pub returns-then-tables-at : goal.returns-then-tables-at
returns-then-tables-at c =
    let t = c.args.tables in
    let g = c.args.configuration in
    sym (ap (λ b. b && counters_of (byte (record_at t.locations.now g.location) 3) g.counters)
    (le-ltb g.location t.counts.locations c.if-tables-at.true))

pub nodes_at-requires : goal.nodes_at-requires
nodes_at-requires c =
    let r = layout_room (tables_lent c.args.tables) c.requires in
    let lt = c.if-tables-at.false in
    omega arith

pub counters_of-requires : goal.counters_of-requires
counters_of-requires c =
    let few = layout_nodes (tables_lent c.args.tables) c.requires c.args.configuration.location c.if-tables-at.false in
    let n = c.nodes_at.ensures in
    (omega arith, search rules)

pub returns : goal.returns
returns c =
    let t = c.args.tables in
    let g = c.args.configuration in
    c.counters_of.ensures ∙ ap (λ k. counters_of k g.counters) c.nodes_at.ensures
    ∙ sym (ap (λ b. b && counters_of (byte (record_at t.locations.now g.location) 3) g.counters)
    (lt-ltb g.location t.counts.locations c.if-tables-at.false))

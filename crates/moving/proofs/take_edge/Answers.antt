-- `take_edge` meets its contract: the edge is in the table, leads on, and is taken.
use Prim.Native.Nat.{◌<◌}
use mathlib.Core.Path.{◌≡◌, ◌∙◌, ap, subst, sym}
use mathlib.Core.Bool.{◌&&◌}
use lib.Dec.{eqb}
use lib.ListN.{length}
use Rattle.model.specs.Notions.{In}
use Rattle.model.specs.Records.{GuardCode, byte, record_at, word}
use Rattle.model.specs.Runs.{guards_hold, guards_of}
use Rattle.model.specs.Structs.{tables_lent}
use Rattle.edge_layout.proofs.Ranges.{record_whole}
use Rattle.moving.specs.Advanced.{Ready, advanced, standing}
use Rattle.moving.proofs.Along.{Leads, goes, guard_nodes_lem, in_table, past_last, ready, stuck}
use Rattle.moving.proofs.take_edge.Goals as goal
use Rattle.moving.proofs.take_edge.Goals.{After-leads}

pub returns-then-tables-number : goal.returns-then-tables-number
returns-then-tables-number c =
    let a = c.args in
    past_last (tables_lent a.tables) (standing a.location a.counters.now) a.number c.requires c.if-tables-number.true

pub record_at-rec-requires : goal.record_at-rec-requires
record_at-rec-requires c =
    let a = c.args in
    in_table (tables_lent a.tables) (standing a.location a.counters.now) a.number c.requires c.if-tables-number.false

pub leads-requires : goal.leads-requires
leads-requires c =
    let a = c.args in
    let e = c.record_at-rec.ensures in (
      ap length e ∙ record_whole a.tables.edges.now a.number (in_table (tables_lent a.tables)
          (standing a.location a.counters.now) a.number c.requires c.if-tables-number.false),
      subst (λ l. (g : GuardCode) → In g (guards_of l) → g.node < 12) (sym e)
          (guard_nodes_lem (tables_lent a.tables) (standing a.location a.counters.now) a.number c.requires
          c.if-tables-number.false),
    )

-- what is told of the edge's record
told : (c : After-leads) → let a = c.args in
    c.leads.result ≡ Leads (tables_lent a.tables) (standing a.location a.counters.now) a.number c.requires
told c =
    let a = c.args in
    c.leads.ensures
    ∙ ap (λ l. eqb (word l 2) a.location && guards_hold a.counters.now (guards_of l)) c.record_at-rec.ensures

pub returns-then-not-leads : goal.returns-then-not-leads
returns-then-not-leads c =
    let a = c.args in
    stuck (tables_lent a.tables) (standing a.location a.counters.now) a.number c.requires c.if-tables-number.false
    (sym (told (goal.at.returns-then-not-leads c).After-leads) ∙ c.if-not-leads.true)

pub advance-requires : goal.advance-requires
advance-requires c =
    let a = c.args in
    subst (λ l. Ready l a.tables.locations.now a.location a.counters.now) (sym c.record_at-rec.ensures)
    (ready (tables_lent a.tables) (standing a.location a.counters.now) a.number c.requires c.if-tables-number.false)

pub returns : goal.returns
returns c =
    let a = c.args in
    c.advance.ensures
    ∙ ap (λ l. advanced l (byte (record_at a.tables.locations.now (word l 4)) 3) (standing a.location a.counters.now))
    c.record_at-rec.ensures
    ∙ goes (tables_lent a.tables) (standing a.location a.counters.now) a.number c.requires c.if-tables-number.false
    (sym (told (goal.at.returns c).After-leads) ∙ c.if-not-leads.false)

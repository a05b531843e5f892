-- `tables_keep` meets its contract: the counts, the locations, then the edges, each by its own part of the layout.
use mathlib.Core.Path.{◌≡◌, ap₂, sym, ◌∙◌}
use mathlib.Core.Bool.{true, ◌&&◌}
use lib.ListN.{length}
use Rattle.model.specs.Part.{counts_in_places, in_places}
use Rattle.model.specs.Structs.{tables_lent}
use Rattle.model.proofs.lists.Logic.{and_l, and_r}
use Rattle.model.proofs.records.LayoutFacts.{places_hold}
use Rattle.table_layout.proofs.Records.{counts_off, edges_decide, locations_few, locations_off}
use Rattle.table_layout.proofs.tables_keep.Goals as goal
use Rattle.table_layout.proofs.tables_keep.Goals.{After-in_places-2, Else-not-in_places}

-- what the test of the counts says
tested : (c : After-in_places-2) → c.in_places.result && c.in_places-2.result
    ≡ counts_in_places (tables_lent c.args.tables)
tested c = ap₂ ◌&&◌ c.in_places.ensures c.in_places-2.ensures

pub returns-then-not-in_places : goal.returns-then-not-in_places
returns-then-not-in_places c = counts_off (tables_lent c.args.tables)
    (sym (tested (goal.at.returns-then-not-in_places c).After-in_places-2) ∙ c.if-not-in_places.true)

-- past it, the counts are within the places
counted : (c : Else-not-in_places) → counts_in_places (tables_lent c.args.tables) ≡ true
counted c = sym (ap₂ ◌&&◌ c.in_places.ensures c.in_places-2.ensures) ∙ c.if-not-in_places.false

pub locations_keep-requires : goal.locations_keep-requires
locations_keep-requires c =
    let t = c.args.tables in
    let n = counted (goal.at.locations_keep-requires c).Else-not-in_places in
    places_hold 1024 t.counts.locations (length t.locations.now)
    (and_l (in_places 1024 t.counts.locations (length t.locations.now))
    (in_places 2048 t.counts.edges (length t.edges.now)) n)

pub edges_keep-requires : goal.edges_keep-requires
edges_keep-requires c =
    let t = c.args.tables in
    let p = in_places 1024 t.counts.locations (length t.locations.now) in
    let q = in_places 2048 t.counts.edges (length t.edges.now) in
    let n = counted (goal.at.edges_keep-requires c).Else-not-in_places in (
      places_hold 1024 t.counts.locations (length t.locations.now) (and_l p q n),
      places_hold 2048 t.counts.edges (length t.edges.now) (and_r p q n),
      locations_few (tables_lent t) (sym c.if-locations_keep.ensures),
    )

pub returns-then-locations_keep : goal.returns-then-locations_keep
returns-then-locations_keep c =
    c.edges_keep.ensures
    ∙ edges_decide (tables_lent c.args.tables) (counted (goal.at.returns-then-locations_keep c).Else-not-in_places)
    (sym c.if-locations_keep.ensures)

pub returns-else-locations_keep : goal.returns-else-locations_keep
returns-else-locations_keep c =
    let off = c.if-locations_keep.false in
    off ∙ locations_off (tables_lent c.args.tables) (sym c.locations_keep.ensures ∙ off)

-- `table_search::search_table` meets its contract: the search among the records that the cut count leaves.
use Prim.Native.Nat.{min}
use mathlib.Core.Path.{sym, ap, ◌∙◌}
use Rattle.model.specs.Search.{equal_at, highest_below, searched}
use Rattle.model.proofs.listings.Searches.{search_length}
use Rattle.table_search.proofs.search_table.Goals as goal

pub returns-then-rec-ne-RECORD : goal.returns-then-rec-ne-RECORD
returns-then-rec-ne-RECORD c =
    let a = c.args in
    sym (search_length a.table.now a.count a.rec.now c.if-rec-ne-RECORD.true)

pub returns : goal.returns
unfolding searched
returns c =
    let a = c.args in
    let cut = c.min.ensures ∙ ap (min a.count) c.places-places.ensures in
    c.find.ensures.found ∙ ap (λ n. highest_below n (equal_at a.table.now a.rec.now)) cut

-- `search::same_at` meets its contract: the record is compared in four parts of eight bytes.
use mathlib.Core.Path.{sym, ap₂, ◌∙◌}
use mathlib.Core.Bool.{◌&&◌}
use Rattle.search.proofs.Keys.{parts_same}
use Rattle.search.proofs.same_at.Goals as goal

pub returns : goal.returns
returns c =
    let s = c in
    let a = s.args in
    let front = ap₂ ◌&&◌ c.same_eight.ensures c.same_eight-2.ensures in
    ap₂ ◌&&◌ front (ap₂ ◌&&◌ c.same_eight-3.ensures c.same_eight-4.ensures)
    ∙ sym (parts_same a.table.now a.at a.rec.now s.requires.1)

-- `way::open_way` meets its contract: the copies are the record's pointers and successors, opened as the way asks.
use mathlib.Core.Path.{ap, ap₂, ◌∙◌}
use mathlib.Core.List.{◌++◌}
use lib.ListN.{drop, take}
use Rattle.model.specs.Codes.{op_number}
use Rattle.model.specs.Image.{heap_of}
use Rattle.model.specs.Records.{byte}
use Rattle.way.specs.Way.{opened_bytes}
use Rattle.way.proofs.Opened.{ready_cells, ready_heap}
use Rattle.way.proofs.open_way.Goals as goal

pub returns-clause-heap : goal.returns-clause-heap
returns-clause-heap c =
    let a = c.args in
    let r = a.rec.now in
    let o = op_number a.op in
    let k = byte r 3 in
    let z = drop 12 a.cells.now in
    let ps = c.copy_from_slice.ensures.after in
    let cs = ap (λ l. take k (l ++ z)) c.copy_from_slice-2.ensures.after
    ∙ ready_cells r a.pointers.now a.cells.now o a.way.split c.requires z in
    ap₂ heap_of ps (c.open_cells.ensures.bytes ∙ ap (opened_bytes a.way.split o) cs)
    ∙ ready_heap r a.pointers.now a.cells.now o a.way.split c.requires

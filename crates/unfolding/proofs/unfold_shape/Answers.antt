-- `unfold_shape` meets its contract: the table of first cells, the pointers and the cells are those of the image.
use mathlib.Core.Path.{◌≡◌, ◌∙◌}
use native.Mathlib.Omega.{arith}
use lib.ListN.{length}
use Rattle.unfolding.proofs.Images.{ready_cells, ready_nodes, ready_pointers, ready_twelve}
use Rattle.unfolding.proofs.unfold_shape.Goals as goal

pub write_cells-requires-clause-room : goal.write_cells-requires-clause-room
write_cells-requires-clause-room c =
    let s = c in
    let a = s.args in
    (ready_nodes a.rec.now a.counters.now a.pointers.now a.cells.now s.requires, s.requires.few)

pub returns : goal.returns
returns c =
    let s = c in
    let f = c.first_cells in
    let a = s.args in
    let r = a.rec.now in
    let v = a.counters.now in
    let p = a.pointers.now in
    let l = a.cells.now in
    let t = f.new.firsts in
    let same : length t ≡ length v = omega (arith, ready_twelve r v p l s.requires) in record {
      pointers = c.place_pointers.ensures
          ∙ ready_pointers r v p l s.requires t f.ensures same;
      cells = c.write_cells.ensures ∙ ready_cells r v p l s.requires t f.ensures same (length l);
    }

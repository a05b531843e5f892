-- `closed_image::cells_named` meets its contract: the three bytes that stand for no cell are fine. Assumes nothing.
use mathlib.Core.Path.{refl}
use Rattle.closed_image.proofs.Fine.{cells_fine}
use Rattle.closed_image.proofs.cells_named.Goals as goal

pub returns : goal.returns
returns c = cells_fine c.args.cells.now c.requires c.tell_used.ensures c.all_fine.ensures refl refl refl

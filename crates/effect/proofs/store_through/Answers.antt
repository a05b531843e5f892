-- `store_through` meets its contract: the cell is in use, and takes the value's byte.
use Rattle.effect.proofs.Bytes.{store_cell}
use Rattle.effect.proofs.store_through.Goals as goal

pub returns : goal.returns
returns c ps =
    let a = c.args in
    let k = c.in_ok-c.ensures in
    rw k.0 (store_cell ps a.cells.now a.at a.v k.1 k.2 c.requires.0 c.requires.1)

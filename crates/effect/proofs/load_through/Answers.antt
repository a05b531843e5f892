-- `load_through` meets its contract: the cell is in use, and the pointer takes its byte.
use Rattle.effect.proofs.Bytes.{load_cell}
use Rattle.effect.proofs.load_through.Goals as goal

pub returns : goal.returns
returns c =
    let a = c.args in
    let k = c.in_ok-c.ensures in
    rw (c.set_pointer.ensures, k.0)
    (load_cell a.pointers.now a.cells.now a.u.0 a.v k.1 k.2 c.requires.1)

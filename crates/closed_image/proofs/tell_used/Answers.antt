-- `closed_image::tell_used` meets its contract: the first i cells are told. Assumes nothing.
use Prim.Native.Nat.{◌<◌}
use mathlib.Core.Path.{sym}
use native.Mathlib.Omega.{arith}
use lib.ListN.{get_or, length}
use Rattle.model.proofs.lists.Slices.{map_fill}
use Rattle.closed_image.proofs.ByteLaws.{used_byte}
use Rattle.closed_image.proofs.Fine.{used_cell}
use Rattle.closed_image.proofs.tell_used.Goals as goal

pub loop-i-preserved : goal.loop-i-preserved
loop-i-preserved c =
    let a = c.args in
    let l = c.loop-i in
    let h : l.i < length a.cells.now = omega arith in
    let k : l.i < length a.fine.now = omega arith in
    map_fill used_cell a.cells.now a.fine.now l.fine 0 l.i _ h k l.invariant
    (sym (used_byte (get_or a.cells.now l.i 0)))

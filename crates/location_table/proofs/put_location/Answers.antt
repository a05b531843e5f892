-- `put_location` meets its contract: the part that was lent is back in its place, with the record.
use Prim.Native.Nat.{◌*◌}
use Rattle.model.proofs.lists.Slices.{put_back}
use Rattle.record.proofs.Copied.{location_whole}
use Rattle.location_table.proofs.put_location.Goals as goal

pub returns : goal.returns
returns c =
    let s = c in
    let a = s.args in
    put_back a.table.now a.rec.now _ (32 * a.n) 32
    (location_whole a.rec.now _ _ s.requires.1 s.requires.2 c.write_location.ensures)

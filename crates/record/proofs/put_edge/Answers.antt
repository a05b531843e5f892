-- `put_edge` meets its contract: the part that was lent is back in its place.
use Prim.Native.Nat.{◌*◌}
use Rattle.model.proofs.lists.Slices.{put_back}
use Rattle.record.specs.Written.{edge_bytes}
use Rattle.record.proofs.put_edge.Goals as goal

pub returns : goal.returns
returns c =
    let a = c.args in
    put_back a.table.now (edge_bytes a.fields a.updates.now) _ (32 * a.n) 32
    c.write_edge.ensures

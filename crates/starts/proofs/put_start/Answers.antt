-- `put_start` meets its contract: the part that was lent is back in its place.
use Prim.Native.Nat.{◌-◌, ◌*◌}
use mathlib.Core.Path.{ap, ◌∙◌}
use mathlib.Core.List.{◌++◌}
use native.Mathlib.Omega.{arith}
use lib.ListN.{drop, length, length-drop, length-take}
use borrow.Rule.Slice.PartMut.{mid_of}
use Rattle.model.specs.Records.{record_at}
use Rattle.model.proofs.lists.Slices.{put_back}
use Rattle.record.specs.Written.{location_bytes}
use Rattle.starts.proofs.put_start.Goals as goal

pub write_location-requires : goal.write_location-requires
write_location-requires c = (
  simp (length-take, length-drop) (omega arith),
  ap length c.record_at.ensures ∙ simp (length-take, length-drop) (omega arith),
)

pub returns : goal.returns
returns c =
    let a = c.args in
    let t = a.locations.now in
    let at = 32 * a.j in
    put_back t (location_bytes 0 0 (record_at a.input.now a.i)) _ at 32
    (c.write_location.ensures
    ∙ ap (λ r. location_bytes 0 0 r ++ drop 32 (mid_of at (length t - at) t)) c.record_at.ensures)

-- `write_location` meets its contract: a record has 32 bytes.
use mathlib.Core.Path.{sym, ◌∙◌}
use lib.Seq.{length-take-le}
use Rattle.record.proofs.write_location.Goals as goal

pub copy_from_slice-requires : goal.copy_from_slice-requires
copy_from_slice-requires c = length-take-le 32 c.args.part.now c.requires.0 ∙ sym c.requires.1

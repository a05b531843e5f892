-- `word::copy_record` meets its contract: a record has 32 bytes.
use mathlib.Core.Path.{sym, ap, ◌∙◌}
use native.Mathlib.Omega.{arith}
use lib.ListN.{length}
use lib.Seq.{length-take-le}
use Rattle.word.proofs.Codes.{part_length}
use Rattle.word.proofs.copy_record.Goals as goal

pub copy_from_slice-requires : goal.copy_from_slice-requires
copy_from_slice-requires c =
    let s = c.requires in
    let n = part_length c.args.from.now 0 32 (omega (arith, s.0)) in
    length-take-le 32 c.args.to.now s.1 ∙ sym (ap length c.bytes.ensures ∙ n)

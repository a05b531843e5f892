-- `word::eight` meets its contract: each byte is the one at its place.
use Prim.Native.Nat.{◌+◌}
use native.Mathlib.Omega.{arith}
use Rattle.word.proofs.Codes.{word_at}
use Rattle.word.proofs.eight.Goals as goal

pub returns : goal.returns
returns c =
    let at = c.args.at in
    let w = word_at c.args.t.now at 8 c.bytes.result c.bytes.ensures in
    omega (
      arith,
      c.from_le_bytes.ensures,
      w 0 at (omega arith) (omega arith),
      w 2 (at + 2) (omega arith) (omega arith),
      w 4 (at + 4) (omega arith) (omega arith),
      w 6 (at + 4 + 2) (omega arith) (omega arith),
    )

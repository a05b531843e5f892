-- `write_line` meets its contract: the first i bytes are written.
use Prim.Native.Nat.{◌*◌}
use mathlib.Core.Path.{◌≡◌}
use mathlib.Core.List.{◌++◌, map}
use lib.ListN.{take, drop}
use Rattle.model.specs.Base.{joined}
use Rattle.hex_lines.specs.Lines.{byte_of}
use Rattle.hex_lines.proofs.write_line.Given as goal

abbrev pub invariant-loop-i : goal.invariant-loop-i
invariant-loop-i l = l.line ≡ joined (map byte_of (take l.i l.rec)) ++ drop (2 * l.i) l.initial.line

-- `write_lines` meets its contract: the first i records are written.
use Prim.Native.Nat.{◌+◌, ◌*◌}
use mathlib.Core.Path.{◌≡◌}
use mathlib.Core.List.{◌++◌}
use lib.ListN.{take}
use Rattle.hex_lines.specs.Lines.{lines_of}
use Rattle.hex_lines.proofs.write_lines.Given as goal

abbrev pub invariant-loop-i : goal.invariant-loop-i
invariant-loop-i l = take (l.at + 65 * l.i) l.text ≡ take l.at l.initial.text ++ lines_of l.i l.table

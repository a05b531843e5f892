-- `wipe_holders` meets its contract. The invariant: the first bytes are wiped, the others are as they were.
use mathlib.Core.Path.{◌≡◌}
use Rattle.effect.specs.Effect.{wipe_byte}
use Rattle.effect.proofs.ListLaws.{part_map}
use Rattle.effect.proofs.wipe_holders.Given as goal

abbrev pub invariant-loop-b : goal.invariant-loop-b
invariant-loop-b l = l.list ≡ part_map (wipe_byte l.c) l.initial.list l.b-index

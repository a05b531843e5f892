-- `update::carry_updates` meets its contract: the first j entries carry their own counters.
use Prim.Native.Nat.{ℕ, ◌+◌, ◌^◌, ◌<◌}
use mathlib.Core.Path.{◌≡◌}
use lib.ListN.{get_or}
use Rattle.update.proofs.carry_updates.Given as goal

abbrev pub invariant-loop-j : goal.invariant-loop-j
invariant-loop-j l =
    (i : ℕ) → i < l.j → get_or l.updates i 0 ≡ 4096 + 2 ^ i

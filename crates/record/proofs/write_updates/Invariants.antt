-- `write_updates` meets its contract: the first updates are written.
use mathlib.Core.Path.{◌≡◌}
use Rattle.record.proofs.Bytes.{with_updates}
use Rattle.record.proofs.write_updates.Given as goal

abbrev pub invariant-loop-j : goal.invariant-loop-j
invariant-loop-j l = l.part ≡ with_updates l.initial.part l.updates l.j

-- `visit::visit` meets its contract. The invariant: the cells so far are a visit, the tour of the pointers left is the
-- whole tour, and the marks count all holders but the pointers left. Assumes nothing.
use Prim.Native.Nat.{ℕ, ◌+◌, ◌<◌}
use mathlib.Core.List.{List, [], map}
use lib.ListN.{length, get_or, take, drop}
use Rattle.model.specs.Records.{val_of}
use Rattle.model.specs.Notions.{Tours}
use Rattle.visit.specs.Steps.{Alike, Visiting, held_by, slot_at}
use Rattle.visit.proofs.Counting.{pointing}
use Rattle.visit.proofs.visit.Given as goal

abbrev pub invariant-loop-start : goal.invariant-loop-start
invariant-loop-start l =
    Visiting l.cells l.order l.seen l.n
    × ((t : List ℕ) → Tours (slot_at l.cells) (take l.n l.order) (map val_of (drop l.start-index l.pointers)) t
    → Tours (slot_at l.cells) [] (map val_of l.pointers) t)
    × ((c : ℕ) → c < length l.cells → Alike (get_or l.seen c 0 + pointing c (drop l.start-index l.pointers))
    (pointing c l.pointers + held_by l.cells c (take l.n l.order)))

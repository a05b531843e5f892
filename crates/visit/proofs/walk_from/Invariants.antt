-- `visit::walk_from` meets its contract. The invariant: the cells so far are a visit, a walk from here is a walk from
-- the start, and the marks count all holders but the one under way. A new cell finds a place, since no cell is twice
-- in the order; so the places left fall. Assumes nothing.
use Prim.Native.Nat.{ℕ, ◌+◌, ◌-◌, ◌<◌, ◌≤◌}
use mathlib.Core.Path.{◌≡◌}
use mathlib.Core.Bool.{cond}
use mathlib.Core.List.{List}
use lib.Dec.{eqb}
use lib.ListN.{length, get_or, take}
use Rattle.model.specs.Records.{val_of}
use Rattle.model.specs.Notions.{Closed, Walks}
use Rattle.visit.specs.Steps.{Alike, Visiting, held_by, slot_at}
use Rattle.visit.proofs.walk_from.Given as goal

abbrev pub invariant-loop-v : goal.invariant-loop-v
invariant-loop-v l =
    (length l.order ≡ length l.initial.order) × (length l.seen ≡ length l.initial.seen)
    × Visiting l.cells l.order l.seen l.n
    × Closed (slot_at l.cells) (val_of l.v)
    × ((t : List ℕ) → Walks (slot_at l.cells) (take l.n l.order) (val_of l.v) t
    → Walks (slot_at l.cells) (take l.count l.initial.order)
    (val_of l.start) t)
    × (1 ≤ l.holders)
    × ((c k b : ℕ) → c < length l.cells → Alike (get_or l.initial.seen c 0 + (cond (eqb c l.start) 2 0 + k))
    (b + held_by l.cells c (take l.count l.initial.order))
    → Alike (get_or l.seen c 0 + (cond (eqb c l.v) l.holders 0 + k)) (b + held_by l.cells c (take l.n l.order)))

abbrev pub decreases-loop-v : goal.decreases-loop-v
decreases-loop-v l = length l.cells - l.n

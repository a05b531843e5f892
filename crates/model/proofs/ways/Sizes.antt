-- How long the slots of a heap can become by a statement, and what follows for the cells of its segments.
use Prim.Native.Nat.{◌<◌, ◌≤◌, suc, ℕ}
use mathlib.Core.Path.{◌≡◌}
use mathlib.Core.Bool.{true}
use mathlib.Core.List.{List, [], ◌∷◌}
use native.Mathlib.Omega.{arith}
use lib.ListN.{length}
use Rattle.model.specs.Base.{mem}
use Rattle.model.specs.Edges.{split_heap}
use Rattle.model.specs.Heap.{Heap, cell, holds, next, order}
use Rattle.model.specs.Machine.{Op, effect, put, carry_out, action, collects, kind}
use Rattle.model.specs.Shape.{Seg, cells, core, segments}
use Rattle.model.proofs.expansion.Cuts.{flat_cut, nodup_l, nodup_r}
use Rattle.model.proofs.expansion.Collect.{collect_slots, settle_any}
use Rattle.model.proofs.expansion.Folds.{Alls}
use Rattle.model.specs.Notions.{NoDup, flat, ClosedHeap}
use Rattle.model.proofs.lists.Logic.{mem_append_l, mem_append_r}
use Rattle.model.proofs.visits.Order.{toured, used_below}
use Rattle.model.proofs.expansion.Kinds.{put_short, Short, leaves_short, effect_leaves}

pub split_short : (n : ℕ) (h : Heap) → n < length h.slots → length (split_heap n (length h.slots) h).slots ≤ suc
    (length h.slots)
split_short n h q =
    put_short (put h.slots (length h.slots) (next h n)) n (holds (cell (length h.slots)))
    (suc (length h.slots))
    (put_short h.slots (length h.slots) (next h n) (suc (length h.slots)) (omega arith) (omega arith))
    (omega arith)

pub run_short : (op : Op) (n b : ℕ) (h : Heap) → ClosedHeap h → length h.slots ≤ b → n < b
    → Short b (carry_out op n h)
run_short op n b h cl l q =
    settle_any (collects (kind op)) (Short b) (λ f. tt) (λ g k. omega (arith, collect_slots g)) (effect op n h)
    (leaves_short (action op) n b h l q (effect op n h)
    (effect_leaves (action op) n h cl))

-- the cells of a segment are different, and below the number of slots
abbrev pub Neat : ℕ → Seg → Type 0
Neat b s = NoDup (cells s) × ((c : ℕ) → mem c (cells s) ≡ true → c < b)

neat_all : (b : ℕ) (ss : List Seg) → NoDup (flat ss) → ((c : ℕ) → mem c (flat ss) ≡ true → c < b) → Alls (Neat b) ss
neat_all b [] nd h = tt
neat_all b (s ∷ ss) nd h = (
  (nodup_l (cells s) (flat ss) nd, λ c m. h c (mem_append_l c (cells s) (flat ss) m)),
  neat_all b ss (nodup_r (cells s) (flat ss) nd) (λ c m. h c (mem_append_r c (cells s) (flat ss) m)),
)

pub neat : (b : ℕ) (h : Heap) → ClosedHeap h → length h.slots ≤ b → Alls (Neat b) (segments h)
neat b h cl l = neat_all b (segments h) (rw (flat_cut (core h) (order h)) (toured h cl).nodup)
    (λ c m. let q = used_below h.slots c ((toured h cl).used c (rw (flat_cut (core h) (order h)) at m)) in
    omega arith)

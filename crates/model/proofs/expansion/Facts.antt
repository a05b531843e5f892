-- The tests of a heap and what they say: `closed` and `kept` as facts about each value and each cell.
use Prim.Native.Nat.{◌+◌, suc, zero, ℕ}
use mathlib.Core.Path.{◌≡◌, ap, refl, subst}
use mathlib.Core.Bool.{Bool, false, true}
use mathlib.Core.List.{List, [], ◌∷◌}
use native.Mathlib.Nat.{zero-add}
use native.Mathlib.Omega.{arith}
use lib.ListN.{get_or}
use Rattle.model.specs.Base.{all, mem}
use Rattle.model.specs.Heap.{Heap, IsHeap, Slot, Val, cell, closed, each_used, holds, in_use, kept, named, next, null, order, slot_named, undef, unused}
use Rattle.model.specs.Shape.{Seg}
use Rattle.model.specs.Notions.{Kept, Expansion, AllClosed, Closed, ClosedHeap, Used}
use Rattle.model.proofs.expansion.Folds.{kept_down, kept_up}
use Rattle.model.proofs.lists.Logic.{and_both, and_l, and_r, bool_ext, clash}
use Rattle.model.proofs.expansion.Writes.{slot-clash}

pub used_of : (s : Slot) → in_use s ≡ true → (v : Val) × (s ≡ holds v)
used_of unused h = clash h refl
used_of (holds v) h = (v, refl)

pub used_test : (nx : ℕ → Slot) (c : ℕ) → Used nx c → in_use (nx c) ≡ true
used_test nx c u = ap in_use u.1

pub unused_of : (s : Slot) → in_use s ≡ false → s ≡ unused
unused_of unused h = refl
unused_of (holds v) h = clash refl h

named_closed : (nx : ℕ → Slot) (v : Val) → named nx v ≡ true → Closed nx v
named_closed nx (cell c) h = used_of (nx c) h
named_closed nx null h = tt
named_closed nx undef h = tt

closed_named : (nx : ℕ → Slot) (v : Val) → Closed nx v → named nx v ≡ true
closed_named nx (cell c) k = ap in_use k.1
closed_named nx null k = refl
closed_named nx undef k = refl

all_named : (nx : ℕ → Slot) (vs : List Val) → all (named nx) vs ≡ true → AllClosed nx vs
all_named nx [] h = tt
all_named nx (v ∷ vs) h = (
  named_closed nx v (and_l (named nx v) (all (named nx) vs) h),
  all_named nx vs
      (and_r (named nx v) (all (named nx) vs) h),
)

named_all : (nx : ℕ → Slot) (vs : List Val) → AllClosed nx vs → all (named nx) vs ≡ true
named_all nx [] k = refl
named_all nx (v ∷ vs) k = and_both (named nx v) (all (named nx) vs) (closed_named nx v k.0) (named_all nx vs k.1)

slots_named : (nx : ℕ → Slot) (ss : List Slot) → all (slot_named nx) ss ≡ true → (n : ℕ) (v : Val) → get_or ss n unused
    ≡ holds v → Closed nx v
slots_named nx [] h n v e = slot-clash refl e
slots_named nx (s ∷ ss) h zero v e = named_closed nx v
    (subst (λ x. slot_named nx x ≡ true) e (and_l (slot_named nx s) (all (slot_named nx) ss) h))
slots_named nx (s ∷ ss) h (suc n) v e = slots_named nx ss (and_r (slot_named nx s) (all (slot_named nx) ss) h) n v e

slot_named_lem : (nx : ℕ → Slot) (s : Slot) → ((v : Val) → s ≡ holds v → Closed nx v) → slot_named nx s ≡ true
slot_named_lem nx unused k = refl
slot_named_lem nx (holds v) k = closed_named nx v (k v refl)

named_slots : (nx : ℕ → Slot) (ss : List Slot) → ((n : ℕ) (v : Val) → get_or ss n unused ≡ holds v → Closed nx v)
    → all (slot_named nx) ss ≡ true
named_slots nx [] k = refl
named_slots nx (s ∷ ss) k = and_both (slot_named nx s) (all (slot_named nx) ss) (slot_named_lem nx s (k 0))
    (named_slots nx ss (λ n. k (suc n)))

-- the test `closed`
pub test_closed : (h : Heap) → closed h ≡ true → ClosedHeap h
test_closed h e = (
  all_named (next h) h.ptrs (and_l (all (named (next h)) h.ptrs) (all (slot_named (next h)) h.slots) e),
  slots_named (next h) h.slots (and_r (all (named (next h)) h.ptrs) (all (slot_named (next h)) h.slots) e),
)

pub closed_test : (h : Heap) → ClosedHeap h → closed h ≡ true
closed_test h k = and_both (all (named (next h)) h.ptrs) (all (slot_named (next h)) h.slots)
    (named_all (next h) h.ptrs k.0)
    (named_slots (next h) h.slots k.1)

-- the test of each cell in use
each_used_lem : (p : ℕ → Bool) (i : ℕ) (ss : List Slot)
    → ((j : ℕ) → Used (λ x. get_or ss x unused) j → p (i + j) ≡ true)
    → each_used p i ss ≡ true
each_used_lem p i [] h = refl
each_used_lem p i (unused ∷ ss) h =
    each_used_lem p (suc i) ss (λ j u. subst (λ x. p x ≡ true) (omega arith) (h (suc j) u))
each_used_lem p i (holds v ∷ ss) h = and_both (p i) (each_used p (suc i) ss)
    (subst (λ x. p x ≡ true) (omega arith) (h 0 (v, refl)))
    (each_used_lem p (suc i) ss (λ j u. subst (λ x. p x ≡ true) (omega arith) (h (suc j) u)))

used_each : (p : ℕ → Bool) (i : ℕ) (ss : List Slot) → each_used p i ss ≡ true → (j : ℕ)
    → Used (λ x. get_or ss x unused) j → p (i + j) ≡ true
used_each p i [] h j u = slot-clash refl u.1
used_each p i (unused ∷ ss) h zero u = slot-clash refl u.1
used_each p i (unused ∷ ss) h (suc j) u = subst (λ x. p x ≡ true) (omega arith) (used_each p (suc i) ss h j u)
used_each p i (holds v ∷ ss) h zero u = subst (λ x. p x ≡ true) (omega arith) (and_l (p i) (each_used p (suc i) ss) h)
used_each p i (holds v ∷ ss) h (suc j) u = subst (λ x. p x ≡ true) (omega arith)
    (used_each p (suc i) ss (and_r (p i) (each_used p (suc i) ss) h) j u)

-- the test `kept`
pub test_kept : (h : Heap) → kept h ≡ true → Kept h
test_kept h e j u = rw (zero-add j) at (used_each (λ c. mem c (order h)) 0 h.slots e j u)

pub kept_test : (h : Heap) → Kept h → kept h ≡ true
kept_test h k = each_used_lem (λ c. mem c (order h)) 0 h.slots (λ j u. rw (zero-add j) (k j u))

pub is_heap_lem : (h : Heap) → ClosedHeap h → Kept h → IsHeap h
is_heap_lem h cl k = record { is_closed = closed_test h cl; is_kept = kept_test h k }

pub heap_closed : (h : Heap) → IsHeap h → ClosedHeap h
heap_closed h x = test_closed h x.is_closed

pub heap_kept : (h : Heap) → IsHeap h → Kept h
heap_kept h x = test_kept h x.is_kept

-- an expansion has lost a cell when the other heap has
pub kept_same : (W : Heap) (sg : ℕ → Seg) (H : Heap) → Expansion W sg H → kept H ≡ kept W
kept_same W sg H X = bool_ext (kept H) (kept W)
    (λ e. kept_test W (kept_down W sg H X (test_kept H e))) (λ e. kept_test H (kept_up W sg H X (test_kept W e)))

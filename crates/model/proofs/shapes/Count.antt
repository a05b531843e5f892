-- The counters of a heap add up to its cells in use.
use Prim.Native.Nat.{◌+◌, suc, zero, ℕ}
use mathlib.Core.Path.{◌∙◌, ◌≡◌, ap, refl, subst, sym}
use mathlib.Core.Bool.{true}
use mathlib.Core.List.{List, [], ◌∷◌, map}
use native.Mathlib.Nat.{zero-add}
use native.Mathlib.Omega.{arith}
use lib.ListN.{get_or, length, length-append}
use Rattle.model.specs.Base.{count, mem, sum}
use Rattle.model.specs.Heap.{Heap, IsHeap, Slot, holds, in_use, order, unused}
use Rattle.model.specs.Notions.{NoDup, Used, flat}
use Rattle.model.specs.Shape.{Seg, cells, core, counters, segments, size}
use Rattle.model.proofs.expansion.Cuts.{flat_cut}
use Rattle.model.proofs.expansion.Facts.{heap_closed, heap_kept}
use Rattle.model.proofs.expansion.Writes.{slot-clash}
use Rattle.model.proofs.lists.Logic.{mem-cases, mem_here, mem_there, not-true}
use Rattle.model.proofs.visits.Order.{order_once, toured, within}

-- the numbers of the slots in use, counted from i
used_from : ℕ → List Slot → List ℕ
used_from i [] = []
used_from i (unused ∷ ss) = used_from (suc i) ss
used_from i (holds v ∷ ss) = i ∷ used_from (suc i) ss

used_number : (i : ℕ) (ss : List Slot) → length (used_from i ss) ≡ count in_use ss
unfolding used_from
used_number i [] = refl
used_number i (unused ∷ ss) = used_number (suc i) ss ∙ sym (zero-add (count in_use ss))
used_number i (holds v ∷ ss) = ap suc (used_number (suc i) ss) ∙ (omega arith)

-- each is a slot in use, and each slot in use is there
used_at : (i : ℕ) (ss : List Slot) (c : ℕ) → mem c (used_from i ss) ≡ true → (j : ℕ) × (c ≡ i + j)
    × Used (λ x. get_or ss x unused) j
unfolding used_from
used_at i [] c h = absurd (not_here h)
  where
    not_here : mem c [] ≡ true → ⊥
    not_here e = let z : ◌≡◌ {A = ℕ} 0 1 = cc in omega arith
used_at i (unused ∷ ss) c h = let (j, e, u) = used_at (suc i) ss c h in (suc j, omega arith, u)
used_at i (holds v ∷ ss) c h =
    mem-cases c i (used_from (suc i) ss) h (λ e. (0, omega arith, (v, refl)))
    (λ k. let (j, e, u) = used_at (suc i) ss c k in (suc j, omega arith, u))

at_used : (i : ℕ) (ss : List Slot) (j : ℕ) → Used (λ x. get_or ss x unused) j → mem (i + j) (used_from i ss) ≡ true
unfolding used_from
at_used i [] j u = slot-clash refl u.1
at_used i (unused ∷ ss) zero u = slot-clash refl u.1
at_used i (unused ∷ ss) (suc j) u =
    subst (λ x. mem x (used_from (suc i) ss) ≡ true) (omega arith) (at_used (suc i) ss j u)
at_used i (holds v ∷ ss) zero u =
    subst (λ x. mem x (i ∷ used_from (suc i) ss) ≡ true) (omega arith) (mem_here i (used_from (suc i) ss))
at_used i (holds v ∷ ss) (suc j) u =
    mem_there (i + suc j) i (used_from (suc i) ss)
    (subst (λ x. mem x (used_from (suc i) ss) ≡ true) (omega arith) (at_used (suc i) ss j u))

used_once : (i : ℕ) (ss : List Slot) → NoDup (used_from i ss)
unfolding used_from
used_once i [] = tt
used_once i (unused ∷ ss) = used_once (suc i) ss
used_once i (holds v ∷ ss) = (
  not-true (mem i (used_from (suc i) ss)) (λ k. let (j, e, u) = used_at (suc i) ss i k in omega arith),
  used_once (suc i) ss,
)

sizes_flat : (ss : List Seg) → sum (λ n. n) (map size ss) ≡ length (flat ss)
sizes_flat [] = refl
sizes_flat (s ∷ ss) = ap (λ n. size s + n) (sizes_flat ss) ∙ sym (length-append (cells s) (flat ss))

pub counters_add_up : (h : Heap) → IsHeap h → sum (λ n. n) (counters h) ≡ count in_use h.slots
counters_add_up h x =
    let used = used_from 0 h.slots in
    let up = within (order h) used (order_once h)
    (λ c m. rw zero-add at (at_used 0 h.slots c ((toured h (heap_closed h x)).used c m))) in
    let down = within used (order h) (used_once 0 h.slots)
    (λ c m. let (j, e, u) = used_at 0 h.slots c m in
    subst (λ n. mem n (order h) ≡ true) (omega arith) (heap_kept h x j u)) in
    sizes_flat (segments h) ∙ ap length (flat_cut (core h) (order h))
    ∙ (omega (arith, used_number 0 h.slots))

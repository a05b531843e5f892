-- The test `canonical` of a shape is true exactly for the shapes: every node reachable, every node core, and numbered
-- as the walk visits them.
use Prim.Native.Nat.{◌+◌, ◌<◌, ◌≤◌, suc, zero, ℕ}
use mathlib.Core.Path.{◌∙◌, ◌≡◌, ap, sym}
use mathlib.Core.Logic.{◌↔◌}
use mathlib.Core.Bool.{Bool, ◌&&◌, true}
use mathlib.Core.List.{List}
use native.Mathlib.Omega.{arith}
use lib.Dec.{eqb}
use lib.ListN.{get_or, length}
use borrow.Author.Tests.{eq-eqb, eqb-false, eqb-true}
use Rattle.model.specs.Base.{all, numbers, place_of}
use Rattle.model.specs.Heap.{Heap, order}
use Rattle.model.specs.Shape.{as_visited, canonical, core, nodes, reachable, visit_number}
use Rattle.model.specs.Notions.{Canon, Kept, ClosedHeap}
use Rattle.model.proofs.lists.Lists.{map_id}
use Rattle.model.proofs.lists.Logic.{and_both, and_l, and_r, eq-case}
use Rattle.model.proofs.lists.Numbers.{all_numbers, in_numbers, mem_numbers, numbers_all, read_all}
use Rattle.model.proofs.shapes.Same.{place_passes}
use Rattle.model.proofs.visits.Order.{crowd, order_once, pigeon, toured, used_below}

-- a test of each node, node by node
pub node_all : (h : Heap) (p : ℕ → Bool) → ((n : ℕ) → n < length h.slots → p n ≡ true) → all p (nodes h) ≡ true
node_all h p = all_numbers p (length h.slots)

pub all_node : (h : Heap) (p : ℕ → Bool) → all p (nodes h) ≡ true → (n : ℕ) → n < length h.slots → p n ≡ true
all_node h p = numbers_all p (length h.slots)

-- ---- the numbering

-- the place of a number in the numbers from i on
place_numbers : (i k n : ℕ) → i ≤ n → n < i + k → i + place_of (eqb n) (numbers i k) ≡ n
place_numbers i zero n lo hi = absurd (omega arith)
place_numbers i (suc k) n lo hi = eq-case n i (λ e. rw (eq-eqb n i e) (omega arith))
    (λ e. let ne = eqb-false n i e in
    let r = place_numbers (suc i) k n (omega arith) (omega arith) in rw e (omega arith))

-- a list of k numbers in which each number below k stands at its own place
in_place : (l : List ℕ) (k : ℕ) → length l ≡ k → ((n : ℕ) → n < k → place_of (eqb n) l ≡ n) → l ≡ numbers 0 k
in_place l k len h =
    sym (read_all 0 l) ∙ map_id (λ j. get_or l j 0) (numbers 0 (length l))
    (λ n q. let r = in_numbers 0 (length l) n q in
    let e = h n (omega arith) in
    let t = place_passes (eqb n) l 0 (omega arith) in
    sym (eqb-true n (get_or l n 0) (rw e at t))) ∙ ap (numbers 0) len

-- every node is visited, and nothing else is
pub visit_count : (h : Heap) → ClosedHeap h → all (reachable h) (nodes h) ≡ true → length (order h) ≡ length h.slots
visit_count h cl e =
    let k = length h.slots in
    let lo = crowd k (order h) (λ n q. all_node h (reachable h) e n q) in
    let hi = pigeon k (order h) (order_once h) (λ n q. used_below h.slots n ((toured h cl).used n q)) in
    omega arith

-- ---- canonical means: every node is reachable, every node is core, and the nodes are numbered as the walk visits them
pub canonical_is : (h : Heap) → ClosedHeap h
    → (canonical h ≡ true) ↔ (Kept h × ((n : ℕ) → n < length h.slots → core h n ≡ true)
    × (order h ≡ numbers 0 (length h.slots)))
canonical_is h cl =
    let k = length h.slots in
    let a = all (reachable h) (nodes h) in
    let b = all (core h) (nodes h) in
    let c = all (as_visited h) (nodes h) in (
      (λ e.
          let ab = and_l (a && b) c e in
          let r = and_l a b ab in (
            (λ n u. all_node h (reachable h) r n (used_below h.slots n u)),
            all_node h (core h) (and_r a b ab),
            in_place (order h) k (visit_count h cl r)
                (λ n q. eqb-true (visit_number h n) n (all_node h (as_visited h) (and_r (a && b) c e) n q)),
          )),
      λ r. and_both (a && b) c
          (and_both a b (node_all h (reachable h) (λ n q. rw r.2 (mem_numbers 0 k n (omega arith) (omega arith))))
          (node_all h (core h) r.1))
          (node_all h (as_visited h) (λ n q. eq-eqb (visit_number h n) n
          (let z = place_numbers 0 k n (omega arith) (omega arith) in rw r.2 (omega arith)))),
    )

-- so the test is true exactly of the shapes
pub canonical_canon : (h : Heap) → ClosedHeap h → canonical h ≡ true → Canon h
canonical_canon h cl e = let r = (canonical_is h cl).0 e in record {
  closed = cl;
  kept = r.0;
  numbered = r.2;
  all_core = r.1;
}

pub canon_canonical : (h : Heap) → Canon h → canonical h ≡ true
canon_canonical h C = (canonical_is h C.closed).1 (C.kept, C.all_core, C.numbered)

-- Folding is merging: cells that are not core are merged into their predecessor and their counters added, one after
-- the other, until every cell is core.
use Prim.Native.Nat.{◌+◌, ◌≤◌, suc, zero, ℕ}
use mathlib.Core.Path.{◌∙◌, ◌≡◌, ap, refl, sym}
use mathlib.Core.Logic.{◌⊎◌, inl, inr, ⊎_elim}
use mathlib.Core.Bool.{false, true}
use mathlib.Core.List.{List, [], ◌∷◌, map}
use native.Mathlib.Omega.{arith}
use lib.ListN.{length}
use Rattle.model.specs.Base.{mem}
use Rattle.model.specs.Heap.{Heap, IsHeap, next, order}
use Rattle.model.specs.Shape.{core, counters, shape}
use Rattle.model.proofs.expansion.Facts.{heap_closed, heap_kept}
use Rattle.model.proofs.expansion.Folds.{fold_same}
use Rattle.model.proofs.lists.Logic.{bool_case, clash, mem-cases, mem_here, mem_there}
use Rattle.model.specs.Notions.{EveryCore, Merges, MergesTo, counted, heads, merge, merge_heap, no_more, then_more, upd, Used}
use Rattle.model.proofs.shapes.OneMerge.{after_counted, after_heads, after_heap, after_length, merge_expansion, merge_segs}
use Rattle.model.proofs.visits.Order.{toured}
use Rattle.model.proofs.shapes.Segments.{counted_ones, counted_single, heads_single, predecessor}

-- each merge keeps the shape and the counters of the segments, and a heap stays a heap
pub merge_keeps : {W U : Heap} {w u : ℕ → ℕ} → Merges W w U u → (shape U ≡ shape W) × (counted U u ≡ counted W w)
merge_keeps (merge {W = W} {w = w} p d x u n e) = (
  sym (fold_same (merge_heap p d W) (merge_segs p d) W (merge_expansion W p d x u n e)),
  after_counted W p d x u n e w,
)

pub merge_heap_lem : {W U : Heap} {w u : ℕ → ℕ} → Merges W w U u → IsHeap U
merge_heap_lem (merge {W = W} p d x u n e) = after_heap W p d x u n e

-- each merge keeps the first cells of the segments
pub merge_heads : {W U : Heap} {w u : ℕ → ℕ} → Merges W w U u → heads U ≡ heads W
merge_heads (merge {W = W} p d x u n e) = after_heads W p d x u n e

-- and so does any list of merges
pub merges_keep : {W U : Heap} {w u : ℕ → ℕ} → MergesTo W w U u → IsHeap W → (shape U ≡ shape W)
    × (counted U u ≡ counted W w) × IsHeap U
merges_keep no_more x = (refl, refl, x)
merges_keep (then_more m ms) x = let a = merge_keeps m in let b = merges_keep ms (merge_heap_lem m) in
    (b.0 ∙ a.0, b.1 ∙ a.1, b.2)

pub merges_heads : {W U : Heap} {w u : ℕ → ℕ} → MergesTo W w U u → heads U ≡ heads W
merges_heads no_more = refl
merges_heads (then_more m ms) = merges_heads ms ∙ merge_heads m

-- each merge leaves one cell less
pub merge_shrinks : {W U : Heap} {w u : ℕ → ℕ} → Merges W w U u → length (order U) + 1 ≡ length (order W)
merge_shrinks (merge {W = W} p d x u n e) = after_length W p d x u n e

-- while some cell in use is not core there is a merge
pub merge_exists : (W : Heap) (w : ℕ → ℕ) → IsHeap W → (d : ℕ) → Used (next W) d → core W d ≡ false → (U : Heap)
    × (u : ℕ → ℕ) × Merges W w U u
merge_exists W w x d u n = let r = predecessor W x d u n in let p = r.0 in
    (merge_heap p d W, upd w p (w p + w d), merge p d x u n r.1)

-- merging until every cell is core gives the shape, and for each node, in the order of the visit, the counters of its
-- segment added up
pub merged_is : (h W : Heap) (w u : ℕ → ℕ) → IsHeap h → MergesTo h w W u → EveryCore W → (shape W ≡ shape h)
    × (map u (order W) ≡ counted h w)
merged_is h W w u x m k = let r = merges_keep m x in (r.0, sym (counted_single W u r.2 k) ∙ r.1)

-- the nodes that are left are the first cells of the heap's segments
pub merged_nodes : (h W : Heap) (w u : ℕ → ℕ) → IsHeap h → MergesTo h w W u → EveryCore W → order W ≡ heads h
merged_nodes h W w u x m k = sym (heads_single W (merges_keep m x).2 k) ∙ merges_heads m

-- from cells that count 1 each it is the fold
pub merged_is_fold : (h W : Heap) (w : ℕ → ℕ) → IsHeap h → MergesTo h (λ _. 1) W w → EveryCore W → (shape W ≡ shape h)
    × (map w (order W) ≡ counters h)
merged_is_fold h W w x m k = let r = merged_is h W (λ _. 1) w x m k in (r.0, r.1 ∙ counted_ones h)

some_inner : (W : Heap) (l : List ℕ) → ((c : ℕ) → mem c l ≡ true → core W c ≡ true) ⊎ ((d : ℕ) × (mem d l ≡ true)
    × (core W d ≡ false))
some_inner W [] = inl (λ c k. clash k refl)
some_inner W (b ∷ l) = bool_case (core W b)
    (λ q. ⊎_elim (λ f. inl (λ c k. mem-cases c b l k (λ e. ap (core W) e ∙ q) (f c)))
    (λ r. inr (r.0, mem_there r.0 b l r.1, r.2)) (some_inner W l))
    (λ q. inr (b, mem_here b l, q))

merge_fuel : (f : ℕ) (W : Heap) (w : ℕ → ℕ) → IsHeap W → length (order W) ≤ f → (U : Heap) × (u : ℕ → ℕ)
    × MergesTo W w U u × EveryCore U
merge_fuel zero W w x h = ⊎_elim (λ k. (W, w, no_more, λ c a. k c (heap_kept W x c a)))
    (λ r. let m = merge_exists W w x r.0 ((toured W (heap_closed W x)).used r.0 r.1) r.2 in
    absurd (omega (arith, merge_shrinks m.2)))
    (some_inner W (order W))
merge_fuel (suc f) W w x h = ⊎_elim (λ k. (W, w, no_more, λ c a. k c (heap_kept W x c a)))
    (λ r. let m = merge_exists W w x r.0 ((toured W (heap_closed W x)).used r.0 r.1) r.2 in
    let t = merge_fuel f m.0 m.1 (merge_heap_lem m.2) (omega (arith, merge_shrinks m.2)) in
    (t.0, t.1, then_more m.2 t.2, t.3))
    (some_inner W (order W))

-- merging comes to an end where every cell in use is core
pub merge_ends : (W : Heap) (w : ℕ → ℕ) → IsHeap W → (U : Heap) × (u : ℕ → ℕ) × MergesTo W w U u × EveryCore U
merge_ends W w x = merge_fuel (length (order W)) W w x (omega arith)

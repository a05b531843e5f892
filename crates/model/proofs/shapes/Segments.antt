-- Cutting the visit order before each core cell gives the segments of 01, each once, and together they hold each cell
-- in use once.
use Prim.Native.Nat.{◌<◌, ◌≤◌, suc, ℕ}
use mathlib.Core.Path.{◌∙◌, ◌≡◌, ap, ap₂, refl, subst, sym}
use mathlib.Core.Logic.{◌↔◌}
use mathlib.Core.Bool.{Bool, false, true}
use mathlib.Core.List.{List, [], ◌∷◌, map}
use native.Mathlib.Omega.{arith}
use lib.ListN.{length}
use Rattle.model.specs.Base.{mem, sum}
use Rattle.model.specs.Heap.{Heap, IsHeap, Slot, Val, cell, holds, next, order}
use Rattle.model.specs.Shape.{Seg, cells, core, counters, segments, size}
use Rattle.model.proofs.shapes.Bound.{few_nodes, segment_is}
use Rattle.model.proofs.expansion.Cores.{not_pointed, one_holder}
use Rattle.model.proofs.expansion.Facts.{heap_closed, heap_kept}
use Rattle.model.specs.Notions.{Kept, NoDup, Chain, EveryCore, IsSegment, Reaches, along, counted, flat, from_pointer, heads, seg_at, ClosedHeap, Used}
use Rattle.model.proofs.expansion.Folds.{chain_used}
use Rattle.model.proofs.lists.Lists.{map_same}
use Rattle.model.proofs.lists.Logic.{clash, mem-cases, mem_here, mem_there}
use Rattle.model.proofs.visits.Order.{toured}
use Rattle.model.proofs.expansion.Reach.{kept_reaches}
use Rattle.model.proofs.expansion.Start.{flat_is, seg_apart, where_is}
use Rattle.model.proofs.expansion.Writes.{holds_inj}

no_loop : (h : Heap) (d : ℕ) → Reaches h d → core h d ≡ false → next h d ≡ holds (cell d) → ⊥
no_loop h d (from_pointer i) n e = not_pointed h d n i
no_loop h d (along {c = c} r q) n e =
    let p : d ≡ c = one_holder h d d c n e q in
    no_loop h c r (subst (λ x. core h x ≡ false) p n) (subst (λ x. next h x ≡ holds (cell x)) p e)

-- in a heap a cell that is not core has one predecessor, and that is another cell
pub predecessor : (h : Heap) → IsHeap h → (d : ℕ) → Used (next h) d → core h d ≡ false
    → (p : ℕ) × (next h p ≡ holds (cell d)) × (p ≡ d → ⊥) × ((a : ℕ) → next h a ≡ holds (cell d) → a ≡ p)
predecessor h x d u n = from d n ((kept_reaches h (heap_closed h x)).0 x.is_kept d u)
  where
    from : (d : ℕ) → core h d ≡ false → Reaches h d → (p : ℕ) × (next h p ≡ holds (cell d)) × (p ≡ d → ⊥)
        × ((a : ℕ) → next h a ≡ holds (cell d) → a ≡ p)
    from d n (from_pointer i) = absurd (not_pointed h d n i)
    from d n (along {c = p} r e) = (
      p,
      e,
      (λ q. no_loop h d (along r e) n
          (subst (λ y. next h y ≡ holds (cell d)) q e)),
      λ a k. one_holder h d a p n k e,
    )

-- each segment that the cut gives is one
pub segments_are : (h : Heap) → IsHeap h → (n : ℕ) → n < length (segments h) → IsSegment h (seg_at (segments h) n)
segments_are h x n q =
    let r = segment_is h (heap_closed h x) (heap_kept h x) n q in
    record { head_core = r.1; after = r.2; upto = r.0; chain = r.3; upto_core = r.4 }

-- a segment that ends in a cell of its own ends in its first: "itself again"
pub itself_again : (h : Heap) (s : Seg) (i : IsSegment h s) (c : ℕ) → i.upto ≡ cell c → mem c (cells s) ≡ true → c
    ≡ s.first
itself_again h s i c e m = mem-cases c s.first s.rest m (λ p. p) (λ k. clash (i.upto_core c e) (i.after c k))

-- together the segments are the visit order; they hold each cell in use, and no other, and none twice
pub each_cell_once : (h : Heap) → IsHeap h
    → (flat (segments h) ≡ order h) × NoDup (flat (segments h))
    × ((c : ℕ) → Used (next h) c ↔ (mem c (flat (segments h)) ≡ true))
each_cell_once h x =
    let cl = heap_closed h x in
    let k = heap_kept h x in
    let e = flat_is h cl k in
    (e, rw e (toured h cl).nodup, λ c. ((λ u. rw e (k c u)), λ m. (toured h cl).used c (rw e at m)))

module _ (h : Heap) (x : IsHeap h) where
  cl : ClosedHeap h
  cl = heap_closed h x

  kp : Kept h
  kp = heap_kept h x

  -- every core cell in use is the first cell of exactly one segment
  pub core_first : (c : ℕ) → Used (next h) c → core h c ≡ true
      → (n : ℕ) × (n < length (segments h)) × ((seg_at (segments h) n).first ≡ c)
      × ((m : ℕ) → m < length (segments h) → (seg_at (segments h) m).first ≡ c → m ≡ n)
  core_first c u k =
      let r = where_is h cl kp c u in
      let s = seg_at (segments h) r.0 in
      let here : (m : ℕ) → mem (seg_at (segments h) m).first (cells (seg_at (segments h) m)) ≡ true =
      λ m. mem_here (seg_at (segments h) m).first (seg_at (segments h) m).rest in (
        r.0,
        r.1,
        mem-cases c s.first s.rest r.2 sym (λ q. clash k ((segments_are h x r.0 r.1).after c q)),
        λ m q e. seg_apart h cl kp m r.0 c q r.1 (subst (λ y. mem y (cells (seg_at (segments h) m)) ≡ true) e
            (here m)) r.2,
      )

  -- "A shape has 0 to 12 nodes."
  pub twelve : length h.ptrs ≡ 6 → length (segments h) ≤ 12
  twelve e = omega (arith, few_nodes h cl kp)

rest_same : (nx : ℕ → Slot) (p : ℕ → Bool) (c : ℕ) (l m : List ℕ) (v w : Val) → Chain nx c l v → Chain nx c m w
    → ((d : ℕ) → mem d l ≡ true → p d ≡ false) → ((d : ℕ) → mem d m ≡ true → p d ≡ false)
    → ((d : ℕ) → v ≡ cell d → p d ≡ true) → ((d : ℕ) → w ≡ cell d → p d ≡ true) → l ≡ m
rest_same nx p c [] [] v w a b il im pv pw = refl
rest_same nx p c [] (y ∷ m) v w a b il im pv pw = clash (pv y (holds_inj (sym a ∙ b.0))) (im y (mem_here y m))
rest_same nx p c (x ∷ l) [] v w a b il im pv pw = clash (pw x (holds_inj (sym b ∙ a.0))) (il x (mem_here x l))
rest_same nx p c (x ∷ l) (y ∷ m) v w a b il im pv pw =
    let e : y ≡ x = (let z = a.0 in let t = b.0 in cc) in
    ap₂ ◌∷◌ (sym e) (rest_same nx p x l m v w a.1 (subst (λ i. Chain nx i m w) e b.1)
    (λ d k. il d (mem_there d x l k)) (λ d k. im d (mem_there d y m k)) pv pw)

-- the first cell determines the segment
pub segment_unique : (h : Heap) (s t : Seg) → IsSegment h s → IsSegment h t → s.first ≡ t.first → s ≡ t
segment_unique h s t a b e =
    let ch : Chain (next h) s.first t.rest b.upto = subst (λ c. Chain (next h) c t.rest b.upto) (sym e)
    b.chain in
    let r = rest_same (next h) (core h) s.first s.rest t.rest a.upto b.upto a.chain ch a.after
    b.after a.upto_core b.upto_core in
    λ i. record { first = e i; rest = r i }

-- so the cut gives every segment
pub segment_listed : (h : Heap) → IsHeap h → (s : Seg) → IsSegment h s → (n : ℕ) × (n < length (segments h))
    × (seg_at (segments h) n ≡ s)
segment_listed h x s a =
    let u = chain_used (next h) s.first s.rest a.upto s.first a.chain (mem_here s.first s.rest) in
    let r = core_first h x s.first u a.head_core in
    (r.0, r.1, segment_unique h (seg_at (segments h) r.0) s (segments_are h x r.0 r.1) a r.2)

pub single_cells : (h : Heap) → IsHeap h → EveryCore h → (n : ℕ) → n < length (segments h)
    → (seg_at (segments h) n).rest ≡ []
single_cells h x k n q = let s = seg_at (segments h) n in empty s (segments_are h x n q) s.rest refl
  where
    empty : (s : Seg) → IsSegment h s → (l : List ℕ) → s.rest ≡ l → s.rest ≡ []
    empty s i [] e = e
    empty s i (d ∷ l) e =
        let m : mem d s.rest ≡ true = rw e (mem_here d l) in
        clash (k d (chain_used (next h) s.first s.rest i.upto d i.chain
        (mem_there d s.first s.rest m))) (i.after d m)

single_flat : (ss : List Seg) → ((n : ℕ) → n < length ss → (seg_at ss n).rest ≡ []) → map (λ (s : Seg). s.first) ss
    ≡ flat ss
single_flat [] k = refl
single_flat (s ∷ ss) k = rw (k 0 (omega arith))
    (ap (λ l. s.first ∷ l) (single_flat ss (λ n q. k (suc n) (omega arith))))

single_sums : (w : ℕ → ℕ) (ss : List Seg) → ((n : ℕ) → n < length ss → (seg_at ss n).rest ≡ [])
    → map (λ (s : Seg). sum w (cells s)) ss ≡ map w (flat ss)
single_sums w [] k = refl
single_sums w (s ∷ ss) k = rw (k 0 (omega arith))
    (ap₂ ◌∷◌ (omega arith) (single_sums w ss (λ n q. k (suc n) (omega arith))))

-- where every cell in use is core the heads are the cells, in the order of the visit, and the counters of the segments
-- are theirs
pub heads_single : (h : Heap) → IsHeap h → EveryCore h → heads h ≡ order h
heads_single h x k = single_flat (segments h) (single_cells h x k) ∙ (each_cell_once h x).0

pub counted_single : (h : Heap) (w : ℕ → ℕ) → IsHeap h → EveryCore h → counted h w ≡ map w (order h)
counted_single h w x k = single_sums w (segments h) (single_cells h x k) ∙ ap (map w) (each_cell_once h x).0

sum_ones : (l : List ℕ) → sum (λ _. 1) l ≡ length l
sum_ones [] = refl
sum_ones (c ∷ l) = let r = sum_ones l in omega arith

-- where each cell counts 1 the counters are the sizes
pub counted_ones : (h : Heap) → counted h (λ _. 1) ≡ counters h
counted_ones h = map_same (λ (s : Seg). sum (λ _. 1) (cells s)) size (segments h) (λ s i. sum_ones (cells s))

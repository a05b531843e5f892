-- What `cut` and `fold_shape` ask holds of a heap image of 01, and what they give is its shape.
use Prim.Native.Nat.{ℕ, zero, suc, ◌<◌, ◌≤◌, ◌+◌}
use mathlib.Core.Path.{◌≡◌, ◌∙◌, ap, refl, subst, sym, ap₂}
use mathlib.Core.Bool.{true}
use mathlib.Core.List.{List, [], ◌∷◌, map, ◌++◌}
use native.Mathlib.Omega.{arith}
use lib.ListN.{length, get_or, take, length-append, length-map, get_or-map, drop}
use Rattle.model.specs.Base.{mem}
use Rattle.model.specs.Heap.{Heap, IsHeap, cell, next, order}
use Rattle.model.specs.Shape.{Seg, cells, core, last, segments}
use Rattle.model.specs.Records.{val_of}
use Rattle.model.specs.Image.{heap_of}
use Rattle.model.proofs.records.Bytes.{val_cell}
use Rattle.model.proofs.expansion.Facts.{heap_closed, heap_kept}
use Rattle.model.proofs.lists.Lists.{mem_at}
use Rattle.model.specs.Notions.{flat, seg_at, AllClosed, Closed, seg}
use Rattle.model.proofs.visits.Order.{pigeon, toured}
use Rattle.model.proofs.shapes.Segments.{each_cell_once, segments_are, twelve}
use Rattle.model.proofs.expansion.Start.{end}
use Rattle.segment.specs.Cut.{CutReady, held_core, segs, IsCut, CutTables}
use Rattle.folding.specs.Fold.{AllIn, InTable, LastsIn, FoldReady, folded_bytes, fold_byte}
use Rattle.folding.proofs.ShapeLaws.{shape_pointers, shape_successors, cell_low, segs_same, slot_of}
use Rattle.folding.specs.Shape.{ShapeReady, IsShape}

flat_first : (ss : List Seg) → 0 < length (flat ss) → (0 < length ss) × (get_or (flat ss) 0 0 ≡ (seg_at ss 0).first)
flat_first [] h = absurd (omega arith)
flat_first (s ∷ ss) h = (omega arith, refl)

flat_length : (ss : List Seg) → length ss ≤ length (flat ss)
flat_length [] = omega arith
flat_length (s ∷ ss) = omega (arith, flat_length ss, length-append (cells s) (flat ss))

-- the first visited cell is core
first_core : (h : Heap) → IsHeap h → 0 < length (order h) → core h (get_or (order h) 0 0) ≡ true
first_core h x q =
    let e = (each_cell_once h x).0 in
    let r = flat_first (segments h) (rw e q) in
    subst (λ c. core h c ≡ true) (sym r.1 ∙ ap (λ l. get_or l 0 0) e) (segments_are h x 0 r.0).head_core

module _ (ps cs : List ℕ) (x : IsHeap (heap_of ps cs)) (few : length cs ≤ 240) where
  order_low : (c : ℕ) → mem c (order (heap_of ps cs)) ≡ true → c < length cs
  order_low c q = cell_low ps cs x few c ((toured (heap_of ps cs) (heap_closed (heap_of ps cs) x)).used c q)

  order_few : length (order (heap_of ps cs)) ≤ length cs
  order_few =
      pigeon (length cs) (order (heap_of ps cs)) (toured (heap_of ps cs) (heap_closed (heap_of ps cs) x)).nodup
      order_low

  -- the holders agree with the heap at each cell of the order
  image_ready : (held : List ℕ) (t : CutTables)
      → ((c : ℕ) → mem c (order (heap_of ps cs)) ≡ true → held_core held c ≡ core (heap_of ps cs) c)
      → length cs ≤ length held
      → length cs ≤ length t.node → length (segments (heap_of ps cs)) ≤ length t.last
      → length (segments (heap_of ps cs)) ≤ length t.size → CutReady (order (heap_of ps cs)) held t
  image_ready held t same hh hm hl hz =
      let h = heap_of ps cs in
      let ss : segs held (order h) ≡ segments h = segs_same held h same in
      let s = flat_length (segments h) in
      let f = ap length (each_cell_once h x).0 in
      let n = order_few in
      record {
        short = omega arith;
        low = λ i b. let q = order_low (get_or (order h) i 0) (mem_at (order h) i b) in (omega arith, omega arith);
        once = (toured h (heap_closed h x)).nodup;
        begins = λ b. same (get_or (order h) 0 0) (mem_at (order h) 0 b) ∙ first_core h x b;
        lasts = rw ss hl;
        sizes = rw ss hz;
        few = rw ss (omega arith);
      }

  byte_in : (m : List ℕ) (b : ℕ) → length cs ≤ length m → Closed (next (heap_of ps cs)) (val_of b) → InTable m b
  byte_in m b hm k q =
      let e : val_of b ≡ cell b = val_cell b (λ t. omega arith) (λ t. omega arith) in
      omega (arith, cell_low ps cs x few b (subst (Closed (next (heap_of ps cs))) e k))

  values_in : (m qs : List ℕ) → length cs ≤ length m → AllClosed (next (heap_of ps cs)) (map val_of qs) → AllIn m qs
  values_in m [] hm k i b = absurd (omega arith)
  values_in m (v ∷ qs) hm k zero b = byte_in m v hm k.0
  values_in m (v ∷ qs) hm k (suc i) b = values_in m qs hm k.1 i (omega arith)

  -- the pointers name cells of the table
  pointers_in : (m : List ℕ) → length cs ≤ length m → AllIn m ps
  pointers_in m hm = values_in m ps hm (heap_closed (heap_of ps cs) x).0

  -- and so do the last cells of the segments
  lasts_in : (m l : List ℕ) → length cs ≤ length m → l ≡ map last (segments (heap_of ps cs)) → LastsIn m cs l
  lasts_in m l hm e i b =
      let h = heap_of ps cs in
      let ss = segments h in
      let cl = heap_closed h x in
      let n : length l ≡ length ss = ap length e ∙ length-map ss last in
      let c = last (seg_at ss i) in
      let at : get_or l i 0 ≡ c = ap (λ s. get_or s i 0) e ∙ get_or-map last ss i (seg 0 []) in
      let u = end h cl (heap_kept h x) i (omega arith) in
      let holds_closed : Closed (next h) (val_of (get_or cs c 0)) =
      subst (Closed (next h)) (sym (slot_of ps cs x few c u.0 u.1)) (cl.1 c u.0 u.1) in
      rw at (cell_low ps cs x few c u, byte_in m (get_or cs c 0) hm holds_closed)

-- ---- folding in two calls, the cut and the bytes
module _ {ps cs visit held : List ℕ} (x : ShapeReady ps cs visit held) where
  few_segments : length (segments (heap_of ps cs)) ≤ 12
  few_segments = twelve (heap_of ps cs) x.is_heap (length-map ps val_of ∙ x.six)

  held_core_lem : (c : ℕ) → mem c (order (heap_of ps cs)) ≡ true → held_core held c ≡ core (heap_of ps cs) c
  held_core_lem c i = x.counts c (order_low ps cs x.is_heap x.few c i)

  -- what the cut asks
  pub cut_ready : (t : CutTables) → length cs ≤ length t.node → 12 ≤ length t.last → 12 ≤ length t.size
      → CutReady visit held t
  cut_ready t hm hl hz =
      let f = few_segments in
      rw x.visited
      (image_ready ps cs x.is_heap x.few held t held_core_lem x.holders hm (omega arith) (omega arith))

  -- the order is cut into k segments
  module _ {t : CutTables} {k : ℕ} (r : IsCut (segs held visit) t k) where
    cut_heap : IsCut (segments (heap_of ps cs)) t k
    cut_heap = subst (λ ss. IsCut ss t k) (ap (segs held) x.visited ∙ segs_same held (heap_of ps cs) held_core_lem) r

    pub few_nodes : k ≤ 12
    few_nodes = rw cut_heap.number few_segments

    pub count_lasts : k ≡ length (take k t.last)
    count_lasts = cut_heap.number ∙ sym (ap length cut_heap.lasts ∙ length-map (segments (heap_of ps cs)) last)

    -- what the fold of its bytes asks
    pub fold_ready : length cs ≤ length t.node → (before : List ℕ) → 18 ≤ length before
        → FoldReady ps cs (take k t.last) t.node before
    fold_ready hm before room = record {
      six = x.six;
      pointers = pointers_in ps cs x.is_heap x.few t.node hm;
      lasts = lasts_in ps cs x.is_heap x.few t.node (take k t.last) hm cut_heap.lasts;
      room = omega (arith, few_nodes, count_lasts);
    }

    -- and what it gives
    pub shape_is_lem : (before after : List ℕ)
        → after ≡ folded_bytes t.node ps cs (take k t.last) ++ drop (6 + length (take k t.last)) before
        → IsShape ps cs t.node t.size before after k
    shape_is_lem before after e =
        let h = heap_of ps cs in
        let p = shape_pointers ps cs x.is_heap x.few t.node cut_heap.nodes in
        let s = ap (map (λ c. fold_byte t.node (get_or cs c 0))) cut_heap.lasts
        ∙ shape_successors ps cs x.is_heap x.few t.node cut_heap.nodes in
        record {
          number = cut_heap.number;
          twelve = few_nodes;
          bytes = e ∙ ap₂ (λ w u. w ++ drop (6 + u) before) (ap₂ ◌++◌ p s) (sym count_lasts);
          sizes = cut_heap.sizes;
          nodes = λ j c i. cut_heap.nodes j c (rw cut_heap.number at i);
        }

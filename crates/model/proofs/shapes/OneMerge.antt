-- One merge: the heap before is an expansion of the heap after, so that shape, counters and heads are kept, and one
-- cell less is left.
use Prim.Native.Nat.{◌+◌, suc, ℕ}
use mathlib.Core.Path.{◌∙◌, ◌≡◌, ap, ap₂, refl, subst, sym}
use mathlib.Core.Bool.{cond, false, true}
use mathlib.Core.List.{List, [], ◌∷◌, map, map-map}
use native.Mathlib.Omega.{arith}
use lib.Dec.{eqb}
use lib.ListN.{length}
use borrow.Author.Tests.{eq-eqb, eqb-false, ne_eqb}
use Rattle.model.specs.Base.{mem, sum}
use Rattle.model.specs.Heap.{Heap, IsHeap, Slot, Val, cell, holds, next, null, order, undef, unused}
use Rattle.model.specs.Machine.{put_slot}
use Rattle.model.specs.Shape.{Seg, cells, core, segments}
use Rattle.model.proofs.expansion.Cores.{not_pointed, one_holder}
use Rattle.model.proofs.expansion.Effects.{next_put}
use Rattle.model.proofs.expansion.Facts.{heap_closed, heap_kept, is_heap_lem}
use Rattle.model.specs.Notions.{Kept, In, NoDup, Chain, Expands, Expansion, cat, counted, heads, img, merge_heap, upd, AllClosed, Closed, Used, seg}
use Rattle.model.proofs.expansion.Folds.{grow, kept_down, order_cat, segments_grow}
use Rattle.model.proofs.lists.Lists.{map_id, map_same}
use Rattle.model.proofs.lists.Logic.{clash, eq-case, eqb_sym, mem-cases, mem_here, mem_one, mem_there, or_false_l, or_false_r}
use Rattle.model.proofs.visits.Order.{toured}
use Rattle.model.proofs.shapes.Segments.{predecessor}
use Rattle.model.proofs.lists.Slices.{sum_append}
use Rattle.model.proofs.visits.Walks.{closed_in, in_closed}
use Rattle.model.proofs.expansion.Writes.{slot-clash, upd-at, upd-off}

-- the heap before, seen from the heap after: each cell is a chain of its own, but p, which is followed by d
abbrev pub merge_segs : ℕ → ℕ → ℕ → Seg
merge_segs p d = upd (λ i. seg i []) p (seg p (d ∷ []))

module _ (W : Heap) (p d : ℕ) (x : IsHeap W) (u : Used (next W) d) (n : core W d ≡ false) (e : next W p
    ≡ holds (cell d)) where
  -- the predecessor is another cell
  not_itself : p ≡ d → ⊥
  not_itself q = let r = predecessor W x d u n in r.2 (sym (r.3 p e) ∙ q)

  abbrev nm : ℕ → Slot
  nm = upd (upd (next W) p (next W d)) d unused

  next_merge : next (merge_heap p d W) ≡ nm
  next_merge = next_put (put_slot p (next W d) W) d unused ∙ ap (λ f. upd f d unused) (next_put W p (next W d))

  p_d : eqb p d ≡ false
  p_d = ne_eqb p d not_itself

  merge-cases {ℓ} : {C : Type ℓ} (i : ℕ) → (i ≡ d → C) → (i ≡ p → C) → (eqb i d ≡ false → eqb i p ≡ false → C) → C
  merge-cases i f g r = eq-case i d f (λ q. eq-case i p g (r q))

  at_d : (i : ℕ) → i ≡ d → nm i ≡ unused
  at_d i q = upd-at (upd (next W) p (next W d)) d unused i q

  at_p : (i : ℕ) → i ≡ p → nm i ≡ next W d
  at_p i q = upd-off (upd (next W) p (next W d)) d unused i (ap (λ y. eqb y d) q ∙ p_d)
      ∙ upd-at (next W) p (next W d) i q

  off : (i : ℕ) → eqb i d ≡ false → eqb i p ≡ false → nm i ≡ next W i
  off i q r = upd-off (upd (next W) p (next W d)) d unused i q ∙ upd-off (next W) p (next W d) i r

  sg_p : (i : ℕ) → i ≡ p → merge_segs p d i ≡ seg p (d ∷ [])
  sg_p i q = upd-at (λ j. seg j []) p (seg p (d ∷ [])) i q

  sg_off : (i : ℕ) → eqb i p ≡ false → merge_segs p d i ≡ seg i []
  sg_off i q = upd-off (λ j. seg j []) p (seg p (d ∷ [])) i q

  seg_first : (i : ℕ) → (merge_segs p d i).first ≡ i
  seg_first i = eq-case i p (λ q. ap (λ (s : Seg). s.first) (sg_p i q) ∙ sym q)
      (λ q. ap (λ (s : Seg). s.first) (sg_off i q))

  same_img : (v : Val) → img (merge_segs p d) v ≡ v
  same_img null = refl
  same_img undef = refl
  same_img (cell i) = ap cell (seg_first i)

  m_used : (i : ℕ) → eqb i d ≡ false → Used (next W) i → Used nm i
  m_used i q w = eq-case i p (λ r. (u.0, at_p i r ∙ u.1)) (λ r. (w.0, off i q r ∙ w.1))

  m_closed : (v : Val) → (v ≡ cell d → ⊥) → Closed (next W) v → Closed nm v
  m_closed null f k = tt
  m_closed undef f k = tt
  m_closed (cell i) f k = m_used i (ne_eqb i d (λ q. f (ap cell q))) k

  -- only p holds d
  m_next : (i : ℕ) (v : Val) → eqb i p ≡ false → next W i ≡ holds v → v ≡ cell d → ⊥
  m_next i v q r z = eqb-false i p q (one_holder W d i p n (r ∙ ap holds z) e)

  m_val : (i : ℕ) (v : Val) → nm i ≡ holds v
      → (eqb i d ≡ false) × Closed nm v × Chain (next W) (merge_segs p d i).first (merge_segs p d i).rest
      (img (merge_segs p d) v)
  m_val i v r = merge-cases i (λ q. slot-clash (at_d i q) r)
      (λ q. let z : next W d ≡ holds v = sym (at_p i q) ∙ r in (
        ap (λ y. eqb y d) q ∙ p_d,
        m_closed v (m_next d v (ne_eqb d p (λ y. not_itself (sym y))) z) ((heap_closed W x).1 d v z),
        subst (λ (s : Seg). Chain (next W) s.first s.rest (img (merge_segs p d) v)) (sym (sg_p i q))
            (rw (same_img v) (e, z)),
      ))
      (λ q y. let z : next W i ≡ holds v = sym (off i q y) ∙ r in (
        q,
        m_closed v (m_next i v y z) ((heap_closed W x).1 i v z),
        subst (λ (s : Seg). Chain (next W) s.first s.rest (img (merge_segs p d) v)) (sym (sg_off i y))
            (rw (same_img v) z),
      ))

  -- the cell of the merged heap whose chain has c
  abbrev own : ℕ → ℕ
  own c = cond (eqb c d) p c

  m_own : (i c : ℕ) → eqb i d ≡ false → mem c (cells (merge_segs p d i)) ≡ true → i ≡ own c
  m_own i c q m = eq-case i p
      (λ r. mem-cases c p (d ∷ []) (subst (λ s. mem c (cells s) ≡ true) (sg_p i r) m) (λ z. rw (z, p_d) r)
      (λ z. rw (eq-eqb c d (mem_one c d z)) r))
      (λ r. let z : c ≡ i = mem_one c i (subst (λ s. mem c (cells s) ≡ true) (sg_off i r) m) in rw (z, q))

  m_cover : (c : ℕ) → Used (next W) c → (i : ℕ) × Used nm i × (mem c (cells (merge_segs p d i)) ≡ true)
  m_cover c w = merge-cases c
      (λ q. (p, (u.0, at_p p refl ∙ u.1), rw (sg_p p refl, q) (mem_there d p (d ∷ []) (mem_here d []))))
      (λ q. (p, (u.0, at_p p refl ∙ u.1), rw (sg_p p refl, q) (mem_here p (d ∷ []))))
      (λ q r. (c, (w.0, off c q r ∙ w.1), rw (sg_off c r) (mem_here c [])))

  m_expands : Expands nm (merge_segs p d) (next W)
  m_expands = record {
    closed = λ i v r. (m_val i v r).1;
    chain = λ i v r. (m_val i v r).2;
    cover = λ c v r. m_cover c (v, r);
    apart = λ i j c a b q r. m_own i c (m_val i a.0 a.1).0 q ∙ sym (m_own j c (m_val j b.0 b.1).0 r);
    nodup = λ i a. eq-case i p (λ q. rw (sg_p i q, p_d) (refl, (refl, tt))) (λ q. rw (sg_off i q) (refl, tt));
  }

  off_ptrs : AllClosed nm W.ptrs
  off_ptrs = in_closed nm W.ptrs
      (λ v i. m_closed v (λ q. not_pointed W d n (subst (λ z. In z W.ptrs) q i))
      (closed_in (next W) W.ptrs v (heap_closed W x).0 i))

  -- the heap before is an expansion of the heap after
  pub merge_expansion : Expansion (merge_heap p d W) (merge_segs p d) W
  merge_expansion = record {
    body = subst (λ f. Expands f (merge_segs p d) (next W)) (sym next_merge) m_expands;
    closed = subst (λ f. AllClosed f W.ptrs) (sym next_merge) off_ptrs;
    ptrs = sym (map_id (img (merge_segs p d)) W.ptrs (λ v i. same_img v));
  }

  after_kept : Kept (merge_heap p d W)
  after_kept = kept_down (merge_heap p d W) (merge_segs p d) W merge_expansion (heap_kept W x)

  pub after_heap : IsHeap (merge_heap p d W)
  after_heap = is_heap_lem (merge_heap p d W) (merge_expansion.closed, merge_expansion.body.closed) after_kept

  -- the counters of a list of cells after the merge
  after_sum : (w : ℕ → ℕ) (l : List ℕ) → sum w (cat (merge_segs p d) l) ≡ sum (upd w p (w p + w d)) l
  after_sum w [] = refl
  after_sum w (i ∷ l) = sum_append w (cells (merge_segs p d i)) (cat (merge_segs p d) l) ∙ ap₂ ◌+◌ (eq-case i p
      (λ q. rw (sg_p i q, upd-at w p (w p + w d) i q) (omega arith))
      (λ q. rw (sg_off i q, upd-off w p (w p + w d) i q) (omega arith))) (after_sum w l)

  after_sums : (w : ℕ → ℕ) (ss : List Seg)
      → map (λ (s : Seg). sum w (cells s)) (map (grow (merge_segs p d)) ss)
      ≡ map (λ (s : Seg). sum (upd w p (w p + w d)) (cells s)) ss
  after_sums w ss =
      map-map (λ (s : Seg). sum w (cells s)) (grow (merge_segs p d)) ss
      ∙ map_same (λ (s : Seg). sum w (cat (merge_segs p d) (cells s)))
      (λ (s : Seg). sum (upd w p (w p + w d)) (cells s)) ss (λ s i. after_sum w (cells s))

  pub after_counted : (w : ℕ → ℕ) → counted (merge_heap p d W) (upd w p (w p + w d)) ≡ counted W w
  after_counted w = sym (rw (segments_grow (merge_heap p d W) (merge_segs p d) W merge_expansion)
      (after_sums w (segments (merge_heap p d W))))

  after_firsts : (ss : List Seg) → map (λ (s : Seg). s.first) (map (grow (merge_segs p d)) ss)
      ≡ map (λ (s : Seg). s.first) ss
  after_firsts ss =
      map-map (λ (s : Seg). s.first) (grow (merge_segs p d)) ss
      ∙ map_same (λ (s : Seg). (merge_segs p d s.first).first) (λ (s : Seg). s.first) ss (λ s i. seg_first s.first)

  pub after_heads : heads (merge_heap p d W) ≡ heads W
  after_heads = sym (rw (segments_grow (merge_heap p d W) (merge_segs p d) W merge_expansion)
      (after_firsts (segments (merge_heap p d W))))

  cat_off : (l : List ℕ) → mem p l ≡ false → cat (merge_segs p d) l ≡ l
  cat_off [] h = refl
  cat_off (i ∷ l) h = rw (sg_off i (eqb_sym i p ∙ or_false_l (eqb p i) (mem p l) h))
      (ap (λ z. i ∷ z) (cat_off l (or_false_r (eqb p i) (mem p l) h)))

  cat_length : (l : List ℕ) → NoDup l → mem p l ≡ true → length (cat (merge_segs p d) l) ≡ suc (length l)
  cat_length [] nd h = clash h refl
  cat_length (i ∷ l) nd h = eq-case i p (λ q. rw (sg_p i q, cat_off l (subst (λ y. mem y l ≡ false) q nd.0)))
      (λ q. rw (sg_off i q) (ap suc (cat_length l nd.1 (mem-cases p i l h (λ r. clash (eq-eqb i p (sym r)) q)
      (λ k. k)))))

  pub after_length : length (order (merge_heap p d W)) + 1 ≡ length (order W)
  after_length =
      let r = cat_length (order (merge_heap p d W))
      (toured (merge_heap p d W) (heap_closed (merge_heap p d W) after_heap)).nodup
      (after_kept p (u.0, ap (λ f. f p) next_merge ∙ at_p p refl ∙ u.1)) in
      let q = ap length (order_cat (merge_heap p d W) (merge_segs p d) W merge_expansion) in
      omega arith

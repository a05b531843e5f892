-- Every heap of 01 expands its shape by its segments.
use Prim.Native.Nat.{◌<◌, ℕ}
use mathlib.Core.Path.{◌∙◌, ◌≡◌, ap, ap₂, refl, subst, sym}
use mathlib.Core.Bool.{true}
use mathlib.Core.List.{List, [], ◌∷◌, map}
use lib.Dec.{leb}
use lib.ListN.{length, length-map}
use Rattle.model.specs.Base.{mem}
use Rattle.model.specs.Heap.{Heap, Val, cell, holds, next, null, order, undef, unused}
use Rattle.model.specs.Shape.{Seg, cells, core, last, node, node_slot, node_val, segments, shape}
use Rattle.model.proofs.expansion.Cores.{mem_last, one_holder}
use Rattle.model.proofs.expansion.Cuts.{AllCore, Cuts, Head, alls_at, core_of_pointed, cuts_trail, flat_apart, flat_cut, flat_mem, flat_nodup, inner_has, linked_chain, mem_flat, node_head, tours_trail}
use Rattle.model.proofs.expansion.Folds.{Alls}
use Rattle.model.specs.Notions.{Kept, NoDup, Expansion, flat, img, seg_at, AllClosed, Closed, ClosedHeap, Used, seg}
use Rattle.model.proofs.lists.Lists.{get_or_map}
use Rattle.model.proofs.lists.Logic.{clash, mem-cases, or_l}
use Rattle.model.proofs.visits.Order.{toured, used_below}
use Rattle.model.proofs.visits.Walks.{holders, pointed}

module _ (h : Heap) (cl : ClosedHeap h) (kp : Kept h) where
  pub cuts_good : Alls (Cuts (next h) (core h)) (segments h)
  cuts_good = cuts_trail (next h) (core h) (order h)
      (tours_trail (next h) (core h) (toured h cl).tours tt
      (core_of_pointed h h.ptrs (λ c q. or_l (pointed c h.ptrs) (leb 2 (holders c h.slots)) q)))

  pub flat_is : flat (segments h) ≡ order h
  flat_is = flat_cut (core h) (order h)

  -- a cell in use stands in one segment
  pub where_is : (c : ℕ) → Used (next h) c → (n : ℕ) × (n < length (segments h))
      × (mem c (cells (seg_at (segments h) n)) ≡ true)
  where_is c u = flat_mem (segments h) c (rw flat_is (kp c u))

  cell_used : (n c : ℕ) → n < length (segments h) → mem c (cells (seg_at (segments h) n)) ≡ true → Used (next h) c
  cell_used n c k m = (toured h cl).used c (rw flat_is at (mem_flat (segments h) n c k m))

  seg_nodup : (n : ℕ) → n < length (segments h) → NoDup (cells (seg_at (segments h) n))
  seg_nodup n k = flat_nodup (segments h) n (rw flat_is (toured h cl).nodup) k

  pub seg_apart : (n m c : ℕ) → n < length (segments h) → m < length (segments h)
      → mem c (cells (seg_at (segments h) n)) ≡ true
      → mem c (cells (seg_at (segments h) m)) ≡ true → n ≡ m
  seg_apart n m c = flat_apart (segments h) n m c (rw flat_is (toured h cl).nodup)

  core_is_head : (c : ℕ) → Used (next h) c → core h c ≡ true → Head (segments h) c
  core_is_head c u k =
      let r = where_is c u in
      let s = seg_at (segments h) r.0 in
      mem-cases c s.first s.rest r.2 (λ e. (r.0, r.1, sym e))
      (λ q. clash k ((alls_at (Cuts (next h) (core h)) (segments h) cuts_good r.0 r.1).1 c q))

  -- what the last cell of a segment holds is the head of one
  pub last_head : (n c : ℕ) → n < length (segments h) → next h (last (seg_at (segments h) n)) ≡ holds (cell c)
      → Head (segments h) c
  last_head n c k e =
      let r = where_is c (cl.1 (last (seg_at (segments h) n)) (cell c) e) in
      let m = r.0 in
      let s = seg_at (segments h) m in
      let g = alls_at (Cuts (next h) (core h)) (segments h) cuts_good m r.1 in
      mem-cases c s.first s.rest r.2 (λ q. (m, r.1, sym q))
      (λ q. let b = inner_has (next h) (core h) s.first s.rest c g.0 (seg_nodup m r.1) q in
      let eq : b.0 ≡ last (seg_at (segments h) n) = one_holder h c b.0 (last (seg_at (segments h) n)) (g.1 c q)
      b.2 e in
      let nm : n ≡ m = seg_apart n m b.0 k r.1
      (subst (λ x. mem x (cells (seg_at (segments h) n)) ≡ true) (sym eq)
      (mem_last (seg_at (segments h) n).first (seg_at (segments h) n).rest)) b.1 in
      absurd (b.3 (eq ∙ ap (λ x. last (seg_at (segments h) x)) nm)))

  back : (v : Val) → ((c : ℕ) → v ≡ cell c → Head (segments h) c) → img (seg_at (segments h)) (node_val (segments h) v)
      ≡ v
  back null k = refl
  back undef k = refl
  back (cell c) k = ap cell (node_head (segments h) c (k c refl)).1

  pub end : (n : ℕ) → n < length (segments h) → Used (next h) (last (seg_at (segments h) n))
  end n k = cell_used n (last (seg_at (segments h) n)) k
      (mem_last (seg_at (segments h) n).first (seg_at (segments h) n).rest)

  pub slot_at_lem : (n : ℕ) (k : n < length (segments h)) → next (shape h) n ≡ holds (node_val (segments h) (end n k).0)
  slot_at_lem n k = get_or_map (λ (s : Seg). node_slot (segments h) (next h (last s))) (segments h) n (seg 0 [])
      unused k
      ∙ ap (node_slot (segments h)) (end n k).1

  below : (n : ℕ) → Used (next (shape h)) n → n < length (segments h)
  below n u = rw (length-map (segments h) (λ (s : Seg). node_slot (segments h) (next h (last s)))) at
      (used_below (shape h).slots n u)

  node_used : (c : ℕ) → Head (segments h) c → Used (next (shape h)) (node (segments h) c)
  node_used c k = let r = node_head (segments h) c k in
      (node_val (segments h) (end (node (segments h) c) r.0).0, slot_at_lem (node (segments h) c) r.0)

  val_closed : (v : Val) → ((c : ℕ) → v ≡ cell c → Head (segments h) c)
      → Closed (next (shape h)) (node_val (segments h) v)
  val_closed null k = tt
  val_closed undef k = tt
  val_closed (cell c) k = node_used c (k c refl)

  -- what a node's slot holds comes from the last cell
  from_end : (n : ℕ) (v : Val) → next (shape h) n ≡ holds v
      → (k : n < length (segments h)) × (v ≡ node_val (segments h) (end n k).0)
      × ((c : ℕ) → (end n k).0 ≡ cell c → Head (segments h) c)
  from_end n v e =
      let k = below n (v, e) in
      let z = slot_at_lem n k in
      (k, (cc), λ c q. last_head n c k ((end n k).1 ∙ ap holds q))

  ptr_heads : (vs : List Val) → AllClosed (next h) vs → AllCore (next h) (core h) vs
      → (map (img (seg_at (segments h))) (map (node_val (segments h)) vs) ≡ vs)
      × AllClosed (next (shape h)) (map (node_val (segments h)) vs)
  ptr_heads [] k q = (refl, tt)
  ptr_heads (v ∷ vs) k q =
      let hd : (c : ℕ) → v ≡ cell c → Head (segments h) c = λ c e. core_is_head c (subst (Closed (next h)) e k.0)
      (q.0 c e) in
      let r = ptr_heads vs k.1 q.1 in
      (ap₂ ◌∷◌ (back v hd) r.0, (val_closed v hd, r.1))

  pub start : Expansion (shape h) (seg_at (segments h)) h
  start =
      let pt = ptr_heads h.ptrs cl.0 (core_of_pointed h h.ptrs
      (λ c q. or_l (pointed c h.ptrs) (leb 2 (holders c h.slots)) q)) in
      record {
        body = record {
          closed = λ n v e. let r = from_end n v e in rw r.1 (val_closed (end n r.0).0 r.2);
          chain = λ n v e. let r = from_end n v e in
              linked_chain (next h) (core h) (seg_at (segments h) n).first (seg_at (segments h) n).rest
              (img (seg_at (segments h)) v)
              (alls_at (Cuts (next h) (core h)) (segments h) cuts_good n r.0).0
              ((end n r.0).1 ∙ ap holds (sym (ap (img (seg_at (segments h))) r.1 ∙ back (end n r.0).0 r.2)));
          cover = λ c v e. let r = where_is c (v, e) in
              (r.0, (node_val (segments h) (end r.0 r.1).0, slot_at_lem r.0 r.1), r.2);
          apart = λ n m c u w p q. seg_apart n m c (below n u) (below m w) p q;
          nodup = λ n u. seg_nodup n (below n u);
        };
        closed = pt.1;
        ptrs = sym pt.0;
      }

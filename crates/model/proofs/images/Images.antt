-- What folding and unfolding leave, for all inputs: which refusals they have, that a refusal leaves zeros or what
-- stood, that lengths are kept, and what an accepted fold gives.
use Prim.Native.Nat.{◌+◌, ◌-◌, ◌≤◌, suc, zero, ℕ}
use Rattle.model.proofs.records.Checks.{accepted_by, accepted_zero, checked_by, checked_nodeless, none_failed, not_both, pass_both, pass_none, pass_number, passing}
use Rattle.model.proofs.records.NodeChecks.{nodes_pass}
use Rattle.model.specs.Notions.{CheckedBy}
use mathlib.Core.Path.{◌∙◌, ◌≡◌, ap, refl, sym}
use mathlib.Core.Logic.{◌↔◌}
use mathlib.Core.Bool.{◌&&◌, true}
use mathlib.Core.List.{List, [], ◌∷◌, map}
use native.Mathlib.Omega.{arith}
use lib.Dec.{eqb, leb}
use lib.ListN.{drop, length, length-append, length-map, length-replicate, replicate, take}
use borrow.Author.Tests.{eq-eqb, eqb-true, le-leb, leb-true}
use Rattle.model.specs.Base.{all, sum}
use Rattle.model.specs.Heap.{Heap, IsHeap, Slot, closed}
use Rattle.model.specs.Image.{Folding, Unfolding, cell_bytes_of, check_counters, counters_fit, fold_image, heap_of, lengths, node_unfold, refusal_image, refusal_unfold, spread, spread_slot, strand, strands, unfold_heap, unfold_image, checks_image, checks_unfold, verdict_by}
use Rattle.model.specs.Records.{byte, checks_nodes, filled, is_zero, layout_h, shape_of, shape_record, slot_byte, val_byte, val_of, Refusal, is_accepted, is_refused}
use Rattle.model.specs.Shape.{canonical, counters, node_val, segments, shape}
use Rattle.model.proofs.records.Bytes.{filled_length}
use Rattle.model.proofs.shapes.Canon.{fold_canon}
use Rattle.model.proofs.expansion.Facts.{heap_closed, heap_kept}
use Rattle.model.specs.Listings.{Writable}
use Rattle.model.proofs.lists.Logic.{and_both, and_l, and_r}
use Rattle.model.proofs.records.ReadBack.{canon_writable, shape_length, shape_shape}
use Rattle.model.proofs.records.ShapeBack.{layout_pointers}
use Rattle.model.proofs.lists.Slices.{sum_take}
use Rattle.model.proofs.shapes.Unfold.{length_strand}
use Rattle.model.proofs.ways.Ways.{count_length}

-- ---- the heap image

-- an image is accepted exactly when it is six pointers and at most 240 cells, and a heap
pub image_accepted : (ps cs : List ℕ) → (refusal_image ps cs ≡ 0) ↔ ((length ps ≡ 6) × (length cs ≤ 240)
    × IsHeap (heap_of ps cs))
image_accepted ps cs = (
  (λ z. let p = none_failed (checks_image ps cs) refl z in
      let l = and_l (lengths ps cs) (closed (heap_of ps cs)) p.0 in (
        eqb-true (length ps) 6 (and_l (eqb (length ps) 6) (leb (length cs) 240) l),
        leb-true (length cs) 240 (and_r (eqb (length ps) 6) (leb (length cs) 240) l),
        record { is_closed = and_r (lengths ps cs) (closed (heap_of ps cs)) p.0; is_kept = p.1.0 },
      )),
  λ q. let e : (lengths ps cs && closed (heap_of ps cs)) ≡ true =
      and_both (lengths ps cs) (closed (heap_of ps cs))
      (and_both (eqb (length ps) 6) (leb (length cs) 240) (eq-eqb (length ps) 6 q.0)
      (le-leb (length cs) 240 q.1)) q.2.is_closed in
      pass_none (checks_image ps cs) (e, (q.2.is_kept, tt)),
)

-- ---- folding

pub fold_zero : (ps cs : List ℕ) → refusal_image ps cs ≡ 0
    → fold_image ps cs ≡ record {
      verdict = is_accepted;
      record_bytes = shape_record (shape (heap_of ps cs));
      counts = filled 12 (counters (heap_of ps cs));
    }
unfolding fold_image
fold_zero ps cs e = rw (e, fold_image)

pub fold_suc : (ps cs : List ℕ) (n : ℕ) → refusal_image ps cs ≡ suc n
    → fold_image ps cs ≡ record {
      verdict = verdict_by (suc n) 0;
      record_bytes = replicate 32 0;
      counts =
          replicate 12 0;
    }
unfolding fold_image
fold_suc ps cs n e = rw (e, fold_image)

pub number-case {ℓ} : {C : Type ℓ} (n : ℕ) → (n ≡ 0 → C) → ((m : ℕ) → n ≡ suc m → C) → C
number-case zero f g = f refl
number-case (suc m) f g = g m refl

pub fold_verdict : (ps cs : List ℕ) → (fold_image ps cs).verdict ≡ verdict_by (refusal_image ps cs) 0
fold_verdict ps cs = number-case (refusal_image ps cs)
    (λ e. ap (λ (f : Folding). f.verdict) (fold_zero ps cs e) ∙ sym (accepted_by 0 e))
    (λ n e. ap (λ (f : Folding). f.verdict) (fold_suc ps cs n e) ∙ ap (λ m. verdict_by m 0) (sym e))

-- it is refused by the checks of an image, in their order
pub fold_checked : (ps cs : List ℕ) → CheckedBy (checks_image ps cs) (fold_image ps cs).verdict
fold_checked ps cs = checked_nodeless (checks_image ps cs) (fold_image ps cs).verdict refl refl (fold_verdict ps cs)

-- an accepted fold is of a heap
pub fold_accepted : (ps cs : List ℕ) → (fold_image ps cs).verdict ≡ is_accepted → refusal_image ps cs ≡ 0
fold_accepted ps cs z = accepted_zero (refusal_image ps cs) 0 (sym (fold_verdict ps cs) ∙ z)

pub fold_refused : (ps cs : List ℕ) (x : Refusal) → (fold_image ps cs).verdict ≡ is_refused x
    → ((fold_image ps cs).record_bytes ≡ replicate 32 0) × ((fold_image ps cs).counts ≡ replicate 12 0)
fold_refused ps cs x z = number-case (refusal_image ps cs)
    (λ e. not_both (fold_image ps cs).verdict x (fold_verdict ps cs ∙ accepted_by 0 e) z)
    (λ n e. let q = fold_suc ps cs n e in (ap (λ (f : Folding). f.record_bytes) q, ap (λ (f : Folding). f.counts) q))

-- a shape can be written, and has at most twelve counters
module _ (h : Heap) (x : IsHeap h) (six : length h.ptrs ≡ 6) where
  pub fold_writable : Writable (shape h)
  fold_writable = canon_writable (shape h) (fold_canon h (heap_closed h x) (heap_kept h x))
      (length-map h.ptrs (node_val (segments h)) ∙ six)

  pub counters_few : length (counters h) ≤ 12
  counters_few = omega (arith, count_length h (heap_closed h x) (heap_kept h x), fold_writable.few)

-- what an accepted fold gives: the record is read back as the shape, and its counters stand first
pub fold_gives : (ps cs : List ℕ) → (fold_image ps cs).verdict ≡ is_accepted
    → ((fold_image ps cs).record_bytes ≡ shape_record (shape (heap_of ps cs)))
    × ((fold_image ps cs).counts ≡ filled 12 (counters (heap_of ps cs)))
    × (shape_of (fold_image ps cs).record_bytes ≡ shape (heap_of ps cs)) × (length (counters (heap_of ps cs)) ≤ 12)
fold_gives ps cs z =
    let e = fold_accepted ps cs z in
    let A = (image_accepted ps cs).0 e in
    let h = heap_of ps cs in
    let six : length h.ptrs ≡ 6 = length-map ps val_of ∙ A.0 in
    let q = ap (λ (f : Folding). f.record_bytes) (fold_zero ps cs e) in (
      q,
      ap (λ (f : Folding). f.counts) (fold_zero ps cs e),
      ap shape_of q ∙ shape_shape (shape h) (fold_writable h A.2 six),
      counters_few h A.2 six,
    )

pub fold_lengths : (ps cs : List ℕ) → (length (fold_image ps cs).record_bytes ≡ 32)
    × (length (fold_image ps cs).counts ≡ 12)
fold_lengths ps cs = number-case (refusal_image ps cs)
    (λ e. let A = (image_accepted ps cs).0 e in
    let h = heap_of ps cs in
    let six : length h.ptrs ≡ 6 = length-map ps val_of ∙ A.0 in (
      ap (λ (f : Folding). length f.record_bytes) (fold_zero ps cs e)
          ∙ shape_length (shape h) (fold_writable h A.2 six),
      ap (λ (f : Folding). length f.counts) (fold_zero ps cs e)
          ∙ filled_length 12 (counters h) (counters_few h A.2 six),
    ))
    (λ n e. (
      ap (λ (f : Folding). length f.record_bytes) (fold_suc ps cs n e),
      ap
          (λ (f : Folding). length f.counts) (fold_suc ps cs n e),
    ))

-- ---- unfolding

pub unfold_zero : (r vs ps cs : List ℕ) → refusal_unfold r vs (length ps) (length cs) ≡ 0 → unfold_image r vs ps cs
    ≡ record {
      verdict = is_accepted;
      ptr_bytes = map val_byte (unfold_heap (shape_of r) (take (byte r 3) vs)).ptrs;
      cell_bytes = cell_bytes_of (length cs) (unfold_heap (shape_of r) (take (byte r 3) vs));
    }
unfolding unfold_image
unfold_zero r vs ps cs e = rw (e, unfold_image)

pub unfold_suc : (r vs ps cs : List ℕ) (n : ℕ) → refusal_unfold r vs (length ps) (length cs) ≡ suc n
    → unfold_image r vs ps cs ≡ record {
      verdict = verdict_by (suc n) (node_unfold r vs (length ps) (length cs));
      ptr_bytes = ps;
      cell_bytes = cs;
    }
unfolding unfold_image
unfold_suc r vs ps cs n e = rw (e, unfold_image)

pub unfold_verdict : (r vs ps cs : List ℕ) → (unfold_image r vs ps cs).verdict
    ≡ verdict_by (refusal_unfold r vs (length ps) (length cs)) (node_unfold r vs (length ps) (length cs))
unfold_verdict r vs ps cs =
    let v = node_unfold r vs (length ps) (length cs) in
    number-case (refusal_unfold r vs (length ps) (length cs))
    (λ e. ap (λ (f : Unfolding). f.verdict) (unfold_zero r vs ps cs e) ∙ sym (accepted_by v e))
    (λ n e. ap (λ (f : Unfolding). f.verdict) (unfold_suc r vs ps cs n e) ∙ ap (λ m. verdict_by m v) (sym e))

-- it is refused by its checks, in their order
pub unfold_checked : (r vs ps cs : List ℕ) → CheckedBy (checks_unfold r vs (length ps) (length cs))
    (unfold_image r vs ps cs).verdict
unfold_checked r vs ps cs =
    checked_by (checks_unfold r vs (length ps) (length cs)) (unfold_image r vs ps cs).verdict refl
    (unfold_verdict r vs ps cs)

pub unfold_granted : (r vs ps cs : List ℕ) → (unfold_image r vs ps cs).verdict ≡ is_accepted
    → refusal_unfold r vs (length ps) (length cs) ≡ 0
unfold_granted r vs ps cs z = accepted_zero (refusal_unfold r vs (length ps) (length cs))
    (node_unfold r vs (length ps) (length cs)) (sym (unfold_verdict r vs ps cs) ∙ z)

pub unfold_refused : (r vs ps cs : List ℕ) (x : Refusal) → (unfold_image r vs ps cs).verdict ≡ is_refused x
    → ((unfold_image r vs ps cs).ptr_bytes ≡ ps) × ((unfold_image r vs ps cs).cell_bytes ≡ cs)
unfold_refused r vs ps cs x z = number-case (refusal_unfold r vs (length ps) (length cs))
    (λ e. not_both (unfold_image r vs ps cs).verdict x
    (unfold_verdict r vs ps cs ∙ accepted_by (node_unfold r vs (length ps) (length cs)) e) z)
    (λ n e. let q = unfold_suc r vs ps cs n e in
    (ap (λ (f : Unfolding). f.ptr_bytes) q, ap (λ (f : Unfolding). f.cell_bytes) q))

-- when an unfolding is accepted: 13 for the lengths, then 8, the nodes (9, 18, 19) and 15
pub unfold_accepted : (r vs : List ℕ) (np nc : ℕ) → (refusal_unfold r vs np nc ≡ 0)
    ↔ ((np ≡ 6) × (nc ≤ 240) × (length r ≡ 32) × (layout_h r ≡ true) × (canonical (shape_of r) ≡ true)
    × (counters_fit (byte r 3) vs nc ≡ true))
unfold_accepted r vs np nc = (
  (λ z. let by : (n : ℕ) → passing n (checks_unfold r vs np nc) ≡ true =
      λ n. pass_number n (checks_unfold r vs np nc) (none_failed (checks_unfold r vs np nc) refl z) in (
        eqb-true np 6 (and_l (eqb np 6) (leb nc 240) (by 13)),
        leb-true nc 240 (and_r (eqb np 6) (leb nc 240) (by 13)),
        eqb-true (length r) 32 (and_l (eqb (length r) 32) (layout_h r) (by 8)),
        and_r (eqb (length r) 32) (layout_h r) (by 8),
        (nodes_pass (shape_of r)).0 (by 9, (by 18, (by 19, tt))),
        by 15,
      )),
  λ q. pass_none (checks_unfold r vs np nc) (
    and_both (eqb np 6) (leb nc 240) (eq-eqb np 6 q.0) (le-leb nc 240 q.1),
    (
      and_both (eqb (length r) 32) (layout_h r) (eq-eqb (length r) 32 q.2) q.3,
      pass_both (checks_nodes (shape_of r)) (check_counters r vs nc ∷ []) ((nodes_pass (shape_of r)).1 q.4) (q.5, tt),
    ),
  ),
)

-- counters that fit are twelve, positive for the nodes and 0 past them, and there is room for what they count
pub counters_fit_lem : (k : ℕ) (vs : List ℕ) (n : ℕ) → counters_fit k vs n ≡ true
    → (length vs ≡ 12) × (all (leb 1) (take k vs) ≡ true) × (all is_zero (drop k vs) ≡ true) × (sum (λ v. v) vs ≤ n)
counters_fit_lem k vs n e =
    let p = all (leb 1) (take k vs) in
    let o = all is_zero (drop k vs) in
    let t = leb (sum (λ v. v) vs) n in
    let q = and_r (eqb (length vs) 12) (p && o && t) e in (
      eqb-true (length vs) 12 (and_l (eqb (length vs) 12) (p && o && t) e),
      and_l p o (and_l (p && o) t q),
      and_r p o (and_l (p && o) t q),
      leb-true (sum (λ v. v) vs) n (and_r (p && o) t q),
    )

strands_short : (vs : List ℕ) (b : ℕ) (ss : List Slot) (cs : List ℕ) → length (strands vs b ss cs) ≤ sum (λ c. c) cs
strands_short vs b [] cs = omega arith
strands_short vs b (s ∷ ss) [] = omega arith
strands_short vs b (s ∷ ss) (c ∷ cs) = omega (
  arith,
  length-append (strand b c (spread_slot vs s)) (strands vs (b + c) ss cs),
  length_strand b c (spread_slot vs s),
  strands_short vs (b + c) ss cs,
)

-- the pointers and the cells keep their lengths
pub unfold_lengths : (r vs ps cs : List ℕ) → (length (unfold_image r vs ps cs).ptr_bytes ≡ length ps)
    × (length (unfold_image r vs ps cs).cell_bytes ≡ length cs)
unfold_lengths r vs ps cs = number-case (refusal_unfold r vs (length ps) (length cs))
    (λ e.
    let A = (unfold_accepted r vs (length ps) (length cs)).0 e in
    let k = byte r 3 in
    let g = unfold_heap (shape_of r) (take k vs) in
    let q = unfold_zero r vs ps cs e in
    let room : sum (λ v. v) vs ≤ length cs = (counters_fit_lem k vs (length cs) A.5).3 in
    let few : length (map slot_byte g.slots) ≤ length cs =
    omega (
      arith,
      length-map g.slots slot_byte,
      strands_short (take k vs) 0 (shape_of r).slots (take k vs),
      sum_take
          k vs,
    ) in
    let ptrs6 : length (map val_byte g.ptrs) ≡ 6 =
    length-map g.ptrs val_byte ∙ length-map (shape_of r).ptrs (spread (take k vs))
    ∙ layout_pointers r A.2 A.3 in (
      ap (λ (f : Unfolding). length f.ptr_bytes) q ∙ ptrs6 ∙ sym A.0,
      ap (λ (f : Unfolding). length f.cell_bytes) q ∙ omega (
        arith,
        length-append (map slot_byte g.slots) (replicate (length cs - length (map slot_byte g.slots)) 0xfd),
        length-replicate {A = ℕ} (length cs - length (map slot_byte g.slots)) 0xfd,
      ),
    ))
    (λ n e. let q = unfold_suc r vs ps cs n e in
    (ap (λ (f : Unfolding). length f.ptr_bytes) q, ap (λ (f : Unfolding). length f.cell_bytes) q))

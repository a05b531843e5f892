-- Folding and unfolding on bytes undo each other: a record and its counters come back as they stood, a heap with its
-- cells renamed.
use Prim.Native.Nat.{◌+◌, ◌-◌, ◌<◌, ◌≤◌, suc, zero, ℕ}
use mathlib.Core.Path.{◌∙◌, ◌≡◌, ap, refl, subst, sym}
use mathlib.Core.Logic.{inl, inr}
use mathlib.Core.Bool.{true}
use mathlib.Core.List.{List, [], ◌++◌, ◌∷◌, map}
use native.Mathlib.Omega.{arith}
use lib.Dec.{leb}
use lib.ListN.{drop, get_or, length, length-append, length-drop, length-map, replicate, take, take-append-drop}
use lib.Seq.{drop_at, length-take-le, take_at}
use borrow.Author.Tests.{le-leb, ne_eqb, eq-eqb}
use Rattle.model.specs.Base.{all, sum}
use Rattle.model.specs.Heap.{Heap, IsHeap, Slot, Val, cell, holds, next, null, order, undef, unused}
use Rattle.model.specs.Image.{Unfolding, cell_bytes_of, cell_slot, counters_fit, fold_image, heap_of, unfold_heap, unfold_image}
use Rattle.model.proofs.records.Checks.{accepted_by}
use Rattle.model.specs.Records.{byte, filled, is_accepted, is_zero, layout_h, shape_of, shape_record, slot_byte, val_byte, val_of}
use Rattle.model.specs.Shape.{Seg, canonical, counters, segments, shape, size}
use Rattle.model.proofs.records.Bytes.{all_zero_lem, filled_length, small_up, val_back, zeros_pass}
use Rattle.model.proofs.shapes.Canon.{fold_canon}
use Rattle.model.proofs.shapes.Canonical.{canon_canonical, canonical_canon}
use Rattle.model.proofs.expansion.Facts.{heap_closed, heap_kept, test_closed}
use Rattle.model.proofs.images.Images.{counters_fit_lem, fold_gives, fold_accepted, fold_verdict, fold_writable, image_accepted, unfold_accepted, unfold_granted, unfold_lengths, unfold_verdict, unfold_zero}
use Rattle.model.proofs.shapes.Iso.{renamed_same}
use Rattle.model.specs.Listings.{SmallVal, Writable}
use Rattle.model.specs.Notions.{In, Renames, flat, rename_val, Closed, ClosedHeap}
use Rattle.model.proofs.lists.Lists.{all_of, in_get_or_lem, in_map, map_back, map_id}
use Rattle.model.proofs.visits.Order.{order_once, pigeon, toured, used_below}
use Rattle.model.proofs.records.Falls.{ones_positive}
use Rattle.model.proofs.records.ReadBack.{shape_length, shape_shape}
use Rattle.model.proofs.shapes.SameShape.{same_renamed}
use Rattle.model.proofs.records.ShapeBack.{layout_closed, layout_few, layout_slots, shape_fields_written, shape_record_back}
use Rattle.model.proofs.expansion.Start.{flat_is}
use Rattle.model.proofs.shapes.Unfold.{counters_unfold, shape_unfold, unfold_is_heap, unfold_length}
use Rattle.model.proofs.visits.Walks.{closed_in}
use Rattle.model.proofs.ways.Ways.{count_length}

-- ---- a heap's bytes are read back as the heap, but for slots not in use after its own: its cells keep their names

slot_read : (s : Slot) → ((v : Val) → s ≡ holds v → SmallVal 0xfd v) → cell_slot (slot_byte s) ≡ s
slot_read unused k = refl
slot_read (holds (cell n)) k = let h : n < 0xfd = k (cell n) refl in
    rw (ne_eqb n 0xfd (λ e. omega arith), ne_eqb n 0xfe (λ e. omega arith), ne_eqb n 0xff (λ e. omega arith))
slot_read (holds null) k = refl
slot_read (holds undef) k = refl

next_read : (ss : List Slot) (m n : ℕ) → ((s : Slot) → In s ss → cell_slot (slot_byte s) ≡ s)
    → get_or (map cell_slot (map slot_byte ss ++ replicate m 0xfd)) n unused ≡ get_or ss n unused
next_read [] zero n h = refl
next_read [] (suc m) zero h = refl
next_read [] (suc m) (suc n) h = next_read [] m n h
next_read (s ∷ ss) m zero h = h s (inl refl)
next_read (s ∷ ss) m (suc n) h = next_read ss m n (λ t q. h t (inr q))

rename_none : (v : Val) → rename_val (λ c. c) v ≡ v
rename_none (cell n) = refl
rename_none null = refl
rename_none undef = refl

module _ (g : Heap) (cl : ClosedHeap g) (few : length g.slots ≤ 240) where
  few_small : (v : Val) → Closed (next g) v → SmallVal 0xfd v
  few_small (cell c) k = omega (arith, used_below g.slots c k)
  few_small null k = tt
  few_small undef k = tt

  heap_read : (n : ℕ) → Renames (λ c. c) g (heap_of (map val_byte g.ptrs) (cell_bytes_of n g))
  heap_read n =
      let stand : (c : ℕ) → next (heap_of (map val_byte g.ptrs) (cell_bytes_of n g)) c ≡ next g c =
      λ c. next_read g.slots (n - length (map slot_byte g.slots)) c
      (λ s q. slot_read s (λ v e. let r = in_get_or_lem g.slots unused s q in few_small v (cl.1 r.0 v (r.2 ∙ e)))) in
      record {
        ptrs_are = map_back val_byte val_of g.ptrs
            (λ v q. val_back v (small_up 0xfd 0xfe v (omega arith)
            (few_small v (closed_in (next g) g.ptrs v cl.0 q))))
            ∙ sym (map_id (rename_val (λ c. c)) g.ptrs (λ v q. rename_none v));
        nexts_are = λ c v e. stand c ∙ e ∙ ap holds (sym (rename_none v));
        onto = λ c u. (c, (u.0, sym (stand c) ∙ u.1), refl);
        one_to_one = λ c d u w e. e;
      }

sum_filled : (cs : List ℕ) (m : ℕ) → sum (λ v. v) (cs ++ replicate m 0) ≡ sum (λ v. v) cs
sum_filled [] zero = refl
sum_filled [] (suc m) = omega (arith, sum_filled [] m)
sum_filled (c ∷ cs) m = ap (λ x. c + x) (sum_filled cs m)

-- counters with zeros after the first k are the first k, filled up
pub filled_back : (k : ℕ) (vs : List ℕ) → length vs ≡ 12 → k ≤ 12 → all is_zero (drop k vs) ≡ true
    → filled 12 (take k vs) ≡ vs
filled_back k vs l h z =
    let e : 12 - length (take k vs) ≡ length (drop k vs) =
    omega (arith, length-take-le k vs (omega arith), length-drop k vs) in
    ap (λ m. take k vs ++ replicate m 0) e ∙ ap (λ x. take k vs ++ x) (sym (all_zero_lem (drop k vs) z))
    ∙ take-append-drop k vs

sizes_sum : (ss : List Seg) → sum (λ v. v) (map size ss) ≡ length (flat ss)
sizes_sum [] = refl
sizes_sum (s ∷ ss) = omega (arith, sizes_sum ss, length-append s.rest (flat ss))

-- the counters of a heap add up to no more than its slots
counters_room : (h : Heap) → IsHeap h → sum (λ v. v) (counters h) ≤ length h.slots
counters_room h x =
    let cl = heap_closed h x in
    let few = pigeon (length h.slots) (order h) (order_once h)
    (λ n q. used_below h.slots n ((toured h cl).used n q)) in
    omega (arith, sizes_sum (segments h), ap length (flat_is h cl (heap_kept h x)))

-- ---- unfolding, then folding

-- what an accepted unfolding leaves is a heap of the shape read, with the counters given
unfolded_heap : (r vs ps cs : List ℕ) → (unfold_image r vs ps cs).verdict ≡ is_accepted
    → let h = heap_of (unfold_image r vs ps cs).ptr_bytes (unfold_image r vs ps cs).cell_bytes in
    IsHeap h × (shape h ≡ shape_of r) × (counters h ≡ take (byte r 3) vs) × (filled 12 (take (byte r 3) vs) ≡ vs)
unfolded_heap r vs ps cs z =
    let e = unfold_granted r vs ps cs z in
    let A = (unfold_accepted r vs (length ps) (length cs)).0 e in
    let S = shape_of r in
    let ws = take (byte r 3) vs in
    let g = unfold_heap S ws in
    let few = layout_few r A.2 A.3 in
    let K = counters_fit_lem (byte r 3) vs (length cs) A.5 in
    let l = K.0 in
    let len : length ws ≡ length S.slots = length-take-le (byte r 3) vs (omega arith)
    ∙ sym (layout_slots r A.2 A.3) in
    let C = canonical_canon S (test_closed S (layout_closed r A.2 A.3)) A.4 in
    let pos = ones_positive ws K.1 in
    let F : filled 12 ws ≡ vs = filled_back (byte r 3) vs l few K.2 in
    let room = K.3 in
    let short : length g.slots ≤ 240 = omega (
      arith,
      unfold_length S ws len,
      sum_filled ws (12 - length ws),
      ap
          (sum (λ v. v)) F,
      A.1,
    ) in
    let I = unfold_is_heap S C ws len pos in
    let R = renamed_same (λ c. c) g (heap_of (map val_byte g.ptrs) (cell_bytes_of (length cs) g)) I
    (heap_read g (heap_closed g I) short (length cs)) in
    let q = ap (λ (u : Unfolding). heap_of u.ptr_bytes u.cell_bytes) (unfold_zero r vs ps cs e) in (
      subst IsHeap (sym q) R.0,
      ap shape q ∙ R.1 ∙ shape_unfold S C ws len pos,
      ap counters q ∙ R.2
          ∙ counters_unfold S C ws len pos,
      F,
    )

-- folding what an accepted unfolding leaves is accepted, and gives back the record and the counters that were unfolded
pub unfold_fold_bytes : (r vs ps cs : List ℕ) → (unfold_image r vs ps cs).verdict ≡ is_accepted
    → fold_image (unfold_image r vs ps cs).ptr_bytes (unfold_image r vs ps cs).cell_bytes
    ≡ record { verdict = is_accepted; record_bytes = r; counts = vs }
unfold_fold_bytes r vs ps cs z =
    let P = (unfold_image r vs ps cs).ptr_bytes in
    let D = (unfold_image r vs ps cs).cell_bytes in
    let A = (unfold_accepted r vs (length ps) (length cs)).0 (unfold_granted r vs ps cs z) in
    let L = unfold_lengths r vs ps cs in
    let X = unfolded_heap r vs ps cs z in
    let n : (fold_image P D).verdict ≡ is_accepted = fold_verdict P D
    ∙ accepted_by 0 ((image_accepted P D).1 (L.0 ∙ A.0, omega (arith, L.1, A.1), X.0)) in
    let G = fold_gives P D n in
    let s = G.0 ∙ ap shape_record X.1 ∙ shape_record_back r A.2 A.3 in
    λ i. record { verdict = n i; record_bytes = s i; counts = (G.1 ∙ ap (filled 12) X.2 ∙ X.3) i }

-- ---- folding, then unfolding

-- the record of a shape keeps the layout
layout_written : (h : Heap) → Writable h → layout_h (shape_record h) ≡ true
layout_written h W = shape_fields_written h W 0x48 0 0

-- the counters that an accepted fold gives add up to no more than the cells of the image
pub fold_room : (ps cs : List ℕ) → (fold_image ps cs).verdict ≡ is_accepted
    → sum (λ v. v) (fold_image ps cs).counts ≤ length cs
fold_room ps cs e =
    let A = (image_accepted ps cs).0 (fold_accepted ps cs e) in
    let h = heap_of ps cs in
    let ws = counters h in
    rw (fold_gives ps cs e).1 (omega (
      arith,
      sum_filled ws (12 - length ws),
      counters_room h A.2,
      length-map cs
          cell_slot,
    ))

-- unfolding what an accepted fold gives is accepted where there is room for as many cells as its counters add up to,
-- and leaves the heap with its cells renamed
pub fold_unfold_bytes : (ps cs qs ds : List ℕ) → (fold_image ps cs).verdict ≡ is_accepted → length qs ≡ 6
    → sum (λ v. v) (fold_image ps cs).counts ≤ length ds
    → length ds ≤ 240
    → let F = fold_image ps cs in let U = unfold_image F.record_bytes F.counts qs ds in
    (U.verdict ≡ is_accepted) × ((f : ℕ → ℕ) × Renames f (heap_of ps cs) (heap_of U.ptr_bytes U.cell_bytes))
fold_unfold_bytes ps cs qs ds e q6 room most =
    let A = (image_accepted ps cs).0 (fold_accepted ps cs e) in
    let G = fold_gives ps cs e in
    let h = heap_of ps cs in let r = shape_record (shape h) in let k = length (shape h).slots in
    let ws = counters h in
    let z : List ℕ = replicate (12 - length ws) 0 in
    let W = fold_writable h A.2 (length-map ps val_of ∙ A.0) in
    let S : shape_of r ≡ shape h = shape_shape (shape h) W in
    let c = ap canonical S ∙ canon_canonical (shape h) (fold_canon h (heap_closed h A.2) (heap_kept h A.2)) in
    let l = count_length h (heap_closed h A.2) (heap_kept h A.2) in
    let t : take k (ws ++ z) ≡ ws = take_at ws z k l in
    let p : all (leb 1) (take k (ws ++ z)) ≡ true =
    ap (all (leb 1)) t ∙ all_of (leb 1) ws (λ n q. le-leb 1 n (omega (arith, (in_map size n (segments h) q).2))) in
    let o : all is_zero (drop k (ws ++ z)) ≡ true = ap (all is_zero) (drop_at ws z k l) ∙ zeros_pass (12 - length ws) in
    let s : sum (λ v. v) (ws ++ z) ≤ length ds = rw G.1 at room in
    let f : counters_fit k (ws ++ z) (length ds) ≡ true =
    rw (
      eq-eqb (length (ws ++ z)) 12 (filled_length 12 ws G.3),
      p,
      o,
      le-leb (sum (λ v. v) (ws ++ z)) (length ds)
          s,
    ) in
    let n : (unfold_image r (ws ++ z) qs ds).verdict ≡ is_accepted = unfold_verdict r (ws ++ z) qs ds
    ∙ accepted_by _ ((unfold_accepted r (ws ++ z) (length qs) (length ds)).1
    (q6, most, shape_length (shape h) W, layout_written (shape h) W, c, f)) in
    let X = unfolded_heap r (ws ++ z) qs ds n in
    rw (G.0, G.1) (n, same_renamed h _ A.2 X.0 (sym (X.1 ∙ S)) (sym (X.2 ∙ t)))

-- Folding an image by its checks and its parts.
use Prim.Native.Nat.{ℕ, ◌-◌, ◌≤◌}
use mathlib.Core.Path.{◌≡◌, refl, sym, ap, ap₂, ◌∙◌}
use mathlib.Core.List.{List, ◌∷◌, ◌++◌, [], append-nil}
use native.Mathlib.Omega.{arith}
use lib.ListN.{length, drop, replicate, length-map, length-take, take, take-append-drop}
use borrow.Rule.Slice.PartMut.{put_mid}
use Rattle.model.specs.Heap.{IsHeap}
use Rattle.std.specs.Prelude.{Err, Ok}
use Rattle.model.specs.Answers.{folding_of}
use Rattle.model.specs.Codes.{reason_number, refusal_for}
use Rattle.model.specs.Image.{fold_image, heap_of, refusal_image}
use Rattle.model.specs.Records.{filled, shape_record, val_of, is_accepted, is_refused, refusal_at}
use Rattle.model.specs.Structs.{Failed}
use Rattle.model.specs.declared.codes.Reason.{Reason}
use Rattle.layout.proofs.Reasons.{no_zero}
use Rattle.model.specs.Shape.{counters, segments, shape, size}
use Rattle.model.proofs.images.Images.{fold_suc, fold_zero, image_accepted, number-case}
use Rattle.record.proofs.Bytes.{headed_is}
use Rattle.record.proofs.ListLaws.{drop_zeros}
use Rattle.folding.specs.Shape.{IsShape, ShapeReady}
use Rattle.image_checks.specs.Checked.{ImageChecked}
use Rattle.heap_operations.specs.Fold.{folded_heap}

-- the answer to an image that is refused
pub fold_refused : {ps cs o m : List ℕ} (r : Reason) → ImageChecked ps cs o m (Err r)
    → folding_of (Err (refusal_for r 0)) ≡ fold_image ps cs
fold_refused {ps} {cs} r d =
    let n = ap (λ (f : Failed). f.number) d.refusal in
    let node = ap (λ (f : Failed). f.node) d.refusal in
    number-case (reason_number r) (λ q. absurd (no_zero r q))
    (λ k q. (λ i. record {
      verdict = is_refused (refusal_at (q i) 0 (node i));
      record_bytes = replicate 32 0;
      counts = replicate 12 0;
    }) ∙ sym (fold_suc ps cs k (sym n ∙ q)))

-- what the fold asks of a checked image, of which n cells are visited
module _ {ps cs o m : List ℕ} {n : ℕ} (d : ImageChecked ps cs o m (Ok n)) where
  passed : refusal_image ps cs ≡ 0
  passed = sym (ap (λ (f : Failed). f.number) d.refusal)

  -- it is folded as its heap is
  pub fold_passed : folded_heap (heap_of ps cs) ≡ fold_image ps cs
  unfolding folded_heap
  fold_passed = sym (fold_zero ps cs passed)

  accepted : (length ps ≡ 6) × (length cs ≤ 240) × IsHeap (heap_of ps cs)
  accepted = (image_accepted ps cs).0 passed

  pub few_visited : n ≤ 240
  few_visited = omega (arith, d.few, accepted.1)

  pub count_visited : length o ≡ 240 → n ≡ length (take n o)
  count_visited e = let f = few_visited in simp length-take (omega arith)

  pub fold_ready : length m ≡ 240 → ShapeReady ps cs (take n o) m
  fold_ready w =
      let A = accepted in
      let f = A.1 in
      record { is_heap = A.2; six = A.0; few = f; visited = d.visited; holders = omega arith; counts = d.held }

zeros_left : (k : ℕ) → k ≤ 12 → drop {A = ℕ} k (replicate 12 0) ≡ replicate (12 - k) 0
zeros_left k h = drop_zeros k 12 [] h ∙ append-nil {A = ℕ} (replicate (12 - k) 0)

-- the record of k nodes in t, and the counters z, which stay zero past them
pub fold_is : {ps cs m z q : List ℕ} {k : ℕ} → length ps ≡ 6 → IsShape ps cs m z (replicate 28 0) q k → (t : List ℕ)
    → t ≡ 0x48 ∷ 0 ∷ 0 ∷ k ∷ drop 4 (put_mid 4 28 (replicate 32 0) q) → drop k z ≡ drop k (replicate 12 0)
    → record { verdict = is_accepted; record_bytes = t; counts = z } ≡ folded_heap (heap_of ps cs)
unfolding folded_heap
fold_is {ps} {cs} {m} {z} {q} {k} six d t a b =
    let h = heap_of ps cs in
    let p : length h.ptrs ≡ 6 = length-map ps val_of ∙ six in
    let s : t ≡ shape_record (shape h) =
    a ∙ headed_is 0x48 0 k h (replicate 32 0) q refl p d.number d.twelve d.bytes in
    let n : 12 - k ≡ 12 - length (counters h) = ap (λ i. 12 - i) (d.number ∙ sym (length-map (segments h) size)) in
    let c : z ≡ filled 12 (counters h) =
    sym (take-append-drop k z) ∙ ap₂ ◌++◌ d.sizes (b ∙ zeros_left k d.twelve ∙ ap (λ i. replicate i 0) n) in
    λ i. record { verdict = is_accepted; record_bytes = s i; counts = c i }

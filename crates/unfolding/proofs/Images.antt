-- The bytes that the code writes are those of the unfolded heap: values, strands and the whole image.
use Prim.Native.Nat.{ℕ, zero, suc, ◌+◌, ◌-◌, ◌≤◌, ◌<◌}
use Rattle.model.proofs.images.Images.{counters_fit_lem}
use mathlib.Core.Path.{◌≡◌, refl, sym, ap, ap₂, subst, ◌∙◌}
use mathlib.Core.Bool.{true, false}
use mathlib.Core.Logic.{inl, inr}
use mathlib.Core.List.{List, [], ◌∷◌, ◌++◌, map, map-append}
use native.Mathlib.Numerals.{add-one}
use native.Mathlib.Omega.{arith}
use lib.Dec.{ltb}
use lib.ListN.{drop, length, take}
use borrow.Author.Tests.{le-ltb, lt-ltb}
use Rattle.model.specs.Base.{sum}
use Rattle.model.specs.Heap.{Slot, Val, cell, holds, null, undef}
use Rattle.model.specs.Image.{cell_bytes_of, first_cell, spread, strand, strands, unfold_heap}
use Rattle.model.specs.Records.{byte, shape_of, slot_byte, val_byte, val_of}
use Rattle.model.proofs.records.Bytes.{byte_back}
use Rattle.model.specs.Listings.{SmallSlot, SmallVal}
use Rattle.model.specs.Notions.{In}
use Rattle.model.proofs.records.ShapeBack.{layout_few, layout_slots, layout_writable}
use Rattle.model.proofs.lists.Slices.{sum_take}
use Rattle.unfolding.specs.Bytes.{FirstCells, image_bytes, placed_byte, strand_bytes, strands_bytes}
use Rattle.unfolding.specs.Ready.{UnfoldReady}

-- the nodes below k have the same first cells without the counters from k on
first_take : (vs : List ℕ) (k n : ℕ) → n < k → first_cell (take k vs) n ≡ first_cell vs n
first_take vs k zero h = refl
first_take vs zero (suc n) h = absurd (omega arith)
first_take [] (suc k) (suc n) h = refl
first_take (v ∷ vs) (suc k) (suc n) h = ap (λ m. v + m) (first_take vs k n (omega arith))

strand_image : (b c : ℕ) (s : Slot) → map slot_byte (strand b c s) ≡ strand_bytes b c (slot_byte s)
unfolding strand_bytes
strand_image b zero s = refl
strand_image b (suc zero) s = refl
strand_image b (suc (suc c)) s =
    ap (λ l. suc b ∷ l) (strand_image (suc b) (suc c) s) ∙ ap (λ n. n ∷ strand_bytes n (suc c) (slot_byte s))
    (sym (add-one b))

-- counters vs of at most twelve nodes, of which those below k are a shape's, and the table fs of their first cells
module _ (vs fs : List ℕ) (k : ℕ) (first : FirstCells vs fs) (same : length fs ≡ length vs) (few : length vs ≤ 12)
    (below : k ≤ length vs) where
  past : (b : ℕ) → 12 ≤ b → placed_byte fs b ≡ b
  past b h = let e : ltb b (length fs) ≡ false = le-ltb b (length fs) (omega arith) in rw e

  value_image : (v : Val) → SmallVal k v → placed_byte fs (val_byte v) ≡ val_byte (spread (take k vs) v)
  value_image (cell n) h =
      let e : ltb n (length fs) ≡ true = lt-ltb n (length fs) (omega arith) in
      rw e (first n (omega arith) ∙ sym (first_take vs k n h))
  value_image null h = past 0xfe (omega arith)
  value_image undef h = past 0xff (omega arith)

  byte_image : (b : ℕ) → SmallVal k (val_of b) → placed_byte fs b ≡ val_byte (spread (take k vs) (val_of b))
  byte_image b h = ap (placed_byte fs) (sym (byte_back b)) ∙ value_image (val_of b) h

  pub pointers_image : (ps : List ℕ) → ((v : Val) → In v (map val_of ps) → SmallVal k v)
      → map (placed_byte fs) ps ≡ map val_byte (map (spread (take k vs)) (map val_of ps))
  pointers_image [] h = refl
  pointers_image (b ∷ ps) h = ap₂ ◌∷◌ (byte_image b (h (val_of b) (inl refl))) (pointers_image ps (λ v q. h v (inr q)))

  pub strands_image : (b : ℕ) (ss cs : List ℕ) → ((s : Slot) → In s (map (λ x. holds (val_of x)) ss) → SmallSlot k s)
      → strands_bytes fs b ss cs ≡ map slot_byte (strands (take k vs) b (map (λ x. holds (val_of x)) ss) cs)
  unfolding strands_bytes
  strands_image b [] cs h = refl
  strands_image b (s ∷ ss) [] h = refl
  strands_image b (s ∷ ss) (c ∷ cs) h =
      let last = holds (spread (take k vs) (val_of s)) in
      let rest = strands (take k vs) (b + c) (map (λ x. holds (val_of x)) ss) cs in
      ap₂ ◌++◌ (ap (strand_bytes b c) (byte_image s (h (holds (val_of s)) (inl refl))) ∙ sym (strand_image b c last))
      (strands_image (b + c) ss cs (λ x q. h x (inr q)))
      ∙ sym (map-append slot_byte (strand b c last) rest)

-- a ready shape: its counters fit the cells
module _ (r vs ps cs : List ℕ) (ready : UnfoldReady r vs ps cs) where
  pub ready_few : byte r 3 ≤ 12
  ready_few = layout_few r ready.wide ready.is_layout

  pub ready_twelve : length vs ≡ 12
  ready_twelve = (counters_fit_lem (byte r 3) vs (length cs) ready.fit).0

  pub ready_total : sum (λ v. v) vs ≤ length cs
  ready_total = (counters_fit_lem (byte r 3) vs (length cs) ready.fit).3

  pub ready_nodes : sum (λ v. v) (take (byte r 3) vs) ≤ length cs
  ready_nodes = omega (arith, ready_total, sum_take (byte r 3) vs)

  -- the successors, as the part of the record that ends with the last one
  successors_end : 10 + byte r 3 - 10 ≡ byte r 3
  successors_end = omega arith

  -- and with the table of first cells its image is the unfolded heap's
  module _ (fs : List ℕ) (first : FirstCells vs fs) (same : length fs ≡ length vs) where
    pub ready_pointers : map (placed_byte fs) (take 6 (drop 4 r))
        ≡ map val_byte (unfold_heap (shape_of r) (take (byte r 3) vs)).ptrs
    ready_pointers =
        let W = layout_writable r ready.wide ready.is_layout in
        let e = layout_slots r ready.wide ready.is_layout in
        pointers_image vs fs (byte r 3) first same (omega (arith, ready_twelve))
        (omega (arith, ready_twelve, ready_few)) (take 6 (drop 4 r))
        (λ v q. subst (λ n. SmallVal n v) e (W.pointers v q))

    pub ready_cells : (n : ℕ) → image_bytes n (strands_bytes fs 0 (take (10 + byte r 3 - 10) (drop 10 r))
        (take (byte r 3) vs))
        ≡ cell_bytes_of n (unfold_heap (shape_of r) (take (byte r 3) vs))
    ready_cells n =
        let W = layout_writable r ready.wide ready.is_layout in
        let e = layout_slots r ready.wide ready.is_layout in
        ap (λ m. image_bytes n (strands_bytes fs 0 (take m (drop 10 r)) (take (byte r 3) vs))) successors_end
        ∙ ap (image_bytes n) (strands_image vs fs (byte r 3) first same (omega (arith, ready_twelve))
        (omega (arith, ready_twelve, ready_few)) 0
        (take (byte r 3) (drop 10 r)) (take (byte r 3) vs) (λ s q. subst (λ m. SmallSlot m s) e (W.nexts s q)))

-- A shape record that keeps the layout is written again as it stood, and its shape can be written and is closed.
use Prim.Native.Nat.{◌+◌, ◌-◌, ◌<◌, ◌≤◌, suc, ℕ}
use mathlib.Core.Path.{◌∙◌, ◌≡◌, ap, ap₂, refl, subst, sym}
use mathlib.Core.Bool.{◌&&◌, ◌||◌, false, true}
use mathlib.Core.List.{List, [], ◌++◌, ◌∷◌, map}
use native.Mathlib.Omega.{arith}
use lib.Dec.{eqb, leb, ltb}
use lib.ListN.{drop, length, length-append, length-drop, length-map, replicate, take, take-append-drop}
use lib.Seq.{drop_at, length-take-le, take-add, take_at}
use borrow.Author.Tests.{eqb-true, le-leb, leb-true, lt-ltb, ltb-true, ne_eqb}
use Rattle.model.specs.Base.{all}
use Rattle.model.specs.Heap.{Heap, Slot, Val, cell, closed, holds, null, undef, unused}
use Rattle.model.specs.Image.{cell_slot, heap_of}
use Rattle.model.specs.Records.{byte, filled, is_zero, layout_h, shape_bytes, shape_fields, shape_of, shape_record, slot_byte, val_byte, val_of, value_byte}
use Rattle.model.proofs.records.Bytes.{all_zero_lem, byte_back, zeros_pass}
use Rattle.model.specs.Listings.{SmallSlot, SmallVal, Writable}
use Rattle.model.specs.Notions.{In}
use Rattle.model.proofs.lists.Lists.{all_in, all_of, in-append-cases, in_append_l, in_append_r, in_map, map_back, map_in, map_same}
use Rattle.model.proofs.lists.Logic.{and_l, and_r, bool_case, clash, or_cases, or_l, or_r}
use Rattle.model.proofs.records.ReadBack.{writable_closed}

-- the bytes of a record that keeps the layout, from byte 4 on, for k nodes
record Laid (k : ℕ) (w : List ℕ) : Type 0 where
  long : length w ≡ 28
  few : k ≤ 12
  values : all (value_byte k) (take (6 + k) w) ≡ true
  zeros : drop (6 + k) w ≡ replicate (22 - k) 0

laid_of : (a b c k : ℕ) (w : List ℕ) → length w ≡ 28 → layout_h (a ∷ b ∷ c ∷ k ∷ w) ≡ true
    → (a ∷ b ∷ c ∷ k ∷ w ≡ 0x48 ∷ 0 ∷ 0 ∷ k ∷ w) × Laid k w
laid_of a b c k w l h =
    let r : List ℕ = a ∷ b ∷ c ∷ k ∷ w in
    let t1 = eqb a 0x48 in
    let t2 = t1 && is_zero b in
    let t3 = t2 && is_zero c in
    let t4 = leb k 12 && all (value_byte k) (take (6 + k) w) in
    let zs = all is_zero (drop (10 + k) r) in
    let h3 = and_l t3 (t4 && zs) h in
    let h4 = and_l t4 zs (and_r t3 (t4 && zs) h) in
    let z = and_r t4 zs (and_r t3 (t4 && zs) h) in
    let h2 = and_l t2 (is_zero c) h3 in
    let few = leb-true k 12 (and_l (leb k 12) (all (value_byte k) (take (6 + k) w)) h4) in
    let e : 10 + k ≡ suc (suc (suc (suc (6 + k)))) = omega arith in
    let n : length (drop (6 + k) w) ≡ 22 - k = omega (arith, length-drop (6 + k) w) in (
      (λ i. eqb-true a 0x48 (and_l t1 (is_zero b) h2) i ∷ eqb-true b 0 (and_r t1 (is_zero b) h2) i
          ∷ eqb-true c 0 (and_r t2 (is_zero c) h3) i ∷ k ∷ w),
      record {
        long = l;
        few = few;
        values = and_r (leb k 12) (all (value_byte k) (take (6 + k) w)) h4;
        zeros = all_zero_lem (drop (6 + k) w) (subst (λ m. all is_zero (drop m r) ≡ true) e z)
            ∙ ap (λ m. replicate m 0) n;
      },
    )

laid_out : (r : List ℕ) → length r ≡ 32 → layout_h r ≡ true → (w : List ℕ) × (r ≡ 0x48 ∷ 0 ∷ 0 ∷ byte r 3 ∷ w)
    × Laid (byte r 3) w
laid_out [] l h = absurd (omega arith)
laid_out (a ∷ []) l h = absurd (omega arith)
laid_out (a ∷ b ∷ []) l h = absurd (omega arith)
laid_out (a ∷ b ∷ c ∷ []) l h = absurd (omega arith)
laid_out (a ∷ b ∷ c ∷ k ∷ w) l h = let r = laid_of a b c k w (omega arith) h in (w, r.0, r.1)

module _ (k : ℕ) (w : List ℕ) (L : Laid k w) where
  nexts_long : length (take k (drop 6 w)) ≡ k
  nexts_long = length-take-le k (drop 6 w) (omega (arith, length-drop 6 w))

  body_back : map val_byte (map val_of (take 6 w)) ++ map slot_byte (map (λ b. holds (val_of b)) (take k (drop 6 w)))
      ≡ take (6 + k) w
  body_back =
      ap₂ ◌++◌ (map_back val_of val_byte (take 6 w) (λ b q. byte_back b))
      (map_back (λ b. holds (val_of b)) slot_byte (take k (drop 6 w)) (λ b q. byte_back b))
      ∙ sym (take-add 6 k w)

  laid_back : shape_record (shape_of (0x48 ∷ 0 ∷ 0 ∷ k ∷ w)) ≡ 0x48 ∷ 0 ∷ 0 ∷ k ∷ w
  laid_back =
      let n : 28 - length (take (6 + k) w) ≡ 22 - k = omega (arith, length-take-le (6 + k) w (omega arith)) in
      let f : filled 28 (take (6 + k) w) ≡ w =
      ap (λ m. take (6 + k) w ++ replicate m 0) n ∙ ap (λ l. take (6 + k) w ++ l) (sym L.zeros)
      ∙ take-append-drop (6 + k) w in
      λ i. 0x48 ∷ 0 ∷ 0 ∷ (length-map (take k (drop 6 w)) (λ b. holds (val_of b)) ∙ nexts_long) i
      ∷ (ap (filled 28) body_back ∙ f) i

  value_ok : (b : ℕ) → In b (take 6 w ++ take k (drop 6 w)) → value_byte k b ≡ true
  value_ok b q = all_in (value_byte k) (take (6 + k) w) b L.values (subst (In b) (sym (take-add 6 k w)) q)

value_small : (k b : ℕ) → value_byte k b ≡ true → SmallVal k (val_of b)
value_small k b q = bool_case (eqb b 0xfe) (λ e. rw e tt) (λ e. bool_case (eqb b 0xff) (λ f. rw (e, f) tt)
    (λ f. rw (e, f) (or_cases (ltb b k || eqb b 0xfe) (eqb b 0xff) q
    (λ g. or_cases (ltb b k) (eqb b 0xfe) g (ltb-true b k) (λ z. clash z e)) (λ g. clash g f))))

-- and the bytes of such values pass
pub value_passes : (k : ℕ) (v : Val) → SmallVal k v → value_byte k (val_byte v) ≡ true
value_passes k (cell n) h = or_l (ltb n k || eqb n 0xfe) (eqb n 0xff) (or_l (ltb n k) (eqb n 0xfe) (lt-ltb n k h))
value_passes k null h = or_l (ltb 0xfe k || true) false (or_r (ltb 0xfe k) true refl)
value_passes k undef h = or_r (ltb 0xff k || false) true refl

pub slot_passes : (k : ℕ) (s : Slot) → SmallSlot k s → value_byte k (slot_byte s) ≡ true
slot_passes k unused h = absurd h
slot_passes k (holds v) h = value_passes k v h

-- the bytes that a shape is written with
module _ (h : Heap) (W : Writable h) where
  pub values_length : length (map val_byte h.ptrs ++ map slot_byte h.slots) ≡ 6 + length h.slots
  values_length = omega (
    arith,
    length-append (map val_byte h.ptrs) (map slot_byte h.slots),
    length-map h.ptrs val_byte,
    length-map h.slots slot_byte,
    W.six,
  )

  pub values_pass : all (value_byte (length h.slots))
      (take (6 + length h.slots) (filled 28 (map val_byte h.ptrs ++ map slot_byte h.slots))) ≡ true
  values_pass =
      let k = length h.slots in
      let ps = map val_byte h.ptrs in
      let ss = map slot_byte h.slots in
      ap (all (value_byte k)) (take_at (ps ++ ss) (replicate (28 - length (ps ++ ss)) 0) (6 + k) values_length)
      ∙ all_of (value_byte k) (ps ++ ss) (λ b i. in-append-cases b ps ss i
      (λ j. let r = in_map val_byte b h.ptrs j in ap (value_byte k) r.2
      ∙ value_passes k r.0 (W.pointers r.0 r.1))
      (λ j. let r = in_map slot_byte b h.slots j in ap (value_byte k) r.2
      ∙ slot_passes k r.0 (W.nexts r.0 r.1)))

  -- whatever stands in the first three bytes
  pub shape_fields_written : (a b c : ℕ) → shape_fields (a ∷ b ∷ c ∷ shape_bytes h) ≡ true
  shape_fields_written a b c =
      let k = length h.slots in
      let vs = map val_byte h.ptrs ++ map slot_byte h.slots in
      let r : List ℕ = a ∷ b ∷ c ∷ shape_bytes h in
      let e : suc (suc (suc (suc (6 + k)))) ≡ 10 + k = omega arith in
      let o : all is_zero (drop (10 + k) r) ≡ true =
      subst (λ n. all is_zero (drop n r) ≡ true) e
      (ap (all is_zero) (drop_at vs (replicate (28 - length vs) 0) (6 + k) values_length)
      ∙ zeros_pass (28 - length vs)) in
      rw (le-leb k 12 W.few, values_pass, o)

-- an accepted shape record is what its shape is written as
module _ (r : List ℕ) (l : length r ≡ 32) (h : layout_h r ≡ true) where
  pub shape_record_back : shape_record (shape_of r) ≡ r
  shape_record_back = let q = laid_out r l h in
      subst (λ x. shape_record (shape_of x) ≡ x) (sym q.1) (laid_back (byte r 3) q.0 q.2)

  -- its shape has six pointers, the slots that byte 3 says, at most twelve, all in use
  pub layout_pointers : length (shape_of r).ptrs ≡ 6
  layout_pointers = length-map (take 6 (drop 4 r)) val_of ∙ length-take-le 6 (drop 4 r) (omega (arith, length-drop 4 r))

  pub layout_few : byte r 3 ≤ 12
  layout_few = (laid_out r l h).2.few

  pub layout_slots : length (shape_of r).slots ≡ byte r 3
  layout_slots =
      let few = layout_few in
      length-map (take (byte r 3) (drop 10 r)) (λ b. holds (val_of b)) ∙ length-take-le (byte r 3) (drop 10 r)
      (omega (arith, length-drop 10 r))

  -- and it can be written and is closed
  pub layout_writable : Writable (shape_of r)
  layout_writable =
      let q = laid_out r l h in
      let k = byte r 3 in
      let w4 : drop 4 r ≡ q.0 = ap (drop 4) q.1 in
      let w10 : drop 10 r ≡ drop 6 q.0 = ap (drop 10) q.1 in
      let small : (b : ℕ) → In b (take 6 q.0 ++ take k (drop 6 q.0))
      → SmallVal (length (shape_of r).slots) (val_of b) =
      λ b y. subst (λ n. SmallVal n (val_of b)) (sym layout_slots) (value_small k b (value_ok k q.0 q.2 b y)) in
      record {
        six = layout_pointers;
        few = rw layout_slots layout_few;
        pointers = λ v x.
            let y = in_map val_of v (take 6 (drop 4 r)) x in
            subst (SmallVal (length (shape_of r).slots)) (sym y.2) (small y.0
            (in_append_l y.0 (take 6 q.0) (take k (drop 6 q.0))
            (subst (λ m. In y.0 (take 6 m)) w4 y.1)));
        nexts = λ s x.
            let y = in_map (λ b. holds (val_of b)) s (take k (drop 10 r)) x in
            subst (SmallSlot (length (shape_of r).slots)) (sym y.2) (small y.0
            (in_append_r y.0 (take 6 q.0) (take k (drop 6 q.0))
            (subst (λ m. In y.0 (take k m)) w10 y.1)));
      }

  pub layout_closed : closed (shape_of r) ≡ true
  layout_closed = writable_closed (shape_of r) layout_writable

  -- its bytes as a heap image: no successor byte is the mark of a cell that is not in use
  byte_used : (b : ℕ) → In b (take (byte r 3) (drop 10 r)) → b ≡ 0xfd → ⊥
  byte_used b i e =
      let few = layout_few in
      let n = layout_slots in
      let z : SmallSlot (length (shape_of r).slots) (holds (val_of b)) =
      layout_writable.nexts _ (map_in (λ x. holds (val_of x)) b (take (byte r 3) (drop 10 r)) i) in
      let y : 0xfd < length (shape_of r).slots = subst (λ x. SmallSlot (length (shape_of r).slots) (holds (val_of x)))
      e z in
      omega arith

  pub shape_image : shape_of r ≡ heap_of (take 6 (drop 4 r)) (take (byte r 3) (drop 10 r))
  shape_image = λ j. record {
    ptrs = map val_of (take 6 (drop 4 r));
    slots = map_same (λ b. holds (val_of b)) cell_slot (take (byte r 3) (drop 10 r))
        (λ b i. rw (ne_eqb b 0xfd (byte_used b i))) j;
  }

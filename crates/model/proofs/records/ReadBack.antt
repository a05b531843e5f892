-- Shape and location records are read back as what they were written from.
use Prim.Native.Nat.{◌+◌, ◌-◌, ◌<◌, ◌≤◌, suc, ℕ}
use mathlib.Core.Path.{◌∙◌, ◌≡◌, ap, ap₂, refl, subst, sym}
use mathlib.Core.Bool.{true}
use mathlib.Core.List.{List, ◌++◌, ◌∷◌, append_assoc, map}
use native.Mathlib.Omega.{arith}
use lib.ListN.{drop, length, length-append, length-map, replicate, take}
use lib.Seq.{drop_at, take_at}
use Rattle.model.specs.Base.{all}
use Rattle.model.specs.Edges.{Loc, at, failed}
use Rattle.model.specs.Heap.{Heap, Slot, Val, cell, closed, holds, in_use, named, next, null, slot_named, undef, unused}
use Rattle.model.specs.Machine.{Fault, at_null, at_undef, fault_number, leak}
use Rattle.model.specs.Records.{byte, loc_record, shape_bytes, shape_of, shape_record, slot_byte, val_byte, val_of}
use Rattle.model.specs.Shape.{Seg, last, node_slot, node_val, segments}
use Rattle.model.proofs.shapes.Bound.{few_nodes}
use Rattle.model.proofs.records.Bytes.{filled_length, small_up, val_back}
use Rattle.model.specs.Notions.{Canon, Closed, Used}
use Rattle.model.proofs.shapes.Canon.{canon_fold}
use Rattle.model.specs.Listings.{SmallSlot, SmallVal, Writable, WritableLoc}
use Rattle.model.proofs.lists.Lists.{all_of, get_or_in_lem, in_get_or_lem, map_back}
use Rattle.model.proofs.lists.Logic.{and_both}
use Rattle.model.proofs.visits.Order.{used_below}
use Rattle.model.proofs.expansion.Start.{end, slot_at_lem}
use Rattle.model.proofs.visits.Walks.{closed_in}

-- ---- heaps that a record holds

closed_small : (h : Heap) (v : Val) → Closed (next h) v → SmallVal (length h.slots) v
closed_small h (cell c) k = used_below h.slots c k
closed_small h null k = tt
closed_small h undef k = tt

canon_count : (h : Heap) → Canon h → length (segments h) ≡ length h.slots
canon_count h C = sym (length-map (segments h) (λ (s : Seg). node_slot (segments h) (next h (last s))))
    ∙ ap (λ (g : Heap). length g.slots) (canon_fold h C)

canon_used : (h : Heap) → Canon h → (n : ℕ) → n < length h.slots → Used (next h) n
canon_used h C n q =
    let k : n < length (segments h) = omega (arith, canon_count h C) in (
      node_val (segments h) (end h C.closed C.kept n k).0,
      ap (λ (g : Heap). next g n) (sym (canon_fold h C))
          ∙ slot_at_lem h C.closed C.kept n k,
    )

-- a shape can be written
pub canon_writable : (h : Heap) → Canon h → length h.ptrs ≡ 6 → Writable h
canon_writable h C p = record {
  six = p;
  few = omega (arith, few_nodes h C.closed C.kept, canon_count h C);
  pointers = λ v q. closed_small h v (closed_in (next h) h.ptrs v C.closed.0 q);
  nexts = λ s q.
      let r = in_get_or_lem h.slots unused s q in
      let u = canon_used h C r.0 r.1 in
      subst (SmallSlot (length h.slots)) (sym u.1 ∙ r.2)
      (closed_small h u.0 (C.closed.1 r.0 u.0 u.1));
}

small_used : (k : ℕ) (s : Slot) → SmallSlot k s → in_use s ≡ true
small_used k unused q = absurd q
small_used k (holds v) q = refl

-- and what can be written is closed
module _ (h : Heap) (W : Writable h) where
  pub writable_used : (n : ℕ) → n < length h.slots → in_use (next h n) ≡ true
  writable_used n q = small_used (length h.slots) (next h n) (W.nexts (next h n) (get_or_in_lem h.slots unused n q))

  small_named : (v : Val) → SmallVal (length h.slots) v → named (next h) v ≡ true
  small_named (cell n) q = writable_used n q
  small_named null q = refl
  small_named undef q = refl

  slot_named_lem : (s : Slot) → SmallSlot (length h.slots) s → slot_named (next h) s ≡ true
  slot_named_lem unused q = absurd q
  slot_named_lem (holds v) q = small_named v q

  pub writable_closed : closed h ≡ true
  writable_closed = and_both (all (named (next h)) h.ptrs) (all (slot_named (next h)) h.slots)
      (all_of (named (next h)) h.ptrs (λ v q. small_named v (W.pointers v q)))
      (all_of (slot_named (next h)) h.slots (λ s q. slot_named_lem s (W.nexts s q)))

-- ---- shapes and locations

body_length : (h : Heap) → length (map val_byte h.ptrs ++ map slot_byte h.slots)
    ≡ length h.ptrs + length h.slots
body_length h = length-append (map val_byte h.ptrs) (map slot_byte h.slots)
    ∙ ap₂ ◌+◌ (length-map h.ptrs val_byte) (length-map h.slots slot_byte)

bytes_length : (h : Heap) → Writable h → length (shape_bytes h) ≡ 29
bytes_length h W =
    let few = W.few in
    ap suc (filled_length 28 (map val_byte h.ptrs ++ map slot_byte h.slots) (omega (arith, body_length h, W.six)))

slot_back : (k : ℕ) (s : Slot) → k ≤ 0xfe → SmallSlot k s → holds (val_of (slot_byte s)) ≡ s
slot_back k unused h q = absurd q
slot_back k (holds v) h q = ap holds (val_back v (small_up k 0xfe v h q))

-- whatever stands in the first three bytes
pub shape_back : (a b c : ℕ) (h : Heap) → Writable h → shape_of (a ∷ b ∷ c ∷ shape_bytes h) ≡ h
shape_back a b c h W =
    let ps = map val_byte h.ptrs in
    let ss = map slot_byte h.slots in
    let z : List ℕ = replicate (28 - length (ps ++ ss)) 0 in
    let lp : length ps ≡ 6 = length-map h.ptrs val_byte ∙ W.six in
    let few = W.few in
    let p : map val_of (take 6 ((ps ++ ss) ++ z)) ≡ h.ptrs =
    ap (map val_of) (ap (take 6) (append_assoc ps ss z) ∙ take_at ps (ss ++ z) 6 lp)
    ∙ map_back val_byte val_of h.ptrs (λ v q. val_back v (small_up (length h.slots) 0xfe v (omega arith)
    (W.pointers v q))) in
    let s : map (λ x. holds (val_of x)) (take (length h.slots) (drop 6 ((ps ++ ss) ++ z))) ≡ h.slots =
    ap (λ l. map (λ x. holds (val_of x)) (take (length h.slots) l)) (ap (drop 6) (append_assoc ps ss z)
    ∙ drop_at ps (ss ++ z) 6 lp)
    ∙ ap (map (λ x. holds (val_of x))) (take_at ss z (length h.slots) (length-map h.slots slot_byte))
    ∙ map_back slot_byte (λ x. holds (val_of x)) h.slots (λ x q. slot_back (length h.slots) x (omega arith)
    (W.nexts x q)) in
    λ i. record { ptrs = p i; slots = s i }

pub shape_length : (h : Heap) → Writable h → length (shape_record h) ≡ 32
shape_length h W = omega (arith, bytes_length h W)

pub shape_shape : (h : Heap) → Writable h → shape_of (shape_record h) ≡ h
shape_shape h W = shape_back 0x48 0 0 h W

pub location_length : (s : ℕ) (h : Heap) → Writable h → length (loc_record (at s h)) ≡ 32
location_length s h W = omega (arith, bytes_length h W)

pub location_statement : (s : ℕ) (h : Heap) → byte (loc_record (at s h)) 1 ≡ s
location_statement s h = refl

pub location_fault : (s : ℕ) (h : Heap) → byte (loc_record (at s h)) 2 ≡ 0
location_fault s h = refl

pub location_nodes : (s : ℕ) (h : Heap) → byte (loc_record (at s h)) 3 ≡ length h.slots
location_nodes s h = refl

pub location_shape : (s : ℕ) (h : Heap) → Writable h → shape_of (loc_record (at s h)) ≡ h
location_shape s h W = shape_back 0x4c s 0 h W

pub failed_length : (s : ℕ) (f : Fault) → length (loc_record (failed s f)) ≡ 32
failed_length s f = refl

pub failed_statement : (s : ℕ) (f : Fault) → byte (loc_record (failed s f)) 1 ≡ s
failed_statement s f = refl

pub failed_fault : (s : ℕ) (f : Fault) → byte (loc_record (failed s f)) 2 ≡ fault_number f
failed_fault s f = refl

pub record_length : (l : Loc) → WritableLoc l → length (loc_record l) ≡ 32
record_length (at s h) W = location_length s h W
record_length (failed s f) W = failed_length s f

pub fault_positive : (f : Fault) → 1 ≤ fault_number f
fault_positive at_null = omega arith
fault_positive at_undef = omega arith
fault_positive leak = omega arith

-- different faults have different numbers
pub fault_injective : (f g : Fault) → fault_number f ≡ fault_number g → f ≡ g
fault_injective at_null at_null e = refl
fault_injective at_null at_undef e = absurd (omega arith)
fault_injective at_null leak e = absurd (omega arith)
fault_injective at_undef at_null e = absurd (omega arith)
fault_injective at_undef at_undef e = refl
fault_injective at_undef leak e = absurd (omega arith)
fault_injective leak at_null e = absurd (omega arith)
fault_injective leak at_undef e = absurd (omega arith)
fault_injective leak leak e = refl

-- different locations have different records
pub location_injective : (l m : Loc) → WritableLoc l → WritableLoc m → loc_record l ≡ loc_record m → l ≡ m
location_injective (at s h) (at t g) W X e = ap₂ at (ap (λ r. byte r 1) e) (sym (location_shape s h W) ∙ ap shape_of e
    ∙ location_shape t g X)
location_injective (at s h) (failed t g) W X e = absurd (let z : 0 ≡ fault_number g = ap (λ r. byte r 2) e in
    omega (arith, fault_positive g))
location_injective (failed s f) (at t g) W X e = absurd (let z : fault_number f ≡ 0 = ap (λ r. byte r 2) e in
    omega (arith, fault_positive f))
location_injective (failed s f) (failed t g) W X e =
    ap₂ failed (ap (λ r. byte r 1) e) (fault_injective f g (ap (λ r. byte r 2) e))

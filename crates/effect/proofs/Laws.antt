-- Laws of effects on heap images: an image's bytes are those of its heap; an effect that is done leaves a closed heap
-- with as many slots; what the number answered says; and the ops that leave the heap.
use Prim.Native.Nat.{ℕ, zero, suc, ◌<◌, ◌≤◌}
use mathlib.Core.Path.{◌∙◌, ◌≡◌, ap, ap₂, refl, subst, sym}
use mathlib.Core.Bool.{Bool, ◌&&◌, ◌||◌, cond, false, true}
use mathlib.Core.List.{List, [], ◌∷◌, map}
use native.Mathlib.Omega.{arith}
use lib.Dec.{eqb, leb}
use lib.ListN.{length, length-map}
use borrow.Author.Tests.{eqb-false, eqb-true, le-leb, leb-true}
use Rattle.model.specs.Heap.{Val, cell, null, undef, holds, Heap, closed}
use Rattle.model.specs.Shape.{Seg}
use Rattle.model.specs.Machine.{Effect, done, fault, Fault, at_null, at_undef, leak, fault_number, Action, effect, perform}
use Rattle.model.specs.Records.{op_count, op_of, val_byte, val_of, slot_byte}
use Rattle.model.specs.Image.{cell_slot, heap_of, past_end}
use Rattle.model.specs.Structs.{keeps_at}
use Rattle.model.proofs.lists.Logic.{and_both, and_l, and_r, bool_case, mem_here, mem_one, or_cases, or_l, or_r}
use Rattle.model.proofs.records.Bytes.{byte_back}
use Rattle.model.proofs.records.Ops.{each_op}
use Rattle.model.specs.Notions.{ClosedHeap, seg, Alike, Expansion, Room, both_bad, both_ok, img, sg_after}
use Rattle.model.proofs.expansion.Effects.{effect_alike}
use Rattle.model.proofs.expansion.Facts.{test_closed, closed_test}
use Rattle.model.proofs.lists.Lists.{map_back}
use Rattle.branch.proofs.Bytes.{Missed, missed}
use Rattle.effect.specs.Effect.{effect_of}
use Rattle.model.proofs.expansion.Kinds.{leaves_no_leak, effect_leaves, SlotsAre, leaves_slots}

-- ---- bytes

slot_back : (b : ℕ) → slot_byte (cell_slot b) ≡ b
slot_back b = bool_case (eqb b 0xfd) (λ e. rw e (sym (eqb-true b 0xfd e))) (λ e. rw e (byte_back b))

pub image_bytes_lem : (ps cs : List ℕ) → (map val_byte (heap_of ps cs).ptrs ≡ ps)
    × (map slot_byte (heap_of ps cs).slots ≡ cs)
image_bytes_lem ps cs = (
  map_back val_of val_byte ps (λ b i. byte_back b),
  map_back cell_slot slot_byte cs (λ b i. slot_back b),
)

-- ---- a closed heap is its own expansion, cell by cell, so that what carries over to an expansion holds of it

img_id : (v : Val) → img (λ i. seg i []) v ≡ v
img_id null = refl
img_id undef = refl
img_id (cell n) = refl

map_img_id : (vs : List Val) → vs ≡ map (img (λ i. seg i [])) vs
map_img_id [] = refl
map_img_id (v ∷ vs) = ap₂ ◌∷◌ (sym (img_id v)) (map_img_id vs)

itself : (h : Heap) → ClosedHeap h → Expansion h (λ i. seg i []) h
itself h k = record {
  body = record {
    closed = k.1;
    chain = λ n v e. e ∙ ap holds (sym (img_id v));
    cover = λ c v e. (c, (v, e), mem_here c []);
    apart = λ n m c u w p q. sym (mem_one c n p) ∙ mem_one c m q;
    nodup = λ n u. (refl, tt);
  };
  closed = k.0;
  ptrs = map_img_id h.ptrs;
}

done_inj : {g h : Heap} → done g ≡ done h → g ≡ h
done_inj {g} {h} e = cc

done-fault {ℓ} : {C : Type ℓ} {h : Heap} {f : Fault} {e : Effect} → e ≡ done h → e ≡ fault f → C
done-fault {h} {f} {e} p q = absurd (let z : ◌≡◌ {A = ℕ} 0 1 = cc in omega arith)

alike_closed : (sg : ℕ → Seg) (a b : Effect) → Alike sg a b → (g : Heap) → a ≡ done g → ClosedHeap g
alike_closed sg a b both_bad g e = done-fault e refl
alike_closed sg a b (both_ok {W = W} X) g e = subst ClosedHeap (done_inj e) (X.closed, X.body.closed)

pub effect_closed : (a : Action) (n : ℕ) (h g : Heap) → closed h ≡ true → Room a h n → perform a n h ≡ done g
    → closed g ≡ true
effect_closed a n h g c r e =
    closed_test g
    (alike_closed (sg_after a n n (λ i. seg i [])) (perform a n h) (perform a n h)
    (effect_alike h (λ i. seg i []) h (itself h (test_closed h c)) a n n (λ i q. refl) r r) g e)

-- ---- the number of slots

pub effect_slots : (a : Action) (n : ℕ) (h g : Heap) → closed h ≡ true → past_end a n (length h.slots) ≡ false
    → perform a n h ≡ done g → length g.slots ≡ length h.slots
effect_slots a n h g c q e =
    subst (SlotsAre (length h.slots)) e
    (leaves_slots a n h q (perform a n h) (effect_leaves a n h (test_closed h c)))

-- the same of an image: there are as many slots as cell bytes
pub image_slots : (a : Action) (n : ℕ) (ps cs : List ℕ) (g : Heap) → closed (heap_of ps cs) ≡ true
    → past_end a n (length cs) ≡ false → perform a n (heap_of ps cs) ≡ done g → length g.slots ≡ length cs
image_slots a n ps cs g c q e =
    let l = length-map cs cell_slot in
    effect_slots a n (heap_of ps cs) g c (ap (past_end a n) l ∙ q) e ∙ l

-- ---- the number answered

-- leaks are looked at after the effect
pub effect_leaks : (a : Action) (n : ℕ) (h : Heap) → closed h ≡ true → perform a n h ≡ fault leak → ⊥
effect_leaks a n h c = leaves_no_leak a n h (perform a n h) (effect_leaves a n h (test_closed h c))

-- 0 is answered where the effect is done, and the number of the fault where it faults
pub answer_done : (r : ℕ) (g : Heap) (e : Effect) → effect_of r g ≡ e → r ≡ 0 → e ≡ done g
answer_done r g e a z = sym a ∙ ap (λ n. effect_of n g) z

pub answer_fault : (a : Action) (n : ℕ) (h : Heap) → closed h ≡ true → (r : ℕ) (g : Heap)
    → effect_of r g ≡ perform a n h → (r ≡ 0 → ⊥) → (f : Fault) × (perform a n h ≡ fault f) × (fault_number f ≡ r)
answer_fault a n h c zero g e z = absurd (z refl)
answer_fault a n h c (suc zero) g e z = (at_null, sym e, refl)
answer_fault a n h c (suc (suc zero)) g e z = (at_undef, sym e, refl)
answer_fault a n h c (suc (suc (suc r))) g e z = absurd (effect_leaks a n h c (sym e))

-- ---- the ops that leave the heap, by their numbers

below_twelve : (op : ℕ) → op < op_count → (op ≡ 12 → ⊥) → (op ≡ 13 → ⊥) → op ≤ 11
below_twelve op lt n k = omega arith

from_one : (op : ℕ) → (op ≡ 0 → ⊥) → 1 ≤ op
from_one op z = omega arith

from_eight : (op : ℕ) → (op < 8 → ⊥) → 8 ≤ op
from_eight op f = omega arith

-- an op that is none of 1 to 7, and not 12 or 13, is a stop, or one of 8 to 11
pub keeps_rest : (op : ℕ) → op < op_count → Missed 1 7 op → (op ≡ 12 → ⊥) → (op ≡ 13 → ⊥) → keeps_at op ≡ true
keeps_rest op lt m n k =
    bool_case (eqb op 0) (or_l (eqb op 0) (leb 8 op && leb op 11))
    (λ e. let z = eqb-false op 0 e in
    let no : op < 8 → ⊥ = λ l. missed 1 7 op m (from_one op z) l in
    or_r (eqb op 0) (leb 8 op && leb op 11)
    (and_both (leb 8 op) (leb op 11) (le-leb 8 op (from_eight op no)) (le-leb op 11 (below_twelve op lt n k))))

-- of these, all but the tests, 8 and 9, do nothing
abbrev idle_at : ℕ → Bool
idle_at op = eqb op 0 || (leb 10 op && leb op 11)

idle_ops : (op : ℕ) → keeps_at op ≡ true → Missed 8 2 op → idle_at op ≡ true
idle_ops op k m =
    or_cases (eqb op 0) (leb 8 op && leb op 11) k (or_l (eqb op 0) (leb 10 op && leb op 11))
    (λ e. let l = leb-true 8 op (and_l (leb 8 op) (leb op 11) e) in
    let p = m.0.1 in
    let q = m.1 in
    or_r (eqb op 0) (leb 10 op && leb op 11)
    (and_both (leb 10 op) (leb op 11) (le-leb 10 op (omega arith)) (and_r (leb 8 op) (leb op 11) e)))

pub idle : (op u w n : ℕ) (h : Heap) → op < op_count → keeps_at op ≡ true → Missed 8 2 op
    → effect (op_of op u w) n h ≡ done h
idle op u w n h l s m =
    let does : ℕ → Effect = λ k. effect (op_of k u w) n h in
    each_op (λ o. effect o n h) (λ k. cond (idle_at k) (done h) (does k)) u w refl op l
    ∙ ap (λ t. cond t (done h) (does op)) (idle_ops op s m)

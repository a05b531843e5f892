-- What is done to the bytes of a heap image, and what it does to the heap.
use Prim.Native.Nat.{ℕ, zero, suc, ◌≤◌, ◌<◌}
use native.Mathlib.Omega.{arith}
use mathlib.Core.Path.{◌∙◌, ◌≡◌, ap, ap₂, refl, subst, sym}
use mathlib.Core.Bool.{Bool, true, false, cond}
use mathlib.Core.List.{List, [], ◌∷◌, map}
use lib.Dec.{eqb}
use lib.ListN.{get_or, length, length-map, set}
use borrow.Author.Tests.{leb-false, eqb-true, ne_eqb}
use Rattle.model.specs.Heap.{Val, Slot, unused, holds, Heap, ptr, next, closed}
use Rattle.model.specs.Machine.{Effect, done, put, set_ptr, wipe, wipe_slot, free_val, make, perform}
use Rattle.model.specs.Machine.{action}
use Rattle.model.specs.Records.{val_of, op_of}
use Rattle.model.specs.Image.{cell_slot, heap_of, past_end}
use Rattle.model.proofs.records.Bytes.{val_cell}
use Rattle.model.proofs.lists.Logic.{bool_case}
use Rattle.model.specs.Notions.{Closed, Used}
use Rattle.model.proofs.visits.Order.{used_below}
use Rattle.model.proofs.expansion.Effects.{closed_ptr}
use Rattle.model.proofs.expansion.Facts.{test_closed}
use Rattle.model.proofs.lists.Lists.{get_or_map, map_set}
use Rattle.model.proofs.expansion.Writes.{slot-clash}
use Rattle.branch.proofs.Bytes.{ptr_byte}
use Rattle.model.specs.declared.Decoded.{Decoded}
use Rattle.model.specs.Codes.{op_number}
use Rattle.model.specs.declared.codes.Op.TheVariants as op
use Rattle.effect.specs.Effect.{EffectReady, Named, HasEffect, loaded, relinked, stored, wipe_byte}

-- ---- reading

next_byte : (ps cs : List ℕ) (c : ℕ) → c < length cs → next (heap_of ps cs) c ≡ cell_slot (get_or cs c 0)
next_byte ps cs c h = get_or_map cell_slot cs c 0 unused h

used_slot : (b : ℕ) → (b ≡ 0xfd → ⊥) → cell_slot b ≡ holds (val_of b)
used_slot b p = rw (ne_eqb b 0xfd p)

-- a cell in use has its byte, which is not 0xfd
used_named : (ps cs : List ℕ) (c : ℕ) → Used (next (heap_of ps cs)) c → (c < length cs) × (get_or cs c 0 ≡ 0xfd → ⊥)
used_named ps cs c u =
    let l = length-map cs cell_slot in
    let h : c < length cs = omega (arith, l, used_below (heap_of ps cs).slots c u) in
    (h, λ e. slot-clash (next_byte ps cs c h ∙ ap cell_slot e) u.1)

-- the values of a closed image's pointers name cells in use
ptr_named : (ps cs : List ℕ) (u : ℕ) → closed (heap_of ps cs) ≡ true → u < length ps → Named cs (get_or ps u 0)
ptr_named ps cs u k h p q =
    let e = ptr_byte ps cs u h ∙ val_cell (get_or ps u 0) p q in
    used_named ps cs (get_or ps u 0)
    (subst (Closed (next (heap_of ps cs))) e
    (closed_ptr (next (heap_of ps cs)) (heap_of ps cs).ptrs u (test_closed (heap_of ps cs) k).0))

-- a value's byte is not that of a cell not in use
value_byte_lem : (cs : List ℕ) (b : ℕ) → length cs ≤ 240 → Named cs b → b ≡ 0xfd → ⊥
value_byte_lem cs b l n e = omega (arith, (n (λ p. omega arith) (λ p. omega arith)).0)

-- what a statement's pointers hold
module _ {d : Decoded} {x : ℕ} {ps cs : List ℕ} (r : EffectReady d x ps cs) where
  pub ready_u : ptr (heap_of ps cs) d.u.0 ≡ val_of (get_or ps d.u.0 0)
  ready_u = ptr_byte ps cs d.u.0 (omega (arith, r.is_u, r.six))

  pub ready_w : ptr (heap_of ps cs) d.w.0 ≡ val_of (get_or ps d.w.0 0)
  ready_w = ptr_byte ps cs d.w.0 (omega (arith, r.is_w, r.six))

  pub named_u : Named cs (get_or ps d.u.0 0)
  named_u = ptr_named ps cs d.u.0 r.is_closed (omega (arith, r.is_u, r.six))

  pub named_w : Named cs (get_or ps d.w.0 0)
  named_w = ptr_named ps cs d.w.0 r.is_closed (omega (arith, r.is_w, r.six))

  pub value_w : get_or ps d.w.0 0 ≡ 0xfd → ⊥
  value_w = value_byte_lem cs (get_or ps d.w.0 0) r.few named_w

  -- new takes the cell x
  pub room_x : d.op ≡ op.New → x < length cs
  room_x e =
      leb-false (length cs) x
      (subst (λ o. past_end (action (op_of (op_number o) d.u.0 d.w.0)) x (length cs) ≡ false) e r.room)

-- what has one effect has another that does the same to this image
pub as_effect : {f g : Heap → Effect} {ps cs : List ℕ} {r : ℕ} {qs ds : List ℕ} → HasEffect g ps cs r qs ds
    → f (heap_of ps cs) ≡ g (heap_of ps cs) → HasEffect f ps cs r qs ds
as_effect x e = record { outcome = x.outcome ∙ sym e; stays = x.stays }

-- ---- writing

abbrev heap : List Val → List Slot → Heap
heap vs ss = record { ptrs = vs; slots = ss }

put_set : (l : List Slot) (c : ℕ) (s : Slot) → c < length l → put l c s ≡ set l c s
put_set [] c s h = absurd (omega arith)
put_set (x ∷ l) zero s h = refl
put_set (x ∷ l) (suc c) s h = ap (λ r. x ∷ r) (put_set l c s (omega arith))

-- one cell byte is one slot
put_byte : (cs : List ℕ) (c b : ℕ) → c < length cs → map cell_slot (set cs c b) ≡ put (map cell_slot cs) c (cell_slot b)
put_byte cs c b h =
    map_set cell_slot cs c b ∙ sym (put_set (map cell_slot cs) c (cell_slot b) (omega (arith, length-map cs cell_slot)))

-- pointer u becomes v
abbrev assigned : ℕ → Val → Heap → Effect
assigned u v h = done (set_ptr u v h)

pub set_ran : (ps cs : List ℕ) (u v : ℕ) → HasEffect (assigned u (val_of v)) ps cs 0 (set ps u v) cs
set_ran ps cs u v = record {
  outcome = ap (λ l. done (heap l (map cell_slot cs))) (map_set val_of ps u v);
  stays = λ z. absurd (z refl);
}

pub new_ran : (ps cs : List ℕ) (u x : ℕ) → x < length cs → length cs ≤ 240
    → HasEffect (perform (make u) x) ps cs 0 (set ps u x) (set cs x 0xff)
new_ran ps cs u x h l = record {
  outcome = ap₂ (λ vs ss. done (heap vs ss))
      (map_set val_of ps u x ∙ ap (set (map val_of ps) u) (val_cell x (λ e. omega arith) (λ e. omega arith)))
      (put_byte cs x 0xff h);
  stays = λ z. absurd (z refl);
}

-- ---- through a value

-- a load sets the pointer to the byte of the cell
pub load_cell : (ps cs : List ℕ) (u v : ℕ) → (v ≡ 0xfe → ⊥) → (v ≡ 0xff → ⊥) → Named cs v
    → HasEffect (loaded u (val_of v)) ps cs 0 (set ps u (get_or cs v 0)) cs
load_cell ps cs u v p q n =
    let k = n p q in
    as_effect (set_ran ps cs u (get_or cs v 0))
    (rw (val_cell v p q, next_byte ps cs v k.0, used_slot (get_or cs v 0) k.1))

pub store_cell : (ps cs : List ℕ) (a v : ℕ) → (a ≡ 0xfe → ⊥) → (a ≡ 0xff → ⊥) → Named cs a → (v ≡ 0xfd → ⊥)
    → HasEffect (stored (val_of a) (val_of v)) ps cs 0 ps (set cs a v)
store_cell ps cs a v p q n y = record {
  outcome = rw (val_cell a p q)
      (ap (λ ss. done (heap (map val_of ps) ss))
      (put_byte cs a v (n p q).0 ∙ ap (put (map cell_slot cs) a) (used_slot v y)));
  stays = λ o. absurd (o refl);
}

-- a relink stores the byte that is read
pub relink_cell : (ps cs : List ℕ) (a v r : ℕ) (qs ds : List ℕ) → (v ≡ 0xfe → ⊥) → (v ≡ 0xff → ⊥) → Named cs v
    → HasEffect (stored (val_of a) (val_of (get_or cs v 0))) ps cs r qs ds
    → HasEffect (relinked (val_of a) (val_of v)) ps cs r qs ds
relink_cell ps cs a v r qs ds p q n x =
    let k = n p q in
    as_effect x (rw (val_cell v p q, next_byte ps cs v k.0, used_slot (get_or cs v 0) k.1))

-- ---- a freed cell

wipe_val : (c b : ℕ) → c < 0xfd → val_of (wipe_byte c b) ≡ wipe c (val_of b)
wipe_val c b h =
    bool_case (eqb b 0xfe) (λ e. let q = eqb-true b 0xfe e in rw (ne_eqb b c (λ p. omega arith), e))
    (λ e. bool_case (eqb b 0xff) (λ f. let q = eqb-true b 0xff f in rw (ne_eqb b c (λ p. omega arith), e, f))
    (λ f. bool_case (eqb b c) (λ g. rw (e, f, g)) (λ g. rw (e, f, g, e, f))))

wipe_slot_lem : (c b : ℕ) → c < 0xfd → cell_slot (wipe_byte c b) ≡ wipe_slot c (cell_slot b)
wipe_slot_lem c b h =
    bool_case (eqb b 0xfd) (λ e. let q = eqb-true b 0xfd e in rw (ne_eqb b c (λ p. omega arith), e))
    (λ e. rw (e, used (eqb b c) e) (ap holds (wipe_val c b h)))
  where
    used : (t : Bool) → eqb b 0xfd ≡ false → eqb (cond t 0xff b) 0xfd ≡ false
    used true e = refl
    used false e = e

wipe_vals : (c : ℕ) (ps : List ℕ) → c < 0xfd → map val_of (map (wipe_byte c) ps) ≡ map (wipe c) (map val_of ps)
wipe_vals c [] h = refl
wipe_vals c (b ∷ ps) h = ap₂ ◌∷◌ (wipe_val c b h) (wipe_vals c ps h)

wipe_slots : (c : ℕ) (cs : List ℕ) → c < 0xfd → map cell_slot (map (wipe_byte c) cs)
    ≡ map (wipe_slot c) (map cell_slot cs)
wipe_slots c [] h = refl
wipe_slots c (b ∷ cs) h = ap₂ ◌∷◌ (wipe_slot_lem c b h) (wipe_slots c cs h)

pub free_null : (ps cs : List ℕ) (a : ℕ) → a ≡ 0xfe → HasEffect (free_val (val_of a)) ps cs 0 ps cs
free_null ps cs a e = record { outcome = rw e; stays = λ z. (refl, refl) }

pub free_undef : (ps cs : List ℕ) (a : ℕ) → a ≡ 0xff → HasEffect (free_val (val_of a)) ps cs 2 ps cs
free_undef ps cs a e = record { outcome = rw e; stays = λ z. (refl, refl) }

pub free_cell_lem : (ps cs : List ℕ) (a : ℕ) → (a ≡ 0xfe → ⊥) → (a ≡ 0xff → ⊥) → Named cs a → length cs ≤ 240
    → HasEffect (free_val (val_of a)) ps cs 0 (map (wipe_byte a) ps) (set (map (wipe_byte a) cs) a 0xfd)
free_cell_lem ps cs a p q n l =
    let small : a < 0xfd = omega (arith, (n p q).0) in
    let k = put_byte (map (wipe_byte a) cs) a 0xfd (omega (arith, (n p q).0, length-map cs (wipe_byte a))) in
    record {
      outcome = rw (val_cell a p q)
          (ap₂ (λ vs ss. done (heap vs ss)) (wipe_vals a ps small)
          (k ∙ ap (λ ss. put ss a unused) (wipe_slots a cs small)));
      stays = λ z. absurd (z refl);
    }

-- What an action can leave, by kinds: laws about every effect go by these few.
use Prim.Native.Nat.{◌<◌, ◌≤◌, suc, zero, ℕ}
use mathlib.Core.Path.{◌∙◌, ◌≡◌, refl}
use mathlib.Core.List.{List, [], ◌∷◌, map}
use native.Mathlib.Omega.{arith}
use lib.ListN.{length, length-map, length-set}
use borrow.Author.Tests.{leb-false}
use Rattle.model.specs.Heap.{Heap, Slot, Val, cell, holds, next, null, ptr, undef, unused}
use Rattle.model.specs.Image.{past_end}
use Rattle.model.specs.Machine.{Action, Effect, Fault, at_null, at_undef, compare, look, done, fault, follow, free_cell, free_val, held, leak, link, make, perform, point, put, put_slot, release, set_ptr, splice, stay, through, value_of, wipe, wipe_slot}
use Rattle.model.specs.Notions.{Closed, ClosedHeap, Used}
use Rattle.model.proofs.expansion.Effects.{closed_ptr}
use Rattle.model.proofs.visits.Order.{used_below}
use mathlib.Core.Bool.{false}

-- the action a, with cell n for new, on heap h
pub data Leaves (a : Action) (n : ℕ) (h : Heap) : Effect → Type 0 where
  fails : {f : Fault} → (f ≡ leak → ⊥) → Leaves a n h (fault f)
  stays : Leaves a n h (done h)
  points : (u : ℕ) (v : Val) → Leaves a n h (done (set_ptr u v h))
  links : (c : ℕ) (s : Slot) → Used (next h) c → Leaves a n h (done (put_slot c s h))
  makes : (u : ℕ) → a ≡ make u → Leaves a n h (done (set_ptr u (cell n) (put_slot n (holds undef) h)))
  frees : (c : ℕ) → Used (next h) c → Leaves a n h (done (free_cell c h))

null_no_leak : at_null ≡ leak → ⊥
null_no_leak e = let z : ◌≡◌ {A = ℕ} 0 1 = cc in omega arith

undef_no_leak : at_undef ≡ leak → ⊥
undef_no_leak e = let z : ◌≡◌ {A = ℕ} 0 1 = cc in omega arith

through_leaves : (a : Action) (n : ℕ) (h : Heap) (v : Val) → Closed (next h) v → (f : ℕ → Effect)
    → ((c : ℕ) → Used (next h) c → Leaves a n h (f c)) → Leaves a n h (through v f)
through_leaves a n h (cell c) k f g = g c k
through_leaves a n h null k f g = fails null_no_leak
through_leaves a n h undef k f g = fails undef_no_leak

free_leaves : (a : Action) (n : ℕ) (h : Heap) (v : Val) → Closed (next h) v → Leaves a n h (free_val v h)
free_leaves a n h (cell c) k = frees c k
free_leaves a n h null k = stays
free_leaves a n h undef k = fails undef_no_leak

-- a value that is looked at is a fault where it is undefined, and changes nothing else
look_leaves : (a : Action) (n : ℕ) (h : Heap) (v : Val) {e : Effect} → Leaves a n h e → Leaves a n h (look v e)
look_leaves a n h (cell c) l = l
look_leaves a n h null l = l
look_leaves a n h undef l = fails undef_no_leak

pub effect_leaves : (a : Action) (n : ℕ) (h : Heap) → ClosedHeap h → Leaves a n h (perform a n h)
effect_leaves stay n h cl = stays
effect_leaves (compare u s) n h cl =
    look_leaves (compare u s) n h (ptr h u) (look_leaves (compare u s) n h (value_of s h) stays)
effect_leaves (point u s) n h cl = points u (value_of s h)
effect_leaves (follow u w) n h cl =
    through_leaves (follow u w) n h (ptr h w) (closed_ptr (next h) h.ptrs w cl.0)
    (λ d. done (set_ptr u (held (next h d)) h))
    (λ c k. points u (held (next h c)))
effect_leaves (link u s) n h cl =
    through_leaves (link u s) n h (ptr h u) (closed_ptr (next h) h.ptrs u cl.0)
    (λ d. done (put_slot d (holds (value_of s h)) h))
    (λ c k. links c (holds (value_of s h)) k)
effect_leaves (splice u w) n h cl =
    through_leaves (splice u w) n h (ptr h w) (closed_ptr (next h) h.ptrs w cl.0)
    (λ d. through (ptr h u) (λ c. done (put_slot c (holds (held (next h d))) h)))
    (λ d q. through_leaves (splice u w) n h (ptr h u) (closed_ptr (next h) h.ptrs u cl.0)
    (λ c. done (put_slot c (holds (held (next h d))) h)) (λ c k. links c (holds (held (next h d))) k))
effect_leaves (make u) n h cl = makes u refl
effect_leaves (release u) n h cl = free_leaves (release u) n h (ptr h u) (closed_ptr (next h) h.ptrs u cl.0)

-- ---- leaks are looked at after the effect

pub leaves_no_leak : (a : Action) (n : ℕ) (h : Heap) (e : Effect) → Leaves a n h e → e ≡ fault leak → ⊥
leaves_no_leak a n h e (fails {f = f} q) z = q (let y : f ≡ leak = cc in y)
leaves_no_leak a n h e stays z = let y : ◌≡◌ {A = ℕ} 0 1 = cc in omega arith
leaves_no_leak a n h e (points u v) z = let y : ◌≡◌ {A = ℕ} 0 1 = cc in omega arith
leaves_no_leak a n h e (links c s k) z = let y : ◌≡◌ {A = ℕ} 0 1 = cc in omega arith
leaves_no_leak a n h e (makes u q) z = let y : ◌≡◌ {A = ℕ} 0 1 = cc in omega arith
leaves_no_leak a n h e (frees c k) z = let y : ◌≡◌ {A = ℕ} 0 1 = cc in omega arith

-- ---- the number of pointers stays

abbrev pub PtrsAre : ℕ → Effect → Type 0
PtrsAre n (done h) = length h.ptrs ≡ n
PtrsAre n (fault f) = Unit {0}

pub leaves_ptrs : (a : Action) (n : ℕ) (h : Heap) (e : Effect) → Leaves a n h e → PtrsAre (length h.ptrs) e
leaves_ptrs a n h e (fails q) = tt
leaves_ptrs a n h e stays = refl
leaves_ptrs a n h e (points u v) = length-set h.ptrs u v
leaves_ptrs a n h e (links c s k) = refl
leaves_ptrs a n h e (makes u q) = length-set h.ptrs u (cell n)
leaves_ptrs a n h e (frees c k) = length-map h.ptrs (wipe c)

-- ---- the number of slots

length_put : (l : List Slot) (c : ℕ) (s : Slot) (b : ℕ) → length l ≤ b → c < b → length (put l c s) ≤ b
length_put [] zero s b h k = omega arith
length_put [] (suc c) s (suc b) h k = omega (arith, length_put [] c s b (omega arith) (omega arith))
length_put [] (suc c) s zero h k = absurd (omega arith)
length_put (x ∷ l) zero s b h k = h
length_put (x ∷ l) (suc c) s zero h k = absurd (omega arith)
length_put (x ∷ l) (suc c) s (suc b) h k = omega (arith, length_put l c s b (omega arith) (omega arith))

pub put_short : (l : List Slot) (c : ℕ) (s : Slot) (b : ℕ) → length l ≤ b → c < b → length (put l c s) ≤ b
put_short = length_put

-- at most b slots after an effect
abbrev pub Short : ℕ → Effect → Type 0
Short b (done h) = length h.slots ≤ b
Short b (fault f) = Unit {0}

pub leaves_short : (a : Action) (n b : ℕ) (h : Heap) → length h.slots ≤ b → n < b → (e : Effect) → Leaves a n h e
    → Short b e
leaves_short a n b h l q e (fails z) = tt
leaves_short a n b h l q e stays = l
leaves_short a n b h l q e (points u v) = l
leaves_short a n b h l q e (links c s k) = let z = used_below h.slots c k in
    length_put h.slots c s b l (omega arith)
leaves_short a n b h l q e (makes u z) = length_put h.slots n (holds undef) b l q
leaves_short a n b h l q e (frees c k) =
    let z = used_below h.slots c k in
    let m = length-map h.slots (wipe_slot c) in
    length_put (map (wipe_slot c) h.slots) c unused b (omega arith) (omega arith)

pub put_length : (l : List Slot) (c : ℕ) (s : Slot) → c < length l → length (put l c s) ≡ length l
put_length [] c s h = absurd (omega arith)
put_length (x ∷ l) zero s h = refl
put_length (x ∷ l) (suc c) s h = let z = put_length l c s (omega arith) in omega arith

-- as many slots as before, where the cell for new is one of them
abbrev pub SlotsAre : ℕ → Effect → Type 0
SlotsAre n (done h) = length h.slots ≡ n
SlotsAre n (fault f) = Unit {0}

pub leaves_slots : (a : Action) (n : ℕ) (h : Heap) → past_end a n (length h.slots) ≡ false → (e : Effect)
    → Leaves a n h e
    → SlotsAre (length h.slots) e
leaves_slots a n h p e (fails z) = tt
leaves_slots a n h p e stays = refl
leaves_slots a n h p e (points u v) = refl
leaves_slots a n h p e (links c s k) = put_length h.slots c s (used_below h.slots c k)
leaves_slots a n h p e (makes u z) =
    put_length h.slots n (holds undef) (leb-false (length h.slots) n (rw z at p))
leaves_slots a n h p e (frees c k) =
    let z = used_below h.slots c k in
    let m = length-map h.slots (wipe_slot c) in
    put_length (map (wipe_slot c) h.slots) c unused (omega arith) ∙ m

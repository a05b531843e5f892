-- Where nothing is lost. A cell that an effect leaves in use was reached before; it still is, unless the way to it went
-- through the value that the effect took away, and that value is now in no pointer.
use Prim.Native.Nat.{ℕ, zero, suc, ◌<◌}
use native.Mathlib.Omega.{arith}
use mathlib.Core.Path.{◌≡◌, refl, sym, ap, subst, ◌∙◌}
use mathlib.Core.Bool.{true, false, cond}
use mathlib.Core.List.{List, [], ◌∷◌}
use mathlib.Core.Logic.{◌⊎◌, inl, inr, ⊎_elim}
use lib.Dec.{eqb}
use lib.ListN.{get_or, length, set}
use borrow.Author.Tests.{ne_eqb}
use Rattle.model.specs.Heap.{Heap, Slot, Val, cell, closed, holds, kept, next, null, ptr, undef, unused}
use Rattle.model.specs.Machine.{Action, Effect, action, compare, done, fault, follow, free_cell, free_val, held, link, look, make, perform, point, put_slot, release, set_ptr, splice, stay, through, value_of, wipe, wipe_slot}
use Rattle.model.specs.Records.{op_count, op_of}
use Rattle.model.specs.Notions.{Closed, ClosedHeap, In, Kept, Reaches, Room, Used, along, from_pointer}
use Rattle.model.proofs.expansion.Effects.{closed_ptr, next_free, next_put}
use Rattle.model.proofs.expansion.Facts.{test_closed}
use Rattle.model.proofs.expansion.Reach.{kept_reaches, reaches_order}
use Rattle.model.proofs.expansion.Writes.{slot-clash, upd-at, upd-off}
use Rattle.model.proofs.records.Ops.{each_op}
use Rattle.model.proofs.lists.Lists.{map_in}
use Rattle.model.proofs.lists.Logic.{eq-case}
use Rattle.image_run.specs.Taken.{Stands, next_at, takes}

-- ---- one heap after another

-- What a pointer held is reached afterwards, and what a next held is too, unless the same next still holds it: then
-- every cell in use that was reached still is. The induction is on the way to it.
module _ (h g : Heap) (roots : (c : ℕ) → In (cell c) h.ptrs → Used (next g) c → Reaches g c)
    (nexts : (c d : ℕ) → next h c ≡ holds (cell d) → Used (next g) d → Reaches g d ⊎ (next g c ≡ holds (cell d)))
  where
    still : (c : ℕ) → Reaches h c → Used (next g) c → Reaches g c
    still c (from_pointer i) u = roots c i u
    still d (along {c = c} r e) u = ⊎_elim (λ q. q) (λ q. along (still c r (cell d, q)) q) (nexts c d e u)

-- every cell in use is reached
abbrev pub Reached : Heap → Type 0
Reached h = (c : ℕ) → Used (next h) c → Reaches h c

-- ---- the pointers

-- a value stays among the pointers where it is not the one that is set
set_in : (vs : List Val) (u : ℕ) (v x : Val) → In x vs → (x ≡ get_or vs u undef) ⊎ In x (set vs u v)
set_in [] u v x i = absurd i
set_in (y ∷ vs) zero v x (inl e) = inl e
set_in (y ∷ vs) zero v x (inr i) = inr (inr i)
set_in (y ∷ vs) (suc u) v x (inl e) = inr (inl e)
set_in (y ∷ vs) (suc u) v x (inr i) = ⊎_elim inl (λ j. inr (inr j)) (set_in vs u v x i)

-- and the value that is set is one of them
in_set : (vs : List Val) (u : ℕ) (v : Val) → u < length vs → In v (set vs u v)
in_set [] u v l = absurd (omega arith)
in_set (y ∷ vs) zero v l = inl refl
in_set (y ∷ vs) (suc u) v l = inr (in_set vs u v (omega arith))

-- ---- the nexts

next_other : (h : Heap) (c : ℕ) (s : Slot) (i : ℕ) → eqb i c ≡ false → next (put_slot c s h) i ≡ next h i
next_other h c s i e = ap (λ f. f i) (next_put h c s) ∙ upd-off (next h) c s i e

-- once cell c is freed: every other cell in use still is, and holds what it held, where that is not c
free_other : (h : Heap) (c i d : ℕ) → eqb i c ≡ false → eqb d c ≡ false → next h i ≡ holds (cell d)
    → next (free_cell c h) i ≡ holds (cell d)
free_other h c i d e f q = ap (λ g. g i) (next_free h c) ∙ rw (e, q, f)

free_gone : (h : Heap) (c : ℕ) → next (free_cell c h) c ≡ unused
free_gone h c = ap (λ g. g c) (next_free h c) ∙ upd-at (λ j. wipe_slot c (next h j)) c unused c refl

wiped_used : (c : ℕ) (s : Slot) {v : Val} → wipe_slot c s ≡ holds v → (x : Val) × (s ≡ holds x)
wiped_used c unused e = slot-clash refl e
wiped_used c (holds x) e = (x, refl)

free_used : (h : Heap) (c i : ℕ) → Used (next (free_cell c h)) i → (eqb i c ≡ false) × Used (next h) i
free_used h c i w =
    eq-case i c (λ e. slot-clash (ap (next (free_cell c h)) e ∙ free_gone h c) w.1)
    (λ e. (
      e,
      wiped_used c (next h i) (sym (upd-off (λ j. wipe_slot c (next h j)) c unused i e)
          ∙ ap (λ g. g i) (sym (next_free h c)) ∙ w.1),
    ))

-- ---- by effects

module _ (h : Heap) (all : Reached h) where
  -- pointer u becomes v: what pointers held they still hold
  set_keeps : (u : ℕ) (v : Val) → Stands (ptr h u) (set h.ptrs u v) → (c : ℕ) → In (cell c) h.ptrs
      → In (cell c) (set h.ptrs u v)
  set_keeps u v s c i = ⊎_elim (λ e. s c (sym e)) (λ j. j) (set_in h.ptrs u v (cell c) i)

  set_reached : (u : ℕ) (v : Val) → Stands (ptr h u) (set h.ptrs u v) → Reached (set_ptr u v h)
  set_reached u v s c w =
      still h (set_ptr u v h) (λ d i k. from_pointer (set_keeps u v s d i)) (λ d b e k. inr e) c (all c w) w

  -- and a cell n that was not in use is taken
  make_reached : (u n : ℕ) → u < length h.ptrs → next h n ≡ unused → Stands (ptr h u) (set h.ptrs u (cell n))
      → Reached (set_ptr u (cell n) (put_slot n (holds undef) h))
  make_reached u n l f s c w =
      let g : Heap = set_ptr u (cell n) (put_slot n (holds undef) h) in
      eq-case c n (λ e. from_pointer (subst (λ x. In (cell x) g.ptrs) (sym e) (in_set h.ptrs u (cell n) l)))
      (λ e. still h g (λ d i k. from_pointer (set_keeps u (cell n) s d i))
      (λ d b q k. inr
      (next_other h n (holds undef) d (ne_eqb d n (λ z. slot-clash (ap (next h) z ∙ f) q)) ∙ q))
      c (all c (w.0, sym (next_other h n (holds undef) c e) ∙ w.1)) w)

  -- the next of cell c becomes v
  put_reached : (c : ℕ) (v : Val) → Used (next h) c → Stands (held (next h c)) h.ptrs
      → Reached (put_slot c (holds v) h)
  put_reached c v k s d w =
      still h (put_slot c (holds v) h) (λ b i q. from_pointer i)
      (λ a b e q. eq-case a c (λ z. inl (from_pointer (s b (ap held (ap (next h) (sym z) ∙ e)))))
      (λ z. inr (next_other h c (holds v) a z ∙ e)))
      d (all d (eq-case d c (λ z. subst (Used (next h)) (sym z) k)
      (λ z. (w.0, sym (next_other h c (holds v) d z) ∙ w.1)))) w

  -- cell c is freed
  free_reached : (c : ℕ) → Stands (held (next h c)) (free_cell c h).ptrs → Reached (free_cell c h)
  free_reached c s d w =
      let g : Heap = free_cell c h in
      still h g
      (λ b i q. from_pointer
      (subst (λ x. In x g.ptrs) (rw (free_used h c b q).0) (map_in (wipe c) (cell b) h.ptrs i)))
      (λ a b e q. eq-case a c (λ z. inl (from_pointer (s b (ap held (ap (next h) (sym z) ∙ e)))))
      (λ z. inr (free_other h c a b z (free_used h c b q).0 e)))
      d (all d (free_used h c d w).1) w

-- ---- by actions

-- where the effect is done and the value v stands in a pointer afterwards, every cell in use is reached
abbrev Keeps : Val → Effect → Type 0
Keeps v (done g) = Stands v g.ptrs → Reached g
Keeps v (fault f) = Unit {0}

-- the pointer that takes the cell for new
abbrev pub maker : Action → ℕ
maker stay = 0
maker (compare u s) = 0
maker (point u s) = 0
maker (follow u w) = 0
maker (link u s) = 0
maker (splice u w) = 0
maker (make u) = u
maker (release u) = 0

look_keeps : (v x : Val) (e : Effect) → Keeps v e → Keeps v (look x e)
look_keeps v (cell c) e k = k
look_keeps v null e k = k
look_keeps v undef e k = tt

module _ (h : Heap) (cl : ClosedHeap h) (all : Reached h) where
  pub action_keeps : (a : Action) (n : ℕ) → Room a h n → maker a < length h.ptrs
      → Keeps (takes a h) (perform a n h)
  action_keeps stay n r l = λ s. all
  action_keeps (compare u x) n r l = look_keeps null (ptr h u) _ (look_keeps null (value_of x h) _ (λ s. all))
  action_keeps (point u x) n r l = set_reached h all u (value_of x h)
  action_keeps (follow u w) n r l = by (ptr h w)
    where
      by : (x : Val) → Keeps (ptr h u) (through x (λ c. done (set_ptr u (held (next h c)) h)))
      by (cell c) = set_reached h all u (held (next h c))
      by null = tt
      by undef = tt
  action_keeps (link u x) n r l = by (ptr h u) (closed_ptr (next h) h.ptrs u cl.0)
    where
      by : (y : Val) → Closed (next h) y
          → Keeps (next_at h.slots y) (through y (λ c. done (put_slot c (holds (value_of x h)) h)))
      by (cell c) k = put_reached h all c (value_of x h) k
      by null k = tt
      by undef k = tt
  action_keeps (splice u w) n r l = by (ptr h w) (ptr h u) (closed_ptr (next h) h.ptrs u cl.0)
    where
      by : (z y : Val) → Closed (next h) y → Keeps (next_at h.slots y)
          (through z (λ d. through y (λ c. done (put_slot c (holds (held (next h d))) h))))
      by (cell d) (cell c) k = put_reached h all c (held (next h d)) k
      by (cell d) null k = tt
      by (cell d) undef k = tt
      by null y k = tt
      by undef y k = tt
  action_keeps (make u) n r l = make_reached h all u n l (r refl)
  action_keeps (release u) n r l = by (ptr h u)
    where
      by : (y : Val) → Keeps (next_at h.slots y) (free_val y h)
      by (cell c) = free_reached h all c
      by null = λ s. all
      by undef = tt

-- so nothing is lost where the effect is done and the value that it takes away stands in a pointer
pub effect_kept : (a : Action) (n : ℕ) (h g : Heap) → closed h ≡ true → closed g ≡ true → kept h ≡ true → Room a h n
    → maker a < length h.ptrs → perform a n h ≡ done g → Stands (takes a h) g.ptrs → Kept g
effect_kept a n h g c k e r l d s x u =
    reaches_order g (test_closed g k) x
    (subst (Keeps (takes a h)) d
    (action_keeps h (test_closed h c) ((kept_reaches h (test_closed h c)).0 e) a n r l) s x u)

-- the pointer that takes the cell, by the op's number
pub maker_op : (op u w : ℕ) → op < op_count → maker (action (op_of op u w)) ≡ cond (eqb op 6) u 0
maker_op op u w = each_op (λ o. maker (action o)) (λ n. cond (eqb n 6) u 0) u w refl op

-- A cell in use that no pointer and no next holds is lost: no walk visits it. And which cells are lost when a pointer
-- or a next is set.
use Prim.Native.Nat.{ℕ, zero, suc, ◌<◌}
use mathlib.Core.Path.{◌≡◌, refl, sym, ap, subst, ◌∙◌}
use mathlib.Core.Logic.{inl, inr}
use mathlib.Core.Bool.{cond, false}
use mathlib.Core.List.{List, [], ◌∷◌, ◌++◌}
use native.Mathlib.Omega.{arith}
use lib.Dec.{eqb}
use lib.ListN.{get_or, length, set}
use borrow.Author.Tests.{eqb-false, ne_eqb}
use Rattle.model.specs.Base.{mem}
use Rattle.model.specs.Heap.{Heap, Slot, Val, cell, holds, kept, next, null, order, ptr, tour, undef, unused, walk}
use Rattle.model.specs.Machine.{done, fault, free_cell, held, keep, leak, put_slot, set_ptr, wipe, wipe_slot}
use Rattle.model.specs.Edges.{split_heap}
use Rattle.model.proofs.expansion.Changes.{freed}
use Rattle.model.proofs.expansion.Effects.{next_free, next_put}
use Rattle.model.proofs.expansion.Facts.{test_kept}
use Rattle.model.specs.Notions.{In, upd, Closed, ClosedHeap, Used}
use Rattle.model.proofs.lists.Lists.{in_get_or_lem, in_map}
use Rattle.model.proofs.lists.Logic.{bool_case, clash, eq-case, mem_append, not-true}
use Rattle.model.proofs.visits.Order.{used_below}
use Rattle.model.proofs.visits.Walks.{closed_in}
use Rattle.model.proofs.expansion.Writes.{holds_inj, slot-clash, upd-at, upd-off}
use Rattle.model.proofs.expansion.Splits.{next_split, put_used, still_used, tail_in}

-- ---- the walks

abbrev pub NoNext : (ℕ → Slot) → ℕ → Type 0
NoNext nx c = (b : ℕ) → nx b ≡ holds (cell c) → ⊥

module _ (nx : ℕ → Slot) (c : ℕ) (none : NoNext nx c) where
  walk_misses : (f : ℕ) (s : List ℕ) (v : Val) → mem c s ≡ false → (cell c ≡ v → ⊥) → mem c (walk nx f s v) ≡ false
  walk_misses zero s v m d = m
  walk_misses (suc f) s null m d = m
  walk_misses (suc f) s undef m d = m
  walk_misses (suc f) s (cell b) m d =
      bool_case (mem b s) (λ e. rw (e, walk) m)
      (λ e. rw (e, walk) (by_slot (nx b) refl (λ w q. walk_misses f (s ++ b ∷ []) w more
      (λ i. none b (q ∙ ap holds (sym i))))))
    where
      more : mem c (s ++ b ∷ []) ≡ false
      more = mem_append c s (b ∷ []) ∙ rw (m, ne_eqb c b (λ e. d (ap cell e)))

      by_slot : (x : Slot) → nx b ≡ x → ((w : Val) → nx b ≡ holds w → mem c (walk nx f (s ++ b ∷ []) w) ≡ false)
          → mem c (elim (nx b) [ unused ↦ s | holds w ↦ walk nx f (s ++ b ∷ []) w ]) ≡ false
      by_slot unused q g = rw (q, walk) m
      by_slot (holds w) q g = rw (q, walk) (g w q)

  tour_misses : (f : ℕ) (s : List ℕ) (vs : List Val) → mem c s ≡ false → (In (cell c) vs → ⊥) → mem c (tour nx f s vs)
      ≡ false
  tour_misses f s [] m d = m
  tour_misses f s (v ∷ vs) m d = tour_misses f (walk nx f s v) vs (walk_misses f s v m (λ e. d (inl e)))
      (λ i. d (inr i))

pub unheld_leaks : (h : Heap) (c : ℕ) → Used (next h) c → (In (cell c) h.ptrs → ⊥) → NoNext (next h) c
    → keep (done h) ≡ fault leak
unheld_leaks h c u p q =
    let lost : mem c (order h) ≡ false = tour_misses (next h) c q (length h.slots) [] h.ptrs refl p in
    ap (λ b. cond b (done h) (fault leak)) (not-true (kept h) (λ e. clash (test_kept h e c u) lost))

-- cell c is held by the next of cell b, and by nothing else
pub record Only (h : Heap) (b c : ℕ) : Type 0 where
  pub used : Used (next h) c
  pub pointers : In (cell c) h.ptrs → ⊥
  pub nexts : (i : ℕ) → next h i ≡ holds (cell c) → i ≡ b

-- it is lost where that next becomes another value
pub only_leaks : (h : Heap) (b c : ℕ) → Only h b c → (x : Val) → (x ≡ cell c → ⊥)
    → keep (done (put_slot b (holds x) h)) ≡ fault leak
only_leaks h b c o x d =
    let none : NoNext (upd (next h) b (holds x)) c =
    λ i e. eq-case i b (λ q. d (holds_inj (sym (upd-at (next h) b (holds x) i q) ∙ e)))
    (λ q. eqb-false i b q (o.nexts i (sym (upd-off (next h) b (holds x) i q) ∙ e))) in
    unheld_leaks (put_slot b (holds x) h) c (put_used h b c x o.used) o.pointers
    (subst (λ nx. NoNext nx c) (sym (next_put h b (holds x))) none)

-- the next of another cell is another value
pub other_leaks : (h : Heap) (b c d : ℕ) → Only h b c → Used (next h) d → (d ≡ b → ⊥)
    → keep (done (put_slot b (holds (held (next h d))) h)) ≡ fault leak
other_leaks h b c d o u ne =
    rw u.1 (only_leaks h b c o u.0 (λ e. ne (o.nexts d (u.1 ∙ ap holds e))))

-- ---- the tail of a split

cell-clash {ℓ} : {C : Type ℓ} {c : ℕ} {v : Val} → cell c ≡ v → v ≡ undef → C
cell-clash {c} {v} e q = absurd (let z : ◌≡◌ {A = ℕ} 0 1 = cc in omega arith)

wipe_back : (n c : ℕ) (x : Val) → cell c ≡ wipe n x → cell c ≡ x
wipe_back n c (cell d) e = bool_case (eqb d n) (λ q. cell-clash (rw q at e) refl) (λ q. rw q at e)
wipe_back n c null e = e
wipe_back n c undef e = e

wipe_slot_back : (n c : ℕ) (s : Slot) → wipe_slot n s ≡ holds (cell c) → s ≡ holds (cell c)
wipe_slot_back n c unused e = e
wipe_slot_back n c (holds x) e = ap holds (sym (wipe_back n c x (sym (holds_inj e))))

-- what a cell of a split heap holds: the head the tail, any other what some cell held before
split_cases : {C : Type 0} (h : Heap) (n b : ℕ) (x : Val) → next (split_heap n (length h.slots) h) b ≡ holds x
    → (b ≡ n → x ≡ cell (length h.slots) → C) → ((d : ℕ) → next h d ≡ holds x → C) → C
split_cases h n b x e f g =
    let k = length h.slots in
    let q = subst (λ nx. nx b ≡ holds x) (next_split n k h) e in
    eq-case b n (λ d. f d (holds_inj (sym q ∙ upd-at (upd (next h) k (next h n)) n (holds (cell k)) b d)))
    (λ d. let a = sym (upd-off (upd (next h) k (next h n)) n (holds (cell k)) b d) ∙ q in
    eq-case b k (λ i. g n (sym (upd-at (next h) k (next h n) b i) ∙ a))
    (λ i. g b (sym (upd-off (next h) k (next h n) b i) ∙ a)))

module _ (h : Heap) (cl : ClosedHeap h) (n : ℕ) (u : Used (next h) n) where
  abbrev k : ℕ
  k = length h.slots

  not_used : Used (next h) k → ⊥
  not_used w = omega (arith, used_below h.slots k w)

  head_other : eqb k n ≡ false
  head_other = ne_eqb k n (λ e. omega (arith, used_below h.slots n u))

  no_pointer : In (cell k) h.ptrs → ⊥
  no_pointer i = not_used (closed_in (next h) h.ptrs (cell k) cl.0 i)

  no_next : NoNext (next h) k
  no_next b e = not_used (cl.1 b (cell k) e)

  -- the head's next alone holds it
  split_off : (b : ℕ) → eqb b n ≡ false → next (split_heap n k h) b ≡ holds (cell k) → ⊥
  split_off b d e = split_cases h n b (cell k) e (λ q i. eqb-false b n d q) no_next

  tail_in_use : Used (next (split_heap n k h)) k
  tail_in_use = subst (λ nx. Used nx k) (sym (next_split n k h)) (tail_in (next h) n k u)

  -- the head alone holds the tail
  pub split_only : Only (split_heap n k h) n k
  split_only = record {
    used = tail_in_use;
    pointers = no_pointer;
    nexts = λ b e. eq-case b n (λ q. q) (λ q. absurd (split_off b q e));
  }

  pub write_leaks : (x : Val) → Closed (next h) x → keep (done (put_slot n (holds x) (split_heap n k h))) ≡ fault leak
  write_leaks x q = only_leaks (split_heap n k h) n k split_only x (λ e. not_used (subst (Closed (next h)) e q))

  pub free_leaks : keep (done (free_cell n (split_heap n k h))) ≡ fault leak
  free_leaks =
      let H = split_heap n k h in
      let nx : ℕ → Slot = λ j. wipe_slot n (next H j) in
      let none : NoNext (freed (next H) n) k =
      λ b e. eq-case b n (λ d. slot-clash (upd-at nx n unused b d) e)
      (λ d. split_off b d (wipe_slot_back n k (next H b) (sym (upd-off nx n unused b d) ∙ e))) in
      let w = tail_in_use in
      unheld_leaks (free_cell n H) k
      (subst (λ f. Used f k) (sym (next_free H n)) (
        wipe n w.0,
        upd-off nx n unused k head_other
            ∙ ap (wipe_slot n) w.1,
      ))
      (λ i. let r = in_map (wipe n) (cell k) h.ptrs i in
      no_pointer (subst (λ x. In x h.ptrs) (sym (wipe_back n k r.0 r.2)) r.1))
      (subst (λ f. NoNext f k) (sym (next_free H n)) none)

-- ---- a cell that one pointer alone holds

set_misses : (vs : List Val) (u : ℕ) (x : Val) (c : ℕ) → (cell c ≡ x → ⊥)
    → ((i : ℕ) → i < length vs → get_or vs i undef ≡ cell c → i ≡ u)
    → In (cell c) (set vs u x) → ⊥
set_misses [] u x c d al i = i
set_misses (y ∷ vs) zero x c d al (inl e) = d e
set_misses (y ∷ vs) zero x c d al (inr i) = let r = in_get_or_lem vs undef (cell c) i in
    omega (arith, al (suc r.0) (omega arith) r.2)
set_misses (y ∷ vs) (suc u) x c d al (inl e) = omega (arith, al 0 (omega arith) (sym e))
set_misses (y ∷ vs) (suc u) x c d al (inr i) =
    set_misses vs u x c d (λ j lt q. omega (arith, al (suc j) (omega arith) q)) i

module _ (H : Heap) (u c : ℕ) (w : Used (next H) c) (alone : (i : ℕ) → i < length H.ptrs → ptr H i ≡ cell c → i
    ≡ u) (none : NoNext (next H) c) where
  pub set_leaks : (x : Val) → (cell c ≡ x → ⊥) → keep (done (set_ptr u x H)) ≡ fault leak
  set_leaks x d = unheld_leaks (set_ptr u x H) c w (set_misses H.ptrs u x c d alone) none

  pub held_other : (b : ℕ) → cell c ≡ held (next H b) → ⊥
  held_other b e = by_slot (next H b) refl e
    where
      by_slot : (s : Slot) → next H b ≡ s → cell c ≡ held s → ⊥
      by_slot unused q e = cell-clash e refl
      by_slot (holds v) q e = none b (q ∙ ap holds (sym e))

  pub new_leaks : (k : ℕ) → c < k → keep (done (set_ptr u (cell k) (put_slot k (holds undef) H))) ≡ fault leak
  new_leaks k lt =
      let H' = put_slot k (holds undef) H in
      let empty : NoNext (upd (next H) k (holds undef)) c =
      λ b e. eq-case b k (λ d. cell-clash (sym (holds_inj (sym (upd-at (next H) k (holds undef) b d) ∙ e))) refl)
      (λ d. none b (sym (upd-off (next H) k (holds undef) b d) ∙ e)) in
      unheld_leaks (set_ptr u (cell k) H') c (put_used H k c undef w)
      (set_misses H.ptrs u (cell k) c (λ e. let z : c ≡ k = cc in omega arith) alone)
      (subst (λ nx. NoNext nx c) (sym (next_put H k (holds undef))) empty)

-- splitting a node makes no other cell be held
pub split_none : (h : Heap) (n c : ℕ) → c < length h.slots → NoNext (next h) c
    → NoNext (next (split_heap n (length h.slots) h)) c
split_none h n c lt none b e =
    split_cases h n b (cell c) e (λ i q. let z : c ≡ length h.slots = cc in omega arith) none

pub split_used : (h : Heap) (n c : ℕ) → Used (next h) n → Used (next h) c
    → Used (next (split_heap n (length h.slots) h)) c
split_used h n c u w = subst (λ nx. Used nx c) (sym (next_split n (length h.slots) h))
    (still_used (next h) n (length h.slots) u c w)

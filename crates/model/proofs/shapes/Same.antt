-- The tests of equality are right: what they call the same is equal, and each thing is the same as itself. The first
-- place where a test passes, and elements by their places.
use Prim.Native.Nat.{◌<◌, ◌≤◌, suc, zero, ℕ}
use mathlib.Core.Path.{◌∙◌, ◌≡◌, ap, ap₂, refl, subst, sym}
use mathlib.Core.Logic.{inl, inr, ⊎_elim}
use mathlib.Core.Option.{none, some}
use mathlib.Core.Bool.{Bool, false, true}
use mathlib.Core.List.{List, [], ◌++◌, ◌∷◌, append_assoc, append-nil, map}
use native.Mathlib.Omega.{arith}
use lib.Dec.{eqb, ltb}
use lib.ListN.{get_or-append, get_or, get_elem?, length, length-append}
use borrow.Author.Tests.{eqb-true, le-ltb, lt-ltb}
use Rattle.model.specs.Base.{any, place_of, same_list}
use Rattle.model.specs.Edges.{Loc, at, failed, same_loc}
use Rattle.model.specs.Heap.{Heap, Slot, Val, cell, holds, null, same_heap, same_slot, same_val, undef, unused}
use Rattle.model.specs.Machine.{Fault, at_null, at_undef, fault_number, leak}
use Rattle.model.specs.Notions.{Distinct, In}
use Rattle.model.proofs.lists.Lists.{get_or_in_lem, in-append-cases, in_append_l, in_map, some_inj, some-none}
use Rattle.model.proofs.lists.Logic.{and_both, and_l, and_r, bool_case, clash, eqb_same, or_false_l, or_false_r}

pub val_same : (v w : Val) → same_val v w ≡ true → v ≡ w
val_same (cell c) (cell d) e = ap cell (eqb-true c d e)
val_same (cell c) null e = clash e refl
val_same (cell c) undef e = clash e refl
val_same null (cell d) e = clash e refl
val_same null null e = refl
val_same null undef e = clash e refl
val_same undef (cell d) e = clash e refl
val_same undef null e = clash e refl
val_same undef undef e = refl

pub same_val_refl : (v : Val) → same_val v v ≡ true
same_val_refl (cell c) = eqb_same c
same_val_refl null = refl
same_val_refl undef = refl

pub slot_same : (s t : Slot) → same_slot s t ≡ true → s ≡ t
slot_same unused unused e = refl
slot_same unused (holds w) e = clash e refl
slot_same (holds v) unused e = clash e refl
slot_same (holds v) (holds w) e = ap holds (val_same v w e)

pub same_slot_refl : (s : Slot) → same_slot s s ≡ true
same_slot_refl unused = refl
same_slot_refl (holds v) = same_val_refl v

-- lists, given the same of the test of elements
pub list_same : {A : Type 0} (p : A → A → Bool) → ((x y : A) → p x y ≡ true → x ≡ y) → (l m : List A) → same_list p l m
    ≡ true → l ≡ m
list_same p h [] [] e = refl
list_same p h [] (y ∷ m) e = clash e refl
list_same p h (x ∷ l) [] e = clash e refl
list_same p h (x ∷ l) (y ∷ m) e = ap₂ ◌∷◌ (h x y (and_l (p x y) (same_list p l m) e))
    (list_same p h l m (and_r (p x y) (same_list p l m) e))

pub same_list_refl : {A : Type 0} (p : A → A → Bool) → ((x : A) → p x x ≡ true) → (l : List A) → same_list p l l ≡ true
same_list_refl p h [] = refl
same_list_refl p h (x ∷ l) = and_both (p x x) (same_list p l l) (h x) (same_list_refl p h l)

pub bytes_same : (a b : List ℕ) → same_list eqb a b ≡ true → a ≡ b
bytes_same = list_same eqb eqb-true

pub same_bytes_refl : (a : List ℕ) → same_list eqb a a ≡ true
same_bytes_refl = same_list_refl eqb eqb_same

pub heap_same : (h g : Heap) → same_heap h g ≡ true → h ≡ g
heap_same h g e =
    let p = list_same same_val val_same h.ptrs g.ptrs
    (and_l (same_list same_val h.ptrs g.ptrs) (same_list same_slot h.slots g.slots) e) in
    let q = list_same same_slot slot_same h.slots g.slots
    (and_r (same_list same_val h.ptrs g.ptrs) (same_list same_slot h.slots g.slots) e) in
    λ i. record { ptrs = p i; slots = q i }

pub same_heap_refl : (h : Heap) → same_heap h h ≡ true
same_heap_refl h = and_both (same_list same_val h.ptrs h.ptrs) (same_list same_slot h.slots h.slots)
    (same_list_refl same_val same_val_refl h.ptrs) (same_list_refl same_slot same_slot_refl h.slots)

-- faults, by their numbers
pub fault_same : (f g : Fault) → eqb (fault_number f) (fault_number g) ≡ true → f ≡ g
fault_same at_null at_null e = refl
fault_same at_null at_undef e = clash e refl
fault_same at_null leak e = clash e refl
fault_same at_undef at_null e = clash e refl
fault_same at_undef at_undef e = refl
fault_same at_undef leak e = clash e refl
fault_same leak at_null e = clash e refl
fault_same leak at_undef e = clash e refl
fault_same leak leak e = refl

pub loc_same : (a b : Loc) → same_loc a b ≡ true → a ≡ b
loc_same (at s h) (at t g) e =
    ap₂ at (eqb-true s t (and_l (eqb s t) (same_heap h g) e)) (heap_same h g (and_r (eqb s t) (same_heap h g) e))
loc_same (at s h) (failed t f) e = clash e refl
loc_same (failed s f) (at t g) e = clash e refl
loc_same (failed s f) (failed t g) e =
    let k = eqb (fault_number f) (fault_number g) in
    ap₂ failed (eqb-true s t (and_l (eqb s t) k e)) (fault_same f g (and_r (eqb s t) k e))

pub same_loc_refl : (a : Loc) → same_loc a a ≡ true
same_loc_refl (at s h) = and_both (eqb s s) (same_heap h h) (eqb_same s) (same_heap_refl h)
same_loc_refl (failed s f) = and_both (eqb s s) (eqb (fault_number f) (fault_number f)) (eqb_same s)
    (eqb_same (fault_number f))

-- ---- the first place where a test passes

pub place_le : {A : Type 0} (p : A → Bool) (l : List A) → place_of p l ≤ length l
place_le p [] = omega arith
place_le p (x ∷ l) = let h = place_le p l in bool_case (p x) (λ e. rw e (omega arith)) (λ e. rw e (omega arith))

-- the place is below the length exactly where the test passes somewhere
pub place_found : {A : Type 0} (p : A → Bool) (l : List A) → any p l ≡ true → place_of p l < length l
place_found p [] h = clash h refl
place_found p (x ∷ l) h = bool_case (p x) (λ e. rw e (omega arith)) (λ e. let k = place_found p l (rw e at h) in
    rw e (omega arith))

pub place_none : {A : Type 0} (p : A → Bool) (l : List A) → any p l ≡ false → place_of p l ≡ length l
place_none p [] h = refl
place_none p (x ∷ l) h = rw (or_false_l (p x) (any p l) h) (ap suc (place_none p l (or_false_r (p x) (any p l) h)))

pub place_test : {A : Type 0} (p : A → Bool) (l : List A) → ltb (place_of p l) (length l) ≡ any p l
place_test p l = bool_case (any p l) (λ e. lt-ltb (place_of p l) (length l) (place_found p l e) ∙ sym e)
    (λ e. le-ltb (place_of p l) (length l) (let k = place_none p l e in omega arith) ∙ sym e)

pub place_passes : {A : Type 0} (p : A → Bool) (l : List A) (d : A) → place_of p l < length l
    → p (get_or l (place_of p l) d) ≡ true
place_passes p [] d h = absurd (omega arith)
place_passes p (x ∷ l) d h = bool_case (p x) (λ e. rw e e) (λ e. let k = rw e at h in
    rw e (place_passes p l d (omega arith)))

pub place_append : {A : Type 0} (p : A → Bool) (l m : List A) → place_of p l < length l → place_of p (l ++ m)
    ≡ place_of p l
place_append p [] m h = absurd (omega arith)
place_append p (x ∷ l) m h = bool_case (p x) (λ e. rw e) (λ e. let k = rw e at h in
    rw e (ap suc (place_append p l m (omega arith))))

pub place_snoc : {A : Type 0} (p : A → Bool) (l : List A) (x : A) → any p l ≡ false → p x ≡ true
    → place_of p (l ++ x ∷ []) ≡ length l
place_snoc p [] x h e = rw e
place_snoc p (y ∷ l) x h e = rw (or_false_l (p y) (any p l) h)
    (ap suc (place_snoc p l x (or_false_r (p y) (any p l) h) e))

-- ---- elements by their places

pub distinct_at : {A : Type 0} (l : List A) (d : A) (i j : ℕ) → Distinct l → i < length l → j < length l → get_or l i d
    ≡ get_or l j d → i ≡ j
distinct_at [] d i j k h h' e = absurd (omega arith)
distinct_at (x ∷ l) d zero zero k h h' e = refl
distinct_at (x ∷ l) d zero (suc j) k h h' e =
    absurd (k.0 (subst (λ z. In z l) (sym e) (get_or_in_lem l d j (omega arith))))
distinct_at (x ∷ l) d (suc i) zero k h h' e = absurd (k.0 (subst (λ z. In z l) e (get_or_in_lem l d i (omega arith))))
distinct_at (x ∷ l) d (suc i) (suc j) k h h' e = ap suc (distinct_at l d i j k.1 (omega arith) (omega arith) e)

pub distinct_map : {A B : Type 0} (f : A → B) (l : List A) → ((x y : A) → In x l → In y l → f x ≡ f y → x ≡ y)
    → Distinct l → Distinct (map f l)
distinct_map f [] h d = tt
distinct_map f (x ∷ l) h d = (
  (λ i. let r = in_map f (f x) l i in d.0 (subst (λ z. In z l) (sym (h x r.0 (inl refl) (inr r.1) r.2))
      r.1)),
  distinct_map f l (λ y z i j. h y z (inr i) (inr j)) d.1,
)

pub distinct_snoc : {A : Type 0} (l : List A) (x : A) → Distinct l → (In x l → ⊥) → Distinct (l ++ x ∷ [])
distinct_snoc [] x k h = ((λ z. z), tt)
distinct_snoc (y ∷ l) x k h = (
  (λ z. in-append-cases y l (x ∷ []) z k.0 (λ w. ⊎_elim (λ (e : y ≡ x). h (inl (sym e))) (λ (b : ⊥). b) w)),
  distinct_snoc l x k.1 (λ z. h (inr z)),
)

-- the second list begins with the first
abbrev pub Prefix : {A : Type 0} → List A → List A → Type 0
Prefix {A} l m = (k : List A) × (m ≡ l ++ k)

pub prefix_refl : {A : Type 0} (l : List A) → Prefix l l
prefix_refl l = ([], sym (append-nil l))

pub prefix_trans : {A : Type 0} (l m n : List A) → Prefix l m → Prefix m n → Prefix l n
prefix_trans l m n p q = (p.0 ++ q.0, q.1 ∙ ap (λ z. z ++ q.0) p.1 ∙ append_assoc l p.0 q.0)

pub prefix_length : {A : Type 0} (l m : List A) → Prefix l m → length l ≤ length m
prefix_length l m p = rw (p.1, length-append l p.0) (omega arith)

pub prefix_get_or_lem : {A : Type 0} (l m : List A) (d : A) (i : ℕ) → Prefix l m → i < length l → get_or m i d
    ≡ get_or l i d
prefix_get_or_lem l m d i p h = ap (λ z. get_or z i d) p.1 ∙ get_or-append l p.0 d i h

pub prefix_place : {A : Type 0} (p : A → Bool) (l m : List A) → Prefix l m → place_of p l < length l → place_of p m
    ≡ place_of p l
prefix_place p l m q h = ap (place_of p) q.1 ∙ place_append p l q.0 h

pub prefix_in : {A : Type 0} (l m : List A) (x : A) → Prefix l m → In x l → In x m
prefix_in l m x p h = rw p.1 (in_append_l x l p.0 h)

pub elem_none : {A : Type 0} (l : List A) (i : ℕ) → length l ≤ i → get_elem? l i ≡ none
elem_none [] i h = refl
elem_none (x ∷ l) zero h = absurd (omega arith)
elem_none (x ∷ l) (suc i) h = elem_none l i (omega arith)

pub elem_some : {A : Type 0} (l : List A) (i : ℕ) (d : A) → i < length l → get_elem? l i ≡ some (get_or l i d)
elem_some [] i d h = absurd (omega arith)
elem_some (x ∷ l) zero d h = refl
elem_some (x ∷ l) (suc i) d h = elem_some l i d (omega arith)

pub elem_in : {A : Type 0} (l : List A) (i : ℕ) (x : A) → get_elem? l i ≡ some x → In x l
elem_in [] i x e = some-none (sym (elem_none [] i (omega arith)) ∙ e)
elem_in (y ∷ l) zero x e = inl (sym (some_inj e))
elem_in (y ∷ l) (suc i) x e = inr (elem_in l i x e)

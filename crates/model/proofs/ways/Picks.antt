-- What an entry's pick and cell decide, and which entries make a step.
use Prim.Native.Nat.{◌≤◌, suc, zero, ℕ}
use mathlib.Core.Path.{◌≡◌, refl, subst, sym}
use mathlib.Core.Logic.{inl, inr}
use mathlib.Core.Option.{some}
use mathlib.Core.Bool.{Bool, false, true}
use native.Mathlib.Omega.{arith}
use borrow.Author.Tests.{le-leb, leb-true}
use Rattle.model.specs.Edges.{picks_of}
use Rattle.model.specs.Heap.{Heap, in_use, next, ptr, same_val, unused}
use Rattle.model.specs.Machine.{Action, Entry, Kind, Op, Stmt, accepts, accepts_cell, accepts_pick, action, acts, branch_by, drops, halts, tests, is_stop, kind, makes, picks, step, test, value_of}
use Rattle.model.specs.Notions.{In, Room}
use Rattle.model.specs.Runs.{Advance, State, made}
use Rattle.model.proofs.expansion.Facts.{unused_of}
use Rattle.model.proofs.lists.Lists.{some-none}
use Rattle.model.proofs.lists.Logic.{and_both, and_l, and_r, bool_case, clash}

-- ---- picks

pub kind-case {ℓ} : {C : Type ℓ} (k : Kind) → (k ≡ picks → C) → ((k ≡ picks → ⊥) → C) → C
kind-case halts f g = g (λ e. let z : ◌≡◌ {A = ℕ} 0 1 = cc in omega arith)
kind-case (acts a) f g = g (λ e. let z : ◌≡◌ {A = ℕ} 0 1 = cc in omega arith)
kind-case (drops u) f g = g (λ e. let z : ◌≡◌ {A = ℕ} 0 1 = cc in omega arith)
kind-case (tests u s) f g = g (λ e. let z : ◌≡◌ {A = ℕ} 0 1 = cc in omega arith)
kind-case picks f g = f refl

-- a statement that does not choose has a branch of its own
pub branch_pick : (k : Kind) (p q : ℕ) (h : Heap) → (k ≡ picks → ⊥) → branch_by k p h ≡ branch_by k q h
branch_pick halts p q h n = refl
branch_pick (acts a) p q h n = refl
branch_pick (drops u) p q h n = refl
branch_pick (tests u s) p q h n = refl
branch_pick picks p q h n = absurd (n refl)

-- a branch is 0 or 1
test_low : (b : Bool) → test b ≤ 1
test_low true = omega arith
test_low false = omega arith

pub branch_low : (k : Kind) (p : ℕ) (h : Heap) → p ≤ 1 → branch_by k p h ≤ 1
branch_low halts p h l = omega arith
branch_low (acts a) p h l = omega arith
branch_low (drops u) p h l = omega arith
branch_low (tests u s) p h l = test_low (same_val (ptr h u) (value_of s h))
branch_low picks p h l = l

pub pick_low : (k : Kind) (p : ℕ) → In p (picks_of k) → p ≤ 1
pick_low halts p (inl e) = omega arith
pick_low halts p (inr x) = absurd x
pick_low (acts a) p (inl e) = omega arith
pick_low (acts a) p (inr x) = absurd x
pick_low (drops u) p (inl e) = omega arith
pick_low (drops u) p (inr x) = absurd x
pick_low (tests u s) p (inl e) = omega arith
pick_low (tests u s) p (inr x) = absurd x
pick_low picks p (inl e) = omega arith
pick_low picks p (inr (inl e)) = omega arith
pick_low picks p (inr (inr x)) = absurd x

-- a pick of the list that an accepted one stands for
abbrev Stands : Kind → ℕ → Type 0
Stands k n = (p : ℕ) × In p (picks_of k) × (k ≡ picks → n ≡ p)

first_pick : (k : Kind) → In 0 (picks_of k)
first_pick halts = inl refl
first_pick (acts x) = inl refl
first_pick (drops u) = inl refl
first_pick (tests u s) = inl refl
first_pick picks = inl refl

pub pick_in : (k : Kind) (n : ℕ) → accepts_pick k n ≡ true → Stands k n
pick_in k n a =
    kind-case k (λ e. subst (λ x. Stands x n) (sym e) (two n (leb-true n 1 (subst (λ x. accepts_pick x n ≡ true) e a))))
    (λ ne. (0, first_pick k, λ e. absurd (ne e)))
  where
    two : (m : ℕ) → m ≤ 1 → Stands picks m
    two zero le = (0, inl refl, λ e. refl)
    two (suc zero) le = (1, inr (inl refl), λ e. refl)
    two (suc (suc m)) le = absurd (omega arith)

low_pick : (k : Kind) (p : ℕ) → (k ≡ picks → p ≤ 1) → accepts_pick k p ≡ true
low_pick halts p l = refl
low_pick (acts a) p l = refl
low_pick (drops u) p l = refl
low_pick (tests u s) p l = refl
low_pick picks p l = le-leb p 1 (l refl)

-- ---- cells for new

cell_room : (a : Action) (h : Heap) (c : ℕ) → accepts_cell a (next h c) ≡ true → Room a h c
cell_room a h c e m =
    bool_case (in_use (next h c)) (λ z. clash (rw (m, z) at e) refl) (λ z. unused_of (next h c) z)

room_cell : (a : Action) (h : Heap) (c : ℕ) → Room a h c → accepts_cell a (next h c) ≡ true
room_cell a h c r = bool_case (makes a) (λ m. rw (m, r m)) (λ m. rw m)

pub room_of : (a : Action) (h : Heap) (c : ℕ) → next h c ≡ unused → Room a h c
room_of a h c e m = e

-- ---- accepted entries

pub accept_pick : (op : Op) (e : Entry) (h : Heap) → accepts op e h ≡ true → accepts_pick (kind op) e.pick ≡ true
accept_pick op e h a = and_l (accepts_pick (kind op) e.pick) (accepts_cell (action op) (next h e.cell_no)) a

pub room_accept : (op : Op) (e : Entry) (h : Heap) → accepts op e h ≡ true → Room (action op) h e.cell_no
room_accept op e h a =
    cell_room (action op) h e.cell_no (and_r (accepts_pick (kind op) e.pick)
    (accepts_cell (action op) (next h e.cell_no)) a)

pub accept_room : (op : Op) (e : Entry) (h : Heap) → Room (action op) h e.cell_no → (kind op ≡ picks → e.pick ≤ 1)
    → accepts op e h ≡ true
accept_room op e h r l =
    and_both (accepts_pick (kind op) e.pick) (accepts_cell (action op) (next h e.cell_no))
    (low_pick (kind op) e.pick l)
    (room_cell (action op) h e.cell_no r)

-- only an accepted entry at a statement that is no stop makes a step
pub made_goes : (q : State) (st : Stmt) (e : Entry) (h : Heap) (x : Advance State) → made q (step st e h) ≡ some x
    → (is_stop (kind st.op) ≡ false) × (accepts st.op e h ≡ true)
made_goes q st e h x m =
    bool_case (accepts st.op e h)
    (λ a. bool_case (is_stop (kind st.op)) (λ s. some-none (rw (a, s) at m)) (λ s. (s, a)))
    (λ a. some-none (rw a at m))

-- Tests: a fault where a value that is looked at is undefined, else the heap as it is.
use Prim.Native.Nat.{ℕ}
use mathlib.Core.Path.{◌≡◌, ◌∙◌, ap, refl, sym}
use mathlib.Core.Bool.{Bool, cond, false, true}
use mathlib.Core.List.{[], ◌∷◌, map}
use mathlib.Core.Logic.{◌⊎◌, inl, inr}
use native.Mathlib.Omega.{arith}
use lib.ListN.{length}
use Rattle.model.specs.Base.{joined}
use Rattle.model.specs.Edges.{edge_by, edges_at, failed, step_by, view, ways_of, whole}
use Rattle.model.specs.Heap.{Heap, Val, cell, kept, null, ptr, same_val, undef}
use Rattle.model.specs.Machine.{Effect, Entry, Kind, Source, Stmt, action_of, answer_of, at_undef, done, fault, faulted, keep, kind, leak, look, step, test, tests, value_of, went}
use Rattle.model.proofs.expansion.Step.{step_as_lem}
use Rattle.model.proofs.lists.Logic.{bool_case, not-true}
use Rattle.model.proofs.shapes.Same.{same_val_refl, val_same}

-- a value that is not undefined is passed
pub look_past : (v : Val) (e : Effect) → (v ≡ undef → ⊥) → look v e ≡ e
look_past (cell c) e n = refl
look_past null e n = refl
look_past undef e n = absurd (n refl)

-- the same fault comes later
pub look_undef : (v : Val) → look v (fault at_undef) ≡ fault at_undef
look_undef (cell c) = refl
look_undef null = refl
look_undef undef = refl

look_either : (v w : Val) (e : Effect) → (v ≡ undef) ⊎ (w ≡ undef) → look v (look w e) ≡ fault at_undef
look_either v w e (inl p) = rw p
look_either v w e (inr p) = rw p (look_undef v)

undef-case {ℓ} : {C : Type ℓ} (v : Val) → (v ≡ undef → C) → ((v ≡ undef → ⊥) → C) → C
undef-case (cell c) f g = g (λ e. let z : ◌≡◌ {A = ℕ} 0 1 = cc in omega arith)
undef-case null f g = g (λ e. let z : ◌≡◌ {A = ℕ} 0 1 = cc in omega arith)
undef-case undef f g = f refl

module _ (st : Stmt) (u : ℕ) (s : Source) (k : kind st.op ≡ tests u s) where
  module _ (e : Entry) (h : Heap) where
    abbrev turn : ℕ
    turn = test (same_val (ptr h u) (value_of s h))

    -- every entry is accepted, and the step is the comparison
    step_is : step st e h ≡ answer_of st turn (keep (look (ptr h u) (look (value_of s h) (done h))))
    step_is = step_as_lem st e h (tests u s) k

    pub test_faults : (ptr h u ≡ undef) ⊎ (value_of s h ≡ undef) → step st e h ≡ faulted at_undef
    test_faults q =
        step_is ∙ ap (λ x. answer_of st turn (keep x)) (look_either (ptr h u) (value_of s h) (done h) q)

    -- without an undefined value the heap stays
    step_on : (ptr h u ≡ undef → ⊥) → (value_of s h ≡ undef → ⊥)
        → step st e h ≡ answer_of st turn (cond (kept h) (done h) (fault leak))
    step_on n m =
        step_is ∙ ap (λ x. answer_of st turn (keep x))
        (look_past (ptr h u) (look (value_of s h) (done h)) n ∙ look_past (value_of s h) (done h) m)

    pub faults_test : step st e h ≡ faulted at_undef → (ptr h u ≡ undef) ⊎ (value_of s h ≡ undef)
    faults_test q =
        undef-case (ptr h u) inl
        (λ n. undef-case (value_of s h) inr
        (λ m. absurd (other (sym (step_on n m) ∙ q))))
      where
        other : answer_of st turn (cond (kept h) (done h) (fault leak)) ≡ faulted at_undef → ⊥
        other = bool_case (kept h) (λ p. rw p (λ z. let y : ◌≡◌ {A = ℕ} 0 1 = cc in omega arith))
            (λ p. rw p (λ z. let y : ◌≡◌ {A = ℕ} 0 1 = cc in omega arith))

    module _ (n : ptr h u ≡ undef → ⊥) (m : value_of s h ≡ undef → ⊥) (all : kept h ≡ true) where
      goes : (b : Bool) → same_val (ptr h u) (value_of s h) ≡ b → step st e h ≡ answer_of st (test b) (done h)
      goes b q =
          step_on n m ∙ ap (λ t. answer_of st turn (cond t (done h) (fault leak))) all
          ∙ ap (λ t. answer_of st (test t) (done h)) q

      pub test_true : ptr h u ≡ value_of s h → step st e h ≡ went 0 st.first_target h
      test_true q = goes true (ap (λ v. same_val v (value_of s h)) q ∙ same_val_refl (value_of s h))

      pub test_false : (ptr h u ≡ value_of s h → ⊥) → step st e h ≡ went 1 st.second_target h
      test_false q =
          goes false (not-true (same_val (ptr h u) (value_of s h)) (λ t. q (val_same (ptr h u) (value_of s h) t)))

  -- one edge, to the fault
  pub test_edge : (i : ℕ) (h : Heap) → (ptr h u ≡ undef) ⊎ (value_of s h ≡ undef)
      → edges_at i st h ≡ record { branch_no = 0; guards = []; to = failed i at_undef; updates = [] } ∷ []
  test_edge i h q =
      let n = length h.slots in
      ap (λ (c : Kind). joined (map (λ y. edge_by i n y (step_by st n y)) (ways_of c (view (action_of c) h) h))) k
      ∙ ap (λ a. joined (edge_by i n (whole [] 0 h) a ∷ []))
      (test_faults (record { pick = 0; cell_no = n }) h q)

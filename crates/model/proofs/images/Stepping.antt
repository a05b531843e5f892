-- What a plain step on a heap image leaves, for all inputs: its refusals; that a refusal, a fault and a stop leave the
-- heap; that lengths are kept.
use Prim.Native.Nat.{suc, ℕ, ◌≤◌}
use mathlib.Core.Path.{◌∙◌, ◌≡◌, ap, refl, subst, sym}
use mathlib.Core.Logic.{◌⊎◌, inl, inr}
use mathlib.Core.Bool.{◌&&◌, false, not, true}
use mathlib.Core.List.{List, [], ◌∷◌}
use native.Mathlib.Omega.{arith}
use lib.Dec.{eqb}
use lib.ListN.{length, length-map}
use borrow.Author.Tests.{not-true}
use Rattle.model.specs.Heap.{IsHeap}
use Rattle.model.specs.Image.{Stepping, answered, cell_slot, checks_image, checks_statement, checks_step, entry_fits, heap_of, no_step, past_end, refusal_image, stays, step_image, step_verdict, verdict_by, StepAnswer, to_fault, to_next, to_stop}
use Rattle.model.specs.Machine.{Answer, Effect, Entry, Stmt, accepts, answer_of, branch, done, fault, faulted, refused, carry_out, step, stopped, went, entry, Fault, fault_number, at_null, at_undef, leak, kind, action, is_stop, perform, collects, settle}
use Rattle.model.specs.Records.{checks_s, first_failed, is_accepted, is_s, refusal, slot_byte, stmt_of, unless, val_byte, val_of}
use Rattle.model.proofs.records.Checks.{accepted_by, checked_nodeless, none_failed, not_both, pass_after, pass_before, pass_none}
use Rattle.model.proofs.expansion.Collect.{collect_slots, settle_any}
use Rattle.model.proofs.expansion.Facts.{heap_closed}
use Rattle.model.proofs.images.Images.{image_accepted, number-case}
use Rattle.model.proofs.lists.Logic.{and_l, and_r, bool_case}
use Rattle.model.specs.Notions.{CheckedBy, Halted, ClosedHeap}
use Rattle.model.proofs.expansion.Kinds.{PtrsAre, SlotsAre, effect_leaves, leaves_ptrs, leaves_slots}

-- how a step can end: refused by its checks, or answered by the machine, which then takes the entry
abbrev pub StepCases : List ℕ → ℕ → ℕ → List ℕ → List ℕ → Type 0
StepCases r p c ps cs =
    ((n : ℕ) × (first_failed (checks_step r (entry p c) ps cs) ≡ suc n)
    × (step_image r p c ps cs ≡ stays (no_step (refusal (suc n) 0)) ps cs))
    ⊎ ((first_failed (checks_step r (entry p c) ps cs) ≡ 0)
    × (step_image r p c ps cs ≡ answered (step (stmt_of r) (entry p c) (heap_of ps cs)) ps cs))

pub step_cases : (r : List ℕ) (p c : ℕ) (ps cs : List ℕ) → StepCases r p c ps cs
unfolding step_image
step_cases r p c ps cs = number-case (first_failed (checks_step r (entry p c) ps cs)) (λ e. inr (e, rw (e, step_image)))
    (λ n e. inl (n, e, rw (e, step_image)))

-- an entry that fits: at new, its cell is one of the image, and the machine takes it
pub step_fits : (r : List ℕ) (e : Entry) (ps cs : List ℕ) → first_failed (checks_step r e ps cs) ≡ 0
    → (refusal_image ps cs ≡ 0) × (past_end (action (stmt_of r).op) e.cell_no (length (heap_of ps cs).slots) ≡ false)
    × (accepts (stmt_of r).op e (heap_of ps cs) ≡ true)
step_fits r e ps cs z =
    let xs = checks_statement r ps cs in
    let k = (stmt_of r).op in
    let h = heap_of ps cs in
    let d = past_end (action k) e.cell_no (length h.slots) in
    let q = none_failed (checks_step r e ps cs) refl z in
    let w = (pass_after xs (unless 16 (entry_fits k e h) ∷ []) q).0 in
    let p = pass_before (checks_image ps cs) (unless 4 (eqb (length r) 32 && is_s r) ∷ checks_s 64 r)
    (pass_before xs (unless 16 (entry_fits k e h) ∷ []) q) in
    (pass_none (checks_image ps cs) p, not-true d (and_l (not d) (accepts k e h) w), and_r (not d) (accepts k e h) w)

-- ---- the refusals

-- a step that the machine answers is not refused where the entry is taken
answered_verdict : (st : Stmt) (e : Entry) (ps cs : List ℕ) → accepts st.op e (heap_of ps cs) ≡ true
    → step_verdict (answered (step st e (heap_of ps cs)) ps cs).answer ≡ is_accepted
answered_verdict st e ps cs a =
    bool_case (is_stop (kind st.op)) (λ z. rw (a, z))
    (λ z. rw (a, z) (by_effect (branch st.op e.pick (heap_of ps cs))
    (carry_out st.op e.cell_no (heap_of ps cs))))
  where
    by_effect : (b : ℕ) (x : Effect) → step_verdict (answered (answer_of st b x) ps cs).answer ≡ is_accepted
    by_effect b (fault f) = refl
    by_effect b (done h) = refl

step_verdict_lem : (r : List ℕ) (p c : ℕ) (ps cs : List ℕ)
    → step_verdict (step_image r p c ps cs).answer ≡ verdict_by (first_failed (checks_step r (entry p c) ps cs)) 0
step_verdict_lem r p c ps cs = by_case (step_cases r p c ps cs)
  where
    by_case : StepCases r p c ps cs → step_verdict (step_image r p c ps cs).answer
        ≡ verdict_by (first_failed (checks_step r (entry p c) ps cs)) 0
    by_case (inl (n, e, q)) = ap (λ (s : Stepping). step_verdict s.answer) q ∙ ap (λ m. verdict_by m 0) (sym e)
    by_case (inr (e, q)) = ap (λ (s : Stepping). step_verdict s.answer) q
        ∙ answered_verdict (stmt_of r) (entry p c) ps cs (step_fits r (entry p c) ps cs e).2
        ∙ sym (accepted_by 0 e)

-- it is refused by its checks, in their order
pub step_checked : (r : List ℕ) (p c : ℕ) (ps cs : List ℕ)
    → CheckedBy (checks_step r (entry p c) ps cs) (step_verdict (step_image r p c ps cs).answer)
step_checked r p c ps cs =
    checked_nodeless (checks_step r (entry p c) ps cs) (step_verdict (step_image r p c ps cs).answer) refl refl
    (step_verdict_lem r p c ps cs)

-- ---- what a step answers

-- a step that is not refused is the machine's
pub step_answers : (r : List ℕ) (p c : ℕ) (ps cs : List ℕ) → step_verdict (step_image r p c ps cs).answer ≡ is_accepted
    → step_image r p c ps cs ≡ answered (step (stmt_of r) (entry p c) (heap_of ps cs)) ps cs
step_answers r p c ps cs z = by_case (step_cases r p c ps cs)
  where
    by_case : StepCases r p c ps cs → step_image r p c ps cs
        ≡ answered (step (stmt_of r) (entry p c) (heap_of ps cs)) ps
        cs
    by_case (inl (n, e, q)) = not_both (step_verdict (step_image r p c ps cs).answer) (refusal (suc n) 0) z
        (ap (λ (s : Stepping). step_verdict s.answer) q)
    by_case (inr (e, q)) = q

-- and its image is a heap
pub step_heap : (r : List ℕ) (p c : ℕ) (ps cs : List ℕ) → step_verdict (step_image r p c ps cs).answer ≡ is_accepted
    → IsHeap (heap_of ps cs)
step_heap r p c ps cs z = by_case (step_cases r p c ps cs)
  where
    by_case : StepCases r p c ps cs → IsHeap (heap_of ps cs)
    by_case (inl (n, e, q)) = not_both (step_verdict (step_image r p c ps cs).answer) (refusal (suc n) 0) z
        (ap (λ (s : Stepping). step_verdict s.answer) q)
    by_case (inr (e, q)) = ((image_accepted ps cs).0 (step_fits r (entry p c) ps cs e).0).2

abbrev KnownFault : StepAnswer → Type 0
KnownFault (to_next b n) = Unit {0}
KnownFault (to_fault f) = (1 ≤ f) × (f ≤ 3)
KnownFault to_stop = Unit {0}
KnownFault (no_step x) = Unit {0}

number_known : (f : Fault) → (1 ≤ fault_number f) × (fault_number f ≤ 3)
number_known at_null = (omega arith, omega arith)
number_known at_undef = (omega arith, omega arith)
number_known leak = (omega arith, omega arith)

answered_known : (a : Answer) (ps cs : List ℕ) → KnownFault (answered a ps cs).answer
answered_known refused ps cs = tt
answered_known stopped ps cs = tt
answered_known (faulted f) ps cs = number_known f
answered_known (went b t h) ps cs = tt

-- a fault is 1, 2 or 3
pub step_faults : (r : List ℕ) (p c : ℕ) (ps cs : List ℕ) (f : ℕ) → (step_image r p c ps cs).answer ≡ to_fault f
    → (1 ≤ f) × (f ≤ 3)
step_faults r p c ps cs f e = subst KnownFault e (by_case (step_cases r p c ps cs))
  where
    by_case : StepCases r p c ps cs → KnownFault (step_image r p c ps cs).answer
    by_case (inl (n, z, q)) = subst (λ (s : Stepping). KnownFault s.answer) (sym q) tt
    by_case (inr (z, q)) = subst (λ (s : Stepping). KnownFault s.answer) (sym q)
        (answered_known (step (stmt_of r) (entry p c) (heap_of ps cs)) ps cs)

-- ---- what stays

abbrev pub Stays : List ℕ → List ℕ → Stepping → Type 0
Stays ps cs s = (s.ptr_bytes ≡ ps) × (s.cell_bytes ≡ cs)

answered_stays : (a : Answer) (ps cs : List ℕ) → Halted (answered a ps cs).answer → Stays ps cs (answered a ps cs)
answered_stays refused ps cs h = (refl, refl)
answered_stays stopped ps cs h = (refl, refl)
answered_stays (faulted f) ps cs h = (refl, refl)
answered_stays (went b t k) ps cs h = absurd h

pub step_stays : (r : List ℕ) (p c : ℕ) (ps cs : List ℕ) → Halted (step_image r p c ps cs).answer
    → Stays ps cs (step_image r p c ps cs)
step_stays r p c ps cs h = by_case (step_cases r p c ps cs)
  where
    by_case : StepCases r p c ps cs → Stays ps cs (step_image r p c ps cs)
    by_case (inl (n, e, q)) = subst (Stays ps cs) (sym q) (refl, refl)
    by_case (inr (e, q)) = subst (Stays ps cs) (sym q)
        (answered_stays (step (stmt_of r) (entry p c) (heap_of ps cs)) ps cs
        (subst (λ (s : Stepping). Halted s.answer) q h))

-- ---- lengths

-- the pointers and the cells keep their lengths
abbrev pub SameLengths : List ℕ → List ℕ → Stepping → Type 0
SameLengths ps cs s = (length s.ptr_bytes ≡ length ps) × (length s.cell_bytes ≡ length cs)

answer_lengths : (st : Stmt) (e : Entry) (ps cs : List ℕ) → ClosedHeap (heap_of ps cs)
    → past_end (action st.op) e.cell_no (length (heap_of ps cs).slots) ≡ false
    → SameLengths ps cs (answered (step st e (heap_of ps cs)) ps cs)
answer_lengths st e ps cs cl q =
    bool_case (accepts st.op e (heap_of ps cs))
    (λ a. bool_case (is_stop (kind st.op)) (λ z. rw (a, z) (refl, refl)) (λ z. rw (a, z) by_run))
    (λ a. rw a (refl, refl))
  where
    by_effect : (b : ℕ) (x : Effect) → PtrsAre (length (heap_of ps cs).ptrs) x
        → SlotsAre (length (heap_of ps cs).slots) x
        → SameLengths ps cs (answered (answer_of st b x) ps cs)
    by_effect b (fault f) u v = (refl, refl)
    by_effect b (done h) u v = (
      length-map h.ptrs val_byte ∙ u ∙ length-map ps val_of,
      length-map h.slots slot_byte ∙ v ∙ length-map cs cell_slot,
    )

    by_run : SameLengths ps cs
        (answered (answer_of st (branch st.op e.pick (heap_of ps cs))
        (carry_out st.op e.cell_no (heap_of ps cs))) ps cs)
    by_run =
        let h = heap_of ps cs in
        let a = action st.op in
        let n = e.cell_no in
        let x = perform a n h in
        let L = effect_leaves a n h cl in
        let b = collects (kind st.op) in
        by_effect (branch st.op e.pick h) (settle b x)
        (settle_any b (PtrsAre (length h.ptrs)) (λ f. tt) (λ g k. k) x (leaves_ptrs a n h x L))
        (settle_any b (SlotsAre (length h.slots)) (λ f. tt) (λ g k. collect_slots g ∙ k) x
        (leaves_slots a n h q x L))

pub step_lengths : (r : List ℕ) (p c : ℕ) (ps cs : List ℕ) → SameLengths ps cs (step_image r p c ps cs)
step_lengths r p c ps cs = by_case (step_cases r p c ps cs)
  where
    by_case : StepCases r p c ps cs → SameLengths ps cs (step_image r p c ps cs)
    by_case (inl (n, e, q)) = subst (SameLengths ps cs) (sym q) (refl, refl)
    by_case (inr (e, q)) =
        let w = step_fits r (entry p c) ps cs e in
        subst (SameLengths ps cs) (sym q)
        (answer_lengths (stmt_of r) (entry p c) ps cs (heap_closed (heap_of ps cs) ((image_accepted ps cs).0 w.0).2)
        w.1)

-- The plain step: the answer of each case.
use Prim.Native.Nat.{ℕ, suc, ◌<◌}
use native.Mathlib.Omega.{arith}
use mathlib.Core.Path.{◌≡◌, refl, sym, ap, ap₂, subst, ◌∙◌}
use mathlib.Core.Bool.{Bool, true, false, cond, not}
use mathlib.Core.List.{List, [], ◌∷◌}
use mathlib.Core.Logic.{inl}
use lib.ListN.{length, length-map}
use borrow.Author.Tests.{not-true, eq-eqb}
use Rattle.model.specs.Heap.{Heap}
use Rattle.model.specs.Machine.{Answer, Stmt, accepts, answer_of, branch, kind, carry_out, target, step, entry, is_stop, action, stopped}
use Rattle.model.specs.Records.{byte, stmt_of, Row, first_failed, refusal, refusal_at, unless, op_count}
use Rattle.model.specs.Image.{Stepping, answered, cell_slot, heap_of, past_end, stays, step_image, checks_statement, checks_step, entry_fits, no_step, to_fault, to_next, to_stop}
use Rattle.model.specs.Codes.{fault_code, op_number, reason_number, refusal_for}
use Rattle.model.specs.declared.Decoded.{Decoded}
use Rattle.model.specs.declared.codes.Fault.{Fault}
use Rattle.model.specs.declared.codes.Fault.TheVariants as fault
use Rattle.model.specs.declared.codes.Op.TheVariants as op
use Rattle.model.proofs.images.Images.{image_accepted, number-case}
use Rattle.model.proofs.lists.Logic.{and_l, and_r}
use Rattle.model.proofs.records.Checks.{failed_after, failed_before, given_failed, pass_none}
use Rattle.model.proofs.records.Ops.{op_goes, op_stops}
use Rattle.effect.specs.Effect.{effect_of}
use Rattle.effect.proofs.Laws.{image_bytes_lem}
use Rattle.image_checks.specs.Checked.{EntryChecked}
use Rattle.image_checks.proofs.StepChecks.{checked_fields, checked_image}
use Rattle.statement.proofs.Numbers.{decoded_is, number_stop, numbered}
use Rattle.image_run.specs.Run.{Finished, StepReady}
use Rattle.std.specs.Prelude.{Err}
use Rattle.model.specs.Answers.{stepping_of}
use Rattle.model.specs.declared.codes.Reason.{Reason}
use Rattle.layout.proofs.Reasons.{no_zero}
use Rattle.model.specs.Structs.{Failed, failed_in, failing, decoded, op_in, stmt_in}
use Rattle.model.proofs.ways.Picks.{room_accept}

-- ---- the answer

fault_answer : (st : Stmt) (b : ℕ) (f : Fault) (g : Heap) (ps cs : List ℕ)
    → stays (to_fault (fault_code f)) ps cs ≡ answered (answer_of st b (effect_of (fault_code f) g)) ps cs
fault_answer st b fault.Null g ps cs = refl
fault_answer st b fault.Undefined g ps cs = refl
fault_answer st b fault.Leak g ps cs = refl

fault_some : (f : Fault) → fault_code f ≡ 0 → ⊥
fault_some fault.Null e = absurd (omega arith)
fault_some fault.Undefined e = absurd (omega arith)
fault_some fault.Leak e = absurd (omega arith)

went_answer : (st : Stmt) (b : ℕ) (qs ds ps cs : List ℕ)
    → record { answer = to_next b (target st b); ptr_bytes = qs; cell_bytes = ds }
    ≡ answered (answer_of st b (effect_of 0 (heap_of qs ds))) ps cs
went_answer st b qs ds ps cs =
    let i = image_bytes_lem qs ds in
    λ j. record { answer = to_next b (target st b); ptr_bytes = sym i.0 j; cell_bytes = sym i.1 j }

-- what a statement other than stop answers on the image ps, cs
abbrev ran_answer : Stmt → ℕ → ℕ → List ℕ → List ℕ → Answer
ran_answer st p c ps cs = answer_of st (branch st.op p (heap_of ps cs)) (carry_out st.op c (heap_of ps cs))

-- what a statement answers
abbrev stmt_answer : Stmt → ℕ → ℕ → List ℕ → List ℕ → Stepping
stmt_answer st p c ps cs = answered (cond (is_stop (kind st.op)) stopped (ran_answer st p c ps cs)) ps cs

abbrev entry_check : List ℕ → ℕ → ℕ → List ℕ → List ℕ → Row
entry_check r p c ps cs = unless 16 (entry_fits (stmt_of r).op (entry p c) (heap_of ps cs))

-- a refusal of the checks, and the image with the machine's answer where there is none
image_refused : (r : List ℕ) (p c : ℕ) (ps cs : List ℕ) (n : ℕ) → first_failed (checks_step r (entry p c) ps cs) ≡ suc n
    → stays (no_step (refusal (suc n) 0)) ps cs ≡ step_image r p c ps cs
unfolding step_image
image_refused r p c ps cs n e = rw (e, step_image)

image_answered : (r : List ℕ) (p c : ℕ) (ps cs : List ℕ) → first_failed (checks_step r (entry p c) ps cs) ≡ 0
    → answered (step (stmt_of r) (entry p c) (heap_of ps cs)) ps cs ≡ step_image r p c ps cs
unfolding step_image
image_answered r p c ps cs e = rw (e, step_image)

-- the checks of image and record refuse
pub step_unchecked : (r : List ℕ) (p c : ℕ) (ps cs : List ℕ) (x : Reason)
    → failed_in {A = Unit {0}} (Err x) ≡ failing (first_failed (checks_statement r ps cs)) 0
    → stepping_of (Err (refusal_for x 0)) ps cs ≡ step_image r p c ps cs
step_unchecked r p c ps cs x e =
    let n = ap (λ (f : Failed). f.number) e in
    let node = ap (λ (f : Failed). f.node) e in
    number-case (reason_number x) (λ q. absurd (no_zero x q))
    (λ m q. (λ i. stays (no_step (refusal_at (q i) 0 (node i))) ps cs)
    ∙ image_refused r p c ps cs m
    (failed_before (checks_statement r ps cs) (entry_check r p c ps cs ∷ []) m (sym n ∙ q)))

-- a step of record r, which d is decoded from, with pick p and cell c on the image ps, cs: these checks are passed
pub record Checked (r : List ℕ) (p c : ℕ) (ps cs : List ℕ) (d : Decoded) : Type 0 where
  pub passed : first_failed (checks_statement r ps cs) ≡ 0
  pub decodes : d ≡ decoded r

module _ {r : List ℕ} {p c : ℕ} {ps cs : List ℕ} {d : Decoded} (C : Checked r p c ps cs d) where
  pub decoded_fields : (op_number d.op < op_count) × (d.u.0 < 6) × (d.w.0 < 6)
  decoded_fields =
      let f = checked_fields r ps cs C.passed in
      subst (λ x. (op_number x.op < op_count) × (x.u.0 < 6) × (x.w.0 < 6)) (sym C.decodes)
      (rw (numbered (byte r 1) f.0) f.0, f.1, f.2)

  statement_is : stmt_in d ≡ stmt_of r
  statement_is = ap stmt_in C.decodes ∙ decoded_is r (checked_fields r ps cs C.passed).0

  -- a is what the test of the entry gives, which reads the op and the cells only
  module _ {a : Bool} (e : EntryChecked (op_number d.op) p c cs a) where
    fits : a ≡ entry_fits (stmt_of r).op (entry p c) (heap_of ps cs)
    fits = e d.u.0 d.w.0 ps ∙ ap (λ (x : Stmt). entry_fits x.op (entry p c) (heap_of ps cs)) statement_is

    after : first_failed (checks_step r (entry p c) ps cs) ≡ first_failed (entry_check r p c ps cs ∷ [])
    after = failed_after (checks_statement r ps cs) (entry_check r p c ps cs ∷ []) refl C.passed

    pub step_refused : a ≡ false → stays (no_step (refusal 16 0)) ps cs ≡ step_image r p c ps cs
    step_refused f =
        image_refused r p c ps cs 15
        (after ∙ (given_failed (entry_check r p c ps cs ∷ []) 16 0 (inl (refl, refl, sym fits ∙ f))).0)

    module _ (t : a ≡ true) where
      -- what the run asks
      pub step_ready : StepReady d c ps cs
      step_ready =
          let f = decoded_fields in
          let i = (image_accepted ps cs).0 (checked_image r ps cs C.passed) in
          let h = heap_of ps cs in
          let x : Bool = past_end (action (op_in d)) c (length h.slots) in
          let g : entry_fits (op_in d) (entry p c) h ≡ true = sym (e d.u.0 d.w.0 ps) ∙ t in
          record {
            ready = record {
              known = f.0;
              is_u = f.1;
              is_w = f.2;
              six = i.0;
              few = i.1;
              is_closed = i.2.is_closed;
              room = rw (length-map cs cell_slot) at (not-true x (and_l (not x) (accepts (op_in d) (entry p c) h) g));
            };
            fresh = room_accept (op_in d) (entry p c) h (and_r (not x) (accepts (op_in d) (entry p c) h) g);
            is_kept = i.2.is_kept;
          }

      taken : (x : Stepping) → x ≡ stmt_answer (stmt_in d) p c ps cs → x ≡ step_image r p c ps cs
      taken x w =
          let st = stmt_of r in
          let h = heap_of ps cs in
          let x : Bool = past_end (action st.op) c (length h.slots) in
          let g : accepts st.op (entry p c) h ≡ true =
          and_r (not x) (accepts st.op (entry p c) h) (sym fits ∙ t) in
          let v : step st (entry p c) h ≡ cond (is_stop (kind st.op)) stopped (ran_answer st p c ps cs) = rw g in
          w ∙ ap (λ z. stmt_answer z p c ps cs) statement_is ∙ ap (λ z. answered z ps cs) (sym v)
          ∙ image_answered r p c ps cs (after ∙ pass_none (entry_check r p c ps cs ∷ []) (sym fits ∙ t, tt))

      pub step_stopped : d.op ≡ op.Stop → stays to_stop ps cs ≡ step_image r p c ps cs
      step_stopped z =
          let n = op_number d.op in
          taken (stays to_stop ps cs)
          (ap (λ b. answered (cond b stopped (ran_answer (stmt_in d) p c ps cs)) ps cs)
          (sym (op_stops n d.u.0 d.w.0 decoded_fields.0 ∙ eq-eqb n 0 (ap op_number z))))

      -- another statement is run
      module _ (n : d.op ≡ op.Stop → ⊥) where
        -- which answers f, and leaves the image qs, ds
        ran : {f : ℕ} {qs ds : List ℕ} → Finished d c ps cs f qs ds → (x : Stepping)
            → x ≡ answered (answer_of (stmt_in d) (branch (op_in d) p (heap_of ps cs)) (effect_of f (heap_of qs ds)))
            ps cs
            → x ≡ step_image r p c ps cs
        ran R x w =
            let st = stmt_in d in
            let goes = op_goes (op_number d.op) d.u.0 d.w.0 decoded_fields.0 (λ e. n (number_stop d.op e)) in
            taken x
            (w ∙ ap (λ g. answered (answer_of st (branch (op_in d) p (heap_of ps cs)) g) ps cs) R.ran.outcome
            ∙ ap (λ b. answered (cond b stopped (ran_answer st p c ps cs)) ps cs) (sym goes))

        pub step_faulted : (f : Fault) {qs ds : List ℕ} → Finished d c ps cs (fault_code f) qs ds
            → stays (to_fault (fault_code f)) qs ds ≡ step_image r p c ps cs
        step_faulted f {qs} {ds} R =
            let s = R.stays (fault_some f) in
            let b = branch (op_in d) p (heap_of ps cs) in
            ap₂ (stays (to_fault (fault_code f))) s.0 s.1
            ∙ ran R (stays (to_fault (fault_code f)) ps cs) (fault_answer (stmt_in d) b f (heap_of qs ds) ps cs)

        pub step_went : {qs ds : List ℕ} → Finished d c ps cs 0 qs ds
            → {b : ℕ} → ((zs : List ℕ) → b ≡ branch (op_in d) p (heap_of ps zs)) → {m : ℕ}
            → m ≡ target (stmt_in d) b
            → record { answer = to_next b m; ptr_bytes = qs; cell_bytes = ds } ≡ step_image r p c ps cs
        step_went {qs} {ds} R {b} g {m} h =
            let st = stmt_in d in
            let to = branch (op_in d) p (heap_of ps cs) in
            let x : ℕ → ℕ → Stepping = λ i j. record { answer = to_next i j; ptr_bytes = qs; cell_bytes = ds } in
            ap (x b) h ∙ ap (λ i. x i (target st i)) (g cs)
            ∙ ran R (x to (target st to)) (went_answer st to qs ds ps cs)

-- An input that is accepted has passed each of the checks, and each record is accepted after those before it.
use Prim.Native.Nat.{ℕ, zero, suc, ◌*◌, ◌/◌, ◌<◌, ◌≤◌}
use native.Mathlib.Numerals.{add-one}
use native.Mathlib.Omega.{arith}
use mathlib.Core.Path.{◌≡◌, refl, sym, ap, ◌∙◌}
use mathlib.Core.Bool.{true, false}
use mathlib.Core.Option.{Option, none, some}
use mathlib.Core.List.{List, [], map}
use lib.ListN.{length, take, drop}
use Rattle.model.specs.Base.{count}
use Rattle.model.specs.Records.{Refusal, failed_node, first_failed, is_h, is_s, shape_of, stmt_of}
use Rattle.model.specs.Structs.{Tells, failing}
use Rattle.model.specs.Translate.{Routine, good, first_bad_kind, first_bad_record, between, check, check_counts, check_kinds, check_records}
use Rattle.model.proofs.records.Checked.{bad-good, good_inj}
use Rattle.model.specs.Listings.{records_of}
use Rattle.model.proofs.lists.Lists.{some-none}
use Rattle.model.proofs.lists.Logic.{bool_case}
use Rattle.input.specs.Input.{routine_in}
use Rattle.input.specs.RecordChecks.{earlier, record_checks}
use Rattle.input.proofs.Outcomes.{is_bad_length, length_even}
use Rattle.input.proofs.Records.{records_fail, records_pass}

pub record Opened (s : List ℕ) (r : Routine) : Type 0 where
  pub even : 32 * (length s / 32) ≡ length s
  pub kinds : first_bad_kind false 0 (records_of s) ≡ none
  pub statements : between 1 64 (count is_s (records_of s)) ≡ true
  pub shapes : between 1 16 (count is_h (records_of s)) ≡ true
  pub records : first_bad_record (count is_s (records_of s)) 0 [] (records_of s) ≡ none
  pub routine : r ≡ routine_in (count is_s (records_of s)) s

-- each check by itself
records_open : (n : ℕ) (rs : List (List ℕ)) (r : Routine) → check_records n rs ≡ good r
    → (first_bad_record n 0 [] rs ≡ none)
    × (r ≡ record { stmts = map stmt_of (take n rs); starts = map shape_of (drop n rs) })
records_open n rs r e = by_bad (first_bad_record n 0 [] rs) refl
  where
    by_bad : (o : Option Refusal) → first_bad_record n 0 [] rs ≡ o
        → (first_bad_record n 0 [] rs ≡ none) × (r ≡ record {
          stmts = map stmt_of (take n rs);
          starts = map shape_of (drop n rs);
        })
    by_bad (some x) q = bad-good (rw (q, check_records) at e)
    by_bad none q = (q, sym (good_inj (rw (q, check_records) at e)))

counts_open : (rs : List (List ℕ)) (r : Routine) → check_counts rs ≡ good r
    → (between 1 64 (count is_s rs) ≡ true) × (between 1 16 (count is_h rs) ≡ true)
    × (check_records (count is_s rs) rs ≡ good r)
counts_open rs r e = bool_case (between 1 64 (count is_s rs))
    (λ a. let e1 = rw (a, check_counts) at e in
    bool_case (between 1 16 (count is_h rs)) (λ b. (a, b, rw (b, check_counts) at e1))
    (λ b. bad-good (rw (b, check_counts) at e1)))
    (λ a. bad-good (rw (a, check_counts) at e))

kinds_open : (rs : List (List ℕ)) (r : Routine) → check_kinds rs ≡ good r → (first_bad_kind false 0 rs ≡ none)
    × (check_counts rs ≡ good r)
kinds_open rs r e = by_kind (first_bad_kind false 0 rs) refl
  where
    by_kind : (o : Option ℕ) → first_bad_kind false 0 rs ≡ o → (first_bad_kind false 0 rs ≡ none)
        × (check_counts rs ≡ good r)
    by_kind (some i) q = bad-good (rw (q, check_kinds) at e)
    by_kind none q = (q, rw (q, check_kinds) at e)

pub check_opened : (s : List ℕ) (r : Routine) → check s ≡ good r → Opened s r
unfolding check
check_opened s r e = bool_case (is_bad_length (length s))
    (λ a. bad-good (rw (a, check) at e))
    (λ a. let k = kinds_open (records_of s) r (rw (a, check) at e) in
    let c = counts_open (records_of s) r k.1 in
    let d = records_open (count is_s (records_of s)) (records_of s) r c.2 in
    record {
      even = length_even (length s) a;
      kinds = k.0;
      statements = c.0;
      shapes = c.1;
      records = d.0;
      routine = d.1;
    })

-- ---- each record after those before it

module _ (s : List ℕ) (n : ℕ) (w : 32 * n ≡ length s) (m : ℕ) (e : first_bad_record m 0 [] (records_of s) ≡ none) where
  one_more : (i : ℕ) → i < n → first_bad_record m i (earlier s i) (drop i (records_of s)) ≡ none
      → first_failed (record_checks m s i) ≡ 0
  one_more i h q = by_refusal (first_failed (record_checks m s i)) refl
    where
      by_refusal : (k : ℕ) → first_failed (record_checks m s i) ≡ k → first_failed (record_checks m s i) ≡ 0
      by_refusal zero z = z
      by_refusal (suc k) z =
          let t : Tells (record_checks m s i) (failing (suc k) (failed_node (record_checks m s i))) =
          record { number = sym z; node = refl } in
          some-none (sym q ∙ records_fail s n w m i h t (λ y. omega arith))

  passed : (i : ℕ) → i ≤ n → first_bad_record m i (earlier s i) (drop i (records_of s)) ≡ none
  passed zero h = e
  passed (suc i) h =
      let q = passed i (omega arith) in
      ap (λ j. first_bad_record m j (earlier s j) (drop j (records_of s))) (sym (add-one i))
      ∙ sym (records_pass s n w m i (omega arith) (one_more i (omega arith) q)) ∙ q

  pub record_passed : (i : ℕ) → i < n → first_failed (record_checks m s i) ≡ 0
  record_passed i h = one_more i h (passed i (omega arith))

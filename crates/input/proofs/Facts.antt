-- What the answer of the check says of the input's records, for the code that reads them.
use Prim.Native.Nat.{ℕ, ◌+◌, ◌*◌, ◌/◌, ◌<◌, ◌≤◌}
use native.Mathlib.Omega.{arith}
use mathlib.Core.Path.{◌≡◌, sym, ap, subst, ◌∙◌}
use mathlib.Core.Bool.{true, false}
use mathlib.Core.List.{List, [], ◌∷◌}
use lib.Dec.{leb}
use lib.ListN.{length, get_or, take, drop, length-drop, length-map}
use lib.Seq.{get_or-drop, get_or-take, length-take-le}
use borrow.Author.Tests.{leb-true}
use Rattle.model.specs.Base.{count}
use Rattle.model.specs.Heap.{Heap}
use Rattle.model.specs.Edges.{at, stmt_at}
use Rattle.model.specs.Records.{first_failed, is_h, is_s, layout_h, loc_record, record_at, shape_of, stmt_of}
use Rattle.model.specs.Shape.{canonical}
use Rattle.model.specs.Translate.{Routine, between, check, good}
use Rattle.model.proofs.records.Checked.{accepted_h}
use Rattle.model.proofs.lists.Sorted.{Sorted, kinds_sorted, not_both}
use Rattle.model.specs.Listings.{records_of}
use Rattle.model.proofs.lists.Lists.{all_at, get_or_map}
use Rattle.model.proofs.lists.Logic.{and_l, and_r}
use Rattle.model.proofs.records.ShapeBack.{shape_record_back}
use Rattle.std.specs.Prelude.{Ok}
use Rattle.input.specs.declared.Routine.{Routine as RoutineCounts}
use Rattle.input.specs.Input.{checked_of, GoodCounts, routine_in}
use Rattle.input.specs.RecordChecks.{earlier, record_checks}
use Rattle.input.specs.Accepted.{Accepted}
use Rattle.input.proofs.Records.{counts_whole, record_wide, records_at, records_length}
use Rattle.input.proofs.Opened.{Opened, check_opened, record_passed}

-- ---- lengths and places of the routine that is read from n statements and m shapes

module _ (s : List ℕ) (n m : ℕ) (w : 32 * (n + m) ≡ length s) where
  pub stmts_length : length (routine_in n s).stmts ≡ n
  stmts_length = length-map (take n (records_of s)) stmt_of
      ∙ length-take-le n (records_of s) (omega (arith, records_length s (n + m) w))

  pub starts_length : length (routine_in n s).starts ≡ m
  starts_length = length-map (drop n (records_of s)) shape_of
      ∙ omega (arith, length-drop n (records_of s), records_length s (n + m) w)

  pub stmt_at_lem : (i : ℕ) → i < n → stmt_at (routine_in n s).stmts i ≡ stmt_of (record_at s i)
  stmt_at_lem i h =
      get_or_map stmt_of (take n (records_of s)) i [] _
      (omega (arith, length-take-le n (records_of s) (omega (arith, records_length s (n + m) w))))
      ∙ ap stmt_of (get_or-take n (records_of s) i [] h ∙ records_at s (n + m) w i (omega arith))

  pub start_at : (j : ℕ) (d : Heap) → j < m → get_or (routine_in n s).starts j d ≡ shape_of (record_at s (n + j))
  start_at j d h =
      get_or_map shape_of (drop n (records_of s)) j [] d
      (omega (arith, length-drop n (records_of s), records_length s (n + m) w))
      ∙ ap shape_of (get_or-drop n (records_of s) j [] ∙ records_at s (n + m) w (n + j) (omega arith))

-- ---- an accepted input

between_low : (a b n : ℕ) → between a b n ≡ true → a ≤ n
between_low a b n h = leb-true a n (and_l (leb a n) (leb n b) h)

between_high : (a b n : ℕ) → between a b n ≡ true → n ≤ b
between_high a b n h = leb-true n b (and_r (leb a n) (leb n b) h)

-- the number of statements that a routine was read with
statements_are : (s : List ℕ) (n m k l : ℕ) → 32 * (n + m) ≡ length s → k + l ≡ n + m → routine_in n s ≡ routine_in k s
    → n ≡ k
statements_are s n m k l w q e =
    sym (stmts_length s n m w) ∙ ap (λ r. length r.stmts) e ∙ stmts_length s k l (rw q w)

module _ (s : List ℕ) (n m : ℕ) (w : 32 * (n + m) ≡ length s) (o : Opened s (routine_in n s)) where
  counted : count is_s (records_of s) + count is_h (records_of s) ≡ n + m
  counted = counts_whole s (n + m) w o.kinds

  statements_counted : count is_s (records_of s) ≡ n
  statements_counted = sym (statements_are s n m (count is_s (records_of s)) (count is_h (records_of s)) w counted
      o.routine)

  sorted : Sorted (records_of s)
  sorted = kinds_sorted 0 (records_of s) o.kinds

  at_statement : (i : ℕ) → i < n → is_s (record_at s i) ≡ true
  at_statement i h =
      let l = length-take-le n (records_of s) (omega (arith, records_length s (n + m) w)) in
      let t = all_at is_s (take n (records_of s)) [] i (rw statements_counted at sorted.statements) (omega arith) in
      ap is_s (sym (get_or-take n (records_of s) i [] h ∙ records_at s (n + m) w i (omega arith))) ∙ t

  at_shape : (j : ℕ) → j < m → is_s (record_at s (n + j)) ≡ false
  at_shape j h =
      let t = all_at is_h (drop n (records_of s)) [] j (rw statements_counted at sorted.shapes)
      (omega (arith, length-drop n (records_of s), records_length s (n + m) w)) in
      not_both (record_at s (n + j)) (ap is_h (sym (get_or-drop n (records_of s) j []
      ∙ records_at s (n + m) w (n + j) (omega arith))) ∙ t)

  at_record : (i : ℕ) → i < n + m → first_failed (record_checks n s i) ≡ 0
  at_record i h = record_passed s (n + m) w n (rw statements_counted at o.records) i h

  layout_and_shape : (j : ℕ) → j < m → (layout_h (record_at s (n + j)) ≡ true)
      × (canonical (shape_of (record_at s (n + j))) ≡ true)
  layout_and_shape j h =
      let q = accepted_h (earlier s (n + j)) (record_at s (n + j))
      (rw (at_shape j h) at (at_record (n + j) (omega arith))) in
      (q.0, q.1)

  pub opened_accepted : Accepted s n m
  opened_accepted = record {
    some_statements = omega (arith, between_low 1 64 (count is_s (records_of s)) o.statements, statements_counted);
    few_statements = omega (arith, between_high 1 64 (count is_s (records_of s)) o.statements, statements_counted);
    some_shapes = omega (arith, between_low 1 16 (count is_h (records_of s)) o.shapes, statements_counted, counted);
    few_shapes = omega (arith, between_high 1 16 (count is_h (records_of s)) o.shapes, statements_counted, counted);
    whole = w;
    is_statement = at_statement;
    no_refusal = λ i h. rw (at_statement i h) at (at_record i (omega arith));
    is_layout = λ j h. (layout_and_shape j h).0;
    is_canonical = λ j h. (layout_and_shape j h).1;
  }

-- from the answer of the check
pub accepted : (s : List ℕ) (r : RoutineCounts) → checked_of (Ok r) s ≡ check s → GoodCounts (Ok r) s
    → Accepted s r.statements r.shapes
accepted s r e g = opened_accepted s r.statements r.shapes g.4 (check_opened s (routine_in r.statements s) (sym e))

-- from the definition: the numbers are those of the routine's statements and shapes
pub good_accepted : (s : List ℕ) (r : Routine) → check s ≡ good r
    → Accepted s (length r.stmts) (length r.starts) × (r ≡ routine_in (length r.stmts) s)
good_accepted s r e =
    let o = check_opened s r e in
    let k = count is_s (records_of s) in
    let l = count is_h (records_of s) in
    let w : 32 * (k + l) ≡ length s = omega (arith, counts_whole s (length s / 32) o.even o.kinds, o.even) in
    let n : length r.stmts ≡ k = ap (λ x. length x.stmts) o.routine ∙ stmts_length s k l w in
    let m : length r.starts ≡ l = ap (λ x. length x.starts) o.routine ∙ starts_length s k l w in
    (rw (n, m) (opened_accepted s k l w (subst (Opened s) o.routine o)), rw n o.routine)

module _ (s : List ℕ) (n m : ℕ) (A : Accepted s n m) where
  pub accepted_wide : (i : ℕ) → i < n + m → length (record_at s i) ≡ 32
  accepted_wide i h = let w = A.whole in record_wide s i (omega arith)

  -- the location record of a starting shape is its shape record with another tag
  pub start_record : (j : ℕ) → j < m → loc_record (at 0 (shape_of (record_at s (n + j)))) ≡ 0x4c ∷ 0 ∷ 0
      ∷ drop 3 (record_at s (n + j))
  start_record j h =
      ap (λ l. 0x4c ∷ 0 ∷ 0 ∷ drop 3 l) (shape_record_back (record_at s (n + j)) (accepted_wide (n + j) (omega arith))
      (A.is_layout j h))

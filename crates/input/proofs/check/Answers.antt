-- `check` meets its contract: the length first, then the kinds, the numbers of statements and of shapes, and the
-- records.
use Prim.Native.Nat.{◌-◌, ◌/◌}
use mathlib.Core.Path.{◌≡◌, ◌∙◌, ap, sym}
use mathlib.Core.Bool.{false, true}
use mathlib.Core.Option.{none}
use mathlib.Core.List.{[]}
use native.Mathlib.Omega.{arith}
use lib.ListN.{length}
use Rattle.std.proofs.lemmas.Result.{err_from_is_err_and}
use Rattle.model.specs.Base.{count}
use Rattle.model.specs.Listings.{records_of}
use Rattle.model.specs.Records.{is_h, is_s}
use Rattle.model.specs.Translate.{between, first_bad_kind, first_bad_record, good}
use Rattle.input.specs.Input.{routine_in}
use Rattle.input.proofs.Outcomes.{bad_kind, bad_length, bad_record, bad_shapes, bad_statements, good_records, is_bad_length, length_even, none_bad, none_found, part_bad, whole_good}
use Rattle.input.proofs.Records.{counts_whole}
use Rattle.input.proofs.check.Goals as goal
use Rattle.input.proofs.check.Goals.{Else-length-ne0, Else-not-within, In_default, then-length-eq0-via-then-length-eq0, then-length-eq0-via-else-length-eq0+then-length-ne0}

pub returns-then-length-eq0-clause-outcome : goal.returns-then-length-eq0-clause-outcome
returns-then-length-eq0-clause-outcome c =
    let s = c.args.input.now in
    let e : is_bad_length (length s) ≡ true = elim c.then-length-eq0.branch [
      | then-length-eq0-via-then-length-eq0 w ↦ none_bad (length s) w.if-length-eq0.true
      | then-length-eq0-via-else-length-eq0+then-length-ne0 w ↦
          part_bad (length s) w.if-length-eq0.false w.if-length-ne0.true
    ] in
    rw c.at.ensures (bad_length s e)

-- ---- what is known behind each test

whole : (c : Else-length-ne0) → is_bad_length (length c.args.input.now) ≡ false
whole c = whole_good (length c.args.input.now) c.if-length-eq0.false c.if-length-ne0.false

kinds : (c : In_default) → first_bad_kind false 0 (records_of c.args.input.now) ≡ none
kinds c = sym c.wrong_kind.ensures ∙ none_found c.wrong_kind.result c.in_default.not-Some

statements : (c : Else-not-within) → between 1 64 (count is_s (records_of c.args.input.now)) ≡ true
statements c = ap (between 1 64) (sym c.count_statements-statements.ensures) ∙ sym c.if-not-within.ensures

-- what is no statement is a shape
shape_count : (c : Else-not-within) → length c.args.input.now / 32 - c.count_statements-statements.result
    ≡ count is_h (records_of c.args.input.now)
shape_count c =
    let s = c.args.input.now in
    let w = length_even (length s) (whole_good (length s) c.if-length-eq0.false c.if-length-ne0.false) in
    let k = sym c.wrong_kind.ensures ∙ none_found c.wrong_kind.result c.in_default.not-Some in
    omega (arith, counts_whole s (length s / 32) w k)

pub returns-in-Some-clause-outcome : goal.returns-in-Some-clause-outcome
returns-in-Some-clause-outcome c =
    let at = goal.at.returns-in-Some-clause-outcome c in
    rw c.at-in-Some.ensures (bad_kind c.args.input.now (whole at.Else-length-ne0) (sym c.in-Some.ensures))

pub returns-then-not-within-clause-outcome : goal.returns-then-not-within-clause-outcome
returns-then-not-within-clause-outcome c =
    let at = goal.at.returns-then-not-within-clause-outcome c in
    rw c.at-then-not-within.ensures (bad_statements c.args.input.now (whole at.Else-length-ne0) (kinds at.In_default)
    (ap (between 1 64) (sym c.count_statements-statements.ensures) ∙ sym c.if-not-within.ensures))

pub overflow_sub-shapes : goal.overflow_sub-shapes
overflow_sub-shapes c =
    let at = goal.at.overflow_sub-shapes c in
    let s = c.args.input.now in
    let w = length_even (length s) (whole at.Else-length-ne0) in
    omega (arith, counts_whole s (length s / 32) w (kinds at.In_default))

pub returns-then-not-within-2-clause-outcome : goal.returns-then-not-within-2-clause-outcome
returns-then-not-within-2-clause-outcome c =
    let at = goal.at.returns-then-not-within-2-clause-outcome c in
    rw c.at-then-not-within-2.ensures (bad_shapes c.args.input.now (whole at.Else-length-ne0) (kinds at.In_default)
    (statements at.Else-not-within)
    (ap (between 1 16) (sym (shape_count at.Else-not-within)) ∙ sym c.if-not-within-2.ensures))

pub returns-in_err-check_records-clause-outcome : goal.returns-in_err-check_records-clause-outcome
returns-in_err-check_records-clause-outcome c =
    let at = goal.at.returns-in_err-check_records-clause-outcome c in
    let s = c.args.input.now in
    let p = err_from_is_err_and c.from_residual.result c.from_residual.ensures.1 in
    rw (p.1, p.2) (bad_record s (whole at.Else-length-ne0) (kinds at.In_default) (statements at.Else-not-within)
    (ap (between 1 16) (sym (shape_count at.Else-not-within)) ∙ sym c.if-not-within-2.ensures)
    (ap (λ i. first_bad_record i 0 [] (records_of s)) (sym c.count_statements-statements.ensures)
    ∙ sym c.in_err-check_records.ensures.first))

pub returns-clause-outcome : goal.returns-clause-outcome
returns-clause-outcome c =
    let at = goal.at.returns-clause-outcome c in
    let s = c.args.input.now in
    let n = c.count_statements-statements.ensures in
    ap (λ i. good (routine_in i s)) n
    ∙ good_records s (whole at.Else-length-ne0) (kinds at.In_default) (statements at.Else-not-within)
    (ap (between 1 16) (sym (shape_count at.Else-not-within)) ∙ sym c.if-not-within-2.ensures)
    (ap (λ i. first_bad_record i 0 [] (records_of s)) (sym n) ∙ sym c.in_ok-check_records.ensures.first)

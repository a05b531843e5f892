-- The checks in their order: what decides, and what is left when one passes.
use Prim.Native.Nat.{ℕ, ◌*◌, ◌/◌, ◌%◌}
use mathlib.Core.Path.{◌≡◌, ◌∙◌, refl}
use Rattle.std.specs.Prelude as std
use Rattle.model.specs.Answers.{found_of}
use native.Mathlib.Omega.{arith}
use mathlib.Core.Bool.{Bool, true, false, not, ◌||◌}
use mathlib.Core.Option.{none, some}
use mathlib.Core.List.{List, []}
use lib.Dec.{eqb}
use lib.ListN.{length}
use borrow.Author.Tests.{eq-eqb, eqb-true, ne_eqb, not-false}
use Rattle.model.specs.Base.{count}
use Rattle.model.specs.Records.{Refusal, is_h, is_s, refusal}
use Rattle.model.specs.Translate.{bad, good, routine_of, first_bad_kind, first_bad_record, between, check, check_counts, check_kinds, check_records}
use Rattle.model.specs.Listings.{records_of}
use Rattle.input.specs.Input.{routine_in}
use Rattle.model.proofs.lists.Logic.{or_false_r}

pub none_found : (o : std.Option ℕ) → ((i : ℕ) → o ≡ std.Some i → ⊥) → found_of o ≡ none
none_found std.None h = refl
none_found (std.Some i) h = absurd (h i refl)

-- the test of the length
abbrev pub is_bad_length : ℕ → Bool
is_bad_length n = eqb n 0 || not (eqb (n % 32) 0)

pub none_bad : (n : ℕ) → n ≡ 0 → is_bad_length n ≡ true
none_bad n e = rw (eq-eqb n 0 e)

pub part_bad : (n : ℕ) → (n ≡ 0 → ⊥) → (n % 32 ≡ 0 → ⊥) → is_bad_length n ≡ true
part_bad n z e = rw (ne_eqb n 0 z, ne_eqb (n % 32) 0 e)

pub whole_good : (n : ℕ) → (n ≡ 0 → ⊥) → n % 32 ≡ 0 → is_bad_length n ≡ false
whole_good n z e = rw (ne_eqb n 0 z, eq-eqb (n % 32) 0 e)

pub length_even : (n : ℕ) → is_bad_length n ≡ false → 32 * (n / 32) ≡ n
length_even n h =
    let m = eqb-true (n % 32) 0 (not-false _ (or_false_r (eqb n 0) (not (eqb (n % 32) 0)) h)) in
    omega arith

module _ (s : List ℕ) where
  pub bad_length : is_bad_length (length s) ≡ true → bad (refusal 1 0) ≡ check s
  unfolding check
  bad_length e = rw (e, check)

  module _ (e : is_bad_length (length s) ≡ false) where
    pub bad_kind : {i : ℕ} → first_bad_kind false 0 (records_of s) ≡ some i → bad (refusal 4 i) ≡ check s
    unfolding check
    bad_kind k = rw (e, check) (rw (k, check_kinds))

    module _ (k : first_bad_kind false 0 (records_of s) ≡ none) where
      pub bad_statements : between 1 64 (count is_s (records_of s)) ≡ false → bad (refusal 2 0) ≡ check s
      unfolding check
      bad_statements n = rw (e, check) (rw (k, check_kinds) (rw (n, check_counts)))

      module _ (n : between 1 64 (count is_s (records_of s)) ≡ true) where
        pub bad_shapes : between 1 16 (count is_h (records_of s)) ≡ false → bad (refusal 3 0) ≡ check s
        unfolding check
        bad_shapes m = rw (e, check) (rw (k, check_kinds) (rw (n, check_counts) (rw (m, check_counts))))

        module _ (m : between 1 16 (count is_h (records_of s)) ≡ true) where
          counted : check_records (count is_s (records_of s)) (records_of s) ≡ check s
          unfolding check
          counted = rw (e, check) (rw (k, check_kinds) (rw (n, check_counts) (rw (m, check_counts))))

          pub bad_record : {x : Refusal} → first_bad_record (count is_s (records_of s)) 0 [] (records_of s) ≡ some x
              → bad x ≡ check s
          bad_record q = counted_bad (records_of s) (count is_s (records_of s)) q ∙ counted
            where
              counted_bad : (rs : List (List ℕ)) (c : ℕ) {x : Refusal} → first_bad_record c 0 [] rs ≡ some x
                  → bad x ≡ check_records c rs
              counted_bad rs c q = rw (q, check_records)

          pub good_records : first_bad_record (count is_s (records_of s)) 0 [] (records_of s) ≡ none
              → good (routine_in (count is_s (records_of s)) s) ≡ check s
          good_records q = counted_good (records_of s) (count is_s (records_of s)) q ∙ counted
            where
              counted_good : (rs : List (List ℕ)) (c : ℕ) → first_bad_record c 0 [] rs ≡ none
                  → good (routine_of c rs) ≡ check_records c rs
              counted_good rs c q = rw (q, check_records)

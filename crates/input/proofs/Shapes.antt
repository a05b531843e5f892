-- What fails of an H record, and of any record by its kind.
use Prim.Native.Nat.{ℕ, suc, zero}
use mathlib.Core.Path.{◌≡◌, ◌∙◌, refl, subst, sym}
use Rattle.std.specs.Prelude.{Result, Ok, Err, MatchResult}
use Rattle.std.specs.Result.{IsErrAnd}
use Rattle.std.proofs.lemmas.Result.{err_from_is_err_and}
use mathlib.Core.Bool.{true, false}
use mathlib.Core.List.{List, [], ◌∷◌, ◌++◌}
use Rattle.model.specs.Base.{all, mem}
use Rattle.model.specs.Records.{Row, check_layout, check_repeated, checks_h, checks_nodes, checks_record, is_s, layout_h, shape_of}
use Rattle.model.specs.Listings.{numbers_input}
use Rattle.model.specs.Structs.{Failed, Tells}
use Rattle.model.proofs.lists.Logic.{bool_case}
use Rattle.model.proofs.records.Checks.{failed_number, tells_before, tells_past}

-- ---- an H record after the records e: a failure of its nodes

module _ (e : List (List ℕ)) (r : List ℕ) where
  pub tells_nodes : layout_h r ≡ true → {f : Failed} → Tells (checks_nodes (shape_of r)) f → (f.number ≡ 0 → ⊥)
      → Tells (checks_h e r) f
  tells_nodes l t z = tells_past (check_layout r) (checks_nodes (shape_of r) ++ check_repeated e r ∷ []) l
      (tells_before (checks_nodes (shape_of r)) (check_repeated e r ∷ []) z t)

  -- any record, by its kind
  pub tells_by_h : (n : ℕ) {f : Failed} → is_s r ≡ false → Tells (checks_h e r) f → Tells (checks_record n e r) f
  tells_by_h n h t = rw h t

-- a record that fails has one of the input's numbers
pub number_known : (n : ℕ) (e : List (List ℕ)) (r : List ℕ) {f : Failed} → Tells (checks_record n e r) f
    → (f.number ≡ 0 → ⊥) → mem f.number numbers_input ≡ true
number_known n e r {f} t z = by_number f.number refl
  where
    known : all (λ (c : Row). mem c.number numbers_input) (checks_record n e r) ≡ true
    known = bool_case (is_s r) (λ h. rw h) (λ h. rw h)

    by_number : (k : ℕ) → f.number ≡ k → mem f.number numbers_input ≡ true
    by_number zero q = absurd (z q)
    by_number (suc k) q = rw q (failed_number (λ m. mem m numbers_input) (checks_record n e r) known k
        (sym t.number ∙ q))

-- ---- `map_err`: what was answered before

err_ok : {A E : Type 0} {x : E} {y : A} → Err x ≡ Ok y → ⊥
err_ok e = cc

module _ {A D E : Type 0} (Q : D → E → Type 0) where
  pub mapped_err : (r : Result A D) (m : Result A E) {x : E} → MatchResult r (λ y. m ≡ Ok y) (λ d. IsErrAnd m (Q d))
      → m ≡ Err x → (d : D) × (r ≡ Err d) × Q d x
  mapped_err (Ok y) m h e = absurd (err_ok (sym e ∙ h))
  mapped_err (Err d) m {x} h e =
      let p = err_from_is_err_and m h in
      let q : p.0 ≡ x = cc in
      (d, refl, subst (Q d) q p.2)

  pub mapped_ok : (r : Result A D) (m : Result A E) → MatchResult r (λ y. m ≡ Ok y) (λ d. IsErrAnd m (Q d))
      → {y : A} → m ≡ Ok y → (y : A) × (r ≡ Ok y)
  mapped_ok (Ok z) m h e = (z, refl)
  mapped_ok (Err d) m h e = let p = err_from_is_err_and m h in absurd (err_ok (sym p.1 ∙ e))

-- Records of the right kinds: first the statements, then the shapes, and no others.
use Prim.Native.Nat.{◌+◌, suc, ℕ}
use mathlib.Core.Path.{◌∙◌, ◌≡◌, refl, sym}
use mathlib.Core.Option.{none, some}
use mathlib.Core.Bool.{and-false, false, true}
use mathlib.Core.List.{List, [], ◌∷◌}
use native.Mathlib.Omega.{arith}
use lib.ListN.{drop, length, take}
use borrow.Author.Tests.{eqb-true, ne_eqb}
use Rattle.model.specs.Base.{all, count}
use Rattle.model.specs.Records.{byte, is_h, is_s}
use Rattle.model.specs.Translate.{first_bad_kind}
use Rattle.model.proofs.lists.Lists.{some-none}
use Rattle.model.proofs.lists.Logic.{and_both, bool_case}

-- a record is not of both kinds
pub no_shape : (r : List ℕ) → is_s r ≡ true → is_h r ≡ false
no_shape r h = ne_eqb (byte r 0) 0x48 (λ e. let k = eqb-true (byte r 0) 0x53 h in omega arith)

pub not_both : (r : List ℕ) → is_h r ≡ true → is_s r ≡ false
not_both r h = ne_eqb (byte r 0) 0x53 (λ e. let k = eqb-true (byte r 0) 0x48 h in omega arith)

pub record Sorted (rs : List (List ℕ)) : Type 0 where
  pub statements : all is_s (take (count is_s rs) rs) ≡ true
  pub shapes : all is_h (drop (count is_s rs) rs) ≡ true
  pub whole : count is_s rs + count is_h rs ≡ length rs

-- after an H there are only H records
record Shapes (rs : List (List ℕ)) : Type 0 where
  none_s : count is_s rs ≡ 0
  all_h : all is_h rs ≡ true
  count_h : count is_h rs ≡ length rs

shapes : (i : ℕ) (rs : List (List ℕ)) → first_bad_kind true i rs ≡ none → Shapes rs
shapes i [] e = record { none_s = refl; all_h = refl; count_h = refl }
shapes i (r ∷ rs) e = bool_case (is_h r)
    (λ h. let q = shapes (suc i) rs (rw (h, first_bad_kind) at e) in
    record {
      none_s = rw (not_both r h) (omega (arith, q.none_s));
      all_h = and_both (is_h r) (all is_h rs) h q.all_h;
      count_h = rw h (omega (arith, q.count_h));
    })
    (λ h. let z : first_bad_kind true i (r ∷ rs) ≡ some i =
    rw (h, first_bad_kind) (rw (and-false (is_s r), first_bad_kind)) in
    some-none (sym e ∙ z))

shapes_sorted : (rs : List (List ℕ)) → Shapes rs → Sorted rs
shapes_sorted rs q = record {
  statements = rw q.none_s;
  shapes = rw q.none_s q.all_h;
  whole = omega (arith, q.none_s, q.count_h);
}

-- one statement more in front
sorted_more : (r : List ℕ) (rs : List (List ℕ)) → is_s r ≡ true → Sorted rs → Sorted (r ∷ rs)
sorted_more r rs s q =
    let n : count is_s (r ∷ rs) ≡ suc (count is_s rs) = rw s (omega arith) in
    record {
      statements = rw n (and_both (is_s r) (all is_s (take (count is_s rs) rs)) s q.statements);
      shapes = rw n q.shapes;
      whole = rw (s, no_shape r s) (omega (arith, q.whole));
    }

pub kinds_sorted : (i : ℕ) (rs : List (List ℕ)) → first_bad_kind false i rs ≡ none → Sorted rs
kinds_sorted i [] e = record { statements = refl; shapes = refl; whole = refl }
kinds_sorted i (r ∷ rs) e = bool_case (is_h r)
    (λ h. shapes_sorted (r ∷ rs) (shapes i (r ∷ rs) (rw (h, first_bad_kind) (rw (h, first_bad_kind) at e))))
    (λ h. let z = rw (h, first_bad_kind) at e in
    bool_case (is_s r)
    (λ s. sorted_more r rs s (kinds_sorted (suc i) rs (rw (s, first_bad_kind) at z)))
    (λ s. let y : first_bad_kind false i (r ∷ rs) ≡ some i = rw (h, first_bad_kind) (rw (s, first_bad_kind)) in
    some-none (sym e ∙ y)))

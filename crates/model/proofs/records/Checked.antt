-- What the checks of the input say of an accepted one: its starting shapes are shapes with six pointers, and no two
-- are equal.
use Prim.Native.Nat.{◌%◌, ◌*◌, ◌/◌, ◌≤◌, suc, zero, ℕ}
use Rattle.model.proofs.records.Checks.{none_failed, pass_number, passing}
use Rattle.model.proofs.records.NodeChecks.{nodes_pass}
use mathlib.Core.Path.{◌∙◌, ◌≡◌, ap, refl, subst, sym}
use mathlib.Core.Logic.{inl, inr}
use mathlib.Core.Option.{Option, none, some}
use mathlib.Core.Bool.{false, not, true}
use mathlib.Core.List.{List, [], ◌∷◌, map}
use native.Mathlib.Omega.{arith}
use lib.Dec.{eqb, leb}
use lib.ListN.{drop, length, length-drop, length-map}
use lib.Seq.{length-take-le}
use borrow.Author.Tests.{eqb-true, leb-true, not-true}
use Rattle.model.specs.Base.{all, any, count, same_list}
use Rattle.model.specs.Heap.{Heap}
use Rattle.model.specs.Records.{Refusal, checks_h, checks_record, failed_node, first_failed, is_h, layout_h, refusal_at, refusal_h, shape_of, shape_record, is_s}
use Rattle.model.specs.Shape.{canonical}
use Rattle.model.specs.Translate.{Routine, bad, first_bad_kind, first_bad_record, between, check, check_counts, check_kinds, check_records, chunks, good}
use Rattle.model.specs.Listings.{no_records, records_of}
use Rattle.model.specs.Notions.{Canon, Distinct, In}
use Rattle.model.proofs.shapes.Canonical.{canonical_canon}
use Rattle.model.proofs.expansion.Facts.{test_closed}
use Rattle.model.proofs.lists.Sorted.{Sorted, kinds_sorted, not_both}
use Rattle.model.proofs.lists.Lists.{any_in, in_drop, in_map, some-none}
use Rattle.model.proofs.lists.Logic.{and_l, and_r, bool_case, clash, or_false_r}
use Rattle.model.proofs.shapes.Same.{same_bytes_refl}
use Rattle.model.proofs.records.ShapeBack.{layout_closed, layout_pointers, shape_record_back}

-- what an H record that is not refused is
pub record GoodH (r : List ℕ) : Type 0 where
  pub wide : length r ≡ 32
  pub is_layout : layout_h r ≡ true
  pub is_canonical : canonical (shape_of r) ≡ true

pub accepted_h : (earlier : List (List ℕ)) (r : List ℕ) → refusal_h earlier r ≡ 0
    → (layout_h r ≡ true) × (canonical (shape_of r) ≡ true) × (any (same_list eqb r) earlier ≡ false)
accepted_h earlier r e =
    let by : (n : ℕ) → passing n (checks_h earlier r) ≡ true =
    λ n. pass_number n (checks_h earlier r) (none_failed (checks_h earlier r) refl e) in
    (by 8, (nodes_pass (shape_of r)).0 (by 9, (by 18, (by 19, tt))), not-true (any (same_list eqb r) earlier) (by 10))

-- each record of the list is accepted after those before it
abbrev Accepted : ℕ → List (List ℕ) → List (List ℕ) → Type 0
Accepted n earlier [] = Unit {0}
Accepted n earlier (r ∷ rs) = (first_failed (checks_record n earlier r) ≡ 0) × Accepted n (r ∷ earlier) rs

records_accepted : (n i : ℕ) (earlier rs : List (List ℕ)) → first_bad_record n i earlier rs ≡ none
    → Accepted n earlier rs
records_accepted n i earlier [] e = tt
records_accepted n i earlier (r ∷ rs) e =
    by_refusal (first_failed (checks_record n earlier r)) refl
    (λ z. records_accepted n (suc i) (r ∷ earlier) rs z)
  where
    by_refusal : (m : ℕ) → first_failed (checks_record n earlier r) ≡ m
        → (first_bad_record n (suc i) (r ∷ earlier) rs ≡ none → Accepted n (r ∷ earlier) rs)
        → Accepted n earlier (r ∷ rs)
    by_refusal zero q rec = (q, rec (rw (q, first_bad_record) at e))
    by_refusal (suc m) q rec =
        let z : first_bad_record n i earlier (r ∷ rs)
        ≡ some (refusal_at (suc m) i (failed_node (checks_record n earlier r))) = rw (q, first_bad_record) in
        some-none (sym e ∙ z)

later_accepted : (n m : ℕ) (earlier rs : List (List ℕ)) → Accepted n earlier rs → (e : List (List ℕ))
    × Accepted n e (drop m rs)
later_accepted n zero earlier rs a = (earlier, a)
later_accepted n (suc m) earlier [] a = (earlier, a)
later_accepted n (suc m) earlier (r ∷ rs) a = later_accepted n m (r ∷ earlier) rs a.1

-- no later record equals an earlier one
not_again : (n : ℕ) (earlier rs : List (List ℕ)) (x y : List ℕ) → Accepted n earlier rs → all is_h rs ≡ true
    → In x earlier → In y rs → y ≡ x → ⊥
not_again n earlier [] x y a h i j e = j
not_again n earlier (r ∷ rs) x y a h i (inl p) e =
    let q = rw (not_both r (and_l (is_h r) (all is_h rs) h)) at a.0 in
    let z = (accepted_h earlier r q).2 in
    let w : In r earlier = subst (λ v. In v earlier) (sym e ∙ p) i in
    clash (any_in (same_list eqb r) earlier r w (same_bytes_refl r)) z
not_again n earlier (r ∷ rs) x y a h i (inr j) e =
    not_again n (r ∷ earlier) rs x y a.1 (and_r (is_h r) (all is_h rs) h) (inr i) j e

good_h : (n : ℕ) (earlier rs : List (List ℕ)) → Accepted n earlier rs → all is_h rs ≡ true
    → ((r : List ℕ) → In r rs → length r ≡ 32) → (r : List ℕ)
    → In r rs → GoodH r
good_h n earlier [] a h w r i = absurd i
good_h n earlier (x ∷ rs) a h w r (inl e) =
    let q = accepted_h earlier x (rw (not_both x (and_l (is_h x) (all is_h rs) h)) at a.0) in
    subst GoodH (sym e) (record { wide = w x (inl refl); is_layout = q.0; is_canonical = q.1 })
good_h n earlier (x ∷ rs) a h w r (inr i) = good_h n (x ∷ earlier) rs a.1 (and_r (is_h x) (all is_h rs) h)
    (λ z j. w z (inr j)) r i

distinct_h : (n : ℕ) (earlier rs : List (List ℕ)) → Accepted n earlier rs → all is_h rs ≡ true
    → ((r : List ℕ) → In r rs → GoodH r) → Distinct (map shape_of rs)
distinct_h n earlier [] a h g = tt
distinct_h n earlier (x ∷ rs) a h g = (
  (λ i. let r = in_map shape_of (shape_of x) rs i in
      let gx = g x (inl refl) in
      let gy = g r.0 (inr r.1) in
      not_again n (x ∷ earlier) rs x r.0 a.1 (and_r (is_h x) (all is_h rs) h) (inl refl) r.1
      (sym (shape_record_back r.0 gy.wide gy.is_layout) ∙ ap shape_record (sym r.2)
      ∙ shape_record_back x gx.wide gx.is_layout)),
  distinct_h n (x ∷ earlier) rs a.1 (and_r (is_h x) (all is_h rs) h) (λ z j. g z (inr j)),
)

chunks_wide : (m : ℕ) (s : List ℕ) → length s ≡ 32 * m → (r : List ℕ) → In r (chunks m s) → length r ≡ 32
chunks_wide zero s l r i = absurd i
chunks_wide (suc m) s l r (inl e) = ap length e ∙ length-take-le 32 s (omega arith)
chunks_wide (suc m) s l r (inr i) = chunks_wide m (drop 32 s) (omega (arith, length-drop 32 s)) r i

-- the starting shapes of an accepted input
pub record GoodStarts (r : Routine) : Type 0 where
  pub few : length r.starts ≤ 16
  pub shapes : (h : Heap) → In h r.starts → Canon h × (length h.ptrs ≡ 6)
  pub distinct : Distinct r.starts

pub bad-good {ℓ} : {C : Type ℓ} {x : Refusal} {r : Routine} → bad x ≡ good r → C
bad-good {x = x} {r = r} e = absurd (let z : ◌≡◌ {A = ℕ} 0 1 = cc in omega arith)

pub good_inj : {q r : Routine} → good q ≡ good r → q ≡ r
good_inj {q} {r} e = cc

records_good : (n : ℕ) (rs : List (List ℕ)) (r : Routine) → ((x : List ℕ) → In x rs → length x ≡ 32)
    → all is_h (drop n rs) ≡ true → length (drop n rs) ≤ 16
    → check_records n rs ≡ good r → GoodStarts r
records_good n rs r w h l e = by_bad (first_bad_record n 0 [] rs) refl
  where
    by_bad : (o : Option Refusal) → first_bad_record n 0 [] rs ≡ o → GoodStarts r
    by_bad (some x) q = bad-good (rw (q, check_records) at e)
    by_bad none q =
        let a = later_accepted n n [] rs (records_accepted n 0 [] rs q) in
        let g : (x : List ℕ) → In x (drop n rs) → GoodH x =
        good_h n a.0 (drop n rs) a.1 h (λ x i. w x (in_drop x n rs i)) in
        let k = good_inj (rw (q, check_records) at e) in
        subst GoodStarts k (record {
          few = omega (arith, length-map (drop n rs) shape_of);
          shapes = λ x i. let m = in_map shape_of x (drop n rs) i in
              let z = g m.0 m.1 in
              subst (λ y. Canon y × (length y.ptrs ≡ 6)) (sym m.2) (
                canonical_canon (shape_of m.0)
                    (test_closed (shape_of m.0) (layout_closed m.0 z.wide z.is_layout)) z.is_canonical,
                layout_pointers m.0 z.wide z.is_layout,
              );
          distinct = distinct_h n a.0 (drop n rs) a.1 h g;
        })

counts_good : (rs : List (List ℕ)) (r : Routine) → ((x : List ℕ) → In x rs → length x ≡ 32) → Sorted rs
    → check_counts rs ≡ good r → GoodStarts r
counts_good rs r w h e = bool_case (between 1 64 (count is_s rs))
    (λ a. let e1 = rw (a, check_counts) at e in bool_case (between 1 16 (count is_h rs))
    (λ b. let m = leb-true (count is_h rs) 16 (and_r (leb 1 (count is_h rs)) (leb (count is_h rs) 16) b) in
    records_good (count is_s rs) rs r w h.shapes (omega (arith, h.whole, length-drop (count is_s rs) rs))
    (rw (b, check_counts) at e1))
    (λ b. bad-good (rw (b, check_counts) at e1)))
    (λ a. bad-good (rw (a, check_counts) at e))

kinds_good : (rs : List (List ℕ)) (r : Routine) → ((x : List ℕ) → In x rs → length x ≡ 32) → check_kinds rs ≡ good r
    → GoodStarts r
kinds_good rs r w e = by_kind (first_bad_kind false 0 rs) refl
  where
    by_kind : (o : Option ℕ) → first_bad_kind false 0 rs ≡ o → GoodStarts r
    by_kind (some i) q = bad-good (rw (q, check_kinds) at e)
    by_kind none q = counts_good rs r w (kinds_sorted 0 rs q) (rw (q, check_kinds) at e)

-- the records of an input have 32 bytes
pub records_wide : (s : List ℕ) → no_records s ≡ false → (x : List ℕ) → In x (records_of s) → length x ≡ 32
records_wide s a =
    let n = or_false_r (eqb (length s) 0) (not (eqb (length s % 32) 0)) a in
    let m : length s % 32 ≡ 0 = bool_case (eqb (length s % 32) 0) (eqb-true (length s % 32) 0)
    (λ z. clash refl (sym (ap not z) ∙ n)) in
    chunks_wide (length s / 32) s (omega arith)

-- an accepted input has good starting shapes
pub check_good : (s : List ℕ) (r : Routine) → check s ≡ good r → GoodStarts r
unfolding check
check_good s r e = bool_case (no_records s) (λ a. bad-good (rw (a, check) at e))
    (λ a. kinds_good (records_of s) r (records_wide s a) (rw (a, check) at e))

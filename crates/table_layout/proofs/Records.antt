-- The records of a table one after the other, and a location's record test by test.
use Prim.Native.Nat.{ℕ, ◌≤◌, ◌<◌}
use mathlib.Core.Path.{◌≡◌, refl, sym, ap, ap₂, ◌∙◌}
use mathlib.Core.Bool.{Bool, true, false, ◌&&◌, ◌||◌, and-false, cond, not}
use mathlib.Core.List.{List}
use native.Mathlib.Omega.{arith}
use lib.Dec.{eqb, leb, ltb}
use lib.ListN.{drop}
use borrow.Author.Tests.{eq-eqb, le-leb, le-ltb, leb-false, leb-true, lt-leb, lt-ltb, ltb-false, ltb-true, ne_eqb, not-false as unnot}
use Rattle.model.specs.Base.{all, numbers}
use Rattle.model.specs.Layout.{edge_keeps_in, keeps_layout, location_keeps}
use Rattle.model.specs.Part.{counts_in_places}
use Rattle.model.specs.Records.{byte, is_zero, record_at, shape_fields}
use Rattle.model.specs.Translate.{Tables}
use Rattle.model.proofs.lists.Lists.{all_in}
use Rattle.model.proofs.lists.Logic.{and_both, bool_case, not-false}
use Rattle.model.proofs.lists.Numbers.{numbers_in}
use Rattle.model.proofs.records.LayoutFacts.{location_few}

none_of : (a b c : Bool) → not a || not b || not c ≡ not (a && b && c)
none_of true true c = refl
none_of true false c = refl
none_of false b c = refl

leb_is : (m n : ℕ) → leb m n ≡ not (ltb n m)
leb_is m n = bool_case (ltb n m) (λ e. lt-leb m n (ltb-true n m e) ∙ sym (ap not e))
    (λ e. le-leb m n (ltb-false n m e) ∙ sym (ap not e))

ltb_is : (m n : ℕ) → ltb m n ≡ not (leb n m)
ltb_is m n = bool_case (leb n m) (λ e. le-ltb m n (leb-true n m e) ∙ sym (ap not e))
    (λ e. lt-ltb m n (leb-false n m e) ∙ sym (ap not e))

-- the head of a location's record
module _ (r : List ℕ) where
  abbrev Off : Bool
  Off = not (eqb (byte r 0) 0x4c) || leb 64 (byte r 1) || ltb 3 (byte r 2)

  abbrev rest : Bool
  rest = cond (is_zero (byte r 2)) (shape_fields r) (all is_zero (drop 3 r))

  abbrev head : Bool
  head = eqb (byte r 0) 0x4c && ltb (byte r 1) 64 && leb (byte r 2) 3

  off_is : Off ≡ not head
  off_is = ap₂ (λ x y. not (eqb (byte r 0) 0x4c) || x || y) (leb_is 64 (byte r 1)) (ltb_is 3 (byte r 2))
      ∙ none_of (eqb (byte r 0) 0x4c) (ltb (byte r 1) 64) (leb (byte r 2) 3)

  head_is : Off ≡ false → head ≡ true
  head_is h = unnot head (sym off_is ∙ h)

  pub head_off : Off ≡ true → false ≡ location_keeps r
  head_off h = sym (ap (λ b. b && rest) (not-false head (sym off_is ∙ h)))

  pub location_shape : Off ≡ false → byte r 2 ≡ 0 → shape_fields r ≡ location_keeps r
  location_shape h e = sym (ap (λ b. b && rest) (head_is h) ∙ ap (λ b. cond b (shape_fields r) (all is_zero (drop 3 r)))
      (eq-eqb (byte r 2) 0 e))

  pub location_fault : Off ≡ false → (byte r 2 ≡ 0 → ⊥) → all is_zero (drop 3 r) ≡ location_keeps r
  location_fault h e = sym (ap (λ b. b && rest) (head_is h) ∙ ap (λ b. cond b (shape_fields r) (all is_zero (drop 3 r)))
      (ne_eqb (byte r 2) 0 e))

-- the three parts of the layout, in their order
module _ (t : Tables) where
  abbrev locs : Bool
  locs = all (λ n. location_keeps (record_at t.loc_bytes n)) (numbers 0 t.loc_count)

  abbrev eds : Bool
  eds = all (λ n. edge_keeps_in t (record_at t.edge_bytes n)) (numbers 0 t.edge_count)

  pub counts_off : counts_in_places t ≡ false → false ≡ keeps_layout t
  unfolding keeps_layout
  counts_off e = sym (ap (λ b. b && locs && eds) e)

  pub locations_off : locs ≡ false → false ≡ keeps_layout t
  unfolding keeps_layout
  locations_off e = sym (ap (λ b. counts_in_places t && b && eds) e
      ∙ ap (λ b. b && eds) (and-false (counts_in_places t)))

  pub edges_decide : counts_in_places t ≡ true → locs ≡ true → eds ≡ keeps_layout t
  unfolding keeps_layout
  edges_decide c l = sym (ap (λ b. b && eds) (and_both (counts_in_places t) locs c l))

  -- where the locations keep the layout, none has more than twelve nodes
  pub locations_few : locs ≡ true → (i : ℕ) → i < t.loc_count → byte (record_at t.loc_bytes i) 3 ≤ 12
  locations_few h i lt = location_few (record_at t.loc_bytes i)
      (all_in (λ n. location_keeps (record_at t.loc_bytes n)) (numbers 0 t.loc_count) i h
      (numbers_in 0 t.loc_count i (omega arith) (omega arith)))

-- Records as they are written keep the layout: a location's, and an edge's.
use Prim.Native.Nat.{◌%◌, ◌*◌, ◌+◌, ◌-◌, ◌/◌, ◌<◌, ◌^◌, ◌≤◌, suc, zero, ℕ}
use mathlib.Core.Path.{◌∙◌, ◌≡◌, ap, refl, sym}
use mathlib.Core.Logic.{inl, inr}
use mathlib.Core.Bool.{Bool, ◌&&◌, cond, false, not, true}
use mathlib.Core.List.{List, [], ◌∷◌, map}
use native.Mathlib.Omega.{arith}
use lib.Dec.{eqb, leb, ltb}
use lib.ListN.{drop, get_or, length}
use borrow.Author.Tests.{le-leb, lt-ltb}
use Rattle.model.specs.Base.{all, count}
use Rattle.model.specs.Edges.{Edge, Guard, Loc, Update, Test, at, failed, is_more, is_one}
use Rattle.model.specs.Layout.{added_once, adds_old, bytes_keep, constant_keeps, could_fall, counters_there, edge_keeps, ends_keep, guard_keeps, guard_there, location_keeps, nodes_keep}
use Rattle.model.specs.Listings.{WritableLoc}
use Rattle.model.specs.Machine.{at_null, at_undef, leak}
use Rattle.model.specs.Notions.{AddApart, In, Pairs, SmallEdge, statement_of}
use Rattle.model.specs.Records.{GuardCode, byte, edge_record, guard_code, is_zero, loc_record, test_number, update_code}
use Rattle.model.specs.Runs.{guards_of, updates_of}
use Rattle.model.proofs.lists.Lists.{all_map, count_once, pairs_map, pairs_mono_in}
use Rattle.model.proofs.lists.Logic.{and_both, and_five, or_r}
use Rattle.model.proofs.lists.Numbers.{all_numbers}
use Rattle.model.proofs.records.Bytes.{bits_pow, code_bit, code_flags, code_plus, zeros_pass}
use Rattle.model.proofs.records.EdgeBack.{edge_bit, edge_codes, edge_from, edge_guards, edge_rest_lem, edge_to, edge_updates}
use Rattle.model.proofs.records.Falls.{StaysPositive, never_falls}
use Rattle.model.proofs.records.ShapeBack.{shape_fields_written}

-- a location with one of 64 statements
pub location_keeps_lem : (l : Loc) → WritableLoc l → statement_of l < 64 → location_keeps (loc_record l) ≡ true
location_keeps_lem (at s h) W lt = rw (lt-ltb s 64 lt) (shape_fields_written h W 0x4c s 0)
location_keeps_lem (failed s at_null) W lt = rw (lt-ltb s 64 lt)
location_keeps_lem (failed s at_undef) W lt = rw (lt-ltb s 64 lt)
location_keeps_lem (failed s leak) W lt = rw (lt-ltb s 64 lt)

-- ---- the guards of an edge, in numbers

test_keeps : (x : Test) (n : ℕ) → guard_keeps (record { test = test_number x; node = n }) ≡ true
test_keeps is_one n = refl
test_keeps is_more n = refl

guard_keeps_lem : (gs : List Guard) (i : ℕ) → guard_keeps (guard_code gs i) ≡ true
guard_keeps_lem [] i = refl
guard_keeps_lem (g ∷ gs) zero = test_keeps g.test g.node
guard_keeps_lem (g ∷ gs) (suc i) = guard_keeps_lem gs i

guard_there_lem : (k : ℕ) (gs : List Guard) → ((g : Guard) → In g gs → g.node < k) → (i : ℕ)
    → guard_there k (guard_code gs i) ≡ true
guard_there_lem k [] h i = refl
guard_there_lem k (g ∷ gs) h zero = or_r (is_zero (test_number g.test)) (ltb g.node k)
    (lt-ltb g.node k (h g (inl refl)))
guard_there_lem k (g ∷ gs) h (suc i) = guard_there_lem k gs (λ f j. h f (inr j)) i

-- ---- an edge of a location with k nodes

flag_one : (b : Bool) → eqb (cond b 1 0) 1 ≡ b
flag_one true = refl
flag_one false = refl

-- an update's code adds the old counters that the update flags
pub adds_flagged : (u : Update) (i : ℕ) → length u.adds ≤ 12 → i < 12 → adds_old i (update_code u)
    ≡ get_or u.adds i false
adds_flagged u i h lt = ap (λ m. eqb m 1) (code_bit u i h lt) ∙ flag_one (get_or u.adds i false)

module _ (from to k : ℕ) (e : Edge) (few : k ≤ 12) (S : SmallEdge k e) where
  abbrev R : List ℕ
  R = edge_record from to e

  abbrev kt : ℕ
  kt = length e.updates

  all_guards : (p : GuardCode → Bool) → ((i : ℕ) → p (guard_code e.guards i) ≡ true) → all p (guards_of R) ≡ true
  all_guards p h =
      ap (all p) (edge_codes from to k e S.branch S.guarded (omega arith))
      ∙ and_both (p (guard_code e.guards 0)) (p (guard_code e.guards 1) && true) (h 0)
      (and_both (p (guard_code e.guards 1)) true (h 1) refl)

  all_updates : (p : ℕ → Bool) → ((u : Update) → In u e.updates → p (update_code u) ≡ true)
      → all p (updates_of kt R) ≡ true
  all_updates p h = ap (all p) (edge_updates from to e) ∙ all_map p update_code e.updates h

  flags_few : (u : Update) → In u e.updates → length u.adds ≤ 12
  flags_few u i = let z = (S.small u i).1 in omega arith

  bytes_keep_lem : bytes_keep kt R ≡ true
  bytes_keep_lem = and_five true (ltb (byte R 1) 128) (all guard_keeps (guards_of R))
      (all constant_keeps (updates_of kt R))
      (all is_zero (drop (8 + 2 * kt) R)) refl
      (lt-ltb (byte R 1) 128 (edge_bit from to k e S.branch S.guarded (omega arith)))
      (all_guards guard_keeps (guard_keeps_lem e.guards))
      (all_updates constant_keeps (λ u i. let p = (S.small u i).0 in
      lt-ltb (update_code u / 4096) 3 (omega (arith, code_plus u (flags_few u i)))))
      (ap (all is_zero) (edge_rest_lem from to e) ∙ zeros_pass (24 - 2 * kt))

  nodes_keep_lem : nodes_keep k kt R ≡ true
  nodes_keep_lem = and_both (all (guard_there k) (guards_of R)) (all (counters_there k) (updates_of kt R))
      (all_guards (guard_there k) (guard_there_lem k e.guards S.guarded.known))
      (all_updates (counters_there k) (λ u i. lt-ltb (update_code u % 4096) (2 ^ k)
      (rw (code_flags u (flags_few u i)) (bits_pow k u.adds (let z = (S.small u i).1 in omega arith)))))

  -- where no old counter is added by two updates
  added_once_lem : Pairs AddApart e.updates → added_once (updates_of kt R) ≡ true
  added_once_lem P = ap added_once (edge_updates from to e)
      ∙ all_numbers (λ i. leb (count (adds_old i) (map update_code e.updates)) 1) 12 (λ i lt.
      le-leb (count (adds_old i) (map update_code e.updates)) 1
      (count_once (adds_old i) (map update_code e.updates)
      (pairs_map (λ x y. adds_old i x ≡ true → adds_old i y ≡ true → ⊥) update_code e.updates
      (pairs_mono_in AddApart (λ u v. adds_old i (update_code u) ≡ true → adds_old i (update_code v) ≡ true → ⊥)
      e.updates
      (λ u v a b h p q. h i (sym (adds_flagged u i (flags_few u a) lt) ∙ p)
      (sym (adds_flagged v i (flags_few v b) lt) ∙ q)) P))))

  none_falls : StaysPositive k e → all (λ u. not (could_fall k (guards_of R) u)) (updates_of kt R) ≡ true
  none_falls P = all_updates (λ u. not (could_fall k (guards_of R) u)) (λ u i. ap not
      (never_falls k (guards_of R) e few S P (edge_guards from to k e S.branch S.guarded (omega arith)) u i))

  -- among n locations
  pub edge_keeps_lem : (n : ℕ) → from < n → to < n → Pairs AddApart e.updates → StaysPositive k e
      → edge_keeps n k kt R ≡ true
  edge_keeps_lem n f t A P = and_five (ends_keep n R) (bytes_keep kt R) (nodes_keep k kt R)
      (added_once (updates_of kt R))
      (all (λ u. not (could_fall k (guards_of R) u)) (updates_of kt R))
      (simp (edge_from from to e, edge_to from to e, lt-ltb from n f, lt-ltb to n t))
      bytes_keep_lem nodes_keep_lem (added_once_lem A) (none_falls P)

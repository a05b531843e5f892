-- The search for a record in a table: what it tells; and that among distinct locations the newest that is equal is the
-- first, which the exploration takes.
use Prim.Native.Nat.{ℕ, ◌*◌, ◌≤◌, ◌<◌}
use mathlib.Core.Path.{◌≡◌, refl, sym, ap, ap₂, subst, ◌∙◌}
use mathlib.Core.Logic.{◌↔◌}
use mathlib.Core.Bool.{true}
use mathlib.Core.List.{List, [], ◌++◌, map}
use mathlib.Core.Option.{Option, none, some}
use native.Mathlib.Omega.{arith}
use lib.Dec.{eqb, ltb}
use lib.ListN.{drop, get_or, length, length-drop, length-map, replicate}
use lib.Seq.{length-take-le}
use borrow.Author.Tests.{le-ltb, lt-ltb, ltb-false, ltb-true}
use Rattle.model.specs.Base.{any, place_of, same_list}
use Rattle.model.specs.Edges.{Edge, Loc, edges_of, failed, same_loc}
use Rattle.model.specs.Listings.{GoodLoc, WritableLoc, explored, extend, loc_at}
use Rattle.model.specs.Machine.{leak}
use Rattle.model.specs.Notions.{Distinct, In}
use Rattle.model.specs.Records.{is_accepted, loc_record, record_at}
use Rattle.model.specs.Search.{Equal, TellsNewest, cut_count, equal_at, highest_below, number_below, searched}
use Rattle.model.specs.Translate.{Listing, Routine, places, table_of, translate}
use Rattle.model.proofs.listings.Exact.{edge_below, explored_distinct}
use Rattle.model.proofs.listings.FullListing.{explored_good}
use Rattle.model.proofs.listings.Listing.{extend_all, extend_distinct}
use Rattle.model.proofs.listings.Moves.{good_writable}
use Rattle.model.proofs.listings.Outcomes.{fitting, records_distinct}
use Rattle.model.proofs.listings.Reached.{good_edge}
use Rattle.model.proofs.lists.Highest.{TellsHighest, highest_only, highest_tells}
use Rattle.model.proofs.lists.Lists.{any_in, get_or_in_lem, get_or_map, in_append_l}
use Rattle.model.proofs.lists.Logic.{bool_case, bool_ext, clash, not-true}
use Rattle.model.proofs.records.Bytes.{records_wide, table_length, table_record}
use Rattle.model.proofs.records.Checked.{GoodStarts}
use Rattle.model.proofs.records.ReadBack.{location_injective, record_length}
use Rattle.model.proofs.shapes.Same.{bytes_same, distinct_at, loc_same, place_found, place_none, place_passes, same_bytes_refl, same_loc_refl}

-- ---- any table, count and record

-- the one record of a table is found, and where there is no place nothing is, as it is computed
one_found : searched (replicate 32 7) 1 (replicate 32 7) ≡ some 0
unfolding searched
one_found = refl

no_place : searched [] 1 [] ≡ none
unfolding searched
no_place = refl

module _ (t : List ℕ) (n : ℕ) (r : List ℕ) where
  equal_is : (i : ℕ) → i < cut_count t n → equal_at t r i ≡ true → Equal t n r i
  equal_is i h e = record { counted = omega arith; placed = omega arith; same = bytes_same (record_at t i) r e }

  is_equal : (i : ℕ) → Equal t n r i → (i < cut_count t n) × (equal_at t r i ≡ true)
  is_equal i E = (
    omega (arith, E.counted, E.placed),
    ap (λ x. same_list eqb x r) E.same ∙ same_bytes_refl r,
  )

  from_highest : (o : Option ℕ) → TellsHighest (cut_count t n) (equal_at t r) o → TellsNewest t n r o
  from_highest none h = λ j E. let e = is_equal j E in clash e.1 (h j e.0)
  from_highest (some i) (lt, on, above) = (
    equal_is i lt on,
    λ j E. let e = is_equal j E in
        bool_case (ltb i j) (λ x. clash e.1 (above j (ltb-true i j x) e.0))
        (λ x. let le = ltb-false i j x in omega arith),
  )

  to_highest : (o : Option ℕ) → TellsNewest t n r o → TellsHighest (cut_count t n) (equal_at t r) o
  to_highest none h = λ j lt. not-true (equal_at t r j) (λ e. h j (equal_is j lt e))
  to_highest (some i) (E, most) = (
    (is_equal i E).0,
    (is_equal i E).1,
    λ j k lt. not-true (equal_at t r j) (λ e. let le = most j (equal_is j lt e) in omega arith),
  )

  -- what is told is the newest that is equal, or that none is, and nothing else
  pub search_tells : (o : Option ℕ) → (searched t n r ≡ o) ↔ TellsNewest t n r o
  unfolding searched
  search_tells o = (
    (λ e. subst (TellsNewest t n r) e
        (from_highest (searched t n r) (highest_tells (equal_at t r) (cut_count t n)))),
    (λ h. highest_only (equal_at t r) (cut_count t n) o (to_highest o h)),
  )

  -- below the places a record of the table has 32 bytes
  pub search_length : (length r ≡ 32 → ⊥) → searched t n r ≡ none
  search_length h = (search_tells none).1 (λ j E.
      let d = length-drop (32 * j) t in
      let p = E.placed in
      h (ap length (sym E.same) ∙ length-take-le 32 (drop (32 * j) t) (omega arith)))

-- ---- a table of locations

-- two locations are the same where their records are
same_record : (m l : Loc) → WritableLoc m → WritableLoc l → same_list eqb (loc_record m) (loc_record l) ≡ same_loc l m
same_record m l M L = bool_ext (same_list eqb (loc_record m) (loc_record l)) (same_loc l m)
    (λ e. ap (same_loc l) (location_injective m l M L (bytes_same (loc_record m) (loc_record l) e)) ∙ same_loc_refl l)
    (λ e. ap (λ z. same_list eqb (loc_record m) (loc_record z)) (loc_same l m e) ∙ same_bytes_refl (loc_record m))

-- the table t holds the distinct locations ls, and r is the record of l
module _ (ls : List Loc) (l : Loc) (a : ℕ) (t r : List ℕ) (once : Distinct ls)
    (W : (m : Loc) → In m ls → WritableLoc m) (L : WritableLoc l) (p : t ≡ table_of a (map loc_record ls))
    (q : r ≡ loc_record l) where
  wide : (x : List ℕ) → In x (map loc_record ls) → length x ≡ 32
  wide = records_wide loc_record ls (λ x i. record_length x (W x i))

  equal_location : (j : ℕ) → j < length ls → equal_at t r j ≡ same_loc l (get_or ls j l)
  equal_location j k =
      let m = get_or ls j l in
      let k' : j < length (map loc_record ls) = omega (arith, length-map ls loc_record) in
      let e : record_at t j ≡ loc_record m =
      ap (λ x. record_at x j) p ∙ table_record a (map loc_record ls) j wide k' ∙ get_or_map loc_record ls j l [] k in
      ap₂ (same_list eqb) e q ∙ same_record m l (W m (get_or_in_lem ls l j k)) L

  -- the place of the location, where it is known; nothing else is equal
  place_tells : TellsHighest (length ls) (equal_at t r) (number_below (length ls) (place_of (same_loc l) ls))
  place_tells =
      let i = place_of (same_loc l) ls in
      let n = length ls in
      bool_case (any (same_loc l) ls)
      (λ e. let h = place_found (same_loc l) ls e in
      let on = place_passes (same_loc l) ls l h in
      rw (lt-ltb i n h) (
        h,
        equal_location i h ∙ on,
        λ j k lt. not-true (equal_at t r j) (λ x.
            let same = sym (loc_same l (get_or ls i l) on)
            ∙ loc_same l (get_or ls j l) (sym (equal_location j lt) ∙ x) in
            let e = distinct_at ls l i j once h lt same in
            omega arith),
      ))
      (λ e. let z = place_none (same_loc l) ls e in
      rw (le-ltb i n (omega arith)) (λ j lt. not-true (equal_at t r j) (λ x.
      clash (any_in (same_loc l) ls (get_or ls j l) (get_or_in_lem ls l j lt) (sym (equal_location j lt) ∙ x)) e)))

  pub known_place : highest_below (length ls) (equal_at t r) ≡ number_below (length ls) (place_of (same_loc l) ls)
  known_place = highest_only (equal_at t r) (length ls) (number_below (length ls) (place_of (same_loc l) ls))
      place_tells

  pub known_searched : length ls ≤ places 1024 a
      → searched t (length ls) r ≡ number_below (length ls) (place_of (same_loc l) ls)
  unfolding searched
  known_searched fits =
      let m = length-map ls loc_record in
      let e : length t ≡ a = ap length p ∙ table_length a (map loc_record ls) wide (omega arith) in
      let c : cut_count t (length ls) ≡ length ls = omega arith in
      ap (λ n. highest_below n (equal_at t r)) c ∙ known_place

-- ---- the locations known while a routine is explored

-- once the first edges es of location i are added to the listing of those below it
module _ (r : Routine) (G : GoodStarts r) (i : ℕ) (es later : List Edge)
    (front : edges_of r.stmts (loc_at (explored r.stmts r.starts i).locs i) ≡ es ++ later) where
  abbrev t : Listing
  t = explored r.stmts r.starts i

  now_once : Distinct (extend i es t).locs
  now_once = extend_distinct i es t (explored_distinct r.stmts r.starts G.distinct i)

  now_good : (l : Loc) → In l (extend i es t).locs → GoodLoc l
  now_good = extend_all GoodLoc i es t (explored_good r G i) (λ e h.
      let ls = t.locs in
      let k = subst (In e) (sym front) (in_append_l e es later h) in
      let lt = edge_below r.stmts ls i e k in
      (good_edge r.stmts (loc_at ls i) (explored_good r G i (loc_at ls i) (get_or_in_lem ls (failed 0 leak) i lt)) e
      k).1)

  pub now_searched : (l : Loc) → WritableLoc l → (a : ℕ) → length (extend i es t).locs ≤ places 1024 a
      → searched (table_of a (map loc_record (extend i es t).locs)) (length (extend i es t).locs) (loc_record l)
      ≡ number_below (length (extend i es t).locs) (place_of (same_loc l) (extend i es t).locs)
  now_searched l L a =
      let ls = (extend i es t).locs in
      known_searched ls l a (table_of a (map loc_record ls)) (loc_record l) now_once
      (λ m h. good_writable m (now_good m h)) L refl refl

-- in the tables of an accepted translation each location's record is found at its number
pub own_number : (s : List ℕ) (a b : ℕ) → (translate s a b).verdict ≡ is_accepted → (i : ℕ)
    → i < (translate s a b).tables.loc_count
    → searched (translate s a b).tables.loc_bytes (translate s a b).tables.loc_count
    (record_at (translate s a b).tables.loc_bytes i) ≡ some i
own_number s a b z i h =
    let T = (translate s a b).tables in
    let F = fitting s a b in
    let n = F.loc_most in
    let m : T.loc_count ≤ places 1024 (length T.loc_bytes) = rw F.loc_length n in
    (search_tells T.loc_bytes T.loc_count (record_at T.loc_bytes i) (some i)).1 (
      record { counted = h; placed = omega arith; same = refl },
      λ j E. let e = records_distinct s a b j i z E.counted h E.same in omega arith,
    )

-- The starting shapes in the location table: one more entered, all entered.
use Prim.Native.Nat.{ℕ, zero, suc, ◌+◌, ◌<◌, ◌≤◌}
use native.Mathlib.Numerals.{add-one}
use native.Mathlib.Omega.{arith}
use mathlib.Core.Path.{◌≡◌, sym, ap, subst, ◌∙◌}
use mathlib.Core.Logic.{inl, inr}
use mathlib.Core.List.{List, [], ◌∷◌, ◌++◌, map}
use lib.ListN.{length, get_or, take, replicate, length-map}
use lib.Seq.{length-take-le, take_all, take-suc}
use Rattle.model.specs.Base.{most_locations}
use Rattle.model.specs.Heap.{Heap}
use Rattle.model.specs.Edges.{Loc, at}
use Rattle.model.specs.Records.{loc_record, record_at, shape_of}
use Rattle.model.specs.Translate.{check, good, places, table_of}
use Rattle.model.proofs.records.Bytes.{records_wide, table_empty}
use Rattle.model.specs.Notions.{Canon, In}
use Rattle.model.proofs.records.Checked.{check_good}
use Rattle.model.proofs.lists.Lists.{get_or_map, in_map}
use Rattle.model.specs.Listings.{WritableLoc}
use Rattle.model.proofs.records.ReadBack.{canon_writable, record_length}
use Rattle.input.specs.Input.{routine_in}
use Rattle.input.specs.Accepted.{Accepted}
use Rattle.input.proofs.Facts.{start_at, start_record, starts_length}
use Rattle.record.specs.Written.{location_bytes, placed}
use Rattle.record.proofs.Placed.{placed_next}
use Rattle.starts.specs.Starts.{start_locs}

in_take : {A : Type 0} (x : A) (n : ℕ) (l : List A) → In x (take n l) → In x l
in_take x zero l i = absurd i
in_take x (suc n) [] i = i
in_take x (suc n) (y ∷ l) (inl e) = inl e
in_take x (suc n) (y ∷ l) (inr i) = inr (in_take x n l i)

module _ (s : List ℕ) (n m : ℕ) (g : check s ≡ good (routine_in n s)) (A : Accepted s n m) where
  pub count_is : length (start_locs n s) ≡ m
  count_is = length-map (routine_in n s).starts (at 0) ∙ starts_length s n m A.whole

  pub records_number : length (map loc_record (start_locs n s)) ≡ m
  records_number = length-map (start_locs n s) loc_record ∙ count_is

  -- each is a shape with six pointers
  pub start_shape : (l : Loc) → In l (start_locs n s) → (h : Heap) × (l ≡ at 0 h) × (Canon h × (length h.ptrs ≡ 6))
  start_shape l i =
      let y = in_map (at 0) l (routine_in n s).starts i in
      (y.0, y.2, (check_good s (routine_in n s) g).shapes y.0 y.1)

  pub start_writable : (l : Loc) → In l (start_locs n s) → WritableLoc l
  start_writable l i =
      let y = start_shape l i in
      subst WritableLoc (sym y.1) (canon_writable y.0 y.2.0 y.2.1)

  start_wide : (r : List ℕ) → In r (map loc_record (start_locs n s)) → length r ≡ 32
  start_wide = records_wide loc_record (start_locs n s) (λ l i. record_length l (start_writable l i))

  -- record j of the location table
  start_is : (j : ℕ) → j < m → get_or (map loc_record (start_locs n s)) j [] ≡ location_bytes 0 0 (record_at s (n + j))
  start_is j h =
      let d : Heap = shape_of [] in
      get_or_map loc_record (start_locs n s) j (at 0 d) [] (omega (arith, count_is))
      ∙ ap loc_record
      (get_or_map (at 0) (routine_in n s).starts j d (at 0 d) (omega (arith, starts_length s n m A.whole)))
      ∙ ap (λ x. loc_record (at 0 x)) (start_at s n m A.whole j d h) ∙ start_record s n m A j h

  -- one more
  pub enter_turn : (a j : ℕ) (t : List ℕ) → j < m → m ≤ places most_locations a
      → t ≡ table_of a (take j (map loc_record (start_locs n s)))
      → placed t j (location_bytes 0 0 (record_at s (n + j)))
      ≡ table_of a (take (j + 1) (map loc_record (start_locs n s)))
  enter_turn a j t h room e =
      let L : List (List ℕ) = map loc_record (start_locs n s) in
      let few : length (take j L) ≡ j = length-take-le j L (omega (arith, records_number)) in
      let r = location_bytes 0 0 (record_at s (n + j)) in
      let next : take (j + 1) L ≡ take j L ++ (r ∷ []) =
      ap (λ k. take k L) (add-one j) ∙ take-suc L j [] (omega (arith, records_number))
      ∙ ap (λ x. take j L ++ (x ∷ [])) (start_is j h) in
      ap (λ x. placed x j r) e
      ∙ subst (λ k. placed (table_of a (take j L)) k r ≡ table_of a (take j L ++ (r ∷ []))) few
      (placed_next a (take j L) r (λ x i. start_wide x (in_take x j L i)) (omega arith))
      ∙ ap (table_of a) (sym next)

  pub enter_end : (j : ℕ) → m ≤ j → take j (map loc_record (start_locs n s)) ≡ map loc_record (start_locs n s)
  enter_end j h = take_all j (map loc_record (start_locs n s)) (omega (arith, records_number))

  pub enter_none : (ls : List ℕ) → ls ≡ replicate (length ls) 0
      → ls ≡ table_of (length ls) (take 0 (map loc_record (start_locs n s)))
  enter_none ls e = e ∙ sym (table_empty (length ls))

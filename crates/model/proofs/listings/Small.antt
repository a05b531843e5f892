-- Tables of any lengths beside the full tables, and the bench's: the same listing where it fits, the same refusal of
-- the input, and 11 and 12 told from the full translator's bytes.
use Prim.Native.Nat.{◌-◌, ◌≤◌, ℕ}
use mathlib.Core.Path.{◌∙◌, ◌≡◌, ap, ap₂, refl, subst, sym}
use mathlib.Core.Logic.{◌↔◌, ◌⊎◌, inl, inr, ⊎_elim}
use mathlib.Core.Bool.{false, true}
use mathlib.Core.List.{List, ◌++◌, append-nil, map, map-map}
use native.Mathlib.Omega.{arith}
use lib.Dec.{ltb}
use lib.ListN.{length, length-map, replicate, take}
use borrow.Author.Tests.{le-ltb}
use Rattle.model.proofs.lists.Logic.{clash}
use Rattle.model.specs.Base.{numbers, mem}
use Rattle.model.specs.Bench.{AcceptsFitting, EqualsFull, FailsAsFull, FitsIn, FullFitsIn, RefusesUnplaced, bench_edges, bench_locations, cut_to, ends_at, ends_in, ends_of, first_unplaced, translate_bench, translate_full, unplaced}
use Rattle.model.specs.Listings.{Exact, IsFull, Placed, link_at, no_link, numbers_input}
use Rattle.model.specs.Records.{Refusal, Verdict, is_accepted, is_refused, loc_record, word}
use Rattle.model.specs.Translate.{Listing, Outcome, Routine, bad, check, good, link_record, listed_with, places, refused_with, tables_of, translate}
use Rattle.model.proofs.listings.Exact.{listing_exact}
use Rattle.model.proofs.listings.Listing.{listing_whole}
use Rattle.model.proofs.listings.Moves.{links_wide, locs_wide}
use Rattle.model.proofs.listings.Outcomes.{TranslateCases, bad_translate, fits_accepted, fitting, full_one, is_accepted_lem, places_most, tables_hold, translate_cases}
use Rattle.model.proofs.listings.Places.{full_number}
use Rattle.model.proofs.listings.Unplaced.{unplaced_says}
use Rattle.model.proofs.lists.Lists.{map_same}
use Rattle.model.proofs.lists.Numbers.{in_numbers, read_all}
use Rattle.model.proofs.records.Bytes.{table_cut}
use Rattle.model.proofs.records.Checked.{bad-good, check_good, good_inj}
use Rattle.model.proofs.records.Checks.{not_both, refused_inj}
use Rattle.model.proofs.records.EdgeBack.{edge_from, edge_to}
use Rattle.model.proofs.records.Refusals.{bad_number, refused_input}

-- ---- accepted

-- what an accepted translation is: the full listing of a checked input, with places
pub record Whole (s : List ℕ) (a b : ℕ) : Type 0 where
  pub routine : Routine
  pub list : Listing
  pub checked : check s ≡ good routine
  pub is_full : IsFull routine list
  pub is_placed : Placed (places 1024 a) (places 2048 b) list
  pub is_exact : Exact routine list
  pub leaves : translate s a b ≡ listed_with a b list

whole : (s : List ℕ) (a b : ℕ) → (translate s a b).verdict ≡ is_accepted → Whole s a b
whole s a b z =
    let A = is_accepted_lem s a b z in
    let w = listing_whole A.0 (places 1024 a) (places 2048 b) A.1 A.3 in
    record {
      routine = A.0;
      list = A.1;
      checked = A.2;
      is_full = w.0;
      is_placed = w.1;
      is_exact = listing_exact A.0 (places 1024 a) (places 2048 b) A.1 (check_good s A.0 A.2).distinct
          A.3;
      leaves = A.4;
    }

-- what fits in fewer places fits in more
accepted_more : (s : List ℕ) (a b c d : ℕ) → places 1024 a ≤ places 1024 c → places 2048 b ≤ places 2048 d
    → (translate s a b).verdict ≡ is_accepted → (translate s c d).verdict ≡ is_accepted
accepted_more s a b c d h k z =
    let W = whole s a b z in
    let P = W.is_placed in
    (fits_accepted s c d W.routine W.list W.checked W.is_full).1
    (let p = P.0 in omega arith, let p = P.1 in omega arith)

-- so the full translator accepts what any tables do
pub full_accepted : (s : List ℕ) (a b : ℕ) → (translate s a b).verdict ≡ is_accepted
    → (translate_full s).verdict ≡ is_accepted
full_accepted s a b = accepted_more s a b 32768 65536 (places_most 1024 a).0 (places_most 2048 b).0

-- two accepted translations have one listing
same_list_lem : (s : List ℕ) (a b c d : ℕ) (U : Whole s a b) (W : Whole s c d) → U.list ≡ W.list
same_list_lem s a b c d U W =
    full_one U.routine U.list W.list U.is_full
    (subst (λ r. IsFull r W.list) (good_inj (sym W.checked ∙ U.checked)) W.is_full)

loc_count_lem : (s : List ℕ) (a b : ℕ) (W : Whole s a b) → (translate s a b).tables.loc_count ≡ length W.list.locs
loc_count_lem s a b W = ap (λ (o : Outcome). o.tables.loc_count) W.leaves

edge_count_lem : (s : List ℕ) (a b : ℕ) (W : Whole s a b) → (translate s a b).tables.edge_count ≡ length W.list.links
edge_count_lem s a b W = ap (λ (o : Outcome). o.tables.edge_count) W.leaves

pub accepts_fitting : (s : List ℕ) (a b : ℕ) → AcceptsFitting a b (places 1024 a) (places 2048 b) s
accepts_fitting s a b = (
  (fits, λ F. (fits_accepted s a b F.0 F.1 F.2 F.3).1 F.4),
  (full_fits, from_full),
)
  where
    fits : (translate s a b).verdict ≡ is_accepted → FitsIn (places 1024 a) (places 2048 b) s
    fits z = let W = whole s a b z in (W.routine, W.list, W.checked, W.is_full, W.is_placed)

    full_fits : (translate s a b).verdict ≡ is_accepted → FullFitsIn (places 1024 a) (places 2048 b) s
    full_fits z =
        let f = full_accepted s a b z in
        let U = whole s a b z in
        let W = whole s 32768 65536 f in
        let q = ap (λ (t : Listing). length t.locs) (same_list_lem s a b 32768 65536 U W) in
        let p = ap (λ (t : Listing). length t.links) (same_list_lem s a b 32768 65536 U W) in
        let h = U.is_placed.0 in
        let k = U.is_placed.1 in
        (f, omega (arith, loc_count_lem s 32768 65536 W), omega (arith, edge_count_lem s 32768 65536 W))

    from_full : FullFitsIn (places 1024 a) (places 2048 b) s → (translate s a b).verdict ≡ is_accepted
    from_full (z, l, e) =
        let W = whole s 32768 65536 z in
        (fits_accepted s a b W.routine W.list W.checked W.is_full).1
        (omega (arith, loc_count_lem s 32768 65536 W), omega (arith, edge_count_lem s 32768 65536 W))

-- ---- the same bytes

bytes_cut : (s : List ℕ) (a b : ℕ) (r : Routine) (t : Listing) → check s ≡ good r → Exact r t
    → Placed (places 1024 a) (places 2048 b) t → Placed 1024 2048 t
    → ((tables_of a b t).loc_bytes ≡ cut_to a (tables_of 32768 65536 t).loc_bytes)
    × ((tables_of a b t).edge_bytes ≡ cut_to b (tables_of 32768 65536 t).edge_bytes)
bytes_cut s a b r t e X P Q =
    let G = check_good s r e in
    let ln = length-map t.locs loc_record in
    let en = length-map t.links link_record in
    let p = P.0 in
    let q = P.1 in
    let m = Q.0 in
    let n = Q.1 in (
      table_cut a 32768 (map loc_record t.locs) (locs_wide r t X G a b) (omega (arith, places_most 1024 a))
          (omega arith),
      table_cut b 65536 (map link_record t.links) (links_wide r t X G a b) (omega (arith, places_most 2048 b))
          (omega arith),
    )

pub equals_full : (s : List ℕ) (a b : ℕ) → (translate s a b).verdict ≡ is_accepted → EqualsFull a b s
equals_full s a b z =
    let U = whole s a b z in
    let W = whole s 32768 65536 (full_accepted s a b z) in
    let q = same_list_lem s a b 32768 65536 U W in
    let B = bytes_cut s a b U.routine U.list U.checked U.is_exact U.is_placed
    (subst (Placed 1024 2048) (sym q) W.is_placed) in
    let o : translate_full s ≡ listed_with 32768 65536 U.list = W.leaves ∙ ap (listed_with 32768 65536) (sym q) in
    record {
      locations = loc_count_lem s a b U ∙ sym (ap (λ (x : Outcome). x.tables.loc_count) o);
      edges = edge_count_lem s a b U ∙ sym (ap (λ (x : Outcome). x.tables.edge_count) o);
      location_bytes = ap (λ (x : Outcome). x.tables.loc_bytes) U.leaves ∙ B.0
          ∙ sym (ap (λ (x : Outcome). cut_to a x.tables.loc_bytes) o);
      edge_bytes = ap (λ (x : Outcome). x.tables.edge_bytes) U.leaves ∙ B.1
          ∙ sym (ap (λ (x : Outcome). cut_to b x.tables.edge_bytes) o);
    }

-- ---- refused

-- a refusal is a failed check, or 11 or 12 of a checked input
refused_cases : (s : List ℕ) (a b : ℕ) (x : Refusal) → (translate s a b).verdict ≡ is_refused x
    → (check s ≡ bad x) ⊎ (((r : Routine) × (check s ≡ good r)) × ((x.number ≡ 11) ⊎ (x.number ≡ 12)))
refused_cases s a b x z = by_case (translate_cases s a b)
  where
    same : (y : Refusal) → translate s a b ≡ refused_with a b y → y ≡ x
    same y q = refused_inj (sym (ap (λ (o : Outcome). o.verdict) q) ∙ z)

    by_case : TranslateCases s a b
        → (check s ≡ bad x) ⊎ (((r : Routine) × (check s ≡ good r)) × ((x.number ≡ 11) ⊎ (x.number ≡ 12)))
    by_case (inl (y, e, q)) = inl (e ∙ ap bad (same y q))
    by_case (inr (inl (r, y, e, p, q))) = inr (
      (r, e),
      subst (λ (w : Refusal). (w.number ≡ 11) ⊎ (w.number ≡ 12)) (same y q)
          (full_number r (places 1024 a) (places 2048 b) y p),
    )
    by_case (inr (inr (r, t, e, p, q))) = not_both (translate s a b).verdict x (ap (λ (o : Outcome). o.verdict) q) z

-- exactly a failed check gives a number of the input's
failed_low : (s : List ℕ) (a b : ℕ) (x : Refusal)
    → (check s ≡ bad x) ↔ (((translate s a b).verdict ≡ is_refused x) × (mem x.number numbers_input ≡ true))
failed_low s a b x = (
  (λ e. (bad_translate s a b x e, (bad_number s x (refused_input s x e)).0)),
  λ k. ⊎_elim (λ e. e)
      (λ m. ⊎_elim (λ (n : x.number ≡ 11). clash k.1 (rw n)) (λ (n : x.number ≡ 12). clash k.1 (rw n)) m.1)
      (refused_cases s a b x k.0),
)

pub fails_as_full : (s : List ℕ) (a b : ℕ) → FailsAsFull a b s
fails_as_full s a b x = (failed_low s a b x, failed_low s 32768 65536 x)

-- ---- the edges of the full tables

ends_read : (s : List ℕ) (r : Routine) (a b : ℕ) (t : Listing) → check s ≡ good r → Exact r t
    → ends_in (tables_of a b t) ≡ map ends_of t.links
ends_read s r a b t e X =
    let n = length t.links in
    map_same (ends_at (tables_of a b t)) (λ i. ends_of (link_at t i)) (numbers 0 n)
    (λ i k. let h = (in_numbers 0 n i k).1 in
    let q = (tables_hold s r a b t e X).1 i (omega arith) in
    let l = link_at t i in
    ap₂ (λ (x y : ℕ). record { leaves = x; leads = y })
    (ap (λ (w : List ℕ). word w 2) q ∙ edge_from l.from l.dest l.edge)
    (ap (λ (w : List ℕ). word w 4) q ∙ edge_to l.from l.dest l.edge))
    ∙ sym (map-map ends_of (link_at t) (numbers 0 n)) ∙ ap (map ends_of) (read_all no_link t.links)

pub refuses_unplaced : (s : List ℕ) (a b : ℕ) → RefusesUnplaced a b (places 1024 a) (places 2048 b) s
refuses_unplaced s a b r e = (
  (λ t f. unplaced_says s a b r t e f),
  (λ z. let W = whole s 32768 65536 z in
      let q = good_inj (sym W.checked ∙ e) in
      unplaced_says s a b r W.list e (subst (λ w. IsFull w W.list) q W.is_full)
      ∙ ap (unplaced (places 1024 a) (places 2048 b) (length r.starts))
      (sym (ap (λ (o : Outcome). ends_in o.tables) W.leaves
      ∙ ends_read s W.routine 32768 65536 W.list W.checked W.is_exact))),
  λ n. by_verdict (translate s a b).verdict refl n,
)
  where
    by_verdict : (v : Verdict) → (translate s a b).verdict ≡ v → (FitsIn (places 1024 a) (places 2048 b) s → ⊥)
        → (x : Refusal) × ((translate s a b).verdict ≡ is_refused x) × ((x.number ≡ 11) ⊎ (x.number ≡ 12))
    by_verdict is_accepted z n = absurd (n ((accepts_fitting s a b).0.0 z))
    by_verdict (is_refused x) z n = (x, z, ⊎_elim (λ k. bad-good (sym k ∙ e)) (λ k. k.1) (refused_cases s a b x z))

-- ---- the bench

cut_take : (n : ℕ) (l : List ℕ) → n ≤ length l → cut_to n l ≡ take n l
cut_take n l h =
    let e : n - length l ≡ 0 = omega arith in
    ap (λ m. take n l ++ replicate m 0) e ∙ append-nil (take n l)

-- its tables are the first bytes of the full ones
pub bench_bytes : (s : List ℕ) → (translate_bench s).verdict ≡ is_accepted
    → ((translate_bench s).tables.loc_bytes ≡ take 4096 (translate_full s).tables.loc_bytes)
    × ((translate_bench s).tables.edge_bytes ≡ take 8192 (translate_full s).tables.edge_bytes)
bench_bytes s z =
    let E = equals_full s 4096 8192 z in
    let F = fitting s 32768 65536 in (
      E.location_bytes ∙ cut_take 4096 (translate_full s).tables.loc_bytes (omega (arith, F.loc_length)),
      E.edge_bytes ∙ cut_take 8192 (translate_full s).tables.edge_bytes (omega (arith, F.edge_length)),
    )

-- it has a place for every starting shape
pub bench_unplaced : (s : List ℕ) → (translate_full s).verdict ≡ is_accepted
    → (translate_bench s).verdict ≡ first_unplaced bench_locations bench_edges 0 (ends_in (translate_full s).tables)
bench_unplaced s z =
    let A = is_accepted_lem s 32768 65536 z in
    let m = length A.0.starts in
    let b : ltb 128 m ≡ false = le-ltb 128 m (omega (arith, (check_good s A.0 A.2).few)) in
    (refuses_unplaced s 4096 8192 A.0 A.2).1 z ∙ rw b refl

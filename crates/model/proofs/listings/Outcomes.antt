-- What a translation leaves, for all inputs: how it can end, its tables and counts, when it is accepted, and which
-- refusal it gives.
use Prim.Native.Nat.{◌*◌, ◌+◌, ◌-◌, ◌/◌, ◌<◌, ◌≤◌, ℕ}
use Rattle.model.proofs.lists.Logic.{clash, mem_append_l}
use Rattle.model.specs.Base.{mem}
use Rattle.model.proofs.records.Checks.{not_both, refused_inj}
use Rattle.model.specs.Answers.{refusal_of}
use mathlib.Core.Path.{◌∙◌, ◌≡◌, ap, refl, subst, sym}
use mathlib.Core.Logic.{◌↔◌, ◌⊎◌, inl, inr, ⊎_elim}
use mathlib.Core.Bool.{true}
use mathlib.Core.List.{List, [], ◌∷◌, map}
use native.Mathlib.Nat.{min-le_left, min-le_right}
use native.Mathlib.Omega.{arith}
use lib.ListN.{drop, length, length-map, replicate}
use Rattle.model.specs.Edges.{failed}
use Rattle.model.specs.Machine.{leak}
use Rattle.model.specs.Records.{Refusal, loc_record, record_at, refusal, is_accepted, is_refused, Verdict}
use Rattle.model.specs.Translate.{Checked, Explored, Listing, Outcome, Routine, Tables, bad, check, full, good, link_record, listed, listed_with, listing, places, refused_with, table_of, tables_of, translate}
use Rattle.model.proofs.records.Bytes.{table_empty, table_length, table_rest}
use Rattle.model.proofs.records.Checked.{GoodStarts, check_good, good_inj}
use Rattle.model.proofs.listings.Exact.{listing_exact}
use Rattle.model.proofs.listings.Listing.{listing_whole, outcome-case}
use Rattle.model.specs.Listings.{Exact, IsFull, Placed, Refused, link_at, loc_at, numbers_input, numbers_translate}
use Rattle.model.proofs.listings.Moves.{edge_record_lem, good_writable, links_wide, loc_good, loc_record_lem, locs_wide}
use Rattle.model.proofs.listings.Places.{full_number, full_says, one_listing, whole_listing}
use Rattle.model.proofs.records.ReadBack.{location_injective}
use Rattle.model.proofs.records.Refusals.{bad_number, refused_input}
use Rattle.model.proofs.shapes.Same.{distinct_at}

-- ---- the translation

-- how a translation can end: the input is refused, the listing finds no place, or it is listed
abbrev pub TranslateCases : List ℕ → ℕ → ℕ → Type 0
TranslateCases s a b =
    ((x : Refusal) × (check s ≡ bad x) × (translate s a b ≡ refused_with a b x))
    ⊎ (((r : Routine) × (x : Refusal) × (check s ≡ good r) × (listing r (places 1024 a) (places 2048 b) ≡ full x)
    × (translate s a b ≡ refused_with a b x))
    ⊎ ((r : Routine) × (t : Listing) × (check s ≡ good r) × (listing r (places 1024 a) (places 2048 b) ≡ listed t)
    × (translate s a b ≡ listed_with a b t)))

pub translate_cases : (s : List ℕ) (a b : ℕ) → TranslateCases s a b
unfolding translate
translate_cases s a b = by_check (check s) refl
  where
    by_check : (c : Checked) → check s ≡ c → TranslateCases s a b
    by_check (bad x) e = inl (x, e, rw (e, translate))
    by_check (good r) e = outcome-case (listing r (places 1024 a) (places 2048 b))
        (λ x p. inr (inl (r, x, e, p, rw (e, translate) (rw (p, translate)))))
        (λ t p. inr (inr (r, t, e, p, rw (e, translate) (rw (p, translate)))))

-- what a refusal leaves: "both tables all zero, and both counts 0"
abbrev pub Cleared : ℕ → ℕ → Tables → Type 0
Cleared a b t = (t.loc_bytes ≡ replicate a 0) × (t.edge_bytes ≡ replicate b 0) × (t.loc_count ≡ 0) × (t.edge_count ≡ 0)

cleared : (a b : ℕ) (x : Refusal) → Cleared a b (refused_with a b x).tables
cleared a b x = (table_empty a, table_empty b, refl, refl)

pub refused_tables : (s : List ℕ) (a b : ℕ) (x : Refusal) → (translate s a b).verdict ≡ is_refused x
    → Cleared a b (translate s a b).tables
refused_tables s a b y z = by_case (translate_cases s a b)
  where
    by_case : TranslateCases s a b → Cleared a b (translate s a b).tables
    by_case (inl (x, e, q)) = subst (λ (o : Outcome). Cleared a b o.tables) (sym q) (cleared a b x)
    by_case (inr (inl (r, x, e, p, q))) = subst (λ (o : Outcome). Cleared a b o.tables) (sym q) (cleared a b x)
    by_case (inr (inr (r, t, e, p, q))) = not_both (translate s a b).verdict y (ap (λ (o : Outcome). o.verdict) q) z

-- the number is one of a translation's, and for 1 to 3 the place is 0
pub translate_number : (s : List ℕ) (a b : ℕ) (x : Refusal) → (translate s a b).verdict ≡ is_refused x
    → (mem x.number numbers_translate ≡ true) × (x.number ≤ 3 → x.place ≡ 0)
translate_number s a b y z = by_case (translate_cases s a b)
  where
    is_refused_lem : (x : Refusal) → translate s a b ≡ refused_with a b x → x ≡ y
    is_refused_lem x q = refused_inj (sym (ap (λ (o : Outcome). o.verdict) q) ∙ z)

    Small : Refusal → Type 0
    Small x = (mem x.number numbers_translate ≡ true) × (x.number ≤ 3 → x.place ≡ 0)

    by_case : TranslateCases s a b → Small y
    by_case (inl (x, e, q)) = let n = bad_number s x (refused_input s x e) in
        subst Small (is_refused_lem x q) (mem_append_l x.number numbers_input (11 ∷ 12 ∷ []) n.0, n.1)
    by_case (inr (inl (r, x, e, p, q))) = subst Small (is_refused_lem x q) (⊎_elim
        (λ (f : x.number ≡ 11). (rw f, λ (l : x.number ≤ 3). absurd (omega arith)))
        (λ (f : x.number ≡ 12). (rw f, λ (l : x.number ≤ 3). absurd (omega arith)))
        (full_number r (places 1024 a) (places 2048 b) x p))
    by_case (inr (inr (r, t, e, p, q))) = not_both (translate s a b).verdict y (ap (λ (o : Outcome). o.verdict) q) z

-- in numbers: 0 is no refusal
pub zero_accepted : (s : List ℕ) (a b : ℕ) → (refusal_of (translate s a b).verdict).number ≡ 0
    → (translate s a b).verdict ≡ is_accepted
zero_accepted s a b = by_verdict (translate s a b).verdict refl
  where
    by_verdict : (v : Verdict) → (translate s a b).verdict ≡ v → (refusal_of v).number ≡ 0 → v ≡ is_accepted
    by_verdict is_accepted e z = refl
    by_verdict (is_refused x) e z = clash (translate_number s a b x e).0 (rw z)

-- an accepted translation is a listing of a checked routine
abbrev pub Accepted : List ℕ → ℕ → ℕ → Type 0
Accepted s a b = (r : Routine) × (t : Listing) × (check s ≡ good r)
    × (listing r (places 1024 a) (places 2048 b) ≡ listed t) × (translate s a b ≡ listed_with a b t)

pub is_accepted_lem : (s : List ℕ) (a b : ℕ) → (translate s a b).verdict ≡ is_accepted → Accepted s a b
is_accepted_lem s a b z = by_case (translate_cases s a b)
  where
    by_case : TranslateCases s a b → Accepted s a b
    by_case (inl (x, e, q)) = not_both (translate s a b).verdict x z (ap (λ (o : Outcome). o.verdict) q)
    by_case (inr (inl (r, x, e, p, q))) = not_both (translate s a b).verdict x z (ap (λ (o : Outcome). o.verdict) q)
    by_case (inr (inr v)) = v

pub accepted : (s : List ℕ) (a b : ℕ) (r : Routine) → check s ≡ good r → (translate s a b).verdict ≡ is_accepted
    → (t : Listing) × (listing r (places 1024 a) (places 2048 b) ≡ listed t) × (translate s a b ≡ listed_with a b t)
accepted s a b r e z =
    let A = is_accepted_lem s a b z in
    let q = good_inj (sym A.2 ∙ e) in
    (A.1, subst (λ x. listing x (places 1024 a) (places 2048 b) ≡ listed A.1) q A.3, A.4)

-- ---- counts and lengths

pub places_most : (m n : ℕ) → (places m n ≤ m) × (places m n ≤ n / 32)
places_most m n = (min-le_left m (n / 32), min-le_right m (n / 32))

-- the counts fit, the tables keep their lengths, and their bytes after the last record are zero
pub record Fitting (a b : ℕ) (t : Tables) : Type 0 where
  pub loc_most : t.loc_count ≤ places 1024 a
  pub edge_most : t.edge_count ≤ places 2048 b
  pub loc_length : length t.loc_bytes ≡ a
  pub edge_length : length t.edge_bytes ≡ b
  pub loc_rest : drop (32 * t.loc_count) t.loc_bytes ≡ replicate (a - 32 * t.loc_count) 0
  pub edge_rest : drop (32 * t.edge_count) t.edge_bytes ≡ replicate (b - 32 * t.edge_count) 0

refused_fitting : (a b : ℕ) (x : Refusal) → Fitting a b (refused_with a b x).tables
refused_fitting a b x = record {
  loc_most = omega arith;
  edge_most = omega arith;
  loc_length = table_length a [] (λ r i. absurd i) (omega arith);
  edge_length = table_length b [] (λ r i. absurd i) (omega arith);
  loc_rest = table_rest a [] (λ r i. absurd i);
  edge_rest = table_rest b [] (λ r i. absurd i);
}

listed_fitting : (r : Routine) (t : Listing) → Exact r t → GoodStarts r → (a b : ℕ)
    → Placed (places 1024 a) (places 2048 b) t → Fitting a b (tables_of a b t)
listed_fitting r t X G a b P =
    let lw = locs_wide r t X G a b in
    let ew = links_wide r t X G a b in
    let ln : length (map loc_record t.locs) ≡ length t.locs = length-map t.locs loc_record in
    let en : length (map link_record t.links) ≡ length t.links = length-map t.links link_record in
    record {
      loc_most = P.0;
      edge_most = P.1;
      loc_length = table_length a (map loc_record t.locs) lw (omega (arith, places_most 1024 a));
      edge_length = table_length b (map link_record t.links) ew (omega (arith, places_most 2048 b));
      loc_rest = subst (λ n. drop (32 * n) (table_of a (map loc_record t.locs)) ≡ replicate (a - 32 * n) 0) ln
          (table_rest a (map loc_record t.locs) lw);
      edge_rest = subst (λ n. drop (32 * n) (table_of b (map link_record t.links)) ≡ replicate (b - 32 * n) 0) en
          (table_rest b (map link_record t.links) ew);
    }

pub fitting : (s : List ℕ) (a b : ℕ) → Fitting a b (translate s a b).tables
fitting s a b = by_case (translate_cases s a b)
  where
    by_case : TranslateCases s a b → Fitting a b (translate s a b).tables
    by_case (inl (x, e, q)) = subst (λ (o : Outcome). Fitting a b o.tables) (sym q) (refused_fitting a b x)
    by_case (inr (inl (r, x, e, p, q))) = subst (λ (o : Outcome). Fitting a b o.tables) (sym q)
        (refused_fitting a b x)
    by_case (inr (inr (r, t, e, p, q))) =
        let G = check_good s r e in
        let X = listing_exact r (places 1024 a) (places 2048 b) t G.distinct p in
        subst (λ (o : Outcome). Fitting a b o.tables) (sym q)
        (listed_fitting r t X G a b (listing_whole r (places 1024 a) (places 2048 b) t p).1)

-- ---- accepted and refused by the places

-- a refused input gives its refusal
pub bad_translate : (s : List ℕ) (a b : ℕ) (x : Refusal) → check s ≡ bad x → (translate s a b).verdict ≡ is_refused x
unfolding translate
bad_translate s a b x e = rw (e, translate)

pub good_translate : (s : List ℕ) (a b : ℕ) (r : Routine) (o : Explored) → check s ≡ good r
    → listing r (places 1024 a) (places 2048 b) ≡ o
    → translate s a b ≡ elim o [ full x ↦ refused_with a b x | listed t ↦ listed_with a b t ]
unfolding translate
good_translate s a b r o e p = rw (e, translate) (rw (p, translate))

-- there is one full listing
pub full_one : (r : Routine) (t u : Listing) → IsFull r t → IsFull r u → t ≡ u
full_one r t u e f =
    let cl = length t.locs + length u.locs in
    let ce = length t.links + length u.links in
    one_listing r cl ce cl ce t u (whole_listing r cl ce t e (omega arith, omega arith))
    (whole_listing r cl ce u f (omega arith, omega arith))

-- a checked routine is translated exactly when its full listing fits
pub fits_accepted : (s : List ℕ) (a b : ℕ) (r : Routine) (t : Listing) → check s ≡ good r → IsFull r t
    → ((translate s a b).verdict ≡ is_accepted) ↔ Placed (places 1024 a) (places 2048 b) t
fits_accepted s a b r t e f = (
  (λ z. let A = accepted s a b r e z in
      let w = listing_whole r (places 1024 a) (places 2048 b) A.0 A.1 in
      subst (Placed (places 1024 a) (places 2048 b)) (full_one r A.0 t w.0 f) w.1),
  λ P. ap (λ (o : Outcome). o.verdict) (good_translate s a b r (listed t) e
      (whole_listing r (places 1024 a) (places 2048 b) t f P)),
)

-- and where it is refused, it is for want of a place: for a starting shape, or for an edge of the location whose
-- number is given
pub refused_says : (s : List ℕ) (a b : ℕ) (r : Routine) (y : Refusal) → check s ≡ good r → (translate s a b).verdict
    ≡ is_refused y
    → ((places 1024 a < length r.starts) × (y ≡ refusal 11 (places 1024 a)))
    ⊎ Refused r.stmts r.starts (places 1024 a) (places 2048 b) y
refused_says s a b r y e z = outcome-case (listing r (places 1024 a) (places 2048 b))
    (λ x p. let q : x ≡ y = refused_inj (sym (ap (λ (o : Outcome). o.verdict) (good_translate s a b r (full x) e p))
    ∙ z) in
    full_says r (places 1024 a) (places 2048 b) y (p ∙ ap full q))
    (λ t p. not_both (translate s a b).verdict y
    (ap (λ (o : Outcome). o.verdict) (good_translate s a b r (listed t) e p)) z)

-- ---- the tables of an accepted translation

-- the listing that the tables hold
pub accepted_exact : (s : List ℕ) (a b : ℕ) (r : Routine) → check s ≡ good r → (translate s a b).verdict ≡ is_accepted
    → (t : Listing) × Exact r t × ((translate s a b).tables ≡ tables_of a b t)
accepted_exact s a b r e z =
    let A = accepted s a b r e z in (
      A.0,
      listing_exact r (places 1024 a) (places 2048 b) A.0 (check_good s r e).distinct A.1,
      ap
          (λ (o : Outcome). o.tables) A.2,
    )

-- each record is that of its location or edge
pub tables_hold : (s : List ℕ) (r : Routine) (a b : ℕ) (t : Listing) → check s ≡ good r → Exact r t
    → ((i : ℕ) → i < length t.locs → record_at (tables_of a b t).loc_bytes i ≡ loc_record (loc_at t.locs i))
    × ((n : ℕ) → n < length t.links → record_at (tables_of a b t).edge_bytes n ≡ link_record (link_at t n))
tables_hold s r a b t e X = (loc_record_lem r t X (check_good s r e) a b, edge_record_lem r t X (check_good s r e) a b)

-- no two records of locations are equal
pub records_distinct : (s : List ℕ) (a b i j : ℕ) → (translate s a b).verdict ≡ is_accepted
    → i < (translate s a b).tables.loc_count → j < (translate s a b).tables.loc_count
    → record_at (translate s a b).tables.loc_bytes i ≡ record_at (translate s a b).tables.loc_bytes j → i ≡ j
records_distinct s a b i j z =
    let A = is_accepted_lem s a b z in
    let r = A.0 in
    let t = A.1 in
    let G = check_good s r A.2 in
    let X = listing_exact r (places 1024 a) (places 2048 b) t G.distinct A.3 in
    subst (λ (o : Outcome). i < o.tables.loc_count → j < o.tables.loc_count → record_at o.tables.loc_bytes i
    ≡ record_at o.tables.loc_bytes j → i ≡ j)
    (sym A.4)
    (λ p q w. distinct_at t.locs (failed 0 leak) i j X.distinct p q
    (location_injective (loc_at t.locs i) (loc_at t.locs j)
    (good_writable (loc_at t.locs i) (loc_good r t X G a b i p))
    (good_writable (loc_at t.locs j) (loc_good r t X G a b j q))
    (sym (loc_record_lem r t X G a b i p) ∙ w ∙ loc_record_lem r t X G a b j q)))

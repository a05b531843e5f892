-- One record out of two tables: when it is refused, where its part begins, and what the part holds.
use Prim.Native.Nat.{◌*◌, ◌+◌, ◌<◌, ◌≤◌, suc, zero, ℕ}
use mathlib.Core.Path.{◌∙◌, ◌≡◌, ap, subst, sym}
use mathlib.Core.Logic.{◌↔◌, ◌⊎◌, inl, inr}
use mathlib.Core.Bool.{false, true}
use mathlib.Core.List.{List, []}
use native.Mathlib.Omega.{arith}
use lib.Dec.{leb, ltb}
use lib.ListN.{length, length-drop, length-take}
use borrow.Author.Tests.{leb-false, leb-true, ltb-false, ltb-true}
use Rattle.model.specs.Part.{Part, answerable, meant, meant_count, meant_table, part_bytes, record_part}
use Rattle.model.specs.Records.{Refusal, is_accepted, is_refused, loc_record, record_at, refusal}
use Rattle.model.specs.Translate.{Listing, Routine, Tables, check, good, link_record, places, tables_of, translate}
use Rattle.model.specs.Listings.{EachRecord, Exact, link_at, loc_at}
use Rattle.model.proofs.lists.Logic.{bool_case}
use Rattle.model.proofs.records.Checks.{not_both, refused_inj}
use Rattle.model.proofs.listings.Outcomes.{Fitting, accepted_exact, fitting, places_most, tables_hold}

-- ---- when it is refused

pub part_true : (t : Tables) (mark n : ℕ) → answerable t mark n ≡ true
    → record_part t mark n ≡ record { verdict = is_accepted; begins = 32 * n; size = 32 }
unfolding record_part
part_true t mark n e = rw (e, record_part)

pub part_false : (t : Tables) (mark n : ℕ) → answerable t mark n ≡ false
    → record_part t mark n ≡ record { verdict = is_refused (refusal 17 0); begins = 0; size = 0 }
unfolding record_part
part_false t mark n e = rw (e, record_part)

-- "above 1", "exceeds its table's places", "isn't below the meant table's count", the other way round
abbrev pub Answerable : Tables → ℕ → ℕ → Type 0
Answerable t mark n = (mark ≤ 1) × (t.loc_count ≤ places 1024 (length t.loc_bytes))
    × (t.edge_count ≤ places 2048 (length t.edge_bytes)) × (n < meant_count t mark)

-- one of them is so
abbrev pub Unanswerable : Tables → ℕ → ℕ → Type 0
Unanswerable t mark n = (1 < mark) ⊎ ((places 1024 (length t.loc_bytes) < t.loc_count)
    ⊎ ((places 2048 (length t.edge_bytes) < t.edge_count) ⊎ (meant_count t mark ≤ n)))

module _ (t : Tables) (mark n : ℕ) where
  not_answerable : {C : Type 0} → Unanswerable t mark n → Answerable t mark n → C
  not_answerable (inl h) a = absurd (omega arith)
  not_answerable (inr (inl h)) a = absurd (omega arith)
  not_answerable (inr (inr (inl h))) a = absurd (omega arith)
  not_answerable (inr (inr (inr h))) a = absurd (omega arith)

  -- it is accepted, or refused with 17 at place 0
  part_case : {C : Type 0}
      → (Answerable t mark n → record_part t mark n ≡ record { verdict = is_accepted; begins = 32 * n; size = 32 } → C)
      → (Unanswerable t mark n
      → record_part t mark n ≡ record { verdict = is_refused (refusal 17 0); begins = 0; size = 0 } → C)
      → C
  part_case f g =
      let ls = places 1024 (length t.loc_bytes) in
      let es = places 2048 (length t.edge_bytes) in
      let m = meant_count t mark in
      bool_case (leb mark 1)
      (λ p. bool_case (leb t.loc_count ls)
      (λ q. bool_case (leb t.edge_count es)
      (λ r. bool_case (ltb n m)
      (λ s. f (leb-true mark 1 p, leb-true t.loc_count ls q, leb-true t.edge_count es r, ltb-true n m s)
      (part_true t mark n (rw (p, q, r, s))))
      (λ s. g (inr (inr (inr (ltb-false n m s)))) (part_false t mark n (rw (p, q, r, s)))))
      (λ r. g (inr (inr (inl (leb-false t.edge_count es r)))) (part_false t mark n (rw (p, q, r)))))
      (λ q. g (inr (inl (leb-false t.loc_count ls q))) (part_false t mark n (rw (p, q)))))
      (λ p. g (inl (leb-false mark 1 p)) (part_false t mark n (rw p)))

  pub part_accepts : ((record_part t mark n).verdict ≡ is_accepted) ↔ Answerable t mark n
  part_accepts = part_case
      (λ a e. ((λ z. a), λ b. ap (λ (p : Part). p.verdict) e))
      (λ u e. (
        (λ z. not_both (record_part t mark n).verdict (refusal 17 0) z (ap (λ (p : Part). p.verdict) e)),
        not_answerable u,
      ))

  pub part_refuses : (x : Refusal) → ((record_part t mark n).verdict ≡ is_refused x)
      ↔ ((x ≡ refusal 17 0) × Unanswerable t mark n)
  part_refuses x = part_case
      (λ a e. (
        (λ z. not_both (record_part t mark n).verdict x (ap (λ (p : Part). p.verdict) e) z),
        (λ u. not_answerable u.1 a),
      ))
      (λ u e. let r = ap (λ (p : Part). p.verdict) e in (
        (λ z. (refused_inj (sym z ∙ r), u)),
        λ v. r ∙ ap is_refused (sym v.0),
      ))

-- ---- what the part holds

-- the record stands whole in the table that was meant, and its number is small
pub part_inside : (t : Tables) (mark n : ℕ) → Answerable t mark n
    → (32 * n + 32 ≤ length (meant_table t mark)) × (n < 2048)
part_inside t zero n a = let p = places_most 1024 (length t.loc_bytes) in (omega arith, omega arith)
part_inside t (suc m) n a = let p = places_most 2048 (length t.edge_bytes) in (omega arith, omega arith)

module _ (t : Tables) (mark n : ℕ) where
  -- an accepted part is the record, and whole
  pub part_holds : (record_part t mark n).verdict ≡ is_accepted
      → ((record_part t mark n).begins ≡ 32 * n) × ((record_part t mark n).size ≡ 32)
      × (part_bytes t mark n ≡ record_at (meant_table t mark) n) × (length (part_bytes t mark n) ≡ 32)
  part_holds z = part_case t mark n
      (λ a e. let q : part_bytes t mark n ≡ record_at (meant_table t mark) n = rw e in
      let w = part_inside t mark n a in (
        ap (λ (p : Part). p.begins) e,
        ap (λ (p : Part). p.size) e,
        q,
        ap length q ∙ simp (length-take, length-drop) (omega arith),
      ))
      (λ u e. not_both (record_part t mark n).verdict (refusal 17 0) z (ap (λ (p : Part). p.verdict) e))

  -- a refused one is empty
  pub part_empty : (x : Refusal) → (record_part t mark n).verdict ≡ is_refused x
      → ((record_part t mark n).begins ≡ 0) × ((record_part t mark n).size ≡ 0) × (part_bytes t mark n ≡ [])
  part_empty x z = part_case t mark n
      (λ a e. not_both (record_part t mark n).verdict x (ap (λ (p : Part). p.verdict) e) z)
      (λ u e. (ap (λ (p : Part). p.begins) e, ap (λ (p : Part). p.size) e, rw e))

  -- where it begins, by its length: an empty part begins at 0
  pub part_length : length (part_bytes t mark n) ≡ (record_part t mark n).size
  part_length = part_case t mark n
      (λ a e. let z = part_holds (ap (λ (p : Part). p.verdict) e) in z.3 ∙ sym z.1) (λ u e. rw e)

  pub part_begins : n * (record_part t mark n).size ≡ (record_part t mark n).begins
  part_begins = part_case t mark n (λ a e. rw e (omega arith)) (λ u e. rw e (omega arith))

  pub part_low : (record_part t mark n).begins ≤ 65536
  part_low = part_case t mark n (λ a e. let h = part_inside t mark n a in rw e (omega arith))
      (λ u e. rw e (omega arith))

  pub part_ends : (record_part t mark n).begins + (record_part t mark n).size ≤ length (meant_table t mark)
  part_ends = part_case t mark n (λ a e. rw e (part_inside t mark n a).0) (λ u e. rw e (omega arith))

-- ---- the tables of an accepted translation

module _ (a b : ℕ) (t : Listing) where
  abbrev T : Tables
  T = tables_of a b t

  -- the tables are read back
  abbrev Held : Type 0
  Held = ((i : ℕ) → i < length t.locs → record_at T.loc_bytes i ≡ loc_record (loc_at t.locs i))
      × ((i : ℕ) → i < length t.links → record_at T.edge_bytes i ≡ link_record (link_at t i))

  -- what the mark and the number name
  meant_record : Held → (mark n : ℕ) → n < meant_count T mark
      → record_at (meant_table T mark) n ≡ meant mark (loc_record (loc_at t.locs n)) (link_record (link_at t n))
  meant_record H zero n h = H.0 n h
  meant_record H (suc m) n h = H.1 n h

  each_record : Fitting a b T → Held → EachRecord t T
  each_record F H = record {
    answered = λ mark n. let P = part_accepts T mark n in (
      (λ z. let q = P.0 z in (q.0, q.3)),
      λ q. P.1 (
        q.0,
        subst (λ k. T.loc_count ≤ places 1024 k) (sym F.loc_length) F.loc_most,
        subst (λ k. T.edge_count ≤ places 2048 k) (sym F.edge_length) F.edge_most,
        q.1,
      ),
    );
    records = λ mark n z. (part_holds T mark n z).2 ∙ meant_record H mark n ((part_accepts T mark n).0 z).3;
  }

pub parts_listed : (s : List ℕ) (a b : ℕ) (r : Routine) → check s ≡ good r → (translate s a b).verdict ≡ is_accepted
    → (t : Listing) × Exact r t × ((translate s a b).tables ≡ tables_of a b t) × EachRecord t (translate s a b).tables
parts_listed s a b r e z =
    let A = accepted_exact s a b r e z in
    let F = subst (Fitting a b) A.2 (fitting s a b) in
    let H = tables_hold s r a b A.0 e A.1 in
    (A.0, A.1, A.2, subst (EachRecord A.0) (sym A.2) (each_record a b A.0 F H))

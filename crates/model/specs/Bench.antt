-- 02, job 4: a translation into tables of any lengths beside the full translator's, and the controller bench. Assumes
-- nothing.
use Rattle.std.specs.Prelude.{ℕ, suc, ◌-◌, ◌≤◌, ◌≡◌, ◌↔◌, ◌⊎◌, true, false, cond, List, [], ◌∷◌, ◌++◌, map, ltb, length, take, replicate}
use Rattle.model.specs.Base.{mem, numbers}
use Rattle.model.specs.Records.{Refusal, refusal, Verdict, is_accepted, is_refused, record_at, word}
use Rattle.model.specs.Translate.{Link, Listing, Outcome, Routine, Tables, bad, check, good, translate}
use Rattle.model.specs.Listings.{IsFull, Placed, numbers_input}

-- "it has tables for 128 locations and 256 edges only"
abbrev pub bench_locations : ℕ
bench_locations = 128

abbrev pub bench_edges : ℕ
bench_edges = 256

-- the full translator: 1,024 and 2,048 records of 32 bytes
abbrev pub translate_full : List ℕ → Outcome
translate_full s = translate s 32768 65536

-- the bench's: 128 and 256 records of 32 bytes
abbrev pub translate_bench : List ℕ → Outcome
translate_bench s = translate s 4096 8192

-- ---- what fits

-- the input passes every check, and its full listing has a place for each location and each edge
abbrev pub FitsIn : ℕ → ℕ → List ℕ → Type 0
FitsIn cl ce s = (r : Routine) × (t : Listing) × (check s ≡ good r) × IsFull r t × Placed cl ce t

-- the same, told from what the full translator answers
abbrev pub FullFitsIn : ℕ → ℕ → List ℕ → Type 0
FullFitsIn cl ce s = ((translate_full s).verdict ≡ is_accepted) × ((translate_full s).tables.loc_count ≤ cl)
    × ((translate_full s).tables.edge_count ≤ ce)

-- the first n bytes of a table, and zeros where it is shorter
abbrev pub cut_to : ℕ → List ℕ → List ℕ
cut_to n l = take n l ++ replicate (n - length l) 0

-- ---- what does not fit

-- where an edge leaves and where it leads
pub record Ends : Type 0 where
  pub leaves : ℕ
  pub leads : ℕ

abbrev pub ends_of : Link → Ends
ends_of l = record { leaves = l.from; leads = l.dest }

-- the ends of edge n, and of each edge in use, read from the table's bytes
abbrev pub ends_at : Tables → ℕ → Ends
ends_at t n = record { leaves = word (record_at t.edge_bytes n) 2; leads = word (record_at t.edge_bytes n) 4 }

abbrev pub ends_in : Tables → List Ends
ends_in t = map (ends_at t) (numbers 0 t.edge_count)

-- 11 and 12 told from the edges of a full listing, in their order, the first with number n: "each new target takes the
-- next number", so a target has no place where its number is not below the places. "For each edge, its target's place
-- comes before its own."
abbrev pub first_unplaced : ℕ → ℕ → ℕ → List Ends → Verdict
first_unplaced cl ce n [] = is_accepted
first_unplaced cl ce n (e ∷ es) =
    elim (ltb e.leads cl) [
      | false ↦ is_refused (refusal 11 e.leaves)
      | true ↦ elim (ltb n ce) [
        | false ↦ is_refused (refusal 12 e.leaves)
        | true ↦ first_unplaced cl ce (suc n) es
      ]
    ]

-- the starting shapes, of which there are m, are entered first
abbrev pub unplaced : ℕ → ℕ → ℕ → List Ends → Verdict
unplaced cl ce m es = cond (ltb cl m) (is_refused (refusal 11 cl)) (first_unplaced cl ce 0 es)

-- ---- what is claimed of tables of a and b bytes, with cl and ce places

-- "accepts exactly the inputs that pass every check of the input and whose full listing fits"
abbrev pub AcceptsFitting : ℕ → ℕ → ℕ → ℕ → List ℕ → Type 0
AcceptsFitting a b cl ce s = (((translate s a b).verdict ≡ is_accepted) ↔ FitsIn cl ce s)
    × (((translate s a b).verdict ≡ is_accepted) ↔ FullFitsIn cl ce s)

-- "its records and counts then equal those of the full translator": every byte of both tables
pub record EqualsFull (a b : ℕ) (s : List ℕ) : Type 0 where
  pub locations : (translate s a b).tables.loc_count ≡ (translate_full s).tables.loc_count
  pub edges : (translate s a b).tables.edge_count ≡ (translate_full s).tables.edge_count
  pub location_bytes : (translate s a b).tables.loc_bytes ≡ cut_to a (translate_full s).tables.loc_bytes
  pub edge_bytes : (translate s a b).tables.edge_bytes ≡ cut_to b (translate_full s).tables.edge_bytes

-- "A failed check gives the full translator's refusal": exactly a failed check gives a number of the input's, that is,
-- neither 11 nor 12, here and there
abbrev pub FailsAsFull : ℕ → ℕ → List ℕ → Type 0
FailsAsFull a b s = (x : Refusal)
    → ((check s ≡ bad x) ↔ (((translate s a b).verdict ≡ is_refused x) × (mem x.number numbers_input ≡ true)))
    × ((check s ≡ bad x) ↔ (((translate_full s).verdict ≡ is_refused x) × (mem x.number numbers_input ≡ true)))

-- "Where the full listing doesn't fit, the bench gets 11 or 12 by the same rule, applied to its own places": told from
-- the full listing, and from the full translator's bytes where it has one
abbrev pub RefusesUnplaced : ℕ → ℕ → ℕ → ℕ → List ℕ → Type 0
RefusesUnplaced a b cl ce s = (r : Routine) → check s ≡ good r
    → ((t : Listing) → IsFull r t
    → (translate s a b).verdict ≡ unplaced cl ce (length r.starts) (map ends_of t.links))
    × ((translate_full s).verdict ≡ is_accepted
    → (translate s a b).verdict ≡ unplaced cl ce (length r.starts) (ends_in (translate_full s).tables))
    × ((FitsIn cl ce s → ⊥) → (x : Refusal) × ((translate s a b).verdict ≡ is_refused x)
    × ((x.number ≡ 11) ⊎ (x.number ≡ 12)))

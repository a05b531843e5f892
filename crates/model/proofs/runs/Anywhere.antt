-- Whole lists are matched from every location of an accepted translation: with any counters of 1 or more its shape
-- describes a heap, and from that heap, at its statement, the routine and the automaton go together.
use Prim.Native.Nat.{◌<◌, ℕ}
use mathlib.Core.Path.{◌∙◌, ◌≡◌, ap, refl, subst, sym}
use mathlib.Core.List.{List}
use native.Mathlib.Omega.{arith}
use lib.ListN.{length}
use Rattle.model.specs.Edges.{Loc, at, failed}
use Rattle.model.specs.Heap.{Heap}
use Rattle.model.specs.Image.{unfold_heap}
use Rattle.model.specs.Listings.{Exact, GoodLoc, loc_at}
use Rattle.model.specs.Notions.{Positive, nodes_of}
use Rattle.model.specs.Records.{byte, is_accepted, loc_record, record_at, shape_of}
use Rattle.model.specs.Ranges.{state_at}
use Rattle.model.specs.Runs.{Describes, Matching, nodes_at}
use Rattle.model.specs.Translate.{Listing, Routine, Tables, check, good, tables_of, translate}
use Rattle.model.proofs.expansion.Facts.{heap_closed, heap_kept}
use Rattle.model.proofs.listings.Moves.{good_writable, loc_good, loc_nodes, loc_record_lem}
use Rattle.model.proofs.listings.Outcomes.{accepted_exact}
use Rattle.model.proofs.records.Checked.{GoodStarts, check_good}
use Rattle.model.proofs.records.ReadBack.{fault_positive, location_shape}
use Rattle.model.proofs.runs.Whole.{matching}
use Rattle.model.proofs.shapes.Unfold.{counters_unfold, shape_unfold, unfold_is_heap}

-- a record without a fault is of a statement and a shape
shape_there : (l : Loc) → byte (loc_record l) 2 ≡ 0 → (s : ℕ) × (h : Heap) × (l ≡ at s h)
shape_there (at s h) e = (s, h, refl)
shape_there (failed s f) e = absurd (omega (arith, fault_positive f, e))

-- a location of a listing, whose record has no fault
module _ (r : Routine) (t : Listing) (X : Exact r t) (G : GoodStarts r) (a b l : ℕ) (lt : l < length t.locs)
    (z : byte (record_at (tables_of a b t).loc_bytes l) 2 ≡ 0) where
  abbrev T : Tables
  T = tables_of a b t

  there : (s : ℕ) × (h : Heap) × (loc_at t.locs l ≡ at s h)
  there = shape_there (loc_at t.locs l) (sym (ap (λ x. byte x 2) (loc_record_lem r t X G a b l lt)) ∙ z)

  is_good_lem : GoodLoc (at there.0 there.1)
  is_good_lem = subst GoodLoc there.2 (loc_good r t X G a b l lt)

  record_is : record_at T.loc_bytes l ≡ loc_record (at there.0 there.1)
  record_is = loc_record_lem r t X G a b l lt ∙ ap loc_record there.2

  shape_is_lem : shape_of (record_at T.loc_bytes l) ≡ there.1
  shape_is_lem = ap shape_of record_is
      ∙ location_shape there.0 there.1 (good_writable (at there.0 there.1) is_good_lem)

  at_describes : (cs : List ℕ) → length cs ≡ nodes_at T l → Positive cs
      → (h : Heap) × Describes (shape_of (record_at T.loc_bytes l)) cs h
  at_describes cs len pos =
      let sh = there.1 in
      let C = is_good_lem.0 in
      let n : length cs ≡ length sh.slots = len ∙ loc_nodes r t X G a b l lt ∙ ap nodes_of there.2 in (
        unfold_heap sh cs,
        record {
          is_heap = unfold_is_heap sh C cs n pos;
          shape_is = shape_unfold sh C cs n pos ∙ sym shape_is_lem;
          counters_are = counters_unfold sh C cs n pos;
        },
      )

  at_matching : (cs : List ℕ) (h : Heap) → Describes (shape_of (record_at T.loc_bytes l)) cs h
      → Matching r.stmts T (state_at T l h) (record { loc = l; values = cs })
  at_matching cs h d = matching r t X G a b (state_at T l h) (record { loc = l; values = cs }) (
    (
      there.2 ∙ ap (λ s. at s there.1) (sym (ap (λ x. byte x 1) record_is))
          ∙ ap (at (byte (record_at T.loc_bytes l) 1)) (sym (d.shape_is ∙ shape_is_lem)),
      sym d.counters_are,
      heap_closed h d.is_heap,
      heap_kept h d.is_heap,
    ),
    lt,
  )

-- the same of the tables of an accepted translation
abbrev pub FromLocation : Routine → Tables → ℕ → Type 0
FromLocation r t l =
    ((cs : List ℕ) → length cs ≡ nodes_at t l → Positive cs
    → (h : Heap) × Describes (shape_of (record_at t.loc_bytes l)) cs h)
    × ((cs : List ℕ) (h : Heap) → Describes (shape_of (record_at t.loc_bytes l)) cs h
    → Matching r.stmts t (state_at t l h) (record { loc = l; values = cs }))

pub from_location : (s : List ℕ) (a b : ℕ) → (translate s a b).verdict ≡ is_accepted → (r : Routine) → check s ≡ good r
    → (l : ℕ) → l < (translate s a b).tables.loc_count → byte (record_at (translate s a b).tables.loc_bytes l) 2 ≡ 0
    → FromLocation r (translate s a b).tables l
from_location s a b z r e =
    let A = accepted_exact s a b r e z in
    let t = A.0 in
    let X = A.1 in
    let G = check_good s r e in
    subst (λ (T : Tables). (l : ℕ) → l < T.loc_count → byte (record_at T.loc_bytes l) 2 ≡ 0 → FromLocation r T l)
    (sym A.2) (λ l lt f. (at_describes r t X G a b l lt f, at_matching r t X G a b l lt f))

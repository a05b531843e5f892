-- Location i of a listing that is held in the tables: its record, its statement's record, and its edges.
use Prim.Native.Nat.{ℕ, ◌+◌, ◌*◌, ◌≤◌, ◌<◌}
use mathlib.Core.Path.{◌≡◌, refl, ap, subst, sym, ◌∙◌}
use mathlib.Core.List.{List, [], ◌∷◌, ◌++◌, append-nil, map}
use native.Mathlib.Nat.{zero-add}
use native.Mathlib.Omega.{arith}
use lib.ListN.{drop, drop_of_length-le, get_or-map, length, length-drop, length-map, take}
use lib.Seq.{length-take-le, take_all}
use Rattle.std.specs.Prelude.{Result, Ok}
use Rattle.model.specs.Codes.{op_at, op_number}
use Rattle.model.specs.declared.codes.Op.{Op}
use Rattle.model.specs.declared.codes.Op.TheVariants as op
use Rattle.model.specs.Base.{most_locations}
use Rattle.model.specs.declared.codes.Reason.{Reason}
use Rattle.model.specs.Heap.{Heap}
use Rattle.model.specs.Machine.{Stmt, leak}
use Rattle.model.specs.Edges.{Loc, at, edges_at, edges_of, failed, stmt_at}
use Rattle.model.specs.Records.{byte, loc_record, op_count, op_of, record_at, stmt_of}
use Rattle.model.specs.Translate.{Listing}
use Rattle.model.proofs.records.Bytes.{records_wide, table_record}
use Rattle.model.specs.Listings.{loc_at}
use Rattle.model.proofs.lists.Numbers.{at_number}
use Rattle.model.proofs.lists.Lists.{get_or_in_lem, get_or_map}
use Rattle.model.proofs.records.ReadBack.{fault_positive, record_length}
use Rattle.model.proofs.records.Statements.{Leads, leads, statement_fields}
use Rattle.model.specs.Structs.{decoded, stmt_in}
use Rattle.model.specs.declared.Counts.{Counts}
use Rattle.model.specs.declared.Decoded.{Decoded}
use Rattle.listing.specs.Grow.{Holds}
use Rattle.listing.proofs.Kept.{place_within}
use Rattle.explore.specs.Explore.{ExploreReady, StatementOk, StatementsOk}
use Rattle.location_edges.specs.Added.{AddedTo, LocOk, LocsOk, added_in}
use Rattle.location_edges.specs.LocationEdges.{Among, AtShape, EdgesAdded, ShapeGiven}

-- a location whose byte 2 is not zero has no edges
fault_edges : (sts : List Stmt) (l : Loc) → (byte (loc_record l) 2 ≡ 0 → ⊥) → edges_of sts l ≡ []
fault_edges sts (at s h) non = absurd (non refl)
fault_edges sts (failed s f) non = refl

-- one whose byte 2 is zero has a shape
shape_case : (n : ℕ) (l : Loc) → byte (loc_record l) 2 ≡ 0 → LocOk n l
    → (s : ℕ) × (h : Heap) × (l ≡ at s h) × LocOk n (at s h)
shape_case n (at s h) e k = (s, h, refl, k)
shape_case n (failed s f) e k = absurd (omega (arith, fault_positive f))

-- an op by its number has that number
abbrev ops : List Op
ops =
    op.Stop ∷ op.SetNull ∷ op.Copy ∷ op.Load ∷ op.Clear ∷ op.Store ∷ op.New ∷ op.Free ∷ op.IsNull ∷ op.Same ∷ op.Choose
    ∷ op.Skip ∷ op.Relink ∷ op.LetGo ∷ []

numbered : (k : ℕ) → k < op_count → op_number (op_at k) ≡ k
numbered k h = sym (get_or-map op_number ops k op.Stop) ∙ at_number 0 op_count k 0 h ∙ zero-add k

-- an accepted record, decoded
decoded_is : (n : ℕ) (r : List ℕ) → StatementOk r n → stmt_in (decoded r) ≡ stmt_of r
decoded_is n r S =
    ap (λ k. record {
      op = op_of k (byte r 2) (byte r 3);
      first_target = byte r 4;
      second_target = byte r 5;
    }) (numbered (byte r 1) (statement_fields n r S.accepted).0)

among : (n : ℕ) (r : List ℕ) → StatementOk r n → Among (decoded r) n
among n r S =
    let f = statement_fields n r S.accepted in
    record {
      fields = record { known = rw (numbered (byte r 1) f.0) f.0; is_u = f.1; is_w = f.2 };
      leads = subst (Leads n) (sym (decoded_is n r S)) (leads n r S.accepted);
      few = S.few;
    }

module _ (t : Listing) (ls es ix : List ℕ) (c : Counts) (i : ℕ) (H : Holds t ls es ix c) (lt : i < c.locations) where
  below : i < length t.locs
  below = omega (arith, H.loc_number)

  pub within : 32 * i + 32 ≤ length ls
  within = place_within most_locations (length ls) i (omega (arith, below, H.locs_fit))

  pub low : i < most_locations
  low = omega (arith, below, H.locs_fit)

  -- its record
  record_is : record_at ls i ≡ loc_record (loc_at t.locs i)
  record_is =
      let rs = map loc_record t.locs in
      let k : i < length rs = omega (arith, below, length-map t.locs loc_record) in
      ap (λ x. record_at x i) H.locs
      ∙ table_record (length ls) rs i (records_wide loc_record t.locs (λ l q. record_length l (H.good_locs l q))) k
      ∙ get_or_map loc_record t.locs i (failed 0 leak) [] below

  -- a fault
  pub fault_added : (n : ℕ) (sts : List Stmt) (l : List ℕ) → LocsOk n t → l ≡ record_at ls i → (byte l 2 ≡ 0 → ⊥)
      → AddedTo n i (added_in ls es i (edges_of sts (loc_at t.locs i)) t) ls es ix c (Ok tt)
  fault_added n sts l O e non =
      rw (fault_edges sts (loc_at t.locs i) (λ z. non (ap (λ x. byte x 2) (e ∙ record_is) ∙ z))) (H, O)

  -- the location l, with a shape, and its statement d
  pub record Found (n : ℕ) (sts : List Stmt) (l : List ℕ) (d : Decoded) : Type 0 where
    pub number : ℕ
    pub shape : Heap
    pub is_location : loc_at t.locs i ≡ at number shape
    pub here : AtShape l d n number shape
    pub is_statement : stmt_at sts number ≡ stmt_in d

  abbrev Shaped : ℕ → List ℕ → Type 0
  Shaped n l = (s : ℕ) × (h : Heap) × (loc_at t.locs i ≡ at s h) × LocOk n (at s h)

  shaped : (n : ℕ) (l : List ℕ) → LocsOk n t → l ≡ record_at ls i → byte l 2 ≡ 0 → Shaped n l
  shaped n l O e z =
      let is_in = get_or_in_lem t.locs (failed 0 leak) i below in
      shape_case n (loc_at t.locs i) (ap (λ x. byte x 2) (sym (e ∙ record_is)) ∙ z) (O (loc_at t.locs i) is_in)

  location_is : (n : ℕ) (l : List ℕ) → l ≡ record_at ls i → (S : Shaped n l) → l ≡ loc_record (at S.0 S.1)
  location_is n l e S = e ∙ record_is ∙ ap loc_record S.2

  -- its statement is one of n
  pub statement_low : (n : ℕ) (l : List ℕ) → LocsOk n t → l ≡ record_at ls i → byte l 2 ≡ 0 → byte l 1 < n
  statement_low n l O e z =
      let S = shaped n l O e z in
      let p : byte l 1 ≡ S.0 = ap (λ x. byte x 1) (location_is n l e S) in
      rw p S.3.1

  -- what is known of the bytes of the location and of its statement, decoded
  pub record Read (s : List ℕ) (n : ℕ) (sts : List Stmt) (l : List ℕ) (d : Decoded) : Type 0 where
    pub statements : StatementsOk s n sts
    pub fine : LocsOk n t
    pub is_location : l ≡ record_at ls i
    pub no_fault : byte l 2 ≡ 0
    pub is_statement : d ≡ decoded (record_at s (byte l 1))

  module _ (s : List ℕ) (n : ℕ) (sts : List Stmt) (l : List ℕ) (d : Decoded) (R : Read s n sts l d) where
    found : Found n sts l d
    found =
        let K = R.statements in
        let e = R.is_location in
        let S = shaped n l R.fine e R.no_fault in
        let b : l ≡ loc_record (at S.0 S.1) = location_is n l e S in
        let p : d ≡ decoded (record_at s S.0) =
        R.is_statement ∙ ap (λ x. decoded (record_at s x)) (ap (λ x. byte x 1) b) in
        let low = S.3.1 in
        record {
          number = S.0;
          shape = S.1;
          is_location = S.2;
          here = record {
            is_record = b;
            is_shape = S.3.0.0;
            six = S.3.0.1;
            statement = rw p (among n (record_at s S.0) (K.each S.0 low));
            low = low;
          };
          is_statement = K.read S.0 low ∙ sym (decoded_is n (record_at s S.0) (K.each S.0 low)) ∙ ap stmt_in (sym p);
        }

    -- it is given, and its edges are added
    pub shape_given : ShapeGiven l d ls es ix c i
    shape_given =
        let F = found in
        record {
          statements = n;
          number = F.number;
          shape = F.shape;
          here = F.here;
          list = t;
          held = H;
          low = omega (arith, low);
        }

    pub shape_added : (ls' es' ix' : List ℕ) (c' : Counts) (x : Result (Unit {0}) Reason)
        → EdgesAdded l d ls es ix c i ls' es' ix' c' x
        → AddedTo n i (added_in ls es i (edges_of sts (loc_at t.locs i)) t) ls' es' ix' c' x
    shape_added ls' es' ix' c' x X =
        let F = found in
        let p : edges_of sts (loc_at t.locs i) ≡ edges_at F.number (stmt_in d) F.shape =
        ap (edges_of sts) F.is_location ∙ ap (λ y. edges_at F.number y F.shape) F.is_statement in
        rw p (X n F.number F.shape t F.here H R.fine)

-- the part of the input that the statement's record is
pub statement_within : (s : List ℕ) (n : ℕ) (ls es ix : List ℕ) (c : Counts) (i : ℕ)
    → ExploreReady s n ls es ix c
    → i < c.locations → (l : List ℕ) → l ≡ record_at ls i → byte l 2 ≡ 0 → 32 * byte l 1 + 32 ≤ length s
statement_within s n ls es ix c i R lt l e z =
    omega (arith, statement_low R.list ls es ix c i R.held lt n l R.fine e z, R.readable.room)

-- a record within a table is whole, and copied over another it is that record
pub record_wide : (t : List ℕ) (i : ℕ) → 32 * i + 32 ≤ length t → length (record_at t i) ≡ 32
record_wide t i h = length-take-le 32 (drop (32 * i) t) (omega (arith, length-drop (32 * i) t))

pub copied : (t : List ℕ) (i : ℕ) (r : List ℕ) → 32 * i + 32 ≤ length t → length r ≡ 32
    → take 32 (record_at t i) ++ drop 32 r ≡ record_at t i
copied t i r h n =
    let w = record_wide t i h in
    ap (λ l. take 32 (record_at t i) ++ l) (drop_of_length-le r {i = 32} (omega arith)) ∙ append-nil _
    ∙ take_all 32 (record_at t i) (omega arith)

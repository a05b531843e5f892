-- 01, "Records" and "Refusals by place of check": the whole translator, from the input's bytes and the lengths of the
-- two tables to the answer and every byte of both tables. Assumes nothing.
use Rattle.std.specs.Prelude.{ℕ, zero, suc, ◌-◌, ◌*◌, ◌/◌, ◌%◌, min, Bool, true, false, ◌&&◌, ◌||◌, cond, not, List, [], ◌∷◌, ◌++◌, map, eqb, leb, ltb, length, take, drop, replicate}
use Rattle.std.proofs.Math.Option.{Option, none, some}
use Rattle.std.proofs.Math.ListN.{get_elem?}
use Rattle.model.specs.Base.{count, place_of, joined, most_edges, most_locations, most_shapes, most_statements, record_size}
use Rattle.model.specs.Heap.{Heap}
use Rattle.model.specs.Machine.{Stmt}
use Rattle.model.specs.Edges.{Loc, at, Edge, same_loc, edges_of}
use Rattle.model.specs.Records.{Refusal, refusal, refusal_at, Verdict, is_accepted, is_refused, is_s, is_h, checks_record, first_failed, failed_node, stmt_of, shape_of, loc_record, edge_record}

-- ---- the input

-- n records of a text
abbrev pub chunks : ℕ → List ℕ → List (List ℕ)
chunks zero s = []
chunks (suc n) s = take record_size s ∷ chunks n (drop record_size s)

-- 4: the first record, counted from i, that is neither S nor H, or is an S after an H
abbrev pub first_bad_kind : Bool → ℕ → List (List ℕ) → Option ℕ
first_bad_kind after_h i [] = none
first_bad_kind after_h i (r ∷ rs) =
    elim (is_h r) [
      | true ↦ first_bad_kind true (suc i) rs
      | false ↦ elim (is_s r && not after_h) [ true ↦ first_bad_kind false (suc i) rs | false ↦ some i ]
    ]

-- 5 to 10, 18, 19: the first record, counted from i, that is refused after the earlier ones, where there are n
-- statements
abbrev pub first_bad_record : ℕ → ℕ → List (List ℕ) → List (List ℕ) → Option Refusal
first_bad_record n i earlier [] = none
first_bad_record n i earlier (r ∷ rs) =
    let cs = checks_record n earlier r in
    elim (first_failed cs) [
      | zero ↦ first_bad_record n (suc i) (r ∷ earlier) rs
      | suc m ↦ some (refusal_at (suc m) i (failed_node cs))
    ]

-- a checked input: the statements and the starting shapes
pub record Routine : Type 0 where
  pub stmts : List Stmt
  pub starts : List Heap

-- the routine of checked records: the first n are the statements, the others the starting shapes
abbrev pub routine_of : ℕ → List (List ℕ) → Routine
routine_of n rs = record { stmts = map stmt_of (take n rs); starts = map shape_of (drop n rs) }

pub data Checked : Type 0 where
  bad : Refusal → Checked
  good : Routine → Checked

abbrev pub between : ℕ → ℕ → ℕ → Bool
between a b n = leb a n && leb n b

abbrev pub check_records : ℕ → List (List ℕ) → Checked
check_records n rs =
    elim (first_bad_record n 0 [] rs) [
      | some x ↦ bad x
      | none ↦ good (routine_of n rs)
    ]

abbrev pub check_counts : List (List ℕ) → Checked
check_counts rs =
    elim (between 1 most_statements (count is_s rs)) [
      | false ↦ bad (refusal 2 0)
      | true ↦ elim (between 1 most_shapes (count is_h rs)) [
        | false ↦ bad (refusal 3 0)
        | true ↦ check_records
            (count is_s rs) rs
      ]
    ]

abbrev pub check_kinds : List (List ℕ) → Checked
check_kinds rs = elim (first_bad_kind false 0 rs) [ some i ↦ bad (refusal 4 i) | none ↦ check_counts rs ]

unfoldable pub check : List ℕ → Checked
check s =
    let n = length s in
    elim (eqb n 0 || not (eqb (n % record_size) 0)) [
      | true ↦ bad (refusal 1 0)
      | false ↦ check_kinds (chunks (n / record_size) s)
    ]

-- ---- the exploration

-- an edge with the numbers of its ends
pub record Link : Type 0 where
  pub from : ℕ
  pub dest : ℕ
  pub edge : Edge

pub record Listing : Type 0 where
  pub locs : List Loc
  pub links : List Link

pub data Explored : Type 0 where
  full : Refusal → Explored
  listed : Listing → Explored

-- the listing with one more edge, from location i to location j; a new target has taken the next number
abbrev pub grown : ℕ → ℕ → Edge → Listing → Listing
grown i j e t = record {
  locs = cond (ltb j (length t.locs)) t.locs (t.locs ++ e.to ∷ []);
  links = t.links ++ record { from = i; dest = j; edge = e } ∷ [];
}

-- The edges of location i are added in order. A known target has its number; a new one has the next, so that one test
-- gives 11.
abbrev pub add_edges : ℕ → ℕ → ℕ → List Edge → Listing → Explored
add_edges cl ce i [] t = listed t
add_edges cl ce i (e ∷ es) t =
    let j = place_of (same_loc e.to) t.locs in
    elim (ltb j cl) [
      | false ↦ full (refusal 11 i)
      | true ↦ elim (ltb (length t.links) ce) [
        | false ↦ full (refusal 12 i)
        | true ↦ add_edges cl ce i es (grown i j e t)
      ]
    ]

-- locations are explored by number, from i on; the fuel f is the number of places from i on
abbrev pub explore : List Stmt → ℕ → ℕ → ℕ → ℕ → Listing → Explored
explore sts cl ce zero i t = listed t
explore sts cl ce (suc f) i t =
    elim (get_elem? t.locs i) [
      | none ↦ listed t
      | some l ↦ elim (add_edges cl ce i (edges_of sts l) t) [
        | full x ↦ full x
        | listed t' ↦ explore sts cl ce f (suc i) t'
      ]
    ]

-- "The starting shapes are locations 0 on, in input order."
unfoldable pub listing : Routine → ℕ → ℕ → Explored
listing r cl ce =
    elim (ltb cl (length r.starts)) [
      | true ↦ full (refusal 11 cl)
      | false ↦ explore r.stmts cl ce cl 0 (record { locs = map (at 0) r.starts; links = [] })
    ]

-- ---- the outcome

-- the two tables with the counts reported, as a reader has them
pub record Tables : Type 0 where
  pub loc_bytes : List ℕ
  pub edge_bytes : List ℕ
  pub loc_count : ℕ
  pub edge_count : ℕ

pub record Outcome : Type 0 where
  pub verdict : Verdict
  pub tables : Tables

abbrev pub link_record : Link → List ℕ
link_record l = edge_record l.from l.dest l.edge

-- "Each record is written into its lent table from its own offset onward; bytes after the last are zero." The records
-- fit into the n bytes, so nothing is cut off where subtraction stops at 0.
abbrev pub table_of : ℕ → List (List ℕ) → List ℕ
table_of n rs = joined rs ++ replicate (n - record_size * length rs) 0

abbrev pub tables_of : ℕ → ℕ → Listing → Tables
tables_of a b t = record {
  loc_bytes = table_of a (map loc_record t.locs);
  edge_bytes = table_of b (map link_record t.links);
  loc_count = length t.locs;
  edge_count = length t.links;
}

-- a refusal leaves both tables all zero, and both counts 0
abbrev pub refused_with : ℕ → ℕ → Refusal → Outcome
refused_with a b x = record { verdict = is_refused x; tables = tables_of a b (record { locs = []; links = [] }) }

abbrev pub listed_with : ℕ → ℕ → Listing → Outcome
listed_with a b t = record { verdict = is_accepted; tables = tables_of a b t }

-- "at most 1,024 locations and 2,048 edges, and no more than length ÷ 32 rounded down"
abbrev pub places : ℕ → ℕ → ℕ
places most n = min most (n / record_size)

-- the outcome for input s and lent tables of a and b bytes
unfoldable pub translate : List ℕ → ℕ → ℕ → Outcome
translate s a b =
    elim (check s) [
      | bad x ↦ refused_with a b x
      | good r ↦ elim (listing r (places most_locations a) (places most_edges b)) [
        | full x ↦ refused_with a b x
        | listed t ↦ listed_with a b t
      ]
    ]

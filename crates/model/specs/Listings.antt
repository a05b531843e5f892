-- What the promises about listings, refusals and records speak of, beside the definitions by section of 01: the
-- locations that are reached, what a listing holds, where one has no place, what is wrong with an input, and what a
-- record can hold.
use Rattle.std.specs.Prelude.{◌%◌, ◌/◌, ◌<◌, ◌≤◌, suc, zero, ℕ, ◌≡◌, ◌↔◌, ◌⊎◌, Bool, ◌&&◌, ◌||◌, cond, false, not, true, List, [], ◌++◌, ◌∷◌, map, eqb, get_or, length, replicate, take}
use Rattle.model.specs.Base.{any, count, joined, numbers, place_of, most_nodes, most_shapes, most_statements, pointer_count, record_size}
use Rattle.model.specs.Edges.{Edge, Loc, at, edges_of, failed, same_loc}
use Rattle.model.specs.Heap.{Heap, Slot, Val, cell, holds, null, undef, unused}
use Rattle.model.specs.Machine.{Op, Stmt, choose, clear, copy, free, is_null, leak, let_go, load, new, same, set_null, relink, skip, stop, store}
use Rattle.model.specs.Records.{Refusal, Row, checks_record, failed_node, first_failed, is_accepted, is_h, is_s, loc_record, refusal, refusal_at, uses_first, uses_second}
use Rattle.model.specs.Part.{meant, part_bytes, record_part}
use Rattle.model.specs.Translate.{Link, Listing, Routine, Tables, add_edges, between, chunks, explore, full, grown, link_record, listed, routine_of}
use Rattle.model.specs.Notions.{Distinct, In, Canon}

-- ---- what a listing holds

-- the locations that the edges lead to, from the starting shapes at statement 0
pub data Reached (sts : List Stmt) (hs : List Heap) : Loc → Type 0 where
  from_start : {h : Heap} → In h hs → Reached sts hs (at 0 h)
  by_edge : {l : Loc} (e : Edge) → Reached sts hs l → In e (edges_of sts l) → Reached sts hs e.to

-- location i of a list of locations; past the end a fault, which has no edges
abbrev pub loc_at : List Loc → ℕ → Loc
loc_at ls i = get_or ls i (failed 0 leak)

-- a location added to a list unless it stands there; the first occurrence of each location of a list, in order
abbrev pub add_loc : List Loc → Loc → List Loc
add_loc ls l = cond (any (same_loc l) ls) ls (ls ++ l ∷ [])

abbrev pub add_locs : List Loc → List Loc → List Loc
add_locs ls [] = ls
add_locs ls (l ∷ ms) = add_locs (add_loc ls l) ms

abbrev pub firsts : List Loc → List Loc
firsts ls = add_locs [] ls

-- edge e of location i, with the number of its target; the edges of location i; the target of an edge
abbrev pub link_of : ℕ → List Loc → Edge → Link
link_of i ls e = record { from = i; dest = place_of (same_loc e.to) ls; edge = e }

abbrev pub links_from : List Stmt → List Loc → ℕ → List Link
links_from sts ls i = map (link_of i ls) (edges_of sts (loc_at ls i))

abbrev pub link_target : Link → Loc
link_target l = l.edge.to

-- edge n of a listing; past the end one that leads nowhere
abbrev pub no_link : Link
no_link = record { from = 0; dest = 0; edge = record { branch_no = 0; guards = []; to = failed 0 leak; updates = [] } }

abbrev pub link_at : Listing → ℕ → Link
link_at t n = get_or t.links n no_link

-- "The starting shapes are locations 0 on, in input order. Locations are explored by number; each new target takes the
-- next number; edges stand in the order found." Each location stands once, and they are exactly those reached.
pub record Exact (r : Routine) (t : Listing) : Type 0 where
  pub starts : take (length r.starts) t.locs ≡ map (at 0) r.starts
  pub distinct : Distinct t.locs
  pub sound : (l : Loc) → In l t.locs → Reached r.stmts r.starts l
  pub complete : (l : Loc) → Reached r.stmts r.starts l → In l t.locs
  pub links : t.links ≡ joined (map (links_from r.stmts t.locs) (numbers 0 (length t.locs)))
  pub order : t.locs ≡ firsts (map (at 0) r.starts ++ map link_target t.links)

-- One record out of the tables T of a listing: each number below a count is answered with the record of that location
-- or edge, and no other number is answered.
pub record EachRecord (t : Listing) (T : Tables) : Type 0 where
  pub answered : (mark n : ℕ) → ((record_part T mark n).verdict ≡ is_accepted)
      ↔ ((mark ≤ 1) × (n < meant mark (length t.locs) (length t.links)))
  pub records : (mark n : ℕ) → (record_part T mark n).verdict ≡ is_accepted
      → part_bytes T mark n ≡ meant mark (loc_record (loc_at t.locs n)) (link_record (link_at t n))

-- ---- places

-- one more edge of location i; more of them, in order
abbrev pub add_edge : ℕ → Listing → Edge → Listing
add_edge i t e = grown i (place_of (same_loc e.to) t.locs) e t

abbrev pub extend : ℕ → List Edge → Listing → Listing
extend i [] t = t
extend i (e ∷ es) t = extend i es (add_edge i t e)

-- the listing after the edges of the locations below i, with places for all of them
abbrev pub explored : List Stmt → List Heap → ℕ → Listing
explored sts hs zero = record { locs = map (at 0) hs; links = [] }
explored sts hs (suc i) = extend i (edges_of sts (loc_at (explored sts hs i).locs i)) (explored sts hs i)

-- the full listing: all its locations have been explored
abbrev pub IsFull : Routine → Listing → Type 0
IsFull r t = t ≡ explored r.stmts r.starts (length t.locs)

-- there is a place for each location and each edge
abbrev pub Placed : ℕ → ℕ → Listing → Type 0
Placed cl ce t = (length t.locs ≤ cl) × (length t.links ≤ ce)

-- Why the edge e of location i cannot be added to listing u: 11, its target is new and every place for a location is
-- taken; 12, its target stands there or has a place, and every place for an edge is taken.
pub data Why (cl ce i : ℕ) (e : Edge) (u : Listing) (x : Refusal) : Type 0 where
  no_location : x ≡ refusal 11 i → (In e.to u.locs → ⊥) → length u.locs ≡ cl → Why cl ce i e u x
  no_edge : x ≡ refusal 12 i → In e.to u.locs ⊎ (length u.locs < cl) → length u.links ≡ ce
      → Why cl ce i e u x

-- of the edges es of location i, those before one have places, and that one has none
pub record NoPlace (cl ce i : ℕ) (es : List Edge) (t : Listing) (x : Refusal) : Type 0 where
  pub earlier : List Edge
  pub stuck : Edge
  pub later : List Edge
  pub edges : es ≡ earlier ++ stuck ∷ later
  pub added : add_edges cl ce i earlier t ≡ listed (extend i earlier t)
  pub fit : Placed cl ce (extend i earlier t)
  pub why : Why cl ce i stuck (extend i earlier t) x

-- The refusal at location x .place: the locations below have been explored, it stands in the listing, and one of its
-- edges has no place.
pub record Refused (sts : List Stmt) (hs : List Heap) (cl ce : ℕ) (x : Refusal) : Type 0 where
  pub reached : explore sts cl ce x.place 0 (explored sts hs 0) ≡ listed (explored sts hs x.place)
  pub below : x.place < length (explored sts hs x.place).locs
  pub adding : add_edges cl ce x.place (edges_of sts (loc_at (explored sts hs x.place).locs x.place))
      (explored sts hs x.place) ≡ full x
  pub no_place : NoPlace cl ce x.place (edges_of sts (loc_at (explored sts hs x.place).locs x.place))
      (explored sts hs x.place) x

-- ---- refusals of the input

-- the records of an input
abbrev pub records_of : List ℕ → List (List ℕ)
records_of s = chunks (length s / record_size) s

-- 1: "empty, or not a multiple of 32 bytes"
abbrev pub no_records : List ℕ → Bool
no_records s = eqb (length s) 0 || not (eqb (length s % record_size) 0)

-- 4: record i is neither S nor H, or is an S after an H
abbrev pub wrong_kind : List (List ℕ) → ℕ → Bool
wrong_kind rs i = not (is_h (get_or rs i [])) && not (is_s (get_or rs i []) && not (any is_h (take i rs)))

-- 5 to 10, 18, 19: the checks of record i, its refusal, 0 for none, and the node that is told with it
abbrev pub record_checks : List (List ℕ) → ℕ → List Row
record_checks rs i = checks_record (count is_s rs) (take i rs) (get_or rs i [])

abbrev pub record_refusal : List (List ℕ) → ℕ → ℕ
record_refusal rs i = first_failed (record_checks rs i)

abbrev pub record_node : List (List ℕ) → ℕ → ℕ
record_node rs i = failed_node (record_checks rs i)

-- the numbers that a refusal can have, in the order of the checks: an S record's, an H record's, an input's, and a
-- translation's
abbrev pub numbers_s : List ℕ
numbers_s = 5 ∷ 6 ∷ 7 ∷ []

abbrev pub numbers_h : List ℕ
numbers_h = 8 ∷ 9 ∷ 18 ∷ 19 ∷ 10 ∷ []

abbrev pub numbers_input : List ℕ
numbers_input = 1 ∷ 4 ∷ 2 ∷ 3 ∷ numbers_s ++ numbers_h

abbrev pub numbers_translate : List ℕ
numbers_translate = numbers_input ++ 11 ∷ 12 ∷ []

-- the records of an input below i are of right kinds; they are not refused
abbrev pub RightKinds : List ℕ → ℕ → Type 0
RightKinds s i = (j : ℕ) → j < i → wrong_kind (records_of s) j ≡ false

abbrev pub RightRecords : List ℕ → ℕ → Type 0
RightRecords s i = (j : ℕ) → j < i → record_refusal (records_of s) j ≡ 0

-- there are 1 to 64 S and 1 to 16 H
abbrev pub right_s : List ℕ → Bool
right_s s = between 1 most_statements (count is_s (records_of s))

abbrev pub right_h : List ℕ → Bool
right_h s = between 1 most_shapes (count is_h (records_of s))

-- What is wrong with an input, in the order of the checks, each where all before it pass: "whole input, in this
-- order"; "Records are checked in input order, the lowest number first."
pub data BadInput (s : List ℕ) (x : Refusal) : Type 0 where
  bad_length : x ≡ refusal 1 0 → no_records s ≡ true → BadInput s x
  bad_kind : (i : ℕ) → x ≡ refusal 4 i → no_records s ≡ false → i < length (records_of s) → RightKinds s i
      → wrong_kind (records_of s) i ≡ true → BadInput s x
  bad_statements : x ≡ refusal 2 0 → no_records s ≡ false → RightKinds s (length (records_of s)) → right_s s ≡ false
      → BadInput s x
  bad_shapes : x ≡ refusal 3 0 → no_records s ≡ false → RightKinds s (length (records_of s)) → right_s s ≡ true
      → right_h s ≡ false → BadInput s x
  bad_record : (n i : ℕ) → x ≡ refusal_at (suc n) i (record_node (records_of s) i) → no_records s ≡ false
      → RightKinds s (length (records_of s)) → right_s s ≡ true → right_h s ≡ true
      → i < length (records_of s) → RightRecords s i → record_refusal (records_of s) i ≡ suc n → BadInput s x

-- nothing is wrong with an input
pub record GoodInput (s : List ℕ) (r : Routine) : Type 0 where
  pub wide : no_records s ≡ false
  pub kinds : RightKinds s (length (records_of s))
  pub statements : right_s s ≡ true
  pub shapes : right_h s ≡ true
  pub records : RightRecords s (length (records_of s))
  pub is_read : r ≡ routine_of (count is_s (records_of s)) (records_of s)

-- ---- what a record can hold

-- a value whose cell number, if it has one, is below k; a slot in use with such a value
abbrev pub SmallVal : ℕ → Val → Type 0
SmallVal k (cell n) = n < k
SmallVal k null = Unit {0}
SmallVal k undef = Unit {0}

abbrev pub SmallSlot : ℕ → Slot → Type 0
SmallSlot k unused = ⊥
SmallSlot k (holds v) = SmallVal k v

-- six pointers, at most twelve slots, all in use, and every value a cell below their number, null or undefined
pub record Writable (h : Heap) : Type 0 where
  pub six : length h.ptrs ≡ pointer_count
  pub few : length h.slots ≤ most_nodes
  pub pointers : (v : Val) → In v h.ptrs → SmallVal (length h.slots) v
  pub nexts : (s : Slot) → In s h.slots → SmallSlot (length h.slots) s

-- a location whose shape, if it has one, can be written
abbrev pub WritableLoc : Loc → Type 0
WritableLoc (at s h) = Writable h
WritableLoc (failed s f) = Unit {0}

-- a location that is good: a shape with six pointers, or a fault
abbrev pub GoodLoc : Loc → Type 0
GoodLoc (at s h) = Canon h × (length h.ptrs ≡ pointer_count)
GoodLoc (failed s f) = Unit {0}

-- the number of an op in 01's table and in 02, and its pointers u and w, 0 where it has none
pub record OpFields : Type 0 where
  pub number : ℕ
  pub u : ℕ
  pub w : ℕ

abbrev pub fields_of : ℕ → ℕ → ℕ → OpFields
fields_of n u w = record { number = n; u = u; w = w }

abbrev pub op_fields : Op → OpFields
op_fields stop = fields_of 0 0 0
op_fields (set_null u) = fields_of 1 u 0
op_fields (copy u w) = fields_of 2 u w
op_fields (load u w) = fields_of 3 u w
op_fields (clear u) = fields_of 4 u 0
op_fields (store u w) = fields_of 5 u w
op_fields (new u) = fields_of 6 u 0
op_fields (free u) = fields_of 7 u 0
op_fields (is_null u) = fields_of 8 u 0
op_fields (same u w) = fields_of 9 u w
op_fields choose = fields_of 10 0 0
op_fields skip = fields_of 11 0 0
op_fields (relink u w) = fields_of 12 u w
op_fields (let_go u) = fields_of 13 u 0

-- how a statement is written: "A field that the op doesn't use is zero."
abbrev pub field : Bool → ℕ → ℕ
field used b = cond used b 0

abbrev pub stmt_record : Stmt → List ℕ
stmt_record st =
    let o = op_fields st.op in
    let n = o.number in
    0x53 ∷ n ∷ o.u ∷ o.w ∷ field (uses_first n) st.first_target ∷ field (uses_second n) st.second_target
    ∷ replicate 26 0

-- the targets that the op does not use are zero
pub record UnusedZero (st : Stmt) : Type 0 where
  pub first : uses_first (op_fields st.op).number ≡ false → st.first_target ≡ 0
  pub second : uses_second (op_fields st.op).number ≡ false → st.second_target ≡ 0

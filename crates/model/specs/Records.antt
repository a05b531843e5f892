-- 01, "Records", as 02 amends it: 32 bytes each. How locations and edges are written, and how statements, shapes,
-- locations and edges are read. Assumes nothing.
use Rattle.std.specs.Prelude.{ℕ, suc, ◌-◌, ◌+◌, ◌*◌, ◌/◌, ◌%◌, Bool, true, false, ◌&&◌, ◌||◌, cond, not, List, [], ◌∷◌, ◌++◌, map, eqb, leb, ltb, length, get_or, take, drop, replicate}
use Rattle.model.specs.Base.{all, any, mem, joined, place_of, same_list, most_nodes, pointer_count, record_size}
use Rattle.model.specs.Heap.{Val, cell, null, undef, Slot, unused, holds, Heap}
use Rattle.model.specs.Shape.{as_visited, core, nodes, reachable}
use Rattle.model.specs.Machine.{Op, stop, set_null, copy, load, clear, store, new, free, is_null, same, choose, skip, relink, let_go, Stmt, fault_number}
use Rattle.model.specs.Edges.{Loc, at, failed, Test, is_one, is_more, Guard, Update, Edge}

-- ---- writing

-- "A value is a node below k, 0xfe null or 0xff undefined." In a heap image a cell not in use is 0xfd.
abbrev pub val_byte : Val → ℕ
val_byte (cell n) = n
val_byte null = 0xfe
val_byte undef = 0xff

abbrev pub slot_byte : Slot → ℕ
slot_byte unused = 0xfd
slot_byte (holds v) = val_byte v

-- a list made n long by zeros; a longer one stays as it is, since subtraction stops at 0
abbrev pub filled : ℕ → List ℕ → List ℕ
filled n xs = xs ++ replicate (n - length xs) 0

-- bytes 3 to 31 of an H or L record: the node count, the pointers, the successors
abbrev pub shape_bytes : Heap → List ℕ
shape_bytes h = length h.slots ∷ filled 28 (map val_byte h.ptrs ++ map slot_byte h.slots)

abbrev pub shape_record : Heap → List ℕ
shape_record h = 0x48 ∷ 0 ∷ 0 ∷ shape_bytes h

abbrev pub loc_record : Loc → List ℕ
loc_record (at s h) = 0x4c ∷ s ∷ 0 ∷ shape_bytes h
loc_record (failed s f) = 0x4c ∷ s ∷ fault_number f ∷ replicate 29 0

-- "two-byte numbers have the low byte first"
abbrev pub two_bytes : ℕ → List ℕ
two_bytes n = n % 256 ∷ n / 256 ∷ []

-- "6 guard (0 none, 1 for = 1, 2 for ≥ 2), 7 its node (0 if none)"
abbrev pub test_number : Test → ℕ
test_number is_one = 1
test_number is_more = 2

-- a guard in these numbers
pub record GuardCode : Type 0 where
  pub test : ℕ
  pub node : ℕ

abbrev pub code_of : Guard → GuardCode
code_of g = record { test = test_number g.test; node = g.node }

-- guard i of an edge, both numbers 0 where it has none; a record holds guards 0 and 1
abbrev pub guard_code : List Guard → ℕ → GuardCode
guard_code gs i = get_or (map code_of gs) i (record { test = 0; node = 0 })

-- 02, job 3: "in byte 1, bit 0 is the branch, bits 1 and 2 are a second guard with the values of byte 6, and bits 3 to
-- 6 its node (0 if none), bit 7 zero"
abbrev pub branch_byte : ℕ → GuardCode → ℕ
branch_byte b g = b + 2 * g.test + 8 * g.node

-- the number whose bits, lowest first, are given
abbrev pub bits : List Bool → ℕ
bits [] = 0
bits (b ∷ bs) = cond b 1 0 + 2 * bits bs

-- "bits 0 to 11 are the old counters added, bits 12 and 13 the constant (−1, 0 or 1) plus one"
abbrev pub update_code : Update → ℕ
update_code u = bits u.adds + 4096 * u.plus

abbrev pub edge_record : ℕ → ℕ → Edge → List ℕ
edge_record from to e =
    let g = guard_code e.guards in
    0x45 ∷ branch_byte e.branch_no (g 1)
    ∷ (two_bytes from ++ two_bytes to ++ (g 0).test ∷ (g 0).node
    ∷ filled 24 (joined (map (λ u. two_bytes (update_code u)) e.updates)))

-- ---- reading

abbrev pub byte : List ℕ → ℕ → ℕ
byte r i = get_or r i 0

abbrev pub word : List ℕ → ℕ → ℕ
word r i = byte r i + 256 * byte r (suc i)

-- record n of a table
abbrev pub record_at : List ℕ → ℕ → List ℕ
record_at t n = take record_size (drop (record_size * n) t)

abbrev pub is_zero : ℕ → Bool
is_zero b = eqb b 0

abbrev pub is_s : List ℕ → Bool
is_s r = eqb (byte r 0) 0x53

abbrev pub is_h : List ℕ → Bool
is_h r = eqb (byte r 0) 0x48

-- S: 1 op, 2 u, 3 w, 4 first target, 5 second target
abbrev pub ops_by : ℕ → ℕ → List Op
ops_by u w =
    stop ∷ set_null u ∷ copy u w ∷ load u w ∷ clear u ∷ store u w ∷ new u ∷ free u ∷ is_null u ∷ same u w ∷ choose
    ∷ skip ∷ relink u w ∷ let_go u ∷ []

-- how many ops there are
abbrev pub op_count : ℕ
op_count = 14

abbrev pub op_of : ℕ → ℕ → ℕ → Op
op_of op u w = get_or (ops_by u w) op stop

abbrev pub stmt_of : List ℕ → Stmt
stmt_of r = record { op = op_of (byte r 1) (byte r 2) (byte r 3); first_target = byte r 4; second_target = byte r 5 }

-- H and L: 1 statement, 2 fault, 3 node count, 4 to 9 the pointers, 10 to 21 the successors
abbrev pub val_of : ℕ → Val
val_of b = cond (eqb b 0xfe) null (cond (eqb b 0xff) undef (cell b))

abbrev pub shape_of : List ℕ → Heap
shape_of r = record {
  ptrs = map val_of (take pointer_count (drop 4 r));
  slots = map (λ b. holds (val_of b)) (take (byte r 3) (drop 10 r));
}

-- ---- refusals

-- demand 1: a numbered refusal with its place; 02, job 5: "the place becomes the record and the first node concerned"
pub record Refusal : Type 0 where
  pub number : ℕ
  pub place : ℕ
  pub node : ℕ

-- number n at place p with node v; all but 9, 18 and 19 have node 0
abbrev pub refusal_at : ℕ → ℕ → ℕ → Refusal
refusal_at n p v = record { number = n; place = p; node = v }

abbrev pub refusal : ℕ → ℕ → Refusal
refusal n p = refusal_at n p 0

-- how a call ends: accepted, or refused
pub data Verdict : Type 0 where
  is_accepted : Verdict
  is_refused : Refusal → Verdict

-- a row of 01's table: the number, whether its condition is not met, and the node that is told where it is met
pub record Row : Type 0 where
  pub number : ℕ
  pub passes : Bool
  pub node : ℕ

abbrev pub unless : ℕ → Bool → Row
unless n b = record { number = n; passes = b; node = 0 }

-- a row about every node of a shape, with "the first node concerned, in node order"
abbrev pub unless_each : ℕ → (ℕ → Bool) → Heap → Row
unless_each n p h = record { number = n; passes = all p (nodes h); node = place_of (λ v. not (p v)) (nodes h) }

-- the number of the first check that does not pass, 0 for none; and the node that is told with it
abbrev pub first_failed : List Row → ℕ
first_failed [] = 0
first_failed (c ∷ cs) = elim c.passes [ true ↦ first_failed cs | false ↦ c.number ]

abbrev pub failed_node : List Row → ℕ
failed_node [] = 0
failed_node (c ∷ cs) = elim c.passes [ true ↦ failed_node cs | false ↦ c.node ]

-- ---- the refusals of a record

-- which fields an op uses
abbrev pub uses_u : ℕ → Bool
uses_u op = (leb 1 op && leb op 9) || eqb op 12 || eqb op 13

abbrev pub uses_w : ℕ → Bool
uses_w op = mem op (2 ∷ 3 ∷ 5 ∷ 9 ∷ 12 ∷ [])

abbrev pub uses_first : ℕ → Bool
uses_first op = leb 1 op

abbrev pub uses_second : ℕ → Bool
uses_second op = leb 8 op && leb op 10

-- a used pointer is below 6, and "a field that the op doesn't use is zero"
abbrev pub pointer_field : Bool → ℕ → Bool
pointer_field used b = cond used (ltb b pointer_count) (is_zero b)

abbrev pub target_field : Bool → ℕ → Bool
target_field used b = used || is_zero b

-- a used target is one of n statements
abbrev pub target_below : ℕ → Bool → ℕ → Bool
target_below n used b = not used || ltb b n

-- "6: a used pointer above 5, or an unused byte not zero"
abbrev pub fields_s : List ℕ → Bool
fields_s r =
    let op = byte r 1 in
    pointer_field (uses_u op) (byte r 2) && pointer_field (uses_w op) (byte r 3)
    && target_field (uses_first op) (byte r 4) && target_field (uses_second op) (byte r 5) && all is_zero (drop 6 r)

-- "7: a used target not a statement"
abbrev pub targets_s : ℕ → List ℕ → Bool
targets_s n r =
    let op = byte r 1 in
    target_below n (uses_first op) (byte r 4) && target_below n (uses_second op) (byte r 5)

-- "5: op above 11", by 02, jobs 3 and 6, above 13; then 6 and 7; among n statements
abbrev pub checks_s : ℕ → List ℕ → List Row
checks_s n r = unless 5 (ltb (byte r 1) op_count) ∷ unless 6 (fields_s r) ∷ unless 7 (targets_s n r) ∷ []

abbrev pub refusal_s : ℕ → List ℕ → ℕ
refusal_s n r = first_failed (checks_s n r)

-- a byte that is a value in a shape of k nodes
abbrev pub value_byte : ℕ → ℕ → Bool
value_byte k b = ltb b k || eqb b 0xfe || eqb b 0xff

-- bytes 3 to 31 of an H or L record with a shape: the node count, the pointers, the successors, and zeros
abbrev pub shape_fields : List ℕ → Bool
shape_fields r =
    let k = byte r 3 in
    leb k most_nodes && all (value_byte k) (take (pointer_count + k) (drop 4 r)) && all is_zero (drop (10 + k) r)

-- "8: breaks the layout"
abbrev pub layout_h : List ℕ → Bool
layout_h r = is_h r && is_zero (byte r 1) && is_zero (byte r 2) && shape_fields r

-- 02, job 5: "An unreachable node keeps 9 and is looked for first. Refused: 18, when all are reachable and a node isn't
-- core; 19, when only the numbering differs, at the first node that the walk numbers otherwise."
abbrev pub checks_nodes : Heap → List Row
checks_nodes h = unless_each 9 (reachable h) h ∷ unless_each 18 (core h) h ∷ unless_each 19 (as_visited h) h ∷ []

abbrev pub check_layout : List ℕ → Row
check_layout r = unless 8 (layout_h r)

-- "10: equal to an earlier H"
abbrev pub check_repeated : List (List ℕ) → List ℕ → Row
check_repeated earlier r = unless 10 (not (any (same_list eqb r) earlier))

-- 18 and 19 "stand right after 9"
abbrev pub checks_h : List (List ℕ) → List ℕ → List Row
checks_h earlier r = check_layout r ∷ checks_nodes (shape_of r) ++ check_repeated earlier r ∷ []

abbrev pub refusal_h : List (List ℕ) → List ℕ → ℕ
refusal_h earlier r = first_failed (checks_h earlier r)

-- the refusals that tell a node; all others have node 0
abbrev pub tells_node : ℕ → Bool
tells_node n = mem n (9 ∷ 18 ∷ 19 ∷ [])

-- the checks of a record after the earlier ones, where there are n statements
abbrev pub checks_record : ℕ → List (List ℕ) → List ℕ → List Row
checks_record n earlier r = cond (is_s r) (checks_s n r) (checks_h earlier r)

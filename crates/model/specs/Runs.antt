-- 01, "Runs": the routine fed entries, the automaton fed edge numbers, the match between the two, and demand 3 as one
-- type. The automaton is read from the bytes of the two tables with the counts reported. Assumes nothing.
use Rattle.std.specs.Prelude.{ℕ, ◌-◌, ◌+◌, ◌*◌, ◌/◌, ◌%◌, ◌<◌, ◌≡◌, Bool, true, false, ◌&&◌, cond, not, List, [], ◌∷◌, map, eqb, leb, ltb, length, get_or}
use Rattle.std.proofs.Math.Option.{Option, none, some}
use Rattle.std.proofs.Math.ListN.{get_elem?}
use Rattle.model.specs.Base.{any, all, numbers}
use Rattle.model.specs.Heap.{Heap, IsHeap, next, in_use}
use Rattle.model.specs.Shape.{shape, counters}
use Rattle.model.specs.Machine.{Stmt, Fault, fault_number, is_stop, kind, Entry, Answer, refused, stopped, faulted, went, step}
use Rattle.model.specs.Edges.{stmt_at}
use Rattle.model.specs.Records.{GuardCode, is_accepted, byte, word, record_at, shape_of}
use Rattle.model.specs.Translate.{good, check, Routine, Tables, translate}

-- a step made or an edge taken: its branch, and what it leaves
pub record Advance (A : Type 0) : Type 0 where
  pub branch_no : ℕ
  pub after : A

-- The steps made along a list, in order; what is refused makes none and changes nothing.
abbrev pub trace : {A B : Type 0} → (A → B → Option (Advance A)) → A → List B → List (Advance A)
trace f a [] = []
trace f a (b ∷ bs) = elim (f a b) [ none ↦ trace f a bs | some s ↦ s ∷ trace f s.after bs ]

-- where the list ends
abbrev pub final : {A : Type 0} → A → List (Advance A) → A
final a [] = a
final a (s ∷ ss) = final s.after ss

-- ---- the routine

pub data Status : Type 0 where
  running : Status
  past : Fault → Status

pub record State : Type 0 where
  pub stmt : ℕ
  pub status : Status
  pub heap : Heap

-- "A step that faults has branch 0 and leaves the heap and the statement as they stood"
abbrev pub made : State → Answer → Option (Advance State)
made q refused = none
made q stopped = none
made q (faulted f) = some (record { branch_no = 0; after = record { stmt = q.stmt; status = past f; heap = q.heap } })
made q (went b t h) = some (record { branch_no = b; after = record { stmt = t; status = running; heap = h } })

abbrev pub step_in : Status → List Stmt → State → Entry → Option (Advance State)
step_in running sts q e = made q (step (stmt_at sts q.stmt) e q.heap)
step_in (past f) sts q e = none

abbrev pub step_of : List Stmt → State → Entry → Option (Advance State)
step_of sts q e = step_in q.status sts q e

-- "at a stop or past a fault"
abbrev pub ended_in : Status → Stmt → Bool
ended_in running st = is_stop (kind st.op)
ended_in (past f) st = true

abbrev pub ended : List Stmt → State → Bool
ended sts q = ended_in q.status (stmt_at sts q.stmt)

-- ---- the automaton

pub record Config : Type 0 where
  pub loc : ℕ
  pub values : List ℕ

-- the counters of the set bits of m
abbrev pub added : ℕ → List ℕ → ℕ
added m [] = 0
added m (c ∷ cs) = m % 2 * c + added (m / 2) cs

-- "each new counter its constant plus the old counters that it adds"; the constant stands plus one in bits 12 and 13.
-- In the tables of a translation a constant of −1 comes with a counter of 1 or more, so nothing is cut off where
-- subtraction stops at 0.
abbrev pub applied : List ℕ → ℕ → ℕ
applied cs u = (added (u % 4096) cs + u / 4096 % 4) - 1

-- the branch of an edge's record: bit 0 of byte 1
abbrev pub branch_of : List ℕ → ℕ
branch_of r = byte r 1 % 2

-- the guards that it holds, in numbers: bytes 6 and 7; bits 1 and 2, and bits 3 to 6, of byte 1
abbrev pub guards_of : List ℕ → List GuardCode
guards_of r =
    record { test = byte r 6; node = byte r 7 }
    ∷ record { test = byte r 1 / 2 % 4; node = byte r 1 / 8 % 16 }
    ∷ []

abbrev pub guard_holds : ℕ → ℕ → Bool
guard_holds g c = cond (eqb g 0) true (cond (eqb g 1) (eqb c 1) (eqb g 2 && leb 2 c))

abbrev pub guards_hold : List ℕ → List GuardCode → Bool
guards_hold cs = all (λ (g : GuardCode). guard_holds g.test (get_or cs g.node 0))

-- the node count of a location, and the updates of an edge for so many new nodes
abbrev pub nodes_at : Tables → ℕ → ℕ
nodes_at t l = byte (record_at t.loc_bytes l) 3

abbrev pub updates_of : ℕ → List ℕ → List ℕ
updates_of k r = map (λ i. word r (8 + 2 * i)) (numbers 0 k)

-- "An edge in use that leaves the present location is enabled when its guard, if any, holds of its node's counter."; by
-- 02, job 3, "when both guards hold"
abbrev pub enabled : Tables → Config → ℕ → Bool
enabled t c n =
    let r = record_at t.edge_bytes n in
    ltb n t.edge_count && eqb (word r 2) c.loc
    && guards_hold c.values (guards_of r)

abbrev pub taken : Tables → Config → List ℕ → Advance Config
taken t c r = record {
  branch_no = branch_of r;
  after = record { loc = word r 4; values = map (applied c.values) (updates_of (nodes_at t (word r 4)) r) };
}

abbrev pub move_of : Tables → Config → ℕ → Option (Advance Config)
move_of t c n = cond (enabled t c n) (some (taken t c (record_at t.edge_bytes n))) none

-- an edge in use leaves the location
abbrev pub leaves : Tables → ℕ → Bool
leaves t l = any (λ n. eqb (word (record_at t.edge_bytes n) 2) l) (numbers 0 t.edge_count)

-- ---- the match

-- "A shape with counters describes a heap"
pub record Describes (sh : Heap) (cs : List ℕ) (h : Heap) : Type 0 where
  pub is_heap : IsHeap h
  pub shape_is : shape h ≡ sh
  pub counters_are : counters h ≡ cs

abbrev pub fault_of : Status → ℕ
fault_of running = 0
fault_of (past f) = fault_number f

abbrev pub DescribesIn : Status → Heap → List ℕ → Heap → Type 0
DescribesIn running sh cs h = Describes sh cs h
DescribesIn (past f) sh cs h = Unit {0}

-- "The two match when the location's statement and fault are the routine's and, without a fault, its shape with the
-- automaton's counters describes the heap. .. No edge leaves the location exactly when the routine is at a stop or
-- past a fault."
pub record Match (sts : List Stmt) (t : Tables) (q : State) (c : Config) : Type 0 where
  pub is_location : c.loc < t.loc_count
  pub statement_is : byte (record_at t.loc_bytes c.loc) 1 ≡ q.stmt
  pub fault_is : byte (record_at t.loc_bytes c.loc) 2 ≡ fault_of q.status
  pub describes : DescribesIn q.status (shape_of (record_at t.loc_bytes c.loc)) c.values q.heap
  pub ends : leaves t c.loc ≡ not (ended sts q)

-- The steps made and the edges taken pair off in order, branch for branch, and the two match after each pair.
abbrev pub Paired : List Stmt → Tables → List (Advance State) → List (Advance Config) → Type 0
Paired sts t [] [] = Unit {0}
Paired sts t [] (y ∷ ys) = ⊥
Paired sts t (x ∷ xs) [] = ⊥
Paired sts t (x ∷ xs) (y ∷ ys) = (x.branch_no ≡ y.branch_no) × Match sts t x.after y.after × Paired sts t xs ys

-- two whole lists: the steps and the edges pair off, and the two match where the lists end
pub record Matched (sts : List Stmt) (t : Tables) (q : State) (c : Config) (xs : List (Advance State))
    (ys : List (Advance Config)) : Type 0 where
  pub pairs : Paired sts t xs ys
  pub at_end : Match sts t (final q xs) (final c ys)

-- each edge number of the list is taken, and is at its turn the only enabled edge of its branch
abbrev pub Forced : Tables → Config → List ℕ → Type 0
Forced t c [] = Unit {0}
Forced t c (n ∷ ns) =
    (y : Advance Config) × (move_of t c n ≡ some y)
    × ((m : ℕ) (z : Advance Config) → move_of t c m ≡ some z → z.branch_no ≡ y.branch_no → m ≡ n)
    × Forced t y.after ns

-- the entries with the branches of the edges taken as picks, and given cells
abbrev pub fed : List (Advance Config) → List ℕ → List Entry
fed [] cs = []
fed (y ∷ ys) [] = []
fed (y ∷ ys) (c ∷ cs) = record { pick = y.branch_no; cell_no = c } ∷ fed ys cs

-- each entry's cell is not in use when its turn comes
abbrev pub after_entry : State → Option (Advance State) → State
after_entry q none = q
after_entry q (some x) = x.after

abbrev pub AreUnused : List Stmt → State → List Entry → Type 0
AreUnused sts q [] = Unit {0}
AreUnused sts q (e ∷ es) = (in_use (next q.heap e.cell_no) ≡ false)
    × AreUnused sts (after_entry q (step_of sts q e)) es

-- cells for the edges taken, each not in use when its turn comes
pub record Supply (sts : List Stmt) (q : State) (ys : List (Advance Config)) (cs : List ℕ) : Type 0 where
  pub enough : length cs ≡ length ys
  pub are_unused : AreUnused sts q (fed ys cs)

-- Whole lists are matched from here, in either direction.
pub record Matching (sts : List Stmt) (t : Tables) (q : State) (c : Config) : Type 0 where
  pub start : Match sts t q c
  pub to_automaton :
      (es : List Entry) → (ns : List ℕ) × Forced t c ns × Matched sts t q c (trace (step_of sts) q es)
      (trace (move_of t) c ns)
  pub to_routine :
      (ns cs : List ℕ) → Supply sts q (trace (move_of t) c ns) cs
      → Matched sts t q c (trace (step_of sts) q (fed (trace (move_of t) c ns) cs)) (trace (move_of t) c ns)
  pub supply : (ns : List ℕ) → (cs : List ℕ) × Supply sts q (trace (move_of t) c ns) cs

-- The automaton in the tables is the routine: from statement 0 on any heap that a starting shape describes, and from
-- that shape's location with those counters, whole lists are matched.
abbrev pub IsRoutine : Routine → Tables → Type 0
IsRoutine r t =
    (i : ℕ) (sh h : Heap) (cs : List ℕ) → get_elem? r.starts i ≡ some sh → Describes sh cs h
    → Matching r.stmts t (record { stmt = 0; status = running; heap = h }) (record { loc = i; values = cs })

-- demand 3 of one input and of what its translation left
abbrev pub IsRoutineOf : List ℕ → Tables → Type 0
IsRoutineOf s t = (r : Routine) → check s ≡ good r → IsRoutine r t

-- Demand 3: for any accepted translation.
unfoldable pub Demand3 : Type 0
Demand3 = (s : List ℕ) (a b : ℕ) → (translate s a b).verdict ≡ is_accepted → IsRoutineOf s (translate s a b).tables

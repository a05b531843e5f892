-- 01, "Edges of a location", as 02 amends it: the plain machine run on the shape. Assumes nothing.
use Rattle.std.specs.Prelude.{ℕ, ◌+◌, ◌-◌, Bool, true, false, ◌&&◌, cond, List, [], ◌∷◌, map, eqb, length, get_or}
use Rattle.model.specs.Base.{any, count, numbers, joined}
use Rattle.model.specs.Heap.{Val, cell, null, undef, holds, Heap, ptr, next, same_heap}
use Rattle.model.specs.Shape.{Seg, cells, segments, fold_by}
use Rattle.model.specs.Machine.{Op, stop, Stmt, Action, stay, compare, point, follow, link, splice, make, release, action, Kind, halts, acts, drops, tests, picks, kind, Fault, fault_number, put_slot, entry, Answer, refused, stopped, faulted, went, step}

-- "A location is a statement with a shape, or a statement with a fault."
pub data Loc : Type 0 where
  at : ℕ → Heap → Loc
  failed : ℕ → Fault → Loc

abbrev pub same_loc : Loc → Loc → Bool
same_loc (at s h) (at t g) = eqb s t && same_heap h g
same_loc (at s h) (failed t f) = false
same_loc (failed s f) (at t g) = false
same_loc (failed s f) (failed t g) = eqb s t && eqb (fault_number f) (fault_number g)

-- a guard on a node's counter: = 1, or ≥ 2
pub data Test : Type 0 where
  is_one : Test
  is_more : Test

pub record Guard : Type 0 where
  pub node : ℕ
  pub test : Test

abbrev pub one_at : ℕ → Guard
one_at n = record { node = n; test = is_one }

abbrev pub more_at : ℕ → Guard
more_at n = record { node = n; test = is_more }

-- How many cells of a heap a cell of the shape stands for: as many as the counter of node n says, one, or one less
-- than that counter.
pub data Weight : Type 0 where
  counter : ℕ → Weight
  one : Weight
  less : ℕ → Weight

abbrev pub adds_counter : ℕ → Weight → Bool
adds_counter i (counter n) = eqb i n
adds_counter i one = false
adds_counter i (less n) = eqb i n

abbrev pub is_one_cell : Weight → Bool
is_one_cell (counter n) = false
is_one_cell one = true
is_one_cell (less n) = false

abbrev pub is_less : Weight → Bool
is_less (counter n) = false
is_less one = false
is_less (less n) = true

-- an update: for each old node, whether its counter is added; and the constant plus one
pub record Update : Type 0 where
  pub adds : List Bool
  pub plus : ℕ

-- The update that adds up what the cells of a segment stand for, over k old nodes. At most one cell of the heap is one
-- less than a counter, since one node is split, so nothing is cut off where subtraction stops at 0.
abbrev pub update_of : ℕ → (ℕ → Weight) → Seg → Update
update_of k w s = record {
  adds = map (λ i. any (λ c. adds_counter i (w c)) (cells s)) (numbers 0 k);
  plus = (1 + count (λ c. is_one_cell (w c)) (cells s)) - count (λ c. is_less (w c)) (cells s);
}

-- A way to leave a location: the guards, the pick, the heap that the statement is run on, and what its cells stand for.
pub record Way : Type 0 where
  pub guards : List Guard
  pub pick : ℕ
  pub heap : Heap
  pub weight : ℕ → Weight

-- nothing split; a new cell, numbered past the nodes, stands for one
abbrev pub whole : List Guard → ℕ → Heap → Way
whole gs p h = record {
  guards = gs;
  pick = p;
  heap = h;
  weight = λ c. cond (eqb c (length h.slots)) one (counter c);
}

-- "with the head split off (head 1, tail one less)": node n is the head, and the tail is a new cell after it
abbrev pub split_heap : ℕ → ℕ → Heap → Heap
split_heap n k h = put_slot n (holds (cell k)) (put_slot k (next h n) h)

abbrev pub split : List Guard → ℕ → Heap → Way
split gs n h = record {
  guards = gs;
  pick = 0;
  heap = split_heap n (length h.slots) h;
  weight = λ c. cond (eqb c n) one (cond (eqb c (length h.slots)) (less n) (counter c));
}

-- what a statement looks at: no node; one that it reads, writes or frees through; or two, of which it writes through
-- the first and reads through the second
pub data View : Type 0 where
  no_node : View
  one_node : ℕ → View
  two_nodes : ℕ → ℕ → View

abbrev pub view_val : Val → View
view_val (cell n) = one_node n
view_val null = no_node
view_val undef = no_node

-- 02, job 3: two nodes only where they are different: "If u and w hold the same cell nothing changes and the edge has
-- no guard."
abbrev pub view_from : ℕ → Val → View
view_from n (cell m) = cond (eqb n m) no_node (two_nodes n m)
view_from n null = no_node
view_from n undef = no_node

abbrev pub view_pair : Val → Val → View
view_pair (cell n) w = view_from n w
view_pair null w = no_node
view_pair undef w = no_node

abbrev pub view : Action → Heap → View
view stay h = no_node
view (compare u s) h = no_node
view (point u s) h = no_node
view (follow u w) h = view_val (ptr h w)
view (link u s) h = view_val (ptr h u)
view (splice u w) h = view_pair (ptr h u) (ptr h w)
view (make u) h = no_node
view (release u) h = view_val (ptr h u)

abbrev pub picks_of : Kind → List ℕ
picks_of halts = 0 ∷ []
picks_of (acts a) = 0 ∷ []
picks_of (drops u) = 0 ∷ []
picks_of (tests u s) = 0 ∷ []
picks_of picks = 0 ∷ 1 ∷ []

-- "Ops 3, 4, 5 and 7 on a pointer to a node give two edges: counter = 1, with nothing split, then counter ≥ 2, with
-- the head split off .. Every other statement gives one unguarded edge, except choose (branch 0, then 1) and stop
-- (none)": a stop has a way, but makes no step by it (`edge_by`). 02, job 3: "three edges: u's counter = 1 and w's = 1;
-- u's = 1 and w's ≥ 2; u's ≥ 2, which leaks .. u's guard is the first and w's the second, absent on the third edge";
-- job 6: "Its one edge has no guard"
abbrev pub ways_of : Kind → View → Heap → List Way
ways_of k no_node h = map (λ p. whole [] p h) (picks_of k)
ways_of k (one_node n) h = whole (one_at n ∷ []) 0 h ∷ split (more_at n ∷ []) n h ∷ []
ways_of k (two_nodes n m) h =
    whole (one_at n ∷ one_at m ∷ []) 0 h
    ∷ split (one_at n ∷ more_at m ∷ []) m h
    ∷ split (more_at n ∷ []) n h
    ∷ []

abbrev pub ways : Op → Heap → List Way
ways op h = ways_of (kind op) (view (action op) h) h

pub record Edge : Type 0 where
  pub branch_no : ℕ
  pub guards : List Guard
  pub to : Loc
  pub updates : List Update

-- the edge by a way out of statement s, where the machine makes a step; k is the number of nodes
abbrev pub edge_by : ℕ → ℕ → Way → Answer → List Edge
edge_by s k y refused = []
edge_by s k y stopped = []
edge_by s k y (faulted f) = record { branch_no = 0; guards = y.guards; to = failed s f; updates = [] } ∷ []
edge_by s k y (went b t h) =
    let ss = segments h in
    record {
      branch_no = b;
      guards = y.guards;
      to = at t (fold_by ss h);
      updates = map (update_of k y.weight) ss;
    }
    ∷ []

-- the step that a way stands for; at new the cell is the first past the shape's nodes
abbrev pub step_by : Stmt → ℕ → Way → Answer
step_by st k y = step st (entry y.pick k) y.heap

abbrev pub edges_at : ℕ → Stmt → Heap → List Edge
edges_at s st h =
    let k = length h.slots in
    joined (map (λ y. edge_by s k y (step_by st k y)) (ways st.op h))

-- a statement past the last is a stop
abbrev pub stmt_at : List Stmt → ℕ → Stmt
stmt_at sts s = get_or sts s (record { op = stop; first_target = 0; second_target = 0 })

abbrev pub edges_of : List Stmt → Loc → List Edge
edges_of sts (at s h) = edges_at s (stmt_at sts s) h
edges_of sts (failed s f) = []

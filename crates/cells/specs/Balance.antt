-- 02, job 10, "Where the cells went": the cells that a run of the routine makes, frees and collects, counted from the
-- plain machine, and the balance. Assumes nothing.
use Rattle.std.specs.Prelude.{ℕ, ◌+◌, ◌≡◌, ◌&&◌, cond, not, List, [], ◌∷◌, length}
use Rattle.model.specs.Base.{count, numbers, sum}
use Rattle.model.specs.Edges.{stmt_at}
use Rattle.model.specs.Heap.{Heap, Val, cell, in_use, next, null, ptr, undef}
use Rattle.model.specs.Machine.{Action, Entry, Kind, Op, Stmt, action, collects, compare, follow, kind, link, make, makes, point, release, splice, stay}
use Rattle.model.specs.Runs.{Advance, Config, Forced, Matched, State, Status, Supply, fed, final, move_of, past, running, step_of, trace}
use Rattle.model.specs.Translate.{Tables}

-- the cells in use
abbrev pub cells_of : Heap → ℕ
cells_of h = count in_use h.slots

-- ---- one step, from the heap h to the heap g

-- "the cells that new made"
abbrev pub made_by : Action → ℕ
made_by a = cond (makes a) 1 0

-- "those that free took": a cell where its pointer holds one, and none where it holds null
abbrev pub taken_at : Val → ℕ
taken_at (cell c) = 1
taken_at null = 0
taken_at undef = 0

abbrev pub freed_by : Action → Heap → ℕ
freed_by stay h = 0
freed_by (compare u s) h = 0
freed_by (point u s) h = 0
freed_by (follow u w) h = 0
freed_by (link u s) h = 0
freed_by (splice u w) h = 0
freed_by (make u) h = 0
freed_by (release u) h = taken_at (ptr h u)

-- the cells in use before and no longer after
abbrev pub gone : Heap → Heap → ℕ
gone h g = count (λ c. in_use (next h c) && not (in_use (next g c))) (numbers 0 (length h.slots))

-- "those that drops collected"
abbrev pub collected_by : Kind → Heap → Heap → ℕ
collected_by k h g = cond (collects k) (gone h g) 0

-- ---- a run

pub record Tally : Type 0 where
  pub made : ℕ
  pub freed : ℕ
  pub collected : ℕ

abbrev pub nothing : Tally
nothing = record { made = 0; freed = 0; collected = 0 }

abbrev pub both : Tally → Tally → Tally
both x y = record { made = x.made + y.made; freed = x.freed + y.freed; collected = x.collected + y.collected }

-- a step that faults leaves the heap, and counts for nothing
abbrev pub tally_in : Status → Op → Heap → Heap → Tally
tally_in running op h g =
    record { made = made_by (action op); freed = freed_by (action op) h; collected = collected_by (kind op) h g }
tally_in (past f) op h g = nothing

-- "each counted from the plain machine's run": along the steps made from q on
abbrev pub tally : List Stmt → State → List (Advance State) → Tally
tally sts q [] = nothing
tally sts q (x ∷ xs) =
    both (tally_in x.after.status (stmt_at sts q.stmt).op q.heap x.after.heap) (tally sts x.after xs)

-- ---- the balance

-- what is there afterwards, with what was freed and collected, is what was there before, with what was made
abbrev pub Balances : ℕ → Tally → ℕ → Type 0
Balances before y after = after + y.freed + y.collected ≡ before + y.made

-- "The sum of the counters"
abbrev pub total : Config → ℕ
total c = sum (λ v. v) c.values

-- The automaton's counters balance with the routine's run, unless it ends past a fault.
abbrev pub Balanced : List Stmt → State → Config → List (Advance State) → List (Advance Config) → Type 0
Balanced sts q c xs ys = (final q xs).status ≡ running → Balances (total c) (tally sts q xs) (total (final c ys))

-- Whole lists are matched from here, as demand 3 has them, and balance: any entries with the edges that they force, and
-- any edge numbers, whatever cells the routine is given for them.
pub record Balancing (sts : List Stmt) (t : Tables) (q : State) (c : Config) : Type 0 where
  pub of_entries : (es : List Entry) → let xs = trace (step_of sts) q es in
      (ns : List ℕ) × Forced t c ns × Matched sts t q c xs (trace (move_of t) c ns)
      × Balanced sts q c xs (trace (move_of t) c ns)
  pub of_edges : (ns us : List ℕ) → let ys = trace (move_of t) c ns in
      Supply sts q ys us → Matched sts t q c (trace (step_of sts) q (fed ys us)) ys
      × Balanced sts q c (trace (step_of sts) q (fed ys us)) ys

-- 01, "The plain machine", as 02 amends it: the statements, their effects, and one step. Assumes nothing.
use Rattle.std.specs.Prelude.{ℕ, zero, suc, Bool, true, false, ◌&&◌, cond, not, List, [], ◌∷◌, map, eqb, leb, set}
use Rattle.model.specs.Base.{mem}
use Rattle.model.specs.Heap.{Val, cell, null, undef, Slot, unused, holds, Heap, ptr, next, in_use, same_val, order, kept}

-- the ops of 01's table and of 02, with the pointers u and w
pub data Op : Type 0 where
  stop : Op  -- 0
  set_null : ℕ → Op  -- 1: u := null
  copy : ℕ → ℕ → Op  -- 2: u := w
  load : ℕ → ℕ → Op  -- 3: u := w.next
  clear : ℕ → Op  -- 4: u.next := null
  store : ℕ → ℕ → Op  -- 5: u.next := w
  new : ℕ → Op  -- 6: u := new
  free : ℕ → Op  -- 7: free u
  is_null : ℕ → Op  -- 8: test u = null
  same : ℕ → ℕ → Op  -- 9: test u = w
  choose : Op  -- 10
  skip : Op  -- 11
  relink : ℕ → ℕ → Op  -- 12: u.next := w.next (02, job 3)
  let_go : ℕ → Op  -- 13: drop u (02, job 6)

pub record Stmt : Type 0 where
  pub op : Op
  pub first_target : ℕ
  pub second_target : ℕ

-- What the ops do, in a few kinds: effects and branches, and the laws about them, go by these.

-- where a value comes from: null, or what a pointer holds
pub data Source : Type 0 where
  nil : Source
  from : ℕ → Source

pub data Action : Type 0 where
  stay : Action  -- the heap stays
  compare : ℕ → Source → Action  -- the heap stays; pointer u is compared with the value
  point : ℕ → Source → Action  -- pointer u becomes the value
  follow : ℕ → ℕ → Action  -- pointer u becomes the next of the cell that w holds
  link : ℕ → Source → Action  -- the next of the cell that u holds becomes the value
  splice : ℕ → ℕ → Action  -- the next of the cell that u holds becomes the next of the cell that w holds
  make : ℕ → Action  -- pointer u becomes a new cell
  release : ℕ → Action  -- the cell that u holds goes

-- An op halts, or acts and goes to the first target, or drops a pointer and goes there, or tests, or chooses.
pub data Kind : Type 0 where
  halts : Kind
  acts : Action → Kind
  drops : ℕ → Kind  -- pointer u becomes null, and what this loses is collected
  tests : ℕ → Source → Kind  -- whether pointer u holds the value
  picks : Kind

abbrev pub kind : Op → Kind
kind stop = halts
kind (set_null u) = acts (point u nil)
kind (copy u w) = acts (point u (from w))
kind (load u w) = acts (follow u w)
kind (clear u) = acts (link u nil)
kind (store u w) = acts (link u (from w))
kind (new u) = acts (make u)
kind (free u) = acts (release u)
kind (is_null u) = tests u nil
kind (same u w) = tests u (from w)
kind choose = picks
kind skip = acts stay
kind (relink u w) = acts (splice u w)
kind (let_go u) = drops u

abbrev pub action_of : Kind → Action
action_of halts = stay
action_of (acts a) = a
action_of (drops u) = point u nil
action_of (tests u s) = compare u s
action_of picks = stay

abbrev pub action : Op → Action
action op = action_of (kind op)

-- whether an action takes the cell for new; no other looks at it
abbrev pub makes : Action → Bool
makes stay = false
makes (compare u s) = false
makes (point u s) = false
makes (follow u w) = false
makes (link u s) = false
makes (splice u w) = false
makes (make u) = true
makes (release u) = false

-- "Reading or writing through null is fault 1; through undefined, fault 2. .. fault 3 (a leak)"
pub data Fault : Type 0 where
  at_null : Fault
  at_undef : Fault
  leak : Fault

abbrev pub fault_number : Fault → ℕ
fault_number at_null = 1
fault_number at_undef = 2
fault_number leak = 3

pub data Effect : Type 0 where
  done : Heap → Effect
  fault : Fault → Effect

-- ---- effects

abbrev pub set_ptr : ℕ → Val → Heap → Heap
set_ptr u v h = record { ptrs = set h.ptrs u v; slots = h.slots }

-- slot c becomes s; a list that ends before c is filled up with cells not in use
abbrev pub put : List Slot → ℕ → Slot → List Slot
put [] zero s = s ∷ []
put [] (suc c) s = unused ∷ put [] c s
put (x ∷ l) zero s = s ∷ l
put (x ∷ l) (suc c) s = x ∷ put l c s

abbrev pub put_slot : ℕ → Slot → Heap → Heap
put_slot c s h = record { ptrs = h.ptrs; slots = put h.slots c s }

-- "the cell goes; all that held it becomes undefined"
abbrev pub wipe : ℕ → Val → Val
wipe c (cell d) = cond (eqb d c) undef (cell d)
wipe c null = null
wipe c undef = undef

abbrev pub wipe_slot : ℕ → Slot → Slot
wipe_slot c unused = unused
wipe_slot c (holds v) = holds (wipe c v)

abbrev pub free_cell : ℕ → Heap → Heap
free_cell c h = record { ptrs = map (wipe c) h.ptrs; slots = put (map (wipe_slot c) h.slots) c unused }

abbrev pub held : Slot → Val
held unused = undef
held (holds v) = v

-- reading or writing through a value
abbrev pub through : Val → (ℕ → Effect) → Effect
through (cell c) k = k c
through null k = fault at_null
through undef k = fault at_undef

-- "Freeing null does nothing; freeing undefined is fault 2."
abbrev pub free_val : Val → Heap → Effect
free_val (cell c) h = done (free_cell c h)
free_val null h = done h
free_val undef h = fault at_undef

-- 02, job 2: "a test that looks at an undefined pointer, in op 8 or 9, is fault 2, on branch 0, even if both are the
-- same". Comparing looks at both values; the null of op 8 is never undefined.
abbrev pub look : Val → Effect → Effect
look (cell c) e = e
look null e = e
look undef e = fault at_undef

abbrev pub value_of : Source → Heap → Val
value_of nil h = null
value_of (from w) h = ptr h w

-- n is the cell for new
abbrev pub perform : Action → ℕ → Heap → Effect
perform stay n h = done h
perform (compare u s) n h = look (ptr h u) (look (value_of s h) (done h))
perform (point u s) n h = done (set_ptr u (value_of s h) h)
perform (follow u w) n h = through (ptr h w) (λ c. done (set_ptr u (held (next h c)) h))
perform (link u s) n h = through (ptr h u) (λ c. done (put_slot c (holds (value_of s h)) h))
-- 02, job 3: "Looking at w comes first, for null and for undefined, then u."
perform (splice u w) n h =
    through (ptr h w) (λ d. through (ptr h u) (λ c. done (put_slot c (holds (held (next h d))) h)))
perform (make u) n h = done (set_ptr u (cell n) (put_slot n (holds undef) h))
perform (release u) n h = free_val (ptr h u) h

-- the finished effect
abbrev pub effect : Op → ℕ → Heap → Effect
effect op n h = perform (action op) n h

-- "Then, if the finished effect leaves a cell unreachable, the step is fault 3 (a leak)."
abbrev pub keep : Effect → Effect
keep (fault f) = fault f
keep (done h) = cond (kept h) (done h) (fault leak)

-- 02, job 6: "every cell that this leaves unreachable is gone". A slot keeps what it holds where its number, counted
-- from i, passes the test; else it is not in use.
abbrev pub keep_slots : (ℕ → Bool) → ℕ → List Slot → List Slot
keep_slots p i [] = []
keep_slots p i (s ∷ ss) = cond (p i) s unused ∷ keep_slots p (suc i) ss

-- the heap with its visited cells alone, which hold no others
abbrev pub collect : Heap → Heap
collect h = let o = order h in record { ptrs = h.ptrs; slots = keep_slots (λ c. mem c o) 0 h.slots }

abbrev pub collected : Effect → Effect
collected (fault f) = fault f
collected (done h) = done (collect h)

-- whether an op collects what it loses: "Other statements still stop at a leak."
abbrev pub collects : Kind → Bool
collects halts = false
collects (acts a) = false
collects (drops u) = true
collects (tests u s) = false
collects picks = false

-- lost cells go, or are a leak
abbrev pub settle : Bool → Effect → Effect
settle true e = collected e
settle false e = keep e

abbrev pub carry_out : Op → ℕ → Heap → Effect
carry_out op n h = settle (collects (kind op)) (effect op n h)

-- ---- one step

-- "A true test and a first choice go to the first target as branch 0; the others go to the second as branch 1". The
-- branch counts where the effect is done: a fault has branch 0 whatever a test would say.
abbrev pub test : Bool → ℕ
test true = 0
test false = 1

abbrev pub branch_by : Kind → ℕ → Heap → ℕ
branch_by halts p h = 0
branch_by (acts x) p h = 0
branch_by (drops u) p h = 0
branch_by (tests u s) p h = test (same_val (ptr h u) (value_of s h))
branch_by picks p h = p

abbrev pub branch : Op → ℕ → Heap → ℕ
branch op p h = branch_by (kind op) p h

abbrev pub target : Stmt → ℕ → ℕ
target st zero = st.first_target
target st (suc b) = st.second_target

-- an entry of the list that a routine is fed
pub record Entry : Type 0 where
  pub pick : ℕ
  pub cell_no : ℕ

abbrev pub entry : ℕ → ℕ → Entry
entry p c = record { pick = p; cell_no = c }

-- "Refused are a pick above 1 at choose and a cell in use at new."
abbrev pub accepts_pick : Kind → ℕ → Bool
accepts_pick halts p = true
accepts_pick (acts x) p = true
accepts_pick (drops u) p = true
accepts_pick (tests u s) p = true
accepts_pick picks p = leb p 1

abbrev pub accepts_cell : Action → Slot → Bool
accepts_cell a s = not (makes a && in_use s)

abbrev pub accepts : Op → Entry → Heap → Bool
accepts op e h = accepts_pick (kind op) e.pick && accepts_cell (action op) (next h e.cell_no)

-- what a step answers; a fault leaves heap and statement, and its branch is 0 (`made` in `Runs`, `edge_by` in `Edges`)
pub data Answer : Type 0 where
  refused : Answer
  stopped : Answer
  faulted : Fault → Answer
  went : ℕ → ℕ → Heap → Answer  -- branch, next statement, heap

abbrev pub answer_of : Stmt → ℕ → Effect → Answer
answer_of st b (fault f) = faulted f
answer_of st b (done h) = went b (target st b) h

abbrev pub is_stop : Kind → Bool
is_stop halts = true
is_stop (acts x) = false
is_stop (drops u) = false
is_stop (tests u s) = false
is_stop picks = false

abbrev pub step : Stmt → Entry → Heap → Answer
step st e h =
    let op = st.op in
    cond (accepts op e h)
    (cond (is_stop (kind op)) stopped (answer_of st (branch op e.pick h) (carry_out op e.cell_no h)))
    refused

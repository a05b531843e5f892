-- 01, "Records", heap images: folding, unfolding and the plain step on bytes, each with its whole outcome. Assumes
-- nothing.
use Rattle.std.specs.Prelude.{ℕ, zero, suc, ◌-◌, ◌+◌, Bool, ◌&&◌, cond, not, List, [], ◌∷◌, ◌++◌, map, eqb, leb, length, take, drop, replicate}
use Rattle.model.specs.Base.{all, sum, most_cells, most_nodes, most_statements, pointer_count, record_size}
use Rattle.model.specs.Heap.{Val, cell, null, undef, Slot, unused, holds, Heap, closed, kept}
use Rattle.model.specs.Shape.{shape, counters}
use Rattle.model.specs.Machine.{Op, fault_number, Action, makes, action, Entry, entry, accepts, Answer, refused, stopped, faulted, went, step}
use Rattle.model.specs.Records.{val_byte, val_of, slot_byte, byte, is_zero, is_s, filled, shape_record, layout_h, shape_of, stmt_of, Refusal, refusal, refusal_at, Verdict, is_accepted, is_refused, Row, unless, first_failed, failed_node, checks_nodes, checks_s}

-- "six pointer bytes and 0 to 240 cell bytes: a cell number, 0xfe, 0xff, or for a cell 0xfd (not in use)"
abbrev pub cell_slot : ℕ → Slot
cell_slot b = cond (eqb b 0xfd) unused (holds (val_of b))

abbrev pub heap_of : List ℕ → List ℕ → Heap
heap_of ps cs = record { ptrs = map val_of ps; slots = map cell_slot cs }

abbrev pub lengths : List ℕ → List ℕ → Bool
lengths ps cs = eqb (length ps) pointer_count && leb (length cs) most_cells

-- "13: pointers not six bytes, over 240 cells, or a value naming no cell in use", "14: a used cell unreachable"
abbrev pub checks_image : List ℕ → List ℕ → List Row
checks_image ps cs =
    let h = heap_of ps cs in
    unless 13 (lengths ps cs && closed h) ∷ unless 14 (kept h) ∷ []

abbrev pub refusal_image : List ℕ → List ℕ → ℕ
refusal_image ps cs = first_failed (checks_image ps cs)

-- the refusal of number n with node v, where it is one: the place is 0 in these calls
abbrev pub verdict_by : ℕ → ℕ → Verdict
verdict_by zero v = is_accepted
verdict_by (suc n) v = is_refused (refusal_at (suc n) 0 v)

-- ---- folding

pub record Folding : Type 0 where
  pub verdict : Verdict
  pub record_bytes : List ℕ
  pub counts : List ℕ

-- "Folding gives an H record and twelve counters of 32 bits (0 past k)." A refused fold gives zeros.
unfoldable pub fold_image : List ℕ → List ℕ → Folding
fold_image ps cs =
    elim (refusal_image ps cs) [
      | zero ↦ let h = heap_of ps cs in record {
        verdict = is_accepted;
        record_bytes = shape_record (shape h);
        counts = filled most_nodes (counters h);
      }
      | suc n ↦ record {
        verdict = verdict_by (suc n) 0;
        record_bytes = replicate record_size 0;
        counts = replicate most_nodes 0;
      }
    ]

-- ---- unfolding: "numbers cells from 0, node by node, head to tail"

-- the first cell of node n
abbrev pub first_cell : List ℕ → ℕ → ℕ
first_cell cs zero = 0
first_cell [] (suc n) = 0
first_cell (c ∷ cs) (suc n) = c + first_cell cs n

abbrev pub spread : List ℕ → Val → Val
spread cs (cell n) = cell (first_cell cs n)
spread cs null = null
spread cs undef = undef

abbrev pub spread_slot : List ℕ → Slot → Slot
spread_slot cs unused = unused
spread_slot cs (holds v) = holds (spread cs v)

-- c cells from b on: each holds the one after it, the last holds s
abbrev pub strand : ℕ → ℕ → Slot → List Slot
strand b zero s = []
strand b (suc zero) s = s ∷ []
strand b (suc (suc c)) s = holds (cell (suc b)) ∷ strand (suc b) (suc c) s

abbrev pub strands : List ℕ → ℕ → List Slot → List ℕ → List Slot
strands vs b [] cs = []
strands vs b (s ∷ ss) [] = []
strands vs b (s ∷ ss) (c ∷ cs) = strand b c (spread_slot vs s) ++ strands vs (b + c) ss cs

abbrev pub unfold_heap : Heap → List ℕ → Heap
unfold_heap h cs = record { ptrs = map (spread cs) h.ptrs; slots = strands cs 0 h.slots cs }

-- "a counter of 0 below k or not 0 past it": there is none
abbrev pub counters_of : ℕ → List ℕ → Bool
counters_of k vs = all (leb 1) (take k vs) && all is_zero (drop k vs)

-- "15: a counter of 0 below k or not 0 past it, or a sum above the cell length"
abbrev pub counts_fit : ℕ → List ℕ → ℕ → Bool
counts_fit k vs n = counters_of k vs && leb (sum (λ v. v) vs) n

-- there are twelve counters
abbrev pub counters_fit : ℕ → List ℕ → ℕ → Bool
counters_fit k vs n = eqb (length vs) most_nodes && counts_fit k vs n

abbrev pub check_counters : List ℕ → List ℕ → ℕ → Row
check_counters r vs nc = unless 15 (counters_fit (byte r 3) vs nc)

-- "Unfolding checks the lengths (13), then 8, 9, 15"; 18 and 19 "stand right after 9, in unfolding too"; r a record,
-- vs the counters, np and nc the lengths of pointers and cells
abbrev pub checks_unfold : List ℕ → List ℕ → ℕ → ℕ → List Row
checks_unfold r vs np nc =
    unless 13 (eqb np pointer_count && leb nc most_cells)
    ∷ unless 8 (eqb (length r) record_size && layout_h r)
    ∷ checks_nodes (shape_of r)
    ++ check_counters r vs nc
    ∷ []

abbrev pub refusal_unfold : List ℕ → List ℕ → ℕ → ℕ → ℕ
refusal_unfold r vs np nc = first_failed (checks_unfold r vs np nc)

-- the node that is told with it
abbrev pub node_unfold : List ℕ → List ℕ → ℕ → ℕ → ℕ
node_unfold r vs np nc = failed_node (checks_unfold r vs np nc)

pub record Unfolding : Type 0 where
  pub verdict : Verdict
  pub ptr_bytes : List ℕ
  pub cell_bytes : List ℕ

-- the heap's bytes, "and marks the rest 0xfd" up to n cells; they fit, so nothing is cut off where subtraction stops
-- at 0
abbrev pub cell_bytes_of : ℕ → Heap → List ℕ
cell_bytes_of n h = let ss = map slot_byte h.slots in ss ++ replicate (n - length ss) 0xfd

unfoldable pub unfold_image : List ℕ → List ℕ → List ℕ → List ℕ → Unfolding
unfold_image r vs ps cs =
    elim (refusal_unfold r vs (length ps) (length cs)) [
      | zero ↦ let h = unfold_heap (shape_of r) (take (byte r 3) vs) in
          record { verdict = is_accepted; ptr_bytes = map val_byte h.ptrs; cell_bytes = cell_bytes_of (length cs) h }
      | suc n ↦ record {
        verdict = verdict_by (suc n) (node_unfold r vs (length ps) (length cs));
        ptr_bytes = ps;
        cell_bytes = cs;
      }
    ]

-- ---- the plain step

-- "It answers the branch and next statement, or a fault, or stop"
pub data StepAnswer : Type 0 where
  to_next : ℕ → ℕ → StepAnswer  -- branch, next statement
  to_fault : ℕ → StepAnswer
  to_stop : StepAnswer
  no_step : Refusal → StepAnswer

pub record Stepping : Type 0 where
  pub answer : StepAnswer
  pub ptr_bytes : List ℕ
  pub cell_bytes : List ℕ

-- "at a fault, a stop or a refusal .. the heap stays"
abbrev pub stays : StepAnswer → List ℕ → List ℕ → Stepping
stays a ps cs = record { answer = a; ptr_bytes = ps; cell_bytes = cs }

-- how a step ended
abbrev pub step_verdict : StepAnswer → Verdict
step_verdict (to_next b n) = is_accepted
step_verdict (to_fault f) = is_accepted
step_verdict to_stop = is_accepted
step_verdict (no_step x) = is_refused x

-- at new, the cell c is past the end of n cells
abbrev pub past_end : Action → ℕ → ℕ → Bool
past_end a c n = makes a && leb n c

abbrev pub answered : Answer → List ℕ → List ℕ → Stepping
answered refused ps cs = stays (no_step (refusal 16 0)) ps cs
answered stopped ps cs = stays to_stop ps cs
answered (faulted f) ps cs = stays (to_fault (fault_number f)) ps cs
answered (went b t h) ps cs = record {
  answer = to_next b t;
  ptr_bytes = map val_byte h.ptrs;
  cell_bytes = map slot_byte h.slots;
}

-- "16: pick above 1 at choose; at new, a cell in use or past the end"
abbrev pub entry_fits : Op → Entry → Heap → Bool
entry_fits op e h = not (past_end (action op) e.cell_no (length h.slots)) && accepts op e h

-- "a plain step 13, 14, 4 (its record is no S), 5, 6, 7": "Its targets need only be below 64."
abbrev pub checks_statement : List ℕ → List ℕ → List ℕ → List Row
checks_statement r ps cs = checks_image ps cs ++ unless 4 (eqb (length r) record_size && is_s r) ∷ checks_s
    most_statements r

-- and then 16
abbrev pub checks_step : List ℕ → Entry → List ℕ → List ℕ → List Row
checks_step r e ps cs = checks_statement r ps cs ++ unless 16 (entry_fits (stmt_of r).op e (heap_of ps cs)) ∷ []

-- statement record r, pick p, cell c, pointers ps, cells cs
unfoldable pub step_image : List ℕ → ℕ → ℕ → List ℕ → List ℕ → Stepping
step_image r p c ps cs =
    elim (first_failed (checks_step r (entry p c) ps cs)) [
      | suc n ↦ stays (no_step (refusal (suc n) 0)) ps cs
      | zero ↦ answered (step (stmt_of r) (entry p c) (heap_of ps cs)) ps cs
    ]

-- A run by its parts: from what each callee ensures to what the next asks, and to what the whole ensures.
use Prim.Native.Nat.{ℕ, ◌≤◌, ◌<◌}
use native.Mathlib.Omega.{arith}
use mathlib.Core.Path.{◌≡◌, ◌∙◌, ap, ap₂, refl, subst, sym}
use mathlib.Core.Bool.{Bool, true, false, cond, ◌||◌}
use mathlib.Core.List.{List, ◌∷◌}
use lib.Dec.{eqb}
use lib.ListN.{length, length-map}
use denote.Enum.Bare.{sameb}
use borrow.Author.Tests.{eq-eqb, eqb-true}
use Rattle.model.specs.Base.{mem}
use Rattle.model.specs.Heap.{Heap, IsHeap, closed, kept, next, order}
use Rattle.model.specs.Image.{cell_slot, heap_of}
use Rattle.model.specs.Machine.{action, carry_out, collect, collects, done, effect, kind}
use Rattle.model.proofs.expansion.Collect.{collect_closed, collect_kept, order_collect}
use Rattle.model.proofs.expansion.Facts.{is_heap_lem, kept_test, test_closed}
use Rattle.model.proofs.records.Ops.{op_collects}
use Rattle.model.proofs.lists.Logic.{bool_case, eq-case, or_cases}
use Rattle.model.proofs.visits.Order.{pigeon, toured, used_below}
use Rattle.model.specs.Notions.{Used}
use Rattle.effect.specs.Effect.{HasEffect, effect_of}
use Rattle.effect.proofs.Laws.{effect_closed, image_slots}
use Rattle.visit.proofs.Whole.{kept_held}
use Rattle.visit.proofs.Laws.{kept_marked, visited_length}
use Rattle.visit.specs.Visit.{Held, VisitReady, Visited}
use Rattle.machine.proofs.Laws.{run_collects, run_fault, run_keeps}
use Rattle.model.specs.Structs.{op_in}
use Rattle.model.specs.declared.Decoded.{Decoded}
use Rattle.std.specs.Prelude.{Result, Ok, Err}
use Rattle.std.specs.Result.{IfOk}
use Rattle.model.specs.Codes.{fault_in, op_number}
use Rattle.model.specs.contracts.codes.Op.{the_type}
use Rattle.model.specs.declared.codes.Fault.{Fault}
use Rattle.model.specs.declared.codes.Op.{Op}
use Rattle.model.specs.declared.codes.Op.TheVariants as op
use Rattle.collection.specs.Left.{left_bytes}
use Rattle.collection.proofs.Laws.{left_heap, left_held, left_length}
use Rattle.machine.specs.Run.{Bytes, IsRun, RunDone, RunReady, Settled, all_marked, bytes, heap_in, kept_by}

-- what a run answers that visited n cells, by what becomes of those that it lost
abbrev pub at_end : Result (Unit {0}) Fault → ℕ → Result ℕ Fault
at_end (Ok _) n = Ok n
at_end (Err f) n = Err f

end_fault : (r : Result (Unit {0}) Fault) (n : ℕ) → fault_in (at_end r n) ≡ fault_in r
end_fault (Ok _) n = refl
end_fault (Err f) n = refl

end_done : (r : Result (Unit {0}) Fault) (n : ℕ) (P : ℕ → Type 0) → (fault_in r ≡ 0 → P n) → IfOk (at_end r n) P
end_done (Ok _) n P h = h refl
end_done (Err f) n P h = tt

-- drop has the number 13, and no other op
pub let_go : (o : Op) → eqb (op_number o) 13 ≡ sameb the_type o op.LetGo
let_go op.LetGo = refl
let_go _ = refl

-- ---- a run: r and the image afterwards are what the effect answers
module _ {d : Decoded} {x : ℕ} {before : Bytes} {visit seen : List ℕ} (p : RunReady d x before visit seen)
    (after : Bytes) where
  -- a fault
  module _ (r : Result (Unit {0}) Fault)
      (has : HasEffect (effect (op_in d) x) before.pointers before.cells (fault_in r) after.pointers after.cells) where
    pub run_faults : (visit' seen' : List ℕ) → (fault_in r ≡ 0 → ⊥) → IsRun d x before after visit' seen' (at_end r 0)
    run_faults visit' seen' n = record {
      outcome = ap (λ f. effect_of f (heap_in after)) (end_fault r 0)
          ∙ run_fault (op_in d) x (fault_in r) (heap_in before) (heap_in after) has.outcome n;
      done = end_done r 0 _ (λ z. absurd (n z));
    }

  module _ (has : HasEffect (effect (op_in d) x) before.pointers before.cells 0 after.pointers after.cells) where
    is_done_lem : effect (op_in d) x (heap_in before) ≡ done (heap_in after)
    is_done_lem = sym has.outcome

    -- the heap is closed, and has as many cells
    done_closed : closed (heap_in after) ≡ true
    done_closed =
        effect_closed (action (op_in d)) x (heap_in before) (heap_in after) p.ready.is_closed p.fresh is_done_lem

    done_cells : length after.cells ≡ length before.cells
    done_cells =
        sym (length-map after.cells cell_slot)
        ∙ image_slots (action (op_in d)) x before.pointers before.cells (heap_in after) p.ready.is_closed
        p.ready.room is_done_lem

    pub visit_ready : VisitReady after.pointers after.cells visit seen
    visit_ready =
        let l = done_cells in
        record {
          is_closed = done_closed;
          few = rw l p.ready.few;
          room = rw l p.room;
          marks = rw l p.marks;
          clear = λ c k. p.clear c (rw l at k);
        }

    -- n cells are visited, in their order, and marked
    module _ {order' marks : List ℕ} {n : ℕ} (v : Visited after.pointers after.cells order' marks n) where
      -- where all cells were visited, none is lost
      all_kept : n ≡ length after.cells → length after.cells ≤ length order' → kept (heap_in after) ≡ true
      all_kept q room =
          let g = heap_in after in
          let m = length after.cells in
          let T = toured g (test_closed g done_closed) in
          let low : (c : ℕ) → Used (next g) c → c < m =
          λ c u. omega (arith, used_below g.slots c u, length-map after.cells cell_slot) in
          kept_test g (λ c u. bool_case (mem c (order g)) (λ i. i) (λ i. absurd
          (let few = pigeon m (c ∷ order g) (i, T.nodup)
          (λ b j. or_cases (eqb b c) (mem b (order g)) j (λ k. subst (λ a. a < m) (sym (eqb-true b c k)) (low c u))
          (λ k. low b (T.used b k))) in
          omega (arith, visited_length v room))))

      -- so that the number of visited cells may be looked at first
      number_first : length after.cells ≤ length order'
          → eqb n (length after.cells) || all_marked after.cells marks ≡ all_marked after.cells marks
      number_first room =
          eq-case n (length after.cells)
          (λ q. rw (eq-eqb n (length after.cells) q) (sym (kept_marked v ∙ all_kept q room))) (λ q. rw q)

      -- r is the fault for lost cells, and ds the cells afterwards
      module _ (same : length order' ≡ length visit) (r : Result (Unit {0}) Fault) {b : Bool} {ds : List ℕ}
          (is : b ≡ sameb the_type d.op op.LetGo) (S : Settled b after.cells marks n (fault_in r) ds) where
        abbrev g : Heap
        g = heap_in after

        abbrev image : Bytes
        image = bytes after.pointers ds

        abbrev Run : Type 0
        Run = IsRun d x before image order' marks (at_end r n)

        ended : effect_of (fault_in r) (heap_in image) ≡ carry_out (op_in d) x (heap_in before)
            → (fault_in r ≡ 0 → RunDone image order' marks n) → Run
        ended o h = record {
          outcome = ap (λ f. effect_of f (heap_in image)) (end_fault r n) ∙ o;
          done = end_done r n _ h;
        }

        -- the fault and the cells, where it is known whether lost cells are collected
        by_op : (c : Bool) → b ≡ c → (fault_in r ≡ cond (c || kept_by after.cells marks n) 0 3)
            × (ds ≡ cond c (left_bytes marks 0 after.cells) after.cells) × (collects (kind (op_in d)) ≡ c)
        by_op c e = (
          S.fault ∙ ap (λ y. cond (y || kept_by after.cells marks n) 0 3) e,
          S.cells ∙ ap (λ y. cond y (left_bytes marks 0 after.cells) after.cells) e,
          op_collects (op_number d.op) d.u.0 d.w.0 p.ready.known ∙ let_go d.op ∙ sym is ∙ e,
        )

        collecting : b ≡ true → Run
        collecting e =
            let (fe, de, ce) = by_op true e in
            let cl = test_closed g done_closed in
            let he : heap_of after.pointers ds ≡ collect g = ap (heap_of after.pointers) de ∙ left_heap v in
            ended (ap₂ effect_of fe he ∙ run_collects (op_in d) x (heap_in before) g is_done_lem ce) (λ _. record {
              is_heap = subst IsHeap (sym he) (is_heap_lem (collect g) (collect_closed g cl) (collect_kept g cl));
              visited = v.visited ∙ sym (ap order he ∙ order_collect g cl);
              few = omega (arith, v.few, ap length de, left_length marks 0 after.cells);
              held = subst (λ l. Held after.pointers l marks) (sym de) (left_held v);
            })

        kept_is : kept g ≡ kept_by after.cells marks n
        kept_is = sym (kept_marked v) ∙ sym (number_first (omega (arith, visit_ready.room)))

        keeping : b ≡ false → Run
        keeping e =
            let (fe, de, ce) = by_op false e in
            let he : heap_of after.pointers ds ≡ g = ap (heap_of after.pointers) de in
            let keeps = run_keeps (op_in d) x (heap_in before) g is_done_lem ce in
            bool_case (kept_by after.cells marks n)
            (λ k. let i = kept_is ∙ k in let none : fault_in r ≡ 0 = fe ∙ rw k in
            ended (ap₂ effect_of none he ∙ keeps true i) (λ _. record {
              is_heap = subst IsHeap (sym he) (record { is_closed = done_closed; is_kept = i });
              visited = v.visited ∙ sym (ap order he);
              few = omega (arith, v.few, ap length de);
              held = subst (λ l. Held after.pointers l marks) (sym de) (kept_held v i);
            }))
            (λ k. let three : fault_in r ≡ 3 = fe ∙ rw k in
            ended (ap₂ effect_of three he ∙ keeps false (kept_is ∙ k)) (λ z. absurd (omega arith)))

        pub run_settled : Run
        run_settled = bool_case b collecting keeping

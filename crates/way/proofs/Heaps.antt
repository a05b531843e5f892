-- The heap that a way opens: it is closed, new finds its cell free, and a run on it is one on the way's heap.
use Prim.Native.Nat.{ℕ, zero, suc, ◌<◌}
use mathlib.Core.Path.{◌≡◌, refl, sym, subst, fun_ext, ◌∙◌}
use mathlib.Core.Bool.{true, false}
use Rattle.std.specs.Prelude.{Option, Some, None}
use Rattle.model.specs.declared.Node.{Node}
use mathlib.Core.List.{List, [], ◌∷◌, ◌++◌}
use native.Mathlib.Omega.{arith}
use lib.ListN.{get_or-eq_default, get_or, length}
use Rattle.model.specs.Heap.{Heap, Slot, Val, closed, holds, next, unused}
use Rattle.model.specs.Machine.{carry_out, Action, action, makes}
use Rattle.model.specs.Edges.{split_heap, view}
use Rattle.model.specs.Records.{op_of, op_count}
use Rattle.model.proofs.expansion.Facts.{closed_test}
use Rattle.model.proofs.lists.Logic.{bool_case, clash}
use Rattle.model.proofs.ways.Views.{view_makes}
use Rattle.model.specs.Notions.{AllClosed, Closed, ClosedHeap, Used, Views, Room}
use Rattle.way.specs.Way.{opened_heap, with_unused, makes_at, way_in, opened_count}
use Rattle.way.specs.declared.Way.{Way}
use Rattle.model.proofs.expansion.Splits.{split_closed}
use Rattle.way.proofs.Through.{makes_op, end_makes}
use Rattle.model.specs.Image.{past_end}
use Rattle.way.proofs.Opened.{run_makes}

-- ---- a cell not in use after the last one changes nothing

past_last : (l : List Slot) (c : ℕ) → get_or (l ++ unused ∷ []) c unused ≡ get_or l c unused
past_last [] zero = refl
past_last [] (suc c) = refl
past_last (x ∷ l) zero = refl
past_last (x ∷ l) (suc c) = past_last l c

next_unused : (h : Heap) → next (with_unused h) ≡ next h
next_unused h = fun_ext (past_last h.slots)

unused_closed : (h : Heap) → ClosedHeap h → ClosedHeap (with_unused h)
unused_closed h k =
    subst (λ nx. AllClosed nx h.ptrs × ((n : ℕ) (v : Val) → nx n ≡ holds v → Closed nx v)) (sym (next_unused h)) k

-- ---- the opened heap

pub opened_closed : (sp : Option Node) (op : ℕ) (h : Heap) → ClosedHeap h
    → ((n : Node) → sp ≡ Some n → Used (next h) n.0) → closed (opened_heap sp op h) ≡ true
opened_closed (Some n) op h c u = closed_test (split_heap n.0 (length h.slots) h)
    (split_closed n.0 (length h.slots) h (u n refl) c)
opened_closed None op h c u =
    bool_case (makes_at op) (λ e. rw e (closed_test (with_unused h) (unused_closed h c))) (λ e. rw e (closed_test h c))

-- new is not split, and its cell is not in use
new_whole : (a : Action) (sp : Option Node) (h : Heap) → ((n : Node) → sp ≡ Some n → Views (view a h) n.0)
    → makes a ≡ true → sp ≡ None
new_whole a (Some n) h v e = clash e (view_makes a h n.0 (v n refl))
new_whole a None h v e = refl

-- the action by the op's number
module _ (op u w : ℕ) (lt : op < op_count) (sp : Option Node) (h : Heap)
    (v : (n : Node) → sp ≡ Some n → Views (view (action (op_of op u w)) h) n.0) where
  abbrev a : Action
  a = action (op_of op u w)

  pub opened_room : Room a (opened_heap sp op h) (length h.slots)
  opened_room = λ e.
      rw (new_whole a sp h v e, sym (makes_op op u w lt) ∙ e)
      (past_last h.slots (length h.slots) ∙ get_or-eq_default h.slots unused (omega arith))

  pub opened_end : past_end a (length h.slots) (opened_count sp op (length h.slots)) ≡ false
  opened_end = end_makes a (length h.slots) (opened_count sp op (length h.slots)) (λ e.
      rw (new_whole a sp h v e, sym (makes_op op u w lt) ∙ e) (omega arith))

  -- a run on it is one on the way's heap
  pub opened_run : (y : Way) → y.split ≡ sp
      → carry_out (op_of op u w) (length h.slots) (opened_heap sp op h) ≡ carry_out (op_of op u w) (length h.slots)
      (way_in y h).heap
  opened_run y e = by_split sp e
    where
      by_split : (b : Option Node) → y.split ≡ b
          → carry_out (op_of op u w) (length h.slots) (opened_heap b op h)
          ≡ carry_out (op_of op u w) (length h.slots) (way_in y h).heap
      by_split (Some n) q = rw q
      by_split None q = rw q (bool_case (makes_at op)
          (λ m. rw m (run_makes (op_of op u w) h (makes_op op u w lt ∙ m)))
          (λ m. rw m))

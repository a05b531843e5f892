-- What a plain step that drops leaves of an image, byte by byte.
use Prim.Native.Nat.{◌<◌, ℕ}
use mathlib.Core.Path.{◌∙◌, ◌≡◌, ap, sym}
use mathlib.Core.List.{List, map}
use native.Mathlib.Omega.{arith}
use lib.Dec.{eqb}
use lib.ListN.{get_or, length, length-map, set}
use borrow.Author.Tests.{eqb-true}
use Rattle.model.specs.Base.{mem}
use Rattle.model.specs.Heap.{Heap, next, null, order, unused}
use Rattle.model.specs.Image.{Stepping, answered, cell_slot, heap_of, step_image, step_verdict, to_next}
use Rattle.model.specs.Machine.{collect, entry, kind, set_ptr, went}
use Rattle.model.specs.Notions.{ClosedHeap, Reaches}
use Rattle.model.specs.Records.{byte, is_accepted, op_of, slot_byte, stmt_of, val_byte, val_of}
use Rattle.model.proofs.expansion.Collect.{collect_slots, lost_goes, visited_stays}
use Rattle.model.proofs.expansion.Effects.{set_closed}
use Rattle.model.proofs.expansion.Facts.{heap_closed}
use Rattle.model.proofs.expansion.Reach.{order_reaches, reaches_order}
use Rattle.model.proofs.images.Stepping.{step_answers, step_heap}
use Rattle.model.proofs.lists.Lists.{get_or_map, map_back, map_set}
use Rattle.model.proofs.lists.Logic.{bool_case, not-true}
use Rattle.model.proofs.records.Bytes.{byte_back}
use Rattle.model.proofs.ways.Drops.{drop_goes}

slot_byte_lem : (b : ℕ) → slot_byte (cell_slot b) ≡ b
slot_byte_lem b = bool_case (eqb b 0xfd) (λ e. rw e (sym (eqb-true b 0xfd e))) (λ e. rw e (byte_back b))

module _ (r : List ℕ) (p c : ℕ) (ps cs : List ℕ) (ok : step_verdict (step_image r p c ps cs).answer ≡ is_accepted)
    (op : byte r 1 ≡ 13) where
  abbrev u : ℕ
  u = byte r 2

  abbrev cut : Heap
  cut = set_ptr u null (heap_of ps cs)

  dropped : step_image r p c ps cs ≡ answered (went 0 (byte r 4) (collect cut)) ps cs
  dropped =
      step_answers r p c ps cs ok
      ∙ ap (λ a. answered a ps cs) (drop_goes (stmt_of r) u (ap (λ n. kind (op_of n u (byte r 3))) op) (entry p c)
      (heap_of ps cs))

  pub drop_answer : (step_image r p c ps cs).answer ≡ to_next 0 (byte r 4)
  drop_answer = ap (λ (s : Stepping). s.answer) dropped

  pub drop_pointers : (step_image r p c ps cs).ptr_bytes ≡ set ps u 0xfe
  drop_pointers =
      ap (λ (s : Stepping). s.ptr_bytes) dropped ∙ map_set val_byte (map val_of ps) u null
      ∙ ap (λ l. set l u 0xfe) (map_back val_of val_byte ps (λ b i. byte_back b))

  cell_left : (i : ℕ) → i < length cs → get_or (step_image r p c ps cs).cell_bytes i 0
      ≡ slot_byte (next (collect cut) i)
  cell_left i lt =
      ap (λ (s : Stepping). get_or s.cell_bytes i 0) dropped
      ∙ get_or_map slot_byte (collect cut).slots i unused 0
      (omega (arith, collect_slots cut, length-map cs cell_slot))

  cut_closed : ClosedHeap cut
  cut_closed = set_closed (heap_of ps cs) u null (heap_closed (heap_of ps cs) (step_heap r p c ps cs ok)) tt

  pub drop_stays : (i : ℕ) → i < length cs → Reaches cut i → get_or (step_image r p c ps cs).cell_bytes i 0
      ≡ get_or cs i 0
  drop_stays i lt q =
      cell_left i lt ∙ ap slot_byte (visited_stays cut i (reaches_order cut cut_closed i q)
      ∙ get_or_map cell_slot cs i 0 unused lt) ∙ slot_byte_lem (get_or cs i 0)

  pub drop_gone : (i : ℕ) → i < length cs → (Reaches cut i → ⊥)
      → get_or (step_image r p c ps cs).cell_bytes i 0 ≡ 0xfd
  drop_gone i lt q =
      cell_left i lt
      ∙ ap slot_byte (lost_goes cut i (not-true (mem i (order cut)) (λ m. q (order_reaches cut cut_closed i m))))

-- Opening a shape: the bytes are those of the opened heap, and new runs on the opened heap as it does on the shape.
use Prim.Native.Nat.{ℕ, zero, suc, ◌+◌, ◌≤◌, ◌<◌}
use mathlib.Core.Bool.{Bool, true, ◌||◌}
use Rattle.std.specs.Prelude.{Option, Some, None}
use Rattle.model.specs.declared.Node.{Node}
use mathlib.Core.List.{List, [], ◌∷◌, ◌++◌, map, map-append}
use mathlib.Core.Path.{◌≡◌, refl, ap, ap₂, sym, ◌∙◌}
use native.Mathlib.Omega.{arith}
use lib.Dec.{eqb, ltb}
use lib.ListN.{drop, get_or, length, length-drop, length-map, set, take}
use lib.Seq.{drop-drop, length-take-le, take-add, take-append-le, take-take}
use borrow.Author.Tests.{eqb-true, ltb-true, ne_eqb}
use Rattle.model.specs.Base.{all}
use Rattle.model.specs.Heap.{Heap, Slot, unused, holds, cell, undef}
use Rattle.model.specs.Image.{cell_slot, heap_of}
use Rattle.model.specs.Machine.{collects, done, kind, set_ptr, settle, carry_out, put, Op, action, Action, perform, point, follow, link, make, makes, release, compare, splice, stay}
use Rattle.model.specs.Records.{byte, shape_of, val_of, value_byte}
use Rattle.model.proofs.lists.Lists.{get_or_map, map_set}
use Rattle.model.proofs.lists.Logic.{and_l, and_r, bool_case, or_cases, clash}
use Rattle.way.specs.Way.{OpenReady, opened_bytes, opened_count, opened_heap, with_unused, makes_at}

put_end : (l : List Slot) (s : Slot) → put l (length l) s ≡ l ++ s ∷ []
put_end [] s = refl
put_end (x ∷ l) s = ap (λ r. x ∷ r) (put_end l s)

put_after : (l : List Slot) (s : Slot) → put (l ++ unused ∷ []) (length l) s ≡ l ++ s ∷ []
put_after [] s = refl
put_after (x ∷ l) s = ap (λ r. x ∷ r) (put_after l s)

put_front : (l : List Slot) (n : ℕ) (s t : Slot) → n < length l → put (l ++ t ∷ []) n s ≡ set l n s ++ t ∷ []
put_front [] n s t h = absurd (omega arith)
put_front (x ∷ l) zero s t h = refl
put_front (x ∷ l) (suc n) s t h = ap (λ r. x ∷ r) (put_front l n s t (omega arith))

-- a value's byte is no mark of a cell not in use
value_slot : (k b : ℕ) → k ≤ 12 → value_byte k b ≡ true → cell_slot b ≡ holds (val_of b)
value_slot k b few h =
    let used : b ≡ 0xfd → ⊥ = λ e. or_cases (ltb b k || eqb b 0xfe) (eqb b 0xff) h
    (λ g. or_cases (ltb b k) (eqb b 0xfe) g (λ q. let lt = ltb-true b k q in omega arith) (λ q. let z =
    eqb-true b 0xfe q in omega arith))
    (λ g. let z = eqb-true b 0xff g in omega arith) in
    rw (ne_eqb b 0xfd used)

value_slots : (k : ℕ) (ss : List ℕ) → k ≤ 12 → all (value_byte k) ss ≡ true → map cell_slot ss
    ≡ map (λ b. holds (val_of b)) ss
value_slots k [] few h = refl
value_slots k (b ∷ ss) few h =
    ap₂ ◌∷◌ (value_slot k b few (and_l (value_byte k b) (all (value_byte k) ss) h))
    (value_slots k ss few (and_r (value_byte k b) (all (value_byte k) ss) h))

small_slot : (k : ℕ) → k ≤ 12 → cell_slot k ≡ holds (cell k)
small_slot k few = rw (
  ne_eqb k 0xfd (λ e. omega arith),
  ne_eqb k 0xfe (λ e. omega arith),
  ne_eqb k 0xff
      (λ e. omega arith),
)

-- the heap of pointers ps and successors ss
abbrev shape_with : List ℕ → List ℕ → Heap
shape_with ps ss = record { ptrs = map val_of ps; slots = map (λ b. holds (val_of b)) ss }

module _ (ss : List ℕ) (few : length ss ≤ 12) (values : all (value_byte (length ss)) ss ≡ true) where
  same_slots : map cell_slot ss ≡ map (λ b. holds (val_of b)) ss
  same_slots = value_slots (length ss) ss few values

  same_length : length (map (λ b. holds (val_of b)) ss) ≡ length ss
  same_length = length-map ss (λ b. holds (val_of b))

  slot_of : (n : ℕ) → n < length ss → cell_slot (get_or ss n 0) ≡ get_or (map (λ b. holds (val_of b)) ss) n unused
  slot_of n h =
      sym (get_or_map cell_slot ss n 0 unused h) ∙ ap (λ l. get_or l n unused) same_slots

  split_slots : (n : ℕ) → n < length ss → map cell_slot (set ss n (length ss) ++ get_or ss n 0 ∷ [])
      ≡ put (put (map (λ b. holds (val_of b)) ss) (length ss) (get_or (map (λ b. holds (val_of b)) ss) n unused)) n
      (holds (cell (length ss)))
  split_slots n h =
      let t = map (λ b. holds (val_of b)) ss in
      map-append cell_slot (set ss n (length ss)) (get_or ss n 0 ∷ [])
      ∙ ap₂ (λ l s. l ++ s ∷ [])
      (map_set cell_slot ss n (length ss) ∙ ap₂ (λ l s. set l n s) same_slots (small_slot (length ss) few))
      (slot_of n h)
      ∙ sym (put_front t n (holds (cell (length ss))) (get_or t n unused) (rw same_length h))
      ∙ ap (λ l. put l n (holds (cell (length ss)))) (sym (put_end t (get_or t n unused))
      ∙ ap (λ m. put t m (get_or t n unused)) same_length)

  pub opened_heap_lem : (ps : List ℕ) (sp : Option Node) (op : ℕ) → ((n : Node) → sp ≡ Some n → n.0 < length ss)
      → heap_of ps (opened_bytes sp op ss) ≡ opened_heap sp op (shape_with ps ss)
  opened_heap_lem ps (Some n) op h = λ i. record {
    ptrs = map val_of ps;
    slots = (split_slots n.0 (h n refl) ∙ ap (λ m. put
        (put (map (λ b. holds (val_of b)) ss) m (get_or (map (λ b. holds (val_of b)) ss) n.0 unused)) n.0
        (holds (cell m))) (sym same_length)) i;
  }
  opened_heap_lem ps None op h = bool_case (makes_at op)
      (λ e. rw e (λ i. record {
        ptrs = map val_of ps;
        slots = (map-append cell_slot ss (0xfd ∷ []) ∙ ap (λ l. l ++ unused ∷ []) same_slots) i;
      }))
      (λ e. rw e (λ i. record { ptrs = map val_of ps; slots = same_slots i }))

pub count_most : (sp : Option Node) (op k : ℕ) → opened_count sp op k ≤ k + 1
count_most (Some n) op k = omega arith
count_most None op k = bool_case (makes_at op) (λ e. rw e (omega arith)) (λ e. rw e (omega arith))

all_after : (q : ℕ → Bool) (l m : List ℕ) → all q (l ++ m) ≡ true → all q m ≡ true
all_after q [] m h = h
all_after q (x ∷ l) m h = all_after q l m (and_r (q x) (all q (l ++ m)) h)

-- a ready record: what stands after the copies, and the opened heap
module _ (r p c : List ℕ) (op : ℕ) (sp : Option Node) (R : OpenReady r p c sp) where
  successors_length : length (take (byte r 3) (drop 10 r)) ≡ byte r 3
  successors_length = length-take-le (byte r 3) (drop 10 r) (omega (arith, R.wide, R.few, length-drop 10 r))

  pub ready_cells : (z : List ℕ) → take (byte r 3) (take 12 (drop 10 r) ++ z) ≡ take (byte r 3) (drop 10 r)
  ready_cells z =
      let f = take 12 (drop 10 r) in
      let all : length f ≡ 12 = length-take-le 12 (drop 10 r) (omega (arith, R.wide, length-drop 10 r)) in
      take-append-le (byte r 3) f z (omega (arith, R.few)) ∙ take-take (byte r 3) 12 (drop 10 r) (omega (arith, R.few))

  successors_values : all (value_byte (byte r 3)) (take (byte r 3) (drop 10 r)) ≡ true
  successors_values =
      let v = all_after (value_byte (byte r 3)) (take 6 (drop 4 r)) (take (byte r 3) (drop 6 (drop 4 r)))
      (rw (take-add 6 (byte r 3) (drop 4 r)) at R.values) in
      rw (drop-drop 6 4 r) at v

  pub ready_heap : heap_of (take 6 (drop 4 r)) (opened_bytes sp op (take (byte r 3) (drop 10 r)))
      ≡ opened_heap sp op (shape_of r)
  ready_heap =
      let ss = take (byte r 3) (drop 10 r) in
      let len = successors_length in
      opened_heap_lem ss (omega (arith, R.few)) (rw len successors_values) (take 6 (drop 4 r)) sp op
      (λ n t. rw len (R.is_node n t))

-- ---- new on the opened heap

pub run_makes : (op : Op) (h : Heap) → makes (action op) ≡ true
    → carry_out op (length h.slots) (with_unused h) ≡ carry_out op (length h.slots) h
run_makes op h e = ap (settle (collects (kind op))) (by_action (action op) e)
  where
    by_action : (a : Action) → makes a ≡ true → perform a (length h.slots) (with_unused h)
        ≡ perform a (length h.slots) h
    by_action stay q = clash q refl
    by_action (compare u s) q = clash q refl
    by_action (point u s) q = clash q refl
    by_action (follow u w) q = clash q refl
    by_action (link u s) q = clash q refl
    by_action (splice u w) q = clash q refl
    by_action (make u) q =
        let e = put_after h.slots (holds undef) ∙ sym (put_end h.slots (holds undef)) in
        λ i. done (set_ptr u (cell (length h.slots)) (record { ptrs = h.ptrs; slots = e i }))
    by_action (release u) q = clash q refl

-- A leak that is seen before the statement is run: the tail of a split, or a node that one pointer alone holds.
use Prim.Native.Nat.{ℕ, ◌+◌, ◌≤◌, ◌<◌}
use mathlib.Core.Path.{◌≡◌, refl, sym, ap, subst, ◌∙◌}
use mathlib.Core.Bool.{true, false}
use mathlib.Core.List.{List}
use native.Mathlib.Omega.{arith}
use lib.ListN.{drop, get_or, length, length-drop, take}
use lib.Seq.{get_or-drop, get_or-take, length-take-le}
use borrow.Author.Tests.{eq-eqb, ne_eqb}
use Rattle.model.specs.Heap.{Heap, Val, cell, holds, next, null, ptr, undef, unused}
use Rattle.model.specs.Records.{byte, shape_of, val_byte, val_of}
use Rattle.model.proofs.records.Bytes.{byte_back, val_cell}
use Rattle.model.proofs.expansion.Effects.{closed_ptr}
use Rattle.model.proofs.lists.Lists.{get_or_map, some_inj, some-none}
use Rattle.model.proofs.lists.Logic.{eq-case}
use Rattle.model.proofs.visits.Order.{used_below}
use Rattle.model.specs.Notions.{Closed, Used, Views, AllClosed}
use Rattle.model.proofs.expansion.Writes.{cell_inj, holds_inj}
use Rattle.model.specs.declared.Decoded.{Decoded}
use Rattle.std.specs.Prelude.{Option, Some, None}
use Rattle.model.specs.Codes.{op_number}
use Rattle.model.specs.declared.Node.{Node}
use Rattle.way.specs.Ready.{WayReady}
use Rattle.way.specs.Way.{way_in}
use Rattle.way.specs.declared.Way.{Way}
use Rattle.way.proofs.Ready.{location_wide, node_below, node_used, nodes_few, nodes_is, shape_is_lem}
use Rattle.loss.specs.Loss.{AloneHolds, Leaks, Overwrites}
use Rattle.loss.proofs.Ops.{Reads, copies, cuts, cuts_op, follows, neither, reads, reads_op, sets, sets_op}
use mathlib.Core.Option.{some}
use Rattle.model.specs.Machine.{Op, Source, Action, action, carry_out, collects, kind, settle, point, keep, value_of, perform, from, fault, leak, nil, follow, link, held, make, release, compare, splice, stay}
use Rattle.model.proofs.expansion.Unheld.{free_leaks, NoNext, split_used, split_none, set_leaks, write_leaks, held_other, new_leaks}
use Rattle.model.specs.Edges.{split_heap, two_nodes, view}
use Rattle.model.specs.Structs.{cuts_at, keeps_at, op_in}
use Rattle.model.proofs.expansion.Splits.{pair_is, pair_view, view_collects, view_is}
use Rattle.model.proofs.records.Ops.{op_collects}
use Rattle.model.proofs.ways.Relinks.{split_leaks}

null_cell : {c : ℕ} → ◌≡◌ {A = Val} null (cell c) → ⊥
null_cell {c = c} e = let z : ◌≡◌ {A = ℕ} 0 1 = cc in omega arith

-- of a heap with the same pointers
value_closed : (x : Source) (g h : Heap) → h.ptrs ≡ g.ptrs → AllClosed (next h) h.ptrs
    → Closed (next h) (value_of x g)
value_closed nil g h e k = tt
value_closed (from w) g h e k = subst (λ (vs : List Val). Closed (next h) (get_or vs w undef)) e
    (closed_ptr (next h) h.ptrs w k)

-- ---- the tail of a split

module _ {l : List ℕ} {d : Decoded} {s : ℕ} {h : Heap} {y : Way} (R : WayReady l d s h y) (n : Node)
    (sp : y.split ≡ Some n) where
  abbrev k : ℕ
  k = length h.slots

  abbrev v : ℕ
  v = n.0

  -- what a pointer holds before the split it holds after it; u holds the node that is split
  cut_run : (a : Action) (u : ℕ) → cuts a ≡ some u → ptr h u ≡ cell v → Views (view a h) v
      → keep (perform a k (split_heap v k h)) ≡ fault leak
  cut_run stay u c e q = some-none c
  cut_run (compare i x) u c e q = some-none c
  cut_run (point i x) u c e q = some-none c
  cut_run (follow i j) u c e q = some-none c
  cut_run (link i x) u c e q =
      rw (view_is (ptr h i) v q)
      (write_leaks h R.is_shape.closed v (node_used R n sp) (value_of x (split_heap v k h))
      (value_closed x (split_heap v k h) h refl R.is_shape.closed.0))
  cut_run (splice i j) u c e q =
      let p = pair_is (ptr h i) (ptr h j) v q in
      let f : p.first ≡ v = cell_inj (sym p.first_is ∙ ap (ptr h) (some_inj c) ∙ e) in
      split_leaks (splice i j) k v p.second h R.is_shape.closed (pair_view p ∙ ap (λ m. two_nodes m p.second) f)
  cut_run (make i) u c e q = some-none c
  cut_run (release i) u c e q = rw (view_is (ptr h i) v q) (free_leaks h R.is_shape.closed v (node_used R n sp))

-- ---- the values of a record

val_is : (b c : ℕ) → val_of b ≡ cell c → b ≡ c
val_is b c e = sym (byte_back b) ∙ ap val_byte e

module _ (l : List ℕ) (wide : length l ≡ 32) (few : byte l 3 ≤ 12) where
  pointer_is : (i : ℕ) → i < 6 → ptr (shape_of l) i ≡ val_of (byte l (i + 4))
  pointer_is i lt =
      let len = length-take-le 6 (drop 4 l) (omega (arith, length-drop 4 l)) in
      get_or_map val_of (take 6 (drop 4 l)) i 0 undef (omega arith)
      ∙ ap val_of (get_or-take 6 (drop 4 l) i 0 lt ∙ get_or-drop 4 l i 0 ∙ ap (byte l) (omega arith))

  next_is : (b : ℕ) → b < byte l 3 → next (shape_of l) b ≡ holds (val_of (byte l (b + 10)))
  next_is b lt =
      let len = length-take-le (byte l 3) (drop 10 l) (omega (arith, length-drop 10 l)) in
      get_or_map (λ x. holds (val_of x)) (take (byte l 3) (drop 10 l)) b 0 unused (omega arith)
      ∙ ap (λ x. holds (val_of x)) (get_or-take (byte l 3) (drop 10 l) b 0 lt ∙ get_or-drop 10 l b 0
      ∙ ap (byte l) (omega arith))

-- what a pointer of the record's shape holds
module _ {l : List ℕ} {d : Decoded} {s : ℕ} {h : Heap} {y : Way} (R : WayReady l d s h y) where
  pointer_here : (i : ℕ) → i < 6 → ptr h i ≡ val_of (byte l (i + 4))
  pointer_here i lt = ap (λ (x : Heap). ptr x i) (sym (shape_is_lem R))
      ∙ pointer_is l (location_wide R) (nodes_few R) i lt

  held_by : (i : ℕ) → i < 6 → byte l (i + 4) < byte l 3 → ptr h i ≡ cell (byte l (i + 4))
  held_by i lt q = pointer_here i lt ∙ val_cell (byte l (i + 4)) (λ e. omega (arith, nodes_few R))
      (λ e. omega (arith, nodes_few R))

-- a leak of an op that collects nothing
leak_stands : (op : Op) (n : ℕ) (h : Heap) → collects (kind op) ≡ false → keep (perform (action op) n h) ≡ fault leak
    → carry_out op n h ≡ fault leak
leak_stands op n h c e = ap (λ b. settle b (perform (action op) n h)) c ∙ e

-- the tail of the node that u holds goes with its head's next
pub cut_leaks : (l : List ℕ) (d : Decoded) (y : Way) → cuts_at (op_number d.op) ≡ true
    → y.split ≡ Some (record { 0 = byte l (d.u.0 + 4) }) → Leaks l d y
cut_leaks l d y c e s h R =
    let u = d.u.0 in
    let n : Node = record { 0 = byte l (u + 4) } in
    let looked = R.is_node n e in
    rw e
    (leak_stands (op_in d) (length h.slots) (split_heap n.0 (length h.slots) h)
    (view_collects (kind (op_in d)) h n.0 looked)
    (cut_run R n e (action (op_in d)) u (cuts_op (op_number d.op) u d.w.0 R.statement.known c)
    (held_by R u R.statement.is_u (node_below R n e)) looked))

-- ---- a node that one pointer alone holds

module _ {l : List ℕ} {d : Decoded} {s : ℕ} {h : Heap} {y : Way} (R : WayReady l d s h y) (A : AloneHolds l d.u.0)
  where
    abbrev u : ℕ
    u = d.u.0

    abbrev a : ℕ
    a = byte l (u + 4)

    alone : (i : ℕ) → i < length h.ptrs → ptr h i ≡ cell a → i ≡ u
    alone i lt e =
        let low : i < 6 = omega (arith, R.six) in
        omega (
          arith,
          A.1 (i + 4) (omega arith) (omega arith)
              (val_is (byte l (i + 4)) a (sym (pointer_here R i low) ∙ e)),
        )

    none_next : NoNext (next h) a
    none_next b e =
        let lt : b < byte l 3 = omega (arith, used_below h.slots b (cell a, e), nodes_is R) in
        let q = holds_inj (sym (ap (λ (x : Heap). next x b) (sym (shape_is_lem R))
        ∙ next_is l (location_wide R) (nodes_few R) b lt) ∙ e) in
        let low = R.statement.is_u in
        omega (arith, A.1 (b + 10) (omega arith) (omega arith) (val_is (byte l (b + 10)) a q))

    in_use : Used (next h) a
    in_use = subst (Closed (next h)) (held_by R u R.statement.is_u A.0)
        (closed_ptr (next h) h.ptrs u R.is_shape.closed.0)

    -- what is read is another value: a pointer that is copied is not u, and one that is followed holds a node
    abbrev Another : Reads → Type 0
    Another neither = Unit {0}
    Another (copies w) = (u ≡ w → ⊥) × (w < 6)
    Another (follows w) = (byte l (w + 4) < byte l 3) × (w < 6)

    module _ (H : Heap) (ps : H.ptrs ≡ h.ptrs) (used : Used (next H) a) (empty : NoNext (next H) a) where
      only : (i : ℕ) → i < length H.ptrs → ptr H i ≡ cell a → i ≡ u
      only = subst (λ (q : List Val). (i : ℕ) → i < length q → get_or q i undef ≡ cell a → i ≡ u) (sym ps) alone

      six_here : length H.ptrs ≡ 6
      six_here = ap length ps ∙ R.six

      set_is : {i : ℕ} → some i ≡ some u → i ≡ u
      set_is e = some_inj e

      source_other : (x : Source) → Another (reads (point u x)) → cell a ≡ value_of x H → ⊥
      source_other nil n e = null_cell (sym e)
      source_other (from w) n e = n.0 (sym (only w (omega (arith, n.1, six_here)) (sym e)))

      -- the run on any heap with the shape's pointers where nothing else holds the node
      over_run : (x : Action) → sets x ≡ some u → Another (reads x) → keep (perform x (length h.slots) H)
          ≡ fault leak
      over_run stay e n = some-none e
      over_run (compare u s) e n = some-none e
      over_run (point i x) e n = rw (set_is e) (set_leaks H u a used only empty (value_of x H) (source_other x n))
      over_run (follow i w) e n =
          let b = byte l (w + 4) in
          let at : ptr H w ≡ cell b = ap (λ x. get_or x w undef) ps ∙ held_by R w n.1 n.0 in
          rw (at, set_is e) (set_leaks H u a used only empty (held (next H b)) (held_other H u a used only empty b))
      over_run (link i x) e n = some-none e
      over_run (splice i w) e n = some-none e
      over_run (make i) e n =
          rw (set_is e) (new_leaks H u a used only empty (length h.slots) (omega (arith, A.0, nodes_is R)))
      over_run (release i) e n = some-none e

    another : Overwrites l (op_number d.op) u d.w.0 → Another (reads (action (op_in d)))
    another o =
        let op = op_number d.op in
        subst Another (sym (reads_op op u d.w.0 R.statement.known))
        (eq-case op 2 (λ e. rw (eq-eqb op 2 e) (o.0 e, R.statement.is_w))
        (λ f. rw f (eq-case op 3 (λ e. rw (eq-eqb op 3 e) (o.1 e, R.statement.is_w)) (λ g. rw g tt))))

pub alone_leaks : (l : List ℕ) (d : Decoded) (y : Way) → keeps_at (op_number d.op) ≡ false
    → cuts_at (op_number d.op) ≡ false → Overwrites l (op_number d.op) d.u.0 d.w.0 → AloneHolds l d.u.0 → Leaks l d y
alone_leaks l d y q c o A s h R = by_split y.split refl
  where
    -- the run on any heap that is as the shape but for a split
    lost : (H : Heap) → H.ptrs ≡ h.ptrs → Used (next H) (byte l (d.u.0 + 4)) → NoNext (next H) (byte l (d.u.0 + 4))
        → carry_out (op_in d) (length h.slots) H ≡ fault leak
    lost H ps used empty =
        let op = op_number d.op in
        leak_stands (op_in d) (length h.slots) H (op_collects op d.u.0 d.w.0 R.statement.known ∙ ne_eqb op 13 o.2)
        (over_run R A H ps used empty (action (op_in d)) (sets_op op d.u.0 d.w.0 R.statement.known c q) (another R A o))

    by_split : (sp : Option Node) → y.split ≡ sp → carry_out (op_in d) (length h.slots) (way_in y h).heap ≡ fault leak
    by_split (Some n) e =
        let a = byte l (d.u.0 + 4) in
        let below : a < length h.slots = omega (arith, A.0, nodes_is R) in
        rw e (lost (split_heap n.0 (length h.slots) h) refl (split_used h n.0 a (node_used R n e) (in_use R A))
        (split_none h n.0 a below (none_next R A)))
    by_split None e = rw e (lost h refl (in_use R A) (none_next R A))

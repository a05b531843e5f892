-- The folded bytes of a heap image are those of its shape, given the table of each cell's node.
use Prim.Native.Nat.{ℕ, ◌<◌, ◌≤◌}
use mathlib.Core.Path.{◌≡◌, ◌∙◌, ap, ap₂, refl, subst, sym}
use mathlib.Core.Bool.{true}
use mathlib.Core.List.{List, [], ◌∷◌, map, map-map}
use native.Mathlib.Omega.{arith}
use lib.Dec.{eqb, leb}
use lib.ListN.{length, get_or, length-map}
use borrow.Author.Tests.{lt-ltb}
use Rattle.model.specs.Base.{mem}
use Rattle.model.specs.Heap.{Heap, IsHeap, Val, cell, holds, next, null, order, undef, unused}
use Rattle.model.specs.Shape.{Seg, cells, core, last, node, node_slot, node_val, segments, shape}
use Rattle.model.specs.Records.{slot_byte, val_byte, val_of}
use Rattle.model.specs.Image.{cell_slot, heap_of}
use Rattle.model.proofs.records.Bytes.{byte_back}
use Rattle.model.proofs.expansion.Cuts.{AllCore, Head, core_of_pointed, node_head}
use Rattle.model.proofs.expansion.Facts.{heap_closed, heap_kept}
use Rattle.model.proofs.lists.Lists.{get_or_map}
use Rattle.model.proofs.lists.Logic.{bool_case, mem_here, or_l}
use Rattle.model.specs.Notions.{seg_at, AllClosed, Closed, Used, seg}
use Rattle.model.proofs.visits.Order.{used_below}
use Rattle.model.proofs.shapes.Segments.{core_first}
use Rattle.model.proofs.expansion.Start.{end, last_head}
use Rattle.model.proofs.visits.Walks.{holders, pointed}
use Rattle.model.proofs.expansion.Writes.{holds_inj, slot-clash}
use Rattle.segment.specs.Cut.{held_core, segs}
use Rattle.folding.specs.Fold.{fold_byte}
use Rattle.segment.proofs.CutLaws.{cut_same}
use Rattle.folding.proofs.ListLaws.{map_at}

-- the table m has for each cell of the segments ss the number of its segment
abbrev pub Nodes : List Seg → List ℕ → Type 0
Nodes ss m = (j c : ℕ) → j < length ss → mem c (cells (seg_at ss j)) ≡ true → get_or m c 0 ≡ j

-- a value, whose cell is the first of a segment
fold_value : (ss : List Seg) (m : List ℕ) → Nodes ss m → (b : ℕ)
    → ((c : ℕ) → val_of b ≡ cell c → Head ss c × (c < 0xfd))
    → fold_byte m b ≡ val_byte (node_val ss (val_of b))
fold_value ss m is b k = go (val_of b) refl
  where
    go : (v : Val) → val_of b ≡ v → fold_byte m b ≡ val_byte (node_val ss v)
    go null e = let q : b ≡ 0xfe = sym (byte_back b) ∙ ap val_byte e in rw q
    go undef e = let q : b ≡ 0xff = sym (byte_back b) ∙ ap val_byte e in rw q
    go (cell c) e =
        let q : b ≡ c = sym (byte_back b) ∙ ap val_byte e in
        let r = node_head ss c (k c e).0 in
        let s = seg_at ss (node ss c) in
        rw (q, lt-ltb c 0xfd (k c e).1)
        (is (node ss c) c r.0 (subst (λ y. mem y (cells s) ≡ true) r.1 (mem_here s.first s.rest)))

module _ (ps cs : List ℕ) (x : IsHeap (heap_of ps cs)) (few : length cs ≤ 240) where
  pub cell_low : (c : ℕ) → Used (next (heap_of ps cs)) c → c < length cs
  cell_low c u = rw (length-map cs cell_slot) at (used_below (heap_of ps cs).slots c u)

  -- what a cell in use holds, by its byte
  pub slot_of : (c : ℕ) (v : Val) → next (heap_of ps cs) c ≡ holds v → val_of (get_or cs c 0) ≡ v
  slot_of c v e =
      let b = get_or cs c 0 in
      let s : cell_slot b ≡ holds v = sym (get_or_map cell_slot cs c 0 unused (cell_low c (v, e))) ∙ e in
      bool_case (eqb b 0xfd) (λ t. slot-clash refl (rw t at s)) (λ t. holds_inj (rw t at s))

  module _ (m : List ℕ) (is : Nodes (segments (heap_of ps cs)) m) where
    values : (qs : List ℕ) → AllClosed (next (heap_of ps cs)) (map val_of qs)
        → AllCore (next (heap_of ps cs)) (core (heap_of ps cs)) (map val_of qs)
        → map (fold_byte m) qs ≡ map val_byte (map (node_val (segments (heap_of ps cs))) (map val_of qs))
    values [] k q = refl
    values (b ∷ qs) k q =
        let h = heap_of ps cs in
        ap₂ ◌∷◌ (fold_value (segments h) m is b (λ c e.
        let u : Used (next h) c = subst (Closed (next h)) e k.0 in
        let r = core_first h x c u (q.0 c e) in
        ((r.0, r.1, r.2), omega (arith, cell_low c u)))) (values qs k.1 q.1)

    pub shape_pointers : map (fold_byte m) ps ≡ map val_byte (shape (heap_of ps cs)).ptrs
    shape_pointers =
        let h = heap_of ps cs in
        values ps (heap_closed h x).0
        (core_of_pointed h h.ptrs (λ c q. or_l (pointed c h.ptrs) (leb 2 (holders c h.slots)) q))

    pub shape_successors : map (λ c. fold_byte m (get_or cs c 0)) (map last (segments (heap_of ps cs)))
        ≡ map slot_byte (shape (heap_of ps cs)).slots
    shape_successors =
        let h = heap_of ps cs in
        let ss = segments h in
        let cl = heap_closed h x in
        let kp = heap_kept h x in
        map-map (λ c. fold_byte m (get_or cs c 0)) last ss
        ∙ map_at (λ (s : Seg). fold_byte m (get_or cs (last s) 0))
        (λ (s : Seg). slot_byte (node_slot ss (next h (last s))))
        (seg 0 []) ss (λ n q.
        let c = last (seg_at ss n) in
        let u = end h cl kp n q in
        let v = slot_of c u.0 u.1 in
        fold_value ss m is (get_or cs c 0) (λ d e.
        let g : next h c ≡ holds (cell d) = u.1 ∙ ap holds (sym v ∙ e) in
        (last_head h cl kp n d q g, omega (arith, cell_low d (cl.1 c (cell d) g))))
        ∙ ap (λ w. val_byte (node_val ss w)) v ∙ sym (ap (λ w. slot_byte (node_slot ss w)) u.1))
        ∙ sym (map-map slot_byte (λ (s : Seg). node_slot ss (next h (last s))) ss)

pub segs_same : (held : List ℕ) (h : Heap) → ((c : ℕ) → mem c (order h) ≡ true → held_core held c ≡ core h c)
    → segs held (order h) ≡ segments h
segs_same held h k = cut_same (held_core held) (core h) (order h) k

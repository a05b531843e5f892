-- Shapes: heaps all of whose slots are used, whose cells are all core and are visited in the order of their numbers.
-- What folding gives is one.
use Prim.Native.Nat.{◌+◌, ◌<◌, ◌≤◌, suc, zero, ℕ}
use mathlib.Core.Path.{◌∙◌, ◌≡◌, ap, ap₂, refl, sym}
use mathlib.Core.Bool.{Bool, true}
use mathlib.Core.List.{List, [], ◌++◌, ◌∷◌, append_cancel_left, head-eq_of_cons-eq, map, map-map}
use native.Mathlib.Omega.{arith}
use lib.Dec.{eqb}
use lib.ListN.{length, length-map}
use borrow.Author.Tests.{eqb-false, eqb-true}
use Rattle.model.specs.Base.{mem, numbers}
use Rattle.model.specs.Heap.{Heap, Slot, Val, cell, holds, next, null, order, undef, unused}
use Rattle.model.specs.Shape.{Seg, cells, core, cut, cut_from, last, node, node_slot, node_val, segments, shape}
use Rattle.model.proofs.shapes.Bound.{nodes_core}
use Rattle.model.proofs.expansion.Cores.{first_inj}
use Rattle.model.specs.Notions.{Kept, Expands, cat, flat, seg_at, AllUsed, Closed, ClosedHeap, seg, Canon}
use Rattle.model.proofs.expansion.Folds.{kept_down, order_cat}
use Rattle.model.proofs.lists.Lists.{map_id, map_same}
use Rattle.model.proofs.lists.Logic.{bool_case, mem_here, mem_there}
use Rattle.model.proofs.lists.Numbers.{numbers_mem, read_all}
use Rattle.model.proofs.visits.Order.{toured, used_below}
use Rattle.model.proofs.expansion.Start.{end, flat_is, slot_at_lem, start}
use Rattle.model.proofs.visits.Walks.{closed_in}

cat_inj : (nw : ℕ → Slot) (sg : ℕ → Seg) (nh : ℕ → Slot) → Expands nw sg nh → (l m : List ℕ) → AllUsed nw l
    → AllUsed nw m → cat sg l ≡ cat sg m → l ≡ m
cat_inj nw sg nh E [] [] ul um e = refl
cat_inj nw sg nh E [] (x ∷ m) ul um e = absurd (let z : ◌≡◌ {A = ℕ} 0 1 = cc in omega arith)
cat_inj nw sg nh E (y ∷ l) [] ul um e = absurd (let z : ◌≡◌ {A = ℕ} 0 1 = cc in omega arith)
cat_inj nw sg nh E (y ∷ l) (x ∷ m) ul um e =
    let p : y ≡ x = first_inj nw sg nh E y x (ul y (mem_here y l)) (um x (mem_here x m)) (head-eq_of_cons-eq e) in
    ap₂ ◌∷◌ p (cat_inj nw sg nh E l m (λ n k. ul n (mem_there n y l k)) (λ n k. um n (mem_there n x m k))
    (append_cancel_left (cells (sg x)) (cat sg l) (cat sg m) (rw p at e)))

cat_shift : (s : Seg) (ss : List Seg) (i n : ℕ) → cat (seg_at (s ∷ ss)) (numbers (suc i) n)
    ≡ cat (seg_at ss) (numbers i n)
cat_shift s ss i zero = refl
cat_shift s ss i (suc n) = ap (λ z. cells (seg_at ss i) ++ z) (cat_shift s ss (suc i) n)

flat_cat : (ss : List Seg) → flat ss ≡ cat (seg_at ss) (numbers 0 (length ss))
flat_cat [] = refl
flat_cat (s ∷ ss) = ap (λ z. cells s ++ z) (flat_cat ss ∙ sym (cat_shift s ss 0 (length ss)))

-- a shape is a shape
pub fold_canon : (h : Heap) → ClosedHeap h → Kept h → Canon (shape h)
fold_canon h cl k =
    let X = start h cl k in
    let len = length-map (segments h) (λ (s : Seg). node_slot (segments h) (next h (last s))) in
    let C : ClosedHeap (shape h) = (X.closed, X.body.closed) in
    let e : order (shape h) ≡ numbers 0 (length (segments h)) =
    cat_inj (next (shape h)) (seg_at (segments h)) (next h) X.body (order (shape h))
    (numbers 0 (length (segments h))) (toured (shape h) C).used
    (λ n q. let lt : n < length (segments h) = (let r = numbers_mem 0 (length (segments h)) n q in omega arith) in
    (node_val (segments h) (end h cl k n lt).0, slot_at_lem h cl k n lt))
    (sym (order_cat (shape h) (seg_at (segments h)) h X) ∙ sym (flat_is h cl k) ∙ flat_cat (segments h)) in
    record {
      closed = C;
      kept = kept_down (shape h) (seg_at (segments h)) h X k;
      numbered = e ∙ ap (numbers 0) (sym len);
      all_core = λ n q. nodes_core h cl k n (omega arith);
    }

-- and a shape is its own shape, each node a segment of its own
abbrev pub single : ℕ → Seg
single n = seg n []

cut_single : (p : ℕ → Bool) (c : ℕ) (l : List ℕ) → ((n : ℕ) → mem n l ≡ true → p n ≡ true) → cut_from p c [] l
    ≡ single c ∷ map single l
cut_single p c [] h = refl
cut_single p c (d ∷ l) h = rw (h d (mem_here d l), cut_from)
    (ap (λ z. single c ∷ z) (cut_single p d l (λ n k. h n (mem_there n d l k))))

cuts_single : (p : ℕ → Bool) (l : List ℕ) → ((n : ℕ) → mem n l ≡ true → p n ≡ true) → cut p l ≡ map single l
cuts_single p [] h = refl
cuts_single p (c ∷ l) h = cut_single p c l (λ n k. h n (mem_there n c l k))

node_single : (i n c : ℕ) → i ≤ c → c < i + n → i + node (map single (numbers i n)) c ≡ c
node_single i zero c h k = absurd (omega arith)
node_single i (suc n) c h k = bool_case (eqb c i) (λ e. rw e (let z = eqb-true c i e in omega arith))
    (λ e. rw e (let z = eqb-false c i e in let r = node_single (suc i) n c (omega arith) (omega arith) in omega arith))

module _ (h : Heap) (C : Canon h) where
  -- one node for each slot
  abbrev nodes : List Seg
  nodes = map single (numbers 0 (length h.slots))

  pub canon_segments : segments h ≡ map single (numbers 0 (length h.slots))
  canon_segments = rw C.numbered (cuts_single (core h) (numbers 0 (length h.slots))
      (λ n q. C.all_core n (let r = numbers_mem 0 (length h.slots) n q in omega arith)))

  val_id : (v : Val) → Closed (next h) v → node_val nodes v ≡ v
  val_id null k = refl
  val_id undef k = refl
  val_id (cell c) k = ap cell (let r = node_single 0 (length h.slots) c (omega arith) (let q =
      used_below h.slots c k in omega arith) in omega arith)

  slot_id : (i : ℕ) (s : Slot) → next h i ≡ s → node_slot nodes s ≡ s
  slot_id i unused e = refl
  slot_id i (holds v) e = ap holds (val_id v (C.closed.1 i v e))

  pub canon_fold : shape h ≡ h
  canon_fold = rw canon_segments (λ i. record {
    ptrs = map_id (node_val nodes) h.ptrs (λ v q. val_id v (closed_in (next h) h.ptrs v C.closed.0 q)) i;
    slots = (map-map (λ (s : Seg). node_slot nodes (next h (last s))) single (numbers 0 (length h.slots))
        ∙ map_same (λ n. node_slot nodes (next h n)) (next h) (numbers 0 (length h.slots))
        (λ n q. slot_id n (next h n) refl) ∙ read_all unused h.slots) i;
  })

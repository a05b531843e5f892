-- The fold carries over: an expansion folds to the same shape, with the sizes added up, and has lost a cell when the
-- other has.
use Prim.Native.Nat.{◌+◌, suc, ℕ}
use mathlib.Core.Path.{◌∙◌, ◌≡◌, ap, ap₂, refl, subst, sym}
use mathlib.Core.Bool.{Bool, cond, false, true}
use mathlib.Core.List.{List, [], ◌++◌, ◌∷◌, append_assoc, append-nil, map, map-map}
use lib.Dec.{eqb}
use lib.ListN.{length, length-append}
use borrow.Author.Tests.{eq-eqb, eqb-true}
use Rattle.model.specs.Base.{mem}
use Rattle.model.specs.Heap.{Heap, Slot, Val, cell, holds, next, null, order, undef}
use Rattle.model.specs.Shape.{Seg, cells, core, counters, cut, cut_from, last, last_from, node, node_slot, node_val, segments, shape, size}
use Rattle.model.proofs.expansion.Cores.{chain_last, core_head, core_inner, first_inj, next-in}
use Rattle.model.proofs.expansion.Expand.{cat_snoc, lift_tour, mem_cat, mem_of_cat}
use Rattle.model.proofs.lists.Lists.{map_same}
use Rattle.model.proofs.lists.Logic.{bool_case, bool_ext, clash, mem-append-cases, mem-cases, mem_here, mem_one, mem_there}
use Rattle.model.specs.Notions.{Chain, Expansion, cat, img, total, AllClosed, AllUsed, Closed, ClosedHeap, Used, seg, Kept}
use Rattle.model.proofs.visits.Order.{toured, tours_same}
use Rattle.model.proofs.visits.Walks.{closed_map, map_closed}

pub chain_used : (nx : ℕ → Slot) (c : ℕ) (l : List ℕ) (v : Val) (d : ℕ) → Chain nx c l v → mem d (c ∷ l) ≡ true
    → Used nx d
chain_used nx c [] v d ch h = (v, ap nx (mem_one d c h) ∙ ch)
chain_used nx c (x ∷ l) v d ch h = mem-cases d c (x ∷ l) h (λ e. (cell x, ap nx e ∙ ch.0))
    (λ k. chain_used nx x l v d ch.1 k)

-- each cell of a list is used
abbrev pub Alls : (Seg → Type 0) → List Seg → Type 0
Alls P [] = Unit {0}
Alls P (s ∷ ss) = P s × Alls P ss

pub cut_used : (nx : ℕ → Slot) (p : ℕ → Bool) (c : ℕ) (cur l : List ℕ) → AllUsed nx (c ∷ cur) → AllUsed nx l
    → Alls (λ s. AllUsed nx (cells s)) (cut_from p c cur l)
cut_used nx p c cur [] us ul = (us, tt)
cut_used nx p c cur (d ∷ l) us ul =
    bool_case (p d)
    (λ e. rw (e, cut_from) (
      us,
      cut_used nx p d [] l (λ n k. ul n (subst (λ x. mem x (d ∷ l) ≡ true) (sym (mem_one n d k)) (mem_here d l)))
          (λ n k. ul n (mem_there n d l k)),
    ))
    (λ e. rw (e, cut_from) (cut_used nx p c (cur ++ d ∷ []) l
    (λ n k. mem-append-cases n (c ∷ cur) (d ∷ []) k (us n)
    (λ q. ul n (subst (λ x. mem x (d ∷ l) ≡ true) (sym (mem_one n d q)) (mem_here d l))))
    (λ n k. ul n (mem_there n d l k))))

abbrev pub grow : (ℕ → Seg) → Seg → Seg
grow sg s = seg (sg s.first).first ((sg s.first).rest ++ cat sg s.rest)

cut_inner : (p : ℕ → Bool) (c : ℕ) (cur t l : List ℕ) → ((d : ℕ) → mem d t ≡ true → p d ≡ false)
    → cut_from p c cur (t ++ l) ≡ cut_from p c (cur ++ t) l
cut_inner p c cur [] l h = rw (append-nil cur)
cut_inner p c cur (d ∷ t) l h =
    rw (h d (mem_here d t), cut_from) (cut_inner p c (cur ++ d ∷ []) t l (λ x k. h x (mem_there x d t k))
    ∙ ap (λ z. cut_from p c z l) (append_assoc cur (d ∷ []) t))

last_append : (c d : ℕ) (t u : List ℕ) → last_from c (t ++ d ∷ u) ≡ last_from d u
last_append c d [] u = refl
last_append c d (x ∷ t) u = last_append x d t u

last_cat : (sg : ℕ → Seg) (n : ℕ) (l : List ℕ) → last_from (sg n).first ((sg n).rest ++ cat sg l)
    ≡ last (sg (last_from n l))
last_cat sg n [] = rw (append-nil (sg n).rest)
last_cat sg n (m ∷ l) = last_append (sg n).first (sg m).first (sg n).rest ((sg m).rest ++ cat sg l) ∙ last_cat sg m l

pub mem_last_used : (nx : ℕ → Slot) (c : ℕ) (l : List ℕ) → AllUsed nx (c ∷ l) → Used nx (last_from c l)
mem_last_used nx c [] us = us c (mem_here c [])
mem_last_used nx c (d ∷ l) us = mem_last_used nx d l (λ n k. us n (mem_there n c (d ∷ l) k))

module _ (pw ph : ℕ → Bool) (sg : ℕ → Seg) where
  cut_cat : (n : ℕ) (cur l : List ℕ) → ((m : ℕ) → mem m l ≡ true → ph (sg m).first ≡ pw m)
      → ((m d : ℕ) → mem m l ≡ true → mem d (sg m).rest ≡ true → ph d ≡ false)
      → cut_from ph (sg n).first ((sg n).rest ++ cat sg cur) (cat sg l) ≡ map (grow sg) (cut_from pw n cur l)
  cut_cat n cur [] hh hi = refl
  cut_cat n cur (m ∷ l) hh hi =
      bool_case (pw m)
      (λ e. rw (hh m (mem_here m l) ∙ e, e, cut_from) (ap (λ z. grow sg (seg n cur) ∷ z)
      (cut_inner ph (sg m).first [] (sg m).rest (cat sg l) (λ d k. hi m d (mem_here m l) k)
      ∙ ap (λ z. cut_from ph (sg m).first z (cat sg l)) (sym (append-nil (sg m).rest))
      ∙ cut_cat m [] l (λ x k. hh x (mem_there x m l k)) (λ x d k. hi x d (mem_there x m l k)))))
      (λ e. rw (hh m (mem_here m l) ∙ e, e, cut_from)
      (cut_inner ph (sg n).first ((sg n).rest ++ cat sg cur ++ (sg m).first ∷ []) (sg m).rest (cat sg l)
      (λ d k. hi m d (mem_here m l) k)
      ∙ ap (λ z. cut_from ph (sg n).first z (cat sg l)) (simp (append_assoc, cat_snoc))
      ∙ cut_cat n (cur ++ m ∷ []) l (λ x k. hh x (mem_there x m l k)) (λ x d k. hi x d (mem_there x m l k))))

  cuts : (l : List ℕ) → ((m : ℕ) → mem m l ≡ true → ph (sg m).first ≡ pw m)
      → ((m d : ℕ) → mem m l ≡ true → mem d (sg m).rest ≡ true → ph d ≡ false)
      → cut ph (cat sg l) ≡ map (grow sg) (cut pw l)
  cuts [] hh hi = refl
  cuts (n ∷ l) hh hi =
      cut_inner ph (sg n).first [] (sg n).rest (cat sg l) (λ d k. hi n d (mem_here n l) k)
      ∙ ap (λ z. cut_from ph (sg n).first z (cat sg l)) (sym (append-nil (sg n).rest))
      ∙ cut_cat n [] l (λ x k. hh x (mem_there x n l k)) (λ x d k. hi x d (mem_there x n l k))

length_cat : (sg : ℕ → Seg) (l : List ℕ) → length (cat sg l) ≡ total sg l
length_cat sg [] = refl
length_cat sg (n ∷ l) = length-append (cells (sg n)) (cat sg l) ∙ ap (λ x. size (sg n) + x) (length_cat sg l)

sizes : (sg : ℕ → Seg) (ss : List Seg) → map size (map (grow sg) ss) ≡ map (λ (s : Seg). total sg (cells s)) ss
sizes sg ss = map-map size (grow sg) ss
    ∙ map_same (λ (s : Seg). length (cat sg (cells s))) (λ (s : Seg). total sg (cells s)) ss
    (λ s i. length_cat sg (cells s))

module _ (W : Heap) (sg : ℕ → Seg) (H : Heap) (X : Expansion W sg H) where
  small_closed : ClosedHeap W
  small_closed = (X.closed, X.body.closed)

  img_closed : (v : Val) → Closed (next W) v → Closed (next H) (img sg v)
  img_closed null k = tt
  img_closed undef k = tt
  img_closed (cell n) k =
      chain_used (next H) (sg n).first (sg n).rest (img sg k.0) (sg n).first (X.body.chain n k.0 k.1)
      (mem_here (sg n).first (sg n).rest)

  next_closed : (c : ℕ) (v : Val) → next H c ≡ holds v → Closed (next H) v
  next_closed c null e = tt
  next_closed c undef e = tt
  next_closed c (cell d) e =
      let r = X.body.cover c (cell d) e in
      let n = r.0 in
      let v = r.1.0 in
      let ch = X.body.chain n v r.1.1 in
      next-in (next H) (sg n).first (sg n).rest (img sg v) c d ch r.2 e
      (λ h. chain_used (next H) (sg n).first (sg n).rest (img sg v) d ch (mem_there d (sg n).first (sg n).rest h))
      (λ q p. subst (Closed (next H)) p (img_closed v (X.body.closed n v r.1.1)))

  pub large_closed : ClosedHeap H
  large_closed = (rw X.ptrs (closed_map (next W) (next H) (img sg) W.ptrs img_closed X.closed), next_closed)

  pub order_cat : order H ≡ cat sg (order W)
  order_cat =
      tours_same (next H) (toured H large_closed).tours
      (rw X.ptrs (lift_tour (next W) sg (next H) X.body (λ n k. clash k refl) X.closed
      (toured W small_closed).tours).0)

  pub segments_grow : segments H ≡ map (grow sg) (segments W)
  segments_grow = rw order_cat
      (cuts (core W) (core H) sg (order W) (λ m k. core_head W sg H X m ((toured W small_closed).used m k))
      (λ m d k h. core_inner W sg H X m d ((toured W small_closed).used m k) h))

  node_grow : (n : ℕ) (ss : List Seg) → Used (next W) n → Alls (λ s. AllUsed (next W) (cells s)) ss
      → node (map (grow sg) ss) (sg n).first ≡ node ss n
  node_grow n [] u us = refl
  node_grow n (s ∷ ss) u us = ap₂ (λ b k. cond b 0 (suc k))
      (bool_ext (eqb (sg n).first (sg s.first).first) (eqb n s.first)
      (λ e. eq-eqb n s.first (first_inj (next W) sg (next H) X.body n s.first u
      (us.0 s.first (mem_here s.first s.rest))
      (eqb-true (sg n).first (sg s.first).first e)))
      (λ e. eq-eqb (sg n).first (sg s.first).first (ap (λ x. (sg x).first) (eqb-true n s.first e))))
      (node_grow n ss u us.1)

  val_grow : (v : Val) (ss : List Seg) → Closed (next W) v → Alls (λ s. AllUsed (next W) (cells s)) ss
      → node_val (map (grow sg) ss) (img sg v) ≡ node_val ss v
  val_grow null ss k us = refl
  val_grow undef ss k us = refl
  val_grow (cell n) ss k us = ap cell (node_grow n ss k us)

  ptrs_grow : (vs : List Val) (ss : List Seg) → AllClosed (next W) vs → Alls (λ s. AllUsed (next W) (cells s)) ss
      → map (node_val (map (grow sg) ss)) (map (img sg) vs) ≡ map (node_val ss) vs
  ptrs_grow vs ss k us =
      map-map (node_val (map (grow sg) ss)) (img sg) vs
      ∙ map_closed (next W) (λ v. node_val (map (grow sg) ss) (img sg v)) (node_val ss) vs (λ v q. val_grow v ss q us) k

  slot_grow : (s : Seg) (ss : List Seg) → AllUsed (next W) (cells s) → Alls (λ s. AllUsed (next W) (cells s)) ss
      → node_slot (map (grow sg) ss) (next H (last (grow sg s))) ≡ node_slot ss (next W (last s))
  slot_grow s ss u us =
      let m = last s in
      let k = mem_last_used (next W) s.first s.rest u in
      let e : next H (last (grow sg s)) ≡ holds (img sg k.0) = ap (next H) (last_cat sg s.first s.rest)
      ∙ chain_last (next H) (sg m).first (sg m).rest (img sg k.0) (X.body.chain m k.0 k.1) in
      ap (node_slot (map (grow sg) ss)) e ∙ ap holds (val_grow k.0 ss (X.body.closed m k.0 k.1) us)
      ∙ sym (ap (node_slot ss) k.1)

  slots_grow : (r ss : List Seg) → Alls (λ s. AllUsed (next W) (cells s)) r → Alls (λ s. AllUsed (next W) (cells s)) ss
      → map (λ (s : Seg). node_slot (map (grow sg) ss) (next H (last s))) (map (grow sg) r)
      ≡ map (λ (s : Seg). node_slot ss (next W (last s))) r
  slots_grow [] ss u us = refl
  slots_grow (s ∷ r) ss u us = ap₂ ◌∷◌ (slot_grow s ss u.0 us) (slots_grow r ss u.1 us)

  pub segments_used : (p : ℕ → Bool) (l : List ℕ) → AllUsed (next W) l → Alls (λ s. AllUsed (next W) (cells s))
      (cut p l)
  segments_used p [] us = tt
  segments_used p (c ∷ l) us =
      cut_used (next W) p c [] l (λ n k. us n (subst (λ x. mem x (c ∷ l) ≡ true) (sym (mem_one n c k))
      (mem_here c l))) (λ n k. us n (mem_there n c l k))

  pub fold_same : shape H ≡ shape W
  fold_same =
      let us = segments_used (core W) (order W) (toured W small_closed).used in
      rw (segments_grow, X.ptrs) (λ i. record {
        ptrs = ptrs_grow W.ptrs (segments W) X.closed us i;
        slots = slots_grow (segments W) (segments W) us us i;
      })

  pub kept_up : Kept W → Kept H
  kept_up k c u =
      let r = X.body.cover c u.0 u.1 in
      rw order_cat (mem_cat sg c r.0 (order W) (k r.0 r.1) r.2)

  pub kept_down : Kept H → Kept W
  kept_down k n u =
      let q = mem_of_cat sg (sg n).first (order W) (rw order_cat at (k (sg n).first (img_closed (cell n) u))) in
      subst (λ x. mem x (order W) ≡ true)
      (sym (X.body.apart n q.0 (sg n).first u ((toured W small_closed).used q.0 q.1)
      (mem_here (sg n).first (sg n).rest) q.2)) q.1

  pub counters_grow : counters H ≡ map (λ (s : Seg). total sg (cells s)) (segments W)
  counters_grow = rw segments_grow (sizes sg (segments W))

-- Heaps of one shape with equal counters are isomorphic: the cells of each segment of one go to those of the other, in
-- their order.
use Prim.Native.Nat.{◌<◌, suc, zero, ℕ}
use mathlib.Core.Path.{◌∙◌, ◌≡◌, ap, ap₂, refl, subst, sym}
use mathlib.Core.Bool.{cond, false, true}
use mathlib.Core.List.{List, [], ◌++◌, ◌∷◌, head-eq_of_cons-eq, map, map-map, tail-eq_of_cons-eq}
use native.Mathlib.Omega.{arith}
use lib.Dec.{eqb}
use lib.ListN.{length, length-append, length-map}
use Rattle.model.specs.Base.{mem}
use Rattle.model.specs.Heap.{Heap, IsHeap, Slot, Val, cell, holds, next, null, undef}
use Rattle.model.specs.Image.{unfold_heap}
use Rattle.model.specs.Shape.{Seg, cells, counters, last, node_slot, segments, shape, size}
use Rattle.model.proofs.shapes.Canon.{fold_canon}
use Rattle.model.proofs.expansion.Facts.{heap_closed, heap_kept}
use Rattle.model.proofs.expansion.Folds.{chain_used}
use Rattle.model.specs.Notions.{NoDup, Chain, Expansion, Positive, Renames, flat, img, rename_val, seg_at, AllClosed, Closed, Used}
use Rattle.model.proofs.lists.Logic.{clash, eqb_same, eqb_sym, mem-cases, mem_here, mem_one, mem_there, or_false_l, or_false_r}
use Rattle.model.proofs.visits.Order.{toured, used_below}
use Rattle.model.proofs.expansion.Start.{flat_is, start}
use Rattle.model.proofs.shapes.Unfold.{counters_unfold, shape_unfold, unfold_is_heap}
use Rattle.model.proofs.visits.Walks.{map_closed}
use Rattle.model.proofs.expansion.Writes.{holds_inj}

-- a chain and the chain renamed: so is what each of its cells holds
chain_renamed : (f : ℕ → ℕ) (na nb : ℕ → Slot) (c : ℕ) (l : List ℕ) (v : Val) → Chain na c l v
    → Chain nb (f c) (map f l) (rename_val f v)
    → (d : ℕ) (w : Val) → mem d (c ∷ l) ≡ true → na d ≡ holds w → nb (f d) ≡ holds (rename_val f w)
chain_renamed f na nb c [] v p q d w h e =
    let k = mem_one d c h in
    ap (λ x. nb (f x)) k ∙ q ∙ ap (λ x. holds (rename_val f x)) (holds_inj (sym p ∙ ap na (sym k) ∙ e))
chain_renamed f na nb c (x ∷ l) v p q d w h e = mem-cases d c (x ∷ l) h
    (λ k. ap (λ y. nb (f y)) k ∙ q.0 ∙ ap (λ y. holds (rename_val f y)) (holds_inj (sym p.0 ∙ ap na (sym k) ∙ e)))
    (λ k. chain_renamed f na nb x l v p.1 q.1 d w k e)

map_mem : (f : ℕ → ℕ) (c : ℕ) (l : List ℕ) → mem c l ≡ true → mem (f c) (map f l) ≡ true
map_mem f c [] h = h
map_mem f c (x ∷ l) h = mem-cases c x l h (λ e. rw (e, eqb_same (f x)))
    (λ k. mem_there (f c) (f x) (map f l) (map_mem f c l k))

mem_map : (f : ℕ → ℕ) (d : ℕ) (l : List ℕ) → mem d (map f l) ≡ true → (c : ℕ) × (mem c l ≡ true) × (f c ≡ d)
mem_map f d [] h = clash h refl
mem_map f d (x ∷ l) h = mem-cases d (f x) (map f l) h (λ e. (x, mem_here x l, sym e))
    (λ k. let r = mem_map f d l k in (r.0, mem_there r.0 x l r.1, r.2))

map_inj : (f : ℕ → ℕ) (l : List ℕ) (c d : ℕ) → NoDup (map f l) → mem c l ≡ true → mem d l ≡ true → f c ≡ f d → c ≡ d
map_inj f [] c d nd h k e = clash h refl
map_inj f (x ∷ l) c d nd h k e =
    mem-cases c x l h
    (λ p. mem-cases d x l k (λ q. p ∙ sym q) (λ q. clash (subst (λ y. mem y (map f l) ≡ true) (sym e ∙ ap f p)
    (map_mem f d l q)) nd.0))
    (λ p. mem-cases d x l k (λ q. clash (subst (λ y. mem y (map f l) ≡ true) (e ∙ ap f q) (map_mem f c l p)) nd.0)
    (λ q. map_inj f l c d nd.1 p q e))

-- two expansions of one heap, where f takes each chain of one to that of the other
abbrev Along : Heap → (ℕ → Seg) → (ℕ → Seg) → (ℕ → ℕ) → Type 0
Along W sa sb f = (n : ℕ) → Used (next W) n → map f (cells (sa n)) ≡ cells (sb n)

module _ (W a b : Heap) (sa sb : ℕ → Seg) (A : Expansion W sa a) (B : Expansion W sb b) (f : ℕ → ℕ)
    (carried : Along W sa sb f) where
  rename_val_lem : (v : Val) → Closed (next W) v → rename_val f (img sa v) ≡ img sb v
  rename_val_lem null k = refl
  rename_val_lem undef k = refl
  rename_val_lem (cell n) k = ap cell (head-eq_of_cons-eq (carried n k))

  rename_vals : (vs : List Val) → AllClosed (next W) vs → map (rename_val f) (map (img sa) vs) ≡ map (img sb) vs
  rename_vals vs k = map-map (rename_val f) (img sa) vs ∙ map_closed (next W) (λ v. rename_val f (img sa v)) (img sb) vs
      rename_val_lem k

  chain_b : (n : ℕ) (v : Val) → next W n ≡ holds v → Chain (next b) (f (sa n).first) (map f (sa n).rest)
      (rename_val f (img sa v))
  chain_b n v e =
      let c = carried n (v, e) in
      rw (head-eq_of_cons-eq c, tail-eq_of_cons-eq c, rename_val_lem v (A.body.closed n v e)) (B.body.chain n v e)

  in_b : (n c : ℕ) → Used (next W) n → mem c (cells (sa n)) ≡ true → mem (f c) (cells (sb n)) ≡ true
  in_b n c u h = subst (λ l. mem (f c) l ≡ true) (carried n u) (map_mem f c (cells (sa n)) h)

  along_renames : Renames f a b
  along_renames = record {
    ptrs_are = B.ptrs ∙ sym (rename_vals W.ptrs A.closed) ∙ ap (map (rename_val f)) (sym A.ptrs);
    nexts_are = λ c w e. let r = A.body.cover c w e in
        chain_renamed f (next a) (next b) (sa r.0).first (sa r.0).rest (img sa r.1.0)
        (A.body.chain r.0 r.1.0 r.1.1)
        (chain_b r.0 r.1.0 r.1.1) c w r.2 e;
    onto = λ c u.
        let r = B.body.cover c u.0 u.1 in
        let n = r.0 in
        let d = mem_map f c (cells (sa n)) (subst (λ l. mem c l ≡ true) (sym (carried n r.1)) r.2) in (
          d.0,
          chain_used (next a) (sa n).first (sa n).rest (img sa r.1.0) d.0
              (A.body.chain n r.1.0 r.1.1) d.1,
          d.2,
        );
    one_to_one = λ c d u w e.
        let p = A.body.cover c u.0 u.1 in
        let q = A.body.cover d w.0 w.1 in
        let n = p.0 in
        let m = q.0 in
        let h : mem (f d) (cells (sb n)) ≡ true = subst (λ x. mem x (cells (sb n)) ≡ true) e (in_b n c p.1 p.2) in
        let s : n ≡ m = B.body.apart n m (f d) p.1 q.1 h (in_b m d q.1 q.2) in
        let k : mem d (cells (sa n)) ≡ true = subst (λ x. mem d (cells (sa x)) ≡ true) (sym s) q.2 in
        map_inj f (cells (sa n)) c d (subst NoDup (sym (carried n p.1)) (B.body.nodup n p.1)) p.2 k e;
  }

-- the i-th number of the first list goes to the i-th of the second
abbrev pairing : List ℕ → List ℕ → ℕ → ℕ
pairing [] ys c = c
pairing (x ∷ xs) [] c = c
pairing (x ∷ xs) (y ∷ ys) c = cond (eqb c x) y (pairing xs ys c)

map_off : (x y : ℕ) (f : ℕ → ℕ) (l : List ℕ) → mem x l ≡ false → map (λ c. cond (eqb c x) y (f c)) l ≡ map f l
map_off x y f [] h = refl
map_off x y f (c ∷ l) h = ap₂ ◌∷◌ (rw (eqb_sym c x ∙ or_false_l (eqb x c) (mem x l) h))
    (map_off x y f l (or_false_r (eqb x c) (mem x l) h))

map_pairing : (xs ys : List ℕ) → NoDup xs → length xs ≡ length ys → map (pairing xs ys) xs ≡ ys
map_pairing [] [] nd e = refl
map_pairing [] (y ∷ ys) nd e = absurd (omega arith)
map_pairing (x ∷ xs) [] nd e = absurd (omega arith)
map_pairing (x ∷ xs) (y ∷ ys) nd e = ap₂ ◌∷◌ (rw eqb_same) (map_off x y (pairing xs ys) xs nd.0
    ∙ map_pairing xs ys nd.1 (omega arith))

split_map : (f : ℕ → ℕ) (xs us ys vs : List ℕ) → length xs ≡ length ys → map f (xs ++ us) ≡ ys ++ vs → (map f xs ≡ ys)
    × (map f us ≡ vs)
split_map f [] us [] vs l e = (refl, e)
split_map f [] us (y ∷ ys) vs l e = absurd (omega arith)
split_map f (x ∷ xs) us [] vs l e = absurd (omega arith)
split_map f (x ∷ xs) us (y ∷ ys) vs l e =
    let r = split_map f xs us ys vs (omega arith) (tail-eq_of_cons-eq e) in
    (ap₂ ◌∷◌ (head-eq_of_cons-eq e) r.0, r.1)

flat_length : (ss ts : List Seg) → map size ss ≡ map size ts → length (flat ss) ≡ length (flat ts)
flat_length [] [] e = refl
flat_length [] (t ∷ ts) e = absurd (let k : ◌≡◌ {A = ℕ} 0 1 = cc in omega arith)
flat_length (s ∷ ss) [] e = absurd (let k : ◌≡◌ {A = ℕ} 0 1 = cc in omega arith)
flat_length (s ∷ ss) (t ∷ ts) e =
    omega (
      arith,
      head-eq_of_cons-eq e,
      flat_length ss ts (tail-eq_of_cons-eq e),
      length-append s.rest (flat ss),
      length-append t.rest (flat ts),
    )

flat_along : (f : ℕ → ℕ) (ss ts : List Seg) → map size ss ≡ map size ts → map f (flat ss) ≡ flat ts
    → (n : ℕ) → n < length ss → map f (cells (seg_at ss n)) ≡ cells (seg_at ts n)
flat_along f [] ts z e n q = absurd (omega arith)
flat_along f (s ∷ ss) [] z e n q = absurd (let k : ◌≡◌ {A = ℕ} 0 1 = cc in omega arith)
flat_along f (s ∷ ss) (t ∷ ts) z e zero q = (split_map f (cells s) (flat ss) (cells t) (flat ts) (head-eq_of_cons-eq z)
    e).0
flat_along f (s ∷ ss) (t ∷ ts) z e (suc n) q =
    flat_along f ss ts (tail-eq_of_cons-eq z) (split_map f (cells s) (flat ss) (cells t) (flat ts)
    (head-eq_of_cons-eq z) e).1 n (omega arith)

-- two heaps of one shape and equal counters are isomorphic
pub same_renamed : (a b : Heap) → IsHeap a → IsHeap b → shape a ≡ shape b → counters a ≡ counters b → (f : ℕ → ℕ)
    × Renames f a b
same_renamed a b ia ib es ec =
    let sa = segments a in
    let sb = segments b in
    let ka = heap_closed a ia in
    let f = pairing (flat sa) (flat sb) in
    let A = start a ka (heap_kept a ia) in
    let B = subst (λ w. Expansion w (seg_at sb) b) (sym es) (start b (heap_closed b ib) (heap_kept b ib)) in
    let nd : NoDup (flat sa) = subst NoDup (sym (flat_is a ka (heap_kept a ia))) (toured a ka).nodup in
    let len = length-map sa (λ (s : Seg). node_slot sa (next a (last s))) in (
      f,
      along_renames (shape a) a b (seg_at sa) (seg_at sb) A B f
          (λ n u. flat_along f sa sb ec (map_pairing (flat sa) (flat sb) nd (flat_length sa sb ec)) n
          (omega (arith, used_below (shape a).slots n u))),
    )

positive_sizes : (ss : List Seg) → Positive (map size ss)
positive_sizes [] n q = absurd (omega arith)
positive_sizes (s ∷ ss) zero q = omega arith
positive_sizes (s ∷ ss) (suc n) q = positive_sizes ss n (omega arith)

-- folding a heap and unfolding what it gives leads to an isomorphic heap
pub fold_unfold : (h : Heap) → IsHeap h → (f : ℕ → ℕ) × Renames f h (unfold_heap (shape h) (counters h))
fold_unfold h i =
    let C = fold_canon h (heap_closed h i) (heap_kept h i) in
    let ss = segments h in
    let cs = counters h in
    let pos = positive_sizes ss in
    let len : length cs ≡ length (shape h).slots = length-map ss size
    ∙ sym (length-map ss (λ (s : Seg). node_slot ss (next h (last s)))) in
    same_renamed h (unfold_heap (shape h) cs) i (unfold_is_heap (shape h) C cs len pos)
    (sym (shape_unfold (shape h) C cs len pos)) (sym (counters_unfold (shape h) C cs len pos))

-- Core cells: what the test says; and they carry over to an expansion: the head of a chain is core as its node is, the
-- other cells never are.
use Prim.Native.Nat.{◌≤◌, suc, zero, ℕ}
use mathlib.Core.Path.{◌∙◌, ◌≡◌, ap, ap₂, refl, subst, sym}
use mathlib.Core.Logic.{◌↔◌, ◌⊎◌, inl, inr, ⊎_elim}
use mathlib.Core.Bool.{◌||◌, false, true}
use mathlib.Core.List.{List, [], ◌∷◌, map}
use native.Mathlib.Omega.{arith}
use lib.Dec.{eqb, leb}
use lib.ListN.{get_or}
use borrow.Author.Tests.{eq-eqb, eqb-false, eqb-true, le-leb, leb-true, ne_eqb}
use Rattle.model.specs.Base.{mem}
use Rattle.model.specs.Heap.{Heap, Slot, Val, cell, holds, next, null, undef, unused}
use Rattle.model.specs.Shape.{Seg, cells, core, holds_cell, is_cell, last, last_from}
use Rattle.model.specs.Notions.{In, NoDup, Chain, Expands, Expansion, Two, img, AllClosed, Closed, Used}
use Rattle.model.proofs.lists.Lists.{any_find, any_in}
use Rattle.model.proofs.lists.Logic.{bool_case, bool_ext, clash, eq-case, eqb_same, mem-cases, mem_here, mem_there, not-true, or_cases, or_l, or_r}
use Rattle.model.proofs.visits.Walks.{holders, pointed}

pub holds_cell_true : (c : ℕ) (s : Slot) → holds_cell c s ≡ true → s ≡ holds (cell c)
holds_cell_true c unused h = clash h refl
holds_cell_true c (holds null) h = clash h refl
holds_cell_true c (holds undef) h = clash h refl
holds_cell_true c (holds (cell d)) h = rw (eqb-true c d h)

pub true_holds_cell : (c : ℕ) (s : Slot) → s ≡ holds (cell c) → holds_cell c s ≡ true
true_holds_cell c s h = rw (h, eqb_same c)

one_of : (c : ℕ) (ss : List Slot) → 1 ≤ holders c ss → (i : ℕ) × (get_or ss i unused ≡ holds (cell c))
one_of c [] h = absurd (omega arith)
one_of c (s ∷ ss) h =
    bool_case (holds_cell c s) (λ t. (0, holds_cell_true c s t))
    (λ f. let r = one_of c ss (let h' = rw f at h in omega arith) in (suc r.0, r.1))

pub two_of : (c : ℕ) (ss : List Slot) → 2 ≤ holders c ss → Two (λ i. get_or ss i unused) c
two_of c [] h = absurd (omega arith)
two_of c (s ∷ ss) h =
    bool_case (holds_cell c s)
    (λ t. let r = one_of c ss (let h' = rw t at h in omega arith) in
    (0, suc r.0, (λ e. omega arith), holds_cell_true c s t, r.1))
    (λ f. let r = two_of c ss (let h' = rw f at h in omega arith) in
    (suc r.0, suc r.1, (λ e. r.2 (let e' : suc r.0 ≡ suc r.1 = e in omega arith)), r.3, r.4))

of_one : (c : ℕ) (ss : List Slot) (i : ℕ) → get_or ss i unused ≡ holds (cell c) → 1 ≤ holders c ss
of_one c [] i h = let z : ◌≡◌ {A = ℕ} 0 1 = cc in omega arith
of_one c (s ∷ ss) zero h = rw (true_holds_cell c s h) (omega arith)
of_one c (s ∷ ss) (suc i) h = let r = of_one c ss i h in omega arith

pub of_two : (c : ℕ) (ss : List Slot) (i j : ℕ) → (i ≡ j → ⊥) → get_or ss i unused ≡ holds (cell c) → get_or ss j unused
    ≡ holds (cell c) → 2 ≤ holders c ss
of_two c [] i j n p q = let z : ◌≡◌ {A = ℕ} 0 1 = cc in omega arith
of_two c (s ∷ ss) zero zero n p q = absurd (n refl)
of_two c (s ∷ ss) zero (suc j) n p q = let r = of_one c ss j q in rw (true_holds_cell c s p) (omega arith)
of_two c (s ∷ ss) (suc i) zero n p q = let r = of_one c ss i p in rw (true_holds_cell c s q) (omega arith)
of_two c (s ∷ ss) (suc i) (suc j) n p q = let r = of_two c ss i j (λ e. n (ap suc e)) p q in omega arith

cell_of : (c : ℕ) (v : Val) → is_cell c v ≡ true → cell c ≡ v
cell_of c (cell d) h = ap cell (eqb-true c d h)
cell_of c null h = clash h refl
cell_of c undef h = clash h refl

in_pointed : (c : ℕ) (vs : List Val) → pointed c vs ≡ true → In (cell c) vs
in_pointed c vs h = let r = any_find (is_cell c) vs h in subst (λ v. In v vs) (sym (cell_of c r.0 r.2)) r.1

pointed_in : (c : ℕ) (vs : List Val) → In (cell c) vs → pointed c vs ≡ true
pointed_in c vs i = any_in (is_cell c) vs (cell c) i (eqb_same c)

-- "A core cell is held by a pointer or by the next of two or more cells."
pub core_is : (h : Heap) (c : ℕ) → (core h c ≡ true) ↔ (In (cell c) h.ptrs ⊎ Two (next h) c)
core_is h c =
    let p = pointed c h.ptrs in
    let n = holders c h.slots in (
      (λ k. or_cases p (leb 2 n) k (λ q. inl (in_pointed c h.ptrs q))
          (λ q. inr (two_of c h.slots (leb-true 2 n q)))),
      ⊎_elim (λ i. or_l p (leb 2 n) (pointed_in c h.ptrs i))
          (λ t. or_r p (leb 2 n) (le-leb 2 n (of_two c h.slots t.0 t.1 t.2 t.3 t.4))),
    )

-- a cell that is not core is held by no pointer and by the next of one cell at most
pub not_pointed : (h : Heap) (d : ℕ) → core h d ≡ false → In (cell d) h.ptrs → ⊥
not_pointed h d n i = clash ((core_is h d).1 (inl i)) n

pub one_holder : (h : Heap) (d a b : ℕ) → core h d ≡ false → next h a ≡ holds (cell d) → next h b ≡ holds (cell d) → a
    ≡ b
one_holder h d a b n p q = eq-case a b (λ e. e) (λ e. clash ((core_is h d).1 (inr (a, b, eqb-false a b e, p, q))) n)

-- what a cell of a chain holds: the cell after it, or what the chain ends in
pub next-in {ℓ} : {C : Type ℓ} (nx : ℕ → Slot) (c : ℕ) (l : List ℕ) (v : Val) (a d : ℕ) → Chain nx c l v
    → mem a (c ∷ l) ≡ true → nx a ≡ holds (cell d)
    → (mem d l ≡ true → C) → (a ≡ last_from c l → v ≡ cell d → C) → C
next-in nx c [] v a d ch h e f g = mem-cases a c [] h (λ q. g q (let z = ap nx q in cc)) (λ k. clash k refl)
next-in nx c (x ∷ l) v a d ch h e f g =
    mem-cases a c (x ∷ l) h (λ q. f (let p : d ≡ x = (let z = ap nx q in let y = ch.0 in cc) in rw (p, eqb_same x)))
    (λ k. next-in nx x l v a d ch.1 k e (λ m. f (mem_there d x l m)) g)

pub chain_last : (nx : ℕ → Slot) (c : ℕ) (l : List ℕ) (v : Val) → Chain nx c l v → nx (last_from c l) ≡ holds v
chain_last nx c [] v ch = ch
chain_last nx c (d ∷ l) v ch = chain_last nx d l v ch.1

pub mem_last : (c : ℕ) (l : List ℕ) → mem (last_from c l) (c ∷ l) ≡ true
mem_last c [] = mem_here c []
mem_last c (d ∷ l) = mem_there (last_from d l) c (d ∷ l) (mem_last d l)

-- in a chain one cell at most holds d, if the chain does not end in d
pub one_in : (nx : ℕ → Slot) (c : ℕ) (l : List ℕ) (v : Val) (a b d : ℕ) → Chain nx c l v → NoDup (c ∷ l)
    → (v ≡ cell d → ⊥) → mem a (c ∷ l) ≡ true
    → mem b (c ∷ l) ≡ true
    → nx a ≡ holds (cell d) → nx b ≡ holds (cell d) → a ≡ b
one_in nx c [] v a b d ch nd nv ha hb ea eb = mem-cases a c [] ha
    (λ p. mem-cases b c [] hb (λ q. p ∙ sym q) (λ k. clash k refl)) (λ k. clash k refl)
one_in nx c (x ∷ l) v a b d ch nd nv ha hb ea eb =
    mem-cases a c (x ∷ l) ha
    (λ p. mem-cases b c (x ∷ l) hb (λ q. p ∙ sym q) (λ k. twice a b p k ea eb))
    (λ h. mem-cases b c (x ∷ l) hb (λ q. sym (twice b a q h eb ea)) (λ k. one_in nx x l v a b d ch.1 nd.1 nv h k
    ea eb))
  where
    twice : (a b : ℕ) → a ≡ c → mem b (x ∷ l) ≡ true → nx a ≡ holds (cell d) → nx b ≡ holds (cell d) → a ≡ b
    twice a b p k ea eb =
        let dx : d ≡ x = (let z = ap nx p in let y = ch.0 in cc) in
        next-in nx x l v b d ch.1 k eb (λ m. clash (subst (λ y. mem y l ≡ true) dx m) nd.1.0)
        (λ r s. absurd (nv s))

module _ (nw : ℕ → Slot) (sg : ℕ → Seg) (nh : ℕ → Slot) (E : Expands nw sg nh) where
  -- the head of a node is no inner cell of a chain
  not_inner : (n m : ℕ) → Used nw n → Used nw m → mem (sg n).first (sg m).rest ≡ true → ⊥
  not_inner n m u w h =
      let e : n ≡ m = E.apart n m (sg n).first u w (mem_here (sg n).first (sg n).rest)
      (mem_there (sg n).first (sg m).first (sg m).rest h) in
      clash (subst (λ x. mem (sg n).first (sg x).rest ≡ true) (sym e) h) (E.nodup n u).0

  pub first_inj : (n m : ℕ) → Used nw n → Used nw m → (sg n).first ≡ (sg m).first → n ≡ m
  first_inj n m u w e = E.apart n m (sg n).first u w (mem_here (sg n).first (sg n).rest)
      (subst (λ x. mem x (cells (sg m)) ≡ true) (sym e) (mem_here (sg m).first (sg m).rest))

  img_cell : (v : Val) (n : ℕ) → Used nw n → Closed nw v → img sg v ≡ cell (sg n).first → v ≡ cell n
  img_cell null n u k e = cc
  img_cell undef n u k e = cc
  img_cell (cell m) n u k e = rw (first_inj m n k u (cc))

  img_inner : (v : Val) (n d : ℕ) → Used nw n → Closed nw v → mem d (sg n).rest ≡ true → img sg v ≡ cell d → ⊥
  img_inner null n d u k h e = let z : ◌≡◌ {A = ℕ} 0 1 = cc in omega arith
  img_inner undef n d u k h e = let z : ◌≡◌ {A = ℕ} 0 1 = cc in omega arith
  img_inner (cell m) n d u k h e = let p : d ≡ (sg m).first = cc in
      not_inner m n k u (subst (λ x. mem x (sg n).rest ≡ true) p h)

  head_pred : (n a : ℕ) → Used nw n → nh a ≡ holds (cell (sg n).first) → (m : ℕ) × (nw m ≡ holds (cell n))
      × (a ≡ last (sg m))
  head_pred n a u e =
      let r = E.cover a (cell (sg n).first) e in
      let m = r.0 in
      let v = r.1.0 in
      next-in nh (sg m).first (sg m).rest (img sg v) a (sg n).first (E.chain m v r.1.1) r.2 e
      (λ h. absurd (not_inner n m u r.1 h))
      (λ q p. (m, r.1.1 ∙ ap holds (img_cell v n u (E.closed m v r.1.1) p), q))

  two_head : (n : ℕ) → Used nw n → Two nh (sg n).first → Two nw n
  two_head n u t =
      let a = head_pred n t.0 u t.3 in
      let b = head_pred n t.1 u t.4 in
      (a.0, b.0, (λ e. t.2 (a.2 ∙ ap (λ x. last (sg x)) e ∙ sym b.2)), a.1, b.1)

  head_two : (n : ℕ) → Two nw n → Two nh (sg n).first
  head_two n t =
      let ends : (m : ℕ) → mem (last (sg m)) (cells (sg m)) ≡ true = λ m. mem_last (sg m).first (sg m).rest in (
        last (sg t.0),
        last (sg t.1),
        (λ e. t.2 (E.apart t.0 t.1 (last (sg t.0)) (cell n, t.3) (cell n, t.4) (ends t.0)
            (subst (λ x. mem x (cells (sg t.1)) ≡ true) (sym e) (ends t.1)))),
        chain_last nh (sg t.0).first (sg t.0).rest (cell (sg n).first) (E.chain t.0 (cell n) t.3),
        chain_last nh (sg t.1).first (sg t.1).rest (cell (sg n).first) (E.chain t.1 (cell n) t.4),
      )

  inner_pred : (n d a : ℕ) → Used nw n → mem d (sg n).rest ≡ true → nh a ≡ holds (cell d) → mem a (cells (sg n)) ≡ true
  inner_pred n d a u h e =
      let r = E.cover a (cell d) e in
      let m = r.0 in
      let v = r.1.0 in
      next-in nh (sg m).first (sg m).rest (img sg v) a d (E.chain m v r.1.1) r.2 e
      (λ k. subst (λ x. mem a (cells (sg x)) ≡ true)
      (E.apart m n d r.1 u (mem_there d (sg m).first (sg m).rest k) (mem_there d (sg n).first (sg n).rest h))
      r.2)
      (λ q p. absurd (img_inner v n d u (E.closed m v r.1.1) h p))

  inner_two : (n d : ℕ) → Used nw n → mem d (sg n).rest ≡ true → Two nh d → ⊥
  inner_two n d u h t =
      t.2 (one_in nh (sg n).first (sg n).rest (img sg u.0) t.0 t.1 d (E.chain n u.0 u.1)
      (E.nodup n u)
      (img_inner u.0 n d u (E.closed n u.0 u.1) h) (inner_pred n d t.0 u h t.3)
      (inner_pred n d t.1 u h t.4) t.3 t.4)

  pointed_head : (n : ℕ) (vs : List Val) → Used nw n → AllClosed nw vs → pointed (sg n).first (map (img sg) vs)
      ≡ pointed n vs
  pointed_head n [] u k = refl
  pointed_head n (null ∷ vs) u k = pointed_head n vs u k.1
  pointed_head n (undef ∷ vs) u k = pointed_head n vs u k.1
  pointed_head n (cell m ∷ vs) u k = ap₂ ◌||◌
      (bool_ext (eqb (sg n).first (sg m).first) (eqb n m)
      (λ e. eq-eqb n m (first_inj n m u k.0 (eqb-true (sg n).first (sg m).first e)))
      (λ e. eq-eqb (sg n).first (sg m).first (ap (λ x. (sg x).first) (eqb-true n m e))))
      (pointed_head n vs u k.1)

  pointed_inner : (n d : ℕ) (vs : List Val) → Used nw n → mem d (sg n).rest ≡ true → AllClosed nw vs
      → pointed d (map (img sg) vs) ≡ false
  pointed_inner n d [] u h k = refl
  pointed_inner n d (null ∷ vs) u h k = pointed_inner n d vs u h k.1
  pointed_inner n d (undef ∷ vs) u h k = pointed_inner n d vs u h k.1
  pointed_inner n d (cell m ∷ vs) u h k =
      rw (ne_eqb d (sg m).first (λ e. img_inner (cell m) n d u k.0 h (ap cell (sym e))))
      (pointed_inner n d vs u h k.1)

module _ (W : Heap) (sg : ℕ → Seg) (H : Heap) (X : Expansion W sg H) where
  pub core_head : (n : ℕ) → Used (next W) n → core H (sg n).first ≡ core W n
  core_head n u = rw X.ptrs (ap₂ ◌||◌ (pointed_head (next W) sg (next H) X.body n W.ptrs u X.closed)
      (bool_ext (leb 2 (holders (sg n).first H.slots)) (leb 2 (holders n W.slots))
      (λ e. let t = two_head (next W) sg (next H) X.body n u (two_of (sg n).first H.slots (leb-true 2 _ e)) in
      le-leb 2 _ (of_two n W.slots t.0 t.1 t.2 t.3 t.4))
      (λ e. let t = head_two (next W) sg (next H) X.body n (two_of n W.slots (leb-true 2 _ e)) in
      le-leb 2 _ (of_two (sg n).first H.slots t.0 t.1 t.2 t.3 t.4))))

  pub core_inner : (n d : ℕ) → Used (next W) n → mem d (sg n).rest ≡ true → core H d ≡ false
  core_inner n d u h = rw (X.ptrs, pointed_inner (next W) sg (next H) X.body n d W.ptrs u h X.closed)
      (not-true _ (λ e. inner_two (next W) sg (next H) X.body n d u h (two_of d H.slots (leb-true 2 _ e))))

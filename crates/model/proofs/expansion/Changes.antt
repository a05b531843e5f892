-- How an expansion changes with a free of a node of one cell and with the split of a longer one.
use Prim.Native.Nat.{ℕ}
use mathlib.Core.Path.{◌∙◌, ◌≡◌, ap, refl, subst, sym}
use mathlib.Core.Bool.{cond, false, true}
use mathlib.Core.List.{List, [], ◌∷◌}
use lib.Dec.{eqb}
use borrow.Author.Tests.{eq-eqb, eqb-false, ne_eqb}
use Rattle.model.specs.Base.{mem}
use Rattle.model.specs.Heap.{Slot, Val, cell, holds, null, undef, unused}
use Rattle.model.specs.Machine.{wipe, wipe_slot}
use Rattle.model.specs.Shape.{Seg, cells}
use Rattle.model.proofs.expansion.Cores.{first_inj}
use Rattle.model.specs.Notions.{NoDup, Chain, Expands, img, upd, Closed, Used, seg}
use Rattle.model.proofs.lists.Logic.{bool_case, clash, eq-case, mem-cases, mem_here, mem_one, mem_there}
use Rattle.model.proofs.expansion.Writes.{holds_inj, slot-clash, upd-at, upd-off}

-- a free of a node of one cell
abbrev pub freed : (ℕ → Slot) → ℕ → ℕ → Slot
freed nx c i = upd (λ j. wipe_slot c (nx j)) c unused i

chain_freed : (nx : ℕ → Slot) (h c : ℕ) (l : List ℕ) (v : Val) → Chain nx c l v
    → ((d : ℕ) → mem d (c ∷ l) ≡ true → eqb d h ≡ false)
    → Chain (freed nx h) c l (wipe h v)
chain_freed nx h c [] v ch k = rw (k c (mem_here c []), ch)
chain_freed nx h c (x ∷ l) v ch k = (
  rw (k c (mem_here c (x ∷ l)), ch.0, k x (mem_there x c (x ∷ l) (mem_here x l))),
  chain_freed nx h x l v ch.1
      (λ d m. k d (mem_there d c (x ∷ l) m)),
)

module _ (nw : ℕ → Slot) (sg : ℕ → Seg) (nh : ℕ → Slot) (E : Expands nw sg nh) (n h : ℕ) (single : sg n ≡ seg h [])
    (u : Used nw n) where
  f_back : (i : ℕ) → Used (freed nw n) i → (eqb i n ≡ false) × (v : Val) × (nw i ≡ holds v)
      × (freed nw n i ≡ holds (wipe n v))
  f_back i w = eq-case i n (λ e. slot-clash (upd-at (λ j. wipe_slot n (nw j)) n unused i e) w.1)
      (λ e. go e (nw i) refl)
    where
      go : eqb i n ≡ false → (s : Slot) → nw i ≡ s → (eqb i n ≡ false) × (v : Val) × (nw i ≡ holds v)
          × (freed nw n i ≡ holds (wipe n v))
      go e unused p = slot-clash (rw (e, p)) w.1
      go e (holds v) p = (e, v, p, rw (e, p))

  f_used : (i : ℕ) → Used (freed nw n) i → Used nw i
  f_used i w = let r = f_back i w in (r.1, r.2)

  f_fwd : (i : ℕ) → eqb i n ≡ false → Used nw i → Used (freed nw n) i
  f_fwd i e w = (wipe n w.0, rw (e, w.1))

  pub f_closed : (x : Val) → Closed nw x → Closed (freed nw n) (wipe n x)
  f_closed null q = tt
  f_closed undef q = tt
  f_closed (cell m) q = bool_case (eqb m n) (λ e. rw e tt) (λ e. rw e (f_fwd m e q))

  f_one : (sg n).first ≡ h
  f_one = rw single

  pub f_img : (x : Val) → Closed nw x → img sg (wipe n x) ≡ wipe h (img sg x)
  f_img null q = refl
  f_img undef q = refl
  f_img (cell m) q = eq-case m n (λ e. rw (eq-eqb m n e, eq-eqb (sg m).first h (ap (λ y. (sg y).first) e ∙ f_one)))
      (λ e. rw (e, ne_eqb (sg m).first h (λ p. eqb-false m n e (first_inj nw sg nh E m n q u (p ∙ sym f_one)))))

  f_sep : (i d : ℕ) → eqb i n ≡ false → Used nw i → mem d (cells (sg i)) ≡ true → eqb d h ≡ false
  f_sep i d e w m = ne_eqb d h (λ q. eqb-false i n e (E.apart i n d w u m (rw (single, q) (mem_here h []))))

  pub expands_free : Expands (freed nw n) sg (freed nh h)
  expands_free = record {
    closed = λ i x e. let r = f_back i (x, e) in subst (Closed (freed nw n)) (holds_inj (sym r.3 ∙ e))
        (f_closed r.1 (E.closed i r.1 r.2));
    chain = λ i x e. let r = f_back i (x, e) in
        subst (Chain (freed nh h) (sg i).first (sg i).rest) (sym (f_img r.1 (E.closed i r.1 r.2))
        ∙ ap (img sg) (holds_inj (sym r.3 ∙ e)))
        (chain_freed nh h (sg i).first (sg i).rest (img sg r.1) (E.chain i r.1 r.2)
        (λ d m. f_sep i d r.0 (r.1, r.2) m));
    cover = λ c x e. eq-case c h (λ p. slot-clash (upd-at (λ j. wipe_slot h (nh j)) h unused c p) e)
        (λ p. found c x e p (nh c) refl);
    apart = λ i j c a b. E.apart i j c (f_used i a) (f_used j b);
    nodup = λ i a. E.nodup i (f_used i a);
  }
    where
      found : (c : ℕ) (x : Val) → freed nh h c ≡ holds x → eqb c h ≡ false → (s : Slot) → nh c ≡ s
          → (i : ℕ) × Used (freed nw n) i × (mem c (cells (sg i)) ≡ true)
      found c x e p unused q = slot-clash (rw (p, q)) e
      found c x e p (holds y) q =
          let r = E.cover c y q in (
            r.0,
            f_fwd r.0 (ne_eqb r.0 n (λ w. clash
                (eq-eqb c h (mem_one c h (subst (λ s. mem c (cells s) ≡ true) (ap sg w ∙ single) r.2))) p))
                r.1,
            r.2,
          )

-- a node of two cells or more, split into its head and the rest
module _ (nw : ℕ → Slot) (sg : ℕ → Seg) (nh : ℕ → Slot) (E : Expands nw sg nh) (n k h t : ℕ) (ts : List ℕ)
    (longer : sg n ≡ seg h (t ∷ ts))
    (u : Used nw n) (fw : nw k ≡ unused) where
  abbrev pub split_next_lem : ℕ → Slot
  split_next_lem = upd (upd nw k (nw n)) n (holds (cell k))

  abbrev pub split_sg : ℕ → Seg
  split_sg = upd (upd sg k (seg t ts)) n (seg h [])

  k≢n : eqb k n ≡ false
  k≢n = ne_eqb k n (λ e. slot-clash (sym (ap nw e) ∙ fw) u.1)

  -- the node of the old heap that a node of the new one is part of
  abbrev own : ℕ → ℕ
  own i = cond (eqb i k) n i

  -- the three kinds of node
  cases {ℓ} : {C : Type ℓ} (i : ℕ) → (i ≡ n → C) → (i ≡ k → C) → (eqb i n ≡ false → eqb i k ≡ false → C) → C
  cases i f g r = eq-case i n f (λ p. eq-case i k g (r p))

  at_n : (i : ℕ) → i ≡ n → split_next_lem i ≡ holds (cell k)
  at_n i p = upd-at (upd nw k (nw n)) n (holds (cell k)) i p

  at_k : (i : ℕ) → i ≡ k → split_next_lem i ≡ nw n
  at_k i p = upd-off (upd nw k (nw n)) n (holds (cell k)) i (ap (λ x. eqb x n) p ∙ k≢n) ∙ upd-at nw k (nw n) i p

  off : (i : ℕ) → eqb i n ≡ false → eqb i k ≡ false → split_next_lem i ≡ nw i
  off i p q = upd-off (upd nw k (nw n)) n (holds (cell k)) i p ∙ upd-off nw k (nw n) i q

  sg_n : (i : ℕ) → i ≡ n → split_sg i ≡ seg h []
  sg_n i p = upd-at (upd sg k (seg t ts)) n (seg h []) i p

  sg_k : (i : ℕ) → i ≡ k → split_sg i ≡ seg t ts
  sg_k i p = upd-off (upd sg k (seg t ts)) n (seg h []) i (ap (λ x. eqb x n) p ∙ k≢n) ∙ upd-at sg k (seg t ts) i p

  sg_off : (i : ℕ) → eqb i n ≡ false → eqb i k ≡ false → split_sg i ≡ sg i
  sg_off i p q = upd-off (upd sg k (seg t ts)) n (seg h []) i p ∙ upd-off sg k (seg t ts) i q

  not_k : (i : ℕ) → Used nw i → eqb i k ≡ false
  not_k i w = ne_eqb i k (λ e. slot-clash (ap nw e ∙ fw) w.1)

  s_fwd : (i : ℕ) → Used nw i → Used split_next_lem i
  s_fwd i w = cases i (λ p. (cell k, at_n i p)) (λ p. (u.0, at_k i p ∙ u.1)) (λ p q. (w.0, off i p q ∙ w.1))

  pub s_closed : (x : Val) → Closed nw x → Closed split_next_lem x
  s_closed null q = tt
  s_closed undef q = tt
  s_closed (cell m) q = s_fwd m q

  pub s_img : (x : Val) → Closed nw x → img split_sg x ≡ img sg x
  s_img null q = refl
  s_img undef q = refl
  s_img (cell m) q = cases m (λ p. ap cell (ap first' (sg_n m p) ∙ sym (ap first' (ap sg p ∙ longer))))
      (λ p. clash (eq-eqb m k p) (not_k m q))
      (λ p r. ap (λ s. cell s.first) (sg_off m p r))
    where
      first' : Seg → ℕ
      first' s = s.first

  nd : NoDup (h ∷ t ∷ ts)
  nd = subst (λ s. NoDup (cells s)) longer (E.nodup n u)

  ch : Chain nh h (t ∷ ts) (img sg u.0)
  ch = subst (λ (s : Seg). Chain nh s.first s.rest (img sg u.0)) longer (E.chain n u.0 u.1)

  -- a cell of a new node is a cell of the old node that the new one is part of
  own_used : (i : ℕ) → Used split_next_lem i → Used nw (own i)
  own_used i w = cases i (λ p. rw (ap (λ x. eqb x k) p ∙ not_k n u, p) u) (λ p. rw (eq-eqb i k p) u)
      (λ p q. rw q (w.0, sym (off i p q) ∙ w.1))

  own_mem : (i c : ℕ) → mem c (cells (split_sg i)) ≡ true → mem c (cells (sg (own i))) ≡ true
  own_mem i c m = cases i
      (λ p. rw (ap (λ x. eqb x k) p ∙ not_k n u, p, longer)
      (subst (λ x. mem x (h ∷ t ∷ ts) ≡ true) (sym (mem_one c h (subst (λ s. mem c (cells s) ≡ true) (sg_n i p) m)))
      (mem_here h (t ∷ ts))))
      (λ p. rw (eq-eqb i k p, longer) (mem_there c h (t ∷ ts) (subst (λ s. mem c (cells s) ≡ true) (sg_k i p) m)))
      (λ p q. rw q (subst (λ s. mem c (cells s) ≡ true) (sg_off i p q) m))

  -- the head is not in the rest
  head_tail : (i j c : ℕ) → i ≡ n → j ≡ k → mem c (cells (split_sg i)) ≡ true → mem c (cells (split_sg j)) ≡ true → ⊥
  head_tail i j c p q a b = clash (subst (λ x. mem x (t ∷ ts) ≡ true)
      (mem_one c h (subst (λ s. mem c (cells s) ≡ true) (sg_n i p) a))
      (subst (λ s. mem c (cells s) ≡ true) (sg_k j q) b)) nd.0

  own_n : (i : ℕ) → i ≡ n → own i ≡ n
  own_n i p = rw (ap (λ x. eqb x k) p ∙ not_k n u) p

  own_k : (i : ℕ) → i ≡ k → own i ≡ n
  own_k i p = rw (eq-eqb i k p)

  own_off : (i : ℕ) → eqb i k ≡ false → own i ≡ i
  own_off i q = rw q

  pub expands_split : Expands split_next_lem split_sg nh
  expands_split = record {
    closed = λ i x e. cases i (λ p. subst (Closed split_next_lem) (holds_inj (sym (at_n i p) ∙ e)) (
      u.0,
      at_k k refl
          ∙ u.1,
    ))
        (λ p. s_closed x (E.closed n x (sym (at_k i p) ∙ e)))
        (λ p q. s_closed x (E.closed i x (sym (off i p q) ∙ e)));
    chain = λ i x e. cases i
        (λ p. let r : x ≡ cell k = holds_inj (sym e ∙ at_n i p) in
        subst (λ (s : Seg). Chain nh s.first s.rest (img split_sg x)) (sym (sg_n i p))
        (rw (r, sg_k k refl) ch.0))
        (λ p. let r : nw n ≡ holds x = sym (at_k i p) ∙ e in let y : u.0 ≡ x = holds_inj (sym u.1 ∙ r) in
        subst (λ (s : Seg). Chain nh s.first s.rest (img split_sg x)) (sym (sg_k i p))
        (rw (s_img x (E.closed n x r), ← y) ch.1))
        (λ p q. let r = sym (off i p q) ∙ e in
        subst (λ (s : Seg). Chain nh s.first s.rest (img split_sg x)) (sym (sg_off i p q))
        (rw (s_img x (E.closed i x r)) (E.chain i x r)));
    cover = λ c x e. let r = E.cover c x e in
        eq-case r.0 n
        (λ p. mem-cases c h (t ∷ ts) (subst (λ s. mem c (cells s) ≡ true) (ap sg p ∙ longer) r.2)
        (λ q. (n, (cell k, at_n n refl), rw (sg_n n refl, q) (mem_here h [])))
        (λ q. (k, (u.0, at_k k refl ∙ u.1), rw (sg_k k refl) q)))
        (λ p. (r.0, s_fwd r.0 r.1, rw (sg_off r.0 p (not_k r.0 r.1)) r.2));
    apart = λ i j c a b p q.
        let e : own i ≡ own j = E.apart (own i) (own j) c (own_used i a) (own_used j b) (own_mem i c p)
        (own_mem j c q) in
        cases i
        (λ pi. cases j (λ pj. pi ∙ sym pj) (λ pj. absurd (head_tail i j c pi pj p q))
        (λ nj kj. absurd (eqb-false j n nj (sym (own_off j kj) ∙ sym e ∙ own_n i pi))))
        (λ pi. cases j (λ pj. absurd (head_tail j i c pj pi q p)) (λ pj. pi ∙ sym pj)
        (λ nj kj. absurd (eqb-false j n nj (sym (own_off j kj) ∙ sym e ∙ own_k i pi))))
        (λ ni ki. cases j (λ pj. absurd (eqb-false i n ni (sym (own_off i ki) ∙ e ∙ own_n j pj)))
        (λ pj. absurd (eqb-false i n ni (sym (own_off i ki) ∙ e ∙ own_k j pj)))
        (λ nj kj. sym (own_off i ki) ∙ e ∙ own_off j kj));
    nodup = λ i a. cases i (λ p. rw (sg_n i p) (refl, tt)) (λ p. rw (sg_k i p) nd.1)
        (λ p q. rw (sg_off i p q) (E.nodup i (a.0, sym (off i p q) ∙ a.1)));
  }

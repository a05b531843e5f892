-- How an expansion changes with a write through a node of one cell and with a new cell; a function changed at one
-- place.
use Prim.Native.Nat.{ℕ}
use mathlib.Core.Path.{◌∙◌, ◌≡◌, ap, refl, subst, sym}
use mathlib.Core.Bool.{false, true}
use mathlib.Core.List.{List, [], ◌∷◌}
use native.Mathlib.Omega.{arith}
use lib.Dec.{eqb}
use borrow.Author.Tests.{eq-eqb, eqb-false, ne_eqb}
use Rattle.model.specs.Base.{mem}
use Rattle.model.specs.Heap.{Slot, Val, cell, holds, null, undef, unused}
use Rattle.model.specs.Shape.{Seg, cells}
use Rattle.model.proofs.expansion.Folds.{chain_used}
use Rattle.model.proofs.lists.Logic.{clash, eq-case, mem_here, mem_one, mem_there}
use Rattle.model.specs.Notions.{Chain, Expands, img, upd, Closed, Used, seg}

pub upd-at {ℓ} : {A : Type ℓ} (f : ℕ → A) (c : ℕ) (x : A) (i : ℕ) → i ≡ c → upd f c x i ≡ x
upd-at f c x i e = rw (eq-eqb i c e)

pub upd-off {ℓ} : {A : Type ℓ} (f : ℕ → A) (c : ℕ) (x : A) (i : ℕ) → eqb i c ≡ false → upd f c x i ≡ f i
upd-off f c x i e = rw e

pub chain_cong : (nx ny : ℕ → Slot) (c : ℕ) (l : List ℕ) (v : Val) → Chain nx c l v
    → ((d : ℕ) → mem d (c ∷ l) ≡ true → ny d ≡ nx d) → Chain ny c l v
chain_cong nx ny c [] v ch h = h c (mem_here c []) ∙ ch
chain_cong nx ny c (x ∷ l) v ch h = (
  h c (mem_here c (x ∷ l)) ∙ ch.0,
  chain_cong nx ny x l v ch.1
      (λ d k. h d (mem_there d c (x ∷ l) k)),
)

pub slot-clash {ℓ} : {C : Type ℓ} {s : Slot} {v : Val} → s ≡ unused → s ≡ holds v → C
slot-clash {s} {v} p q = absurd (let z : ◌≡◌ {A = ℕ} 0 1 = cc in omega arith)

pub cell_inj : {c d : ℕ} → cell c ≡ cell d → c ≡ d
cell_inj {c} {d} e = cc

pub holds_inj : {v w : Val} → holds v ≡ holds w → v ≡ w
holds_inj {v} {w} e = cc

-- a write through a node of one cell
module _ (nw : ℕ → Slot) (sg : ℕ → Seg) (nh : ℕ → Slot) (E : Expands nw sg nh) (n h : ℕ) (single : sg n ≡ seg h [])
    (u : Used nw n) (v : Val)
    (k : Closed nw v) where
  w_back : (i : ℕ) → Used (upd nw n (holds v)) i → Used nw i
  w_back i w = eq-case i n (λ e. subst (Used nw) (sym e) u) (λ e. (w.0, sym (upd-off nw n (holds v) i e) ∙ w.1))

  w_fwd : (i : ℕ) → Used nw i → Used (upd nw n (holds v)) i
  w_fwd i w = eq-case i n (λ e. (v, upd-at nw n (holds v) i e)) (λ e. (w.0, upd-off nw n (holds v) i e ∙ w.1))

  pub w_closed : (x : Val) → Closed nw x → Closed (upd nw n (holds v)) x
  w_closed null q = tt
  w_closed undef q = tt
  w_closed (cell m) q = w_fwd m q

  in_one : mem h (cells (sg n)) ≡ true
  in_one = rw single (mem_here h [])

  pub expands_write : Expands (upd nw n (holds v)) sg (upd nh h (holds (img sg v)))
  expands_write = record {
    closed = λ i x e. eq-case i n (λ p. w_closed x
        (subst (Closed nw) (holds_inj (sym (upd-at nw n (holds v) i p) ∙ e)) k))
        (λ p. w_closed x (E.closed i x (sym (upd-off nw n (holds v) i p) ∙ e)));
    chain = λ i x e. eq-case i n
        (λ p. let q : sg i ≡ seg h [] = ap sg p ∙ single in let r : x ≡ v =
        holds_inj (sym e ∙ upd-at nw n (holds v) i p) in
        rw (q, r) (upd-at nh h (holds (img sg v)) h refl))
        (λ p. let e' = sym (upd-off nw n (holds v) i p) ∙ e in
        chain_cong nh (upd nh h (holds (img sg v))) (sg i).first (sg i).rest (img sg x) (E.chain i x e')
        (λ d m. upd-off nh h (holds (img sg v)) d (ne_eqb d h
        (λ q. eqb-false i n p (E.apart i n d (x, e') u m (subst (λ y. mem y (cells (sg n)) ≡ true) (sym q)
        in_one))))));
    cover = λ c x e. eq-case c h (λ p. (n, w_fwd n u, subst (λ y. mem y (cells (sg n)) ≡ true) (sym p) in_one))
        (λ p. let r = E.cover c x (sym (upd-off nh h (holds (img sg v)) c p) ∙ e) in
        (r.0, w_fwd r.0 r.1, r.2));
    apart = λ i j c a b. E.apart i j c (w_back i a) (w_back j b);
    nodup = λ i a. E.nodup i (w_back i a);
  }

-- a new cell
module _ (nw : ℕ → Slot) (sg : ℕ → Seg) (nh : ℕ → Slot) (E : Expands nw sg nh) (n h : ℕ) (fw : nw n ≡ unused)
    (fh : nh h ≡ unused) where
  pub n_img : (x : Val) → Closed nw x → img (upd sg n (seg h [])) x ≡ img sg x
  n_img null q = refl
  n_img undef q = refl
  n_img (cell m) q = ap (λ s. cell s.first)
      (upd-off sg n (seg h []) m (ne_eqb m n (λ e. slot-clash (ap nw e ∙ fw) q.1)))

  n_fwd : (i : ℕ) → Used nw i → Used (upd nw n (holds undef)) i
  n_fwd i w = (w.0, upd-off nw n (holds undef) i (ne_eqb i n (λ e. slot-clash (ap nw e ∙ fw) w.1)) ∙ w.1)

  pub n_closed : (x : Val) → Closed nw x → Closed (upd nw n (holds undef)) x
  n_closed null q = tt
  n_closed undef q = tt
  n_closed (cell m) q = n_fwd m q

  n_used : (i d : ℕ) → Used nw i → mem d (cells (sg i)) ≡ true → Used nh d
  n_used i d w m = chain_used nh (sg i).first (sg i).rest (img sg w.0) d (E.chain i w.0 w.1) m

  n_sep : (i d : ℕ) → Used nw i → mem d (cells (sg i)) ≡ true → eqb d h ≡ false
  n_sep i d w m = ne_eqb d h (λ e. slot-clash (ap nh e ∙ fh) (n_used i d w m).1)

  n_old : (i : ℕ) → eqb i n ≡ false → Used (upd nw n (holds undef)) i → Used nw i
  n_old i p w = (w.0, sym (upd-off nw n (holds undef) i p) ∙ w.1)

  n_mem : (i d : ℕ) → eqb i n ≡ false → mem d (cells (upd sg n (seg h []) i)) ≡ true → mem d (cells (sg i)) ≡ true
  n_mem i d p m = rw (upd-off sg n (seg h []) i p) at m

  n_mem_at : (i d : ℕ) → i ≡ n → mem d (cells (upd sg n (seg h []) i)) ≡ true → d ≡ h
  n_mem_at i d p m = mem_one d h (subst (λ s. mem d (cells s) ≡ true) (upd-at sg n (seg h []) i p) m)

  pub expands_new : Expands (upd nw n (holds undef)) (upd sg n (seg h [])) (upd nh h (holds undef))
  expands_new = record {
    closed = λ i x e. eq-case i n (λ p. subst (Closed (upd nw n (holds undef)))
        (holds_inj (sym (upd-at nw n (holds undef) i p) ∙ e)) tt)
        (λ p. n_closed x (E.closed i x (sym (upd-off nw n (holds undef) i p) ∙ e)));
    chain = λ i x e. eq-case i n
        (λ p. let r : x ≡ undef = holds_inj (sym e ∙ upd-at nw n (holds undef) i p) in
        rw (upd-at sg n (seg h []) i p, r) (upd-at nh h (holds undef) h refl))
        (λ p. let e' = sym (upd-off nw n (holds undef) i p) ∙ e in
        rw (upd-off sg n (seg h []) i p, n_img x (E.closed i x e'))
        (chain_cong nh (upd nh h (holds undef)) (sg i).first (sg i).rest (img sg x) (E.chain i x e')
        (λ d m. upd-off nh h (holds undef) d (n_sep i d (x, e') m))));
    cover = λ c x e. eq-case c h
        (λ p. (n, (undef, upd-at nw n (holds undef) n refl), rw (upd-at sg n (seg h []) n refl, p) (mem_here h [])))
        (λ p. let r = E.cover c x (sym (upd-off nh h (holds undef) c p) ∙ e) in (
          r.0,
          n_fwd r.0 r.1,
          rw (upd-off sg n (seg h []) r.0
              (ne_eqb r.0 n (λ q. slot-clash (ap nw q ∙ fw) r.1.1))) r.2,
        ));
    apart = λ i j c a b p q. eq-case i n
        (λ ei. eq-case j n (λ ej. ei ∙ sym ej)
        (λ nj. clash (eq-eqb c h (n_mem_at i c ei p)) (n_sep j c (n_old j nj b) (n_mem j c nj q))))
        (λ ni. eq-case j n (λ ej. clash (eq-eqb c h (n_mem_at j c ej q)) (n_sep i c (n_old i ni a) (n_mem i c ni p)))
        (λ nj. E.apart i j c (n_old i ni a) (n_old j nj b) (n_mem i c ni p) (n_mem j c nj q)));
    nodup = λ i a. eq-case i n (λ p. rw (upd-at sg n (seg h []) i p) (refl, tt))
        (λ p. rw (upd-off sg n (seg h []) i p) (E.nodup i (n_old i p a)));
  }

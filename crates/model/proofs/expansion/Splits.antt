-- A node split into its head and the tail: what each cell then holds, and that the tail stays in use through an action.
use Prim.Native.Nat.{ℕ}
use mathlib.Core.Path.{◌≡◌, refl, sym, ap, ap₂, subst, ◌∙◌}
use mathlib.Core.Logic.{◌⊎◌}
use mathlib.Core.Bool.{cond, false}
use native.Mathlib.Omega.{arith}
use lib.Dec.{eqb}
use borrow.Author.Tests.{eqb-false, ne_eqb}
use Rattle.model.specs.Heap.{Heap, Slot, Val, cell, holds, kept, next, null, ptr, undef}
use Rattle.model.specs.Machine.{Action, Effect, Kind, action_of, acts, carry_out, collects, drops, halts, kind, picks, tests, done, fault, keep, put_slot, wipe, perform, Op, point, action, follow, link, value_of, make, release, compare, held, splice, stay}
use Rattle.model.specs.Edges.{no_node, split_heap, two_nodes, view, view_pair, view_val}
use Rattle.model.specs.Notions.{AllClosed, Closed, ClosedHeap, Used, Views, upd}
use Rattle.model.proofs.expansion.Effects.{next_free, next_put}
use Rattle.model.proofs.expansion.Writes.{holds_inj, upd-at, upd-off}
use Rattle.model.proofs.lists.Logic.{bool_case, eq-case}
use Rattle.model.proofs.visits.Walks.{closed_up}

abbrev pub split_next : (ℕ → Slot) → ℕ → ℕ → ℕ → Slot
split_next nx n k = upd (upd nx k (nx n)) n (holds (cell k))

pub next_split : (n k : ℕ) (h : Heap) → next (split_heap n k h) ≡ split_next (next h) n k
next_split n k h = next_put (put_slot k (next h n) h) n (holds (cell k))
    ∙ ap (λ f. upd f n (holds (cell k))) (next_put h k (next h n))

module _ (nx : ℕ → Slot) (n k : ℕ) (u : Used nx n) where
  pub tail_in : Used (split_next nx n k) k
  tail_in = eq-case k n (λ e. (cell k, upd-at (upd nx k (nx n)) n (holds (cell k)) k e))
      (λ e. (u.0, upd-off (upd nx k (nx n)) n (holds (cell k)) k e ∙ upd-at nx k (nx n) k refl ∙ u.1))

  pub still_used : (i : ℕ) → Used nx i → Used (split_next nx n k) i
  still_used i w = eq-case i n (λ e. (cell k, upd-at (upd nx k (nx n)) n (holds (cell k)) i e))
      (λ e. eq-case i k (λ f. subst (Used (split_next nx n k)) (sym f) tail_in)
      (λ f. (w.0, upd-off (upd nx k (nx n)) n (holds (cell k)) i e ∙ upd-off nx k (nx n) i f ∙ w.1)))

  still_closed : (x : Val) → Closed nx x → Closed (split_next nx n k) x
  still_closed (cell c) q = still_used c q
  still_closed null q = tt
  still_closed undef q = tt

  slots_closed : ((i : ℕ) (v : Val) → nx i ≡ holds v → Closed nx v) → (i : ℕ) (v : Val) → split_next nx n k i ≡ holds v
      → Closed (split_next nx n k) v
  slots_closed c i v q =
      eq-case i n
      (λ e. subst (Closed (split_next nx n k)) (holds_inj (sym (upd-at (upd nx k (nx n)) n (holds (cell k)) i e) ∙ q))
      tail_in)
      (λ e. let a = sym (upd-off (upd nx k (nx n)) n (holds (cell k)) i e) ∙ q in
      eq-case i k (λ f. still_closed v (c n v (sym (upd-at nx k (nx n) i f) ∙ a)))
      (λ f. still_closed v (c i v (sym (upd-off nx k (nx n) i f) ∙ a))))

pub split_closed : (n k : ℕ) (h : Heap) → Used (next h) n → ClosedHeap h → ClosedHeap (split_heap n k h)
split_closed n k h u c =
    subst (λ nx. AllClosed nx h.ptrs × ((i : ℕ) (v : Val) → nx i ≡ holds v → Closed nx v)) (sym (next_split n k h)) (
      closed_up (next h) (split_next (next h) n k) h.ptrs (still_closed (next h) n k u) c.0,
      slots_closed (next h)
          n k u c.1,
    )

-- ---- the tail

pub put_used : (h : Heap) (n k : ℕ) (v : Val) → Used (next h) k → Used (next (put_slot n (holds v) h)) k
put_used h n k v u = subst (λ nx. Used nx k) (sym (next_put h n (holds v)))
    (eq-case k n (λ e. (v, upd-at (next h) n (holds v) k e)) (λ e. (u.0, upd-off (next h) n (holds v) k e ∙ u.1)))

-- where the effect is done, cell k is in use
abbrev InUse : ℕ → Effect → Type 0
InUse k (done g) = Used (next g) k
InUse k (fault f) = Unit {0}

-- what a value that is looked at holds
pub view_is : (v : Val) (n : ℕ) → Views (view_val v) n → v ≡ cell n
view_is (cell m) n e = ap cell (sym e)
view_is null n e = absurd e
view_is undef n e = absurd e

-- two values that are looked at hold two different cells
pub record IsPair (v w : Val) (i : ℕ) : Type 0 where
  pub first : ℕ
  pub second : ℕ
  pub first_is : v ≡ cell first
  pub second_is : w ≡ cell second
  pub apart : first ≡ second → ⊥
  pub either : (i ≡ first) ⊎ (i ≡ second)

pub pair_is : (v w : Val) (i : ℕ) → Views (view_pair v w) i → IsPair v w i
pair_is (cell n) (cell m) i e =
    bool_case (eqb n m) (λ q. absurd (rw q at e))
    (λ q. record {
      first = n;
      second = m;
      first_is = refl;
      second_is = refl;
      apart = eqb-false n m q;
      either = rw q at e;
    })
pair_is (cell n) null i e = absurd e
pair_is (cell n) undef i e = absurd e
pair_is null w i e = absurd e
pair_is undef w i e = absurd e

-- none is looked at where the second is no node
pub pair_none : (v w : Val) → view_val w ≡ no_node → view_pair v w ≡ no_node
pair_none (cell n) (cell m) e = absurd (let z : ◌≡◌ {A = ℕ} 0 1 = cc in omega arith)
pair_none (cell n) null e = refl
pair_none (cell n) undef e = refl
pair_none null w e = refl
pair_none undef w e = refl

pub pair_view : {v w : Val} {i : ℕ} (p : IsPair v w i) → view_pair v w ≡ two_nodes p.first p.second
pair_view p =
    ap₂ view_pair p.first_is p.second_is
    ∙ ap (λ b. cond b no_node (two_nodes p.first p.second)) (ne_eqb p.first p.second p.apart)

-- where both are cells, the effect is done
pub splice_does : (i j x a b : ℕ) (h : Heap) → ptr h i ≡ cell a → ptr h j ≡ cell b
    → perform (splice i j) x h ≡ done (put_slot a (holds (held (next h b))) h)
splice_does i j x a b h p q = rw (q, p)

-- a cell in use stays so unless it is freed
effect_used : (a : Action) (x n k : ℕ) (h : Heap) → Views (view a h) n → eqb k n ≡ false → Used (next h) k
    → InUse k (perform a x h)
effect_used stay x n k h a d u = absurd a
effect_used (compare i s) x n k h a d u = absurd a
effect_used (point i s) x n k h a d u = absurd a
effect_used (follow i j) x n k h a d u = rw (view_is (ptr h j) n a) u
effect_used (link i s) x n k h a d u = rw (view_is (ptr h i) n a) (put_used h n k (value_of s h) u)
effect_used (splice i j) x n k h a d u =
    let p = pair_is (ptr h i) (ptr h j) n a in
    subst (InUse k) (sym (splice_does i j x p.first p.second h p.first_is p.second_is))
    (put_used h p.first k (held (next h p.second)) u)
effect_used (make i) x n k h a d u = absurd a
effect_used (release i) x n k h a d u =
    rw (view_is (ptr h i) n a) (subst (λ nx. Used nx k) (sym (next_free h n)) (wipe n u.0, rw (d, u.1)))

keep_used : (k : ℕ) (e : Effect) → InUse k e → InUse k (keep e)
keep_used k (fault f) u = tt
keep_used k (done g) u = bool_case (kept g) (λ q. rw q u) (λ q. rw q tt)

-- a statement that looks at a node acts, and has no other say
pub view_acts : (k : Kind) (h : Heap) (n : ℕ) → Views (view (action_of k) h) n → (a : Action) × (k ≡ acts a)
view_acts halts h n e = absurd e
view_acts (acts a) h n e = (a, refl)
view_acts (drops u) h n e = absurd e
view_acts (tests u s) h n e = absurd e
view_acts picks h n e = absurd e

-- so it collects nothing
pub view_collects : (k : Kind) (h : Heap) (n : ℕ) → Views (view (action_of k) h) n → collects k ≡ false
view_collects k h n e = ap collects (view_acts k h n e).1

pub tail_used : (op : Op) (x n k : ℕ) (h g : Heap) → Views (view (action op) (split_heap n k h)) n → eqb k n ≡ false
    → Used (next h) n
    → carry_out op x (split_heap n k h) ≡ done g → Used (next g) k
tail_used op x n k h g a d u e =
    subst (InUse k) e
    (rw (view_collects (kind op) (split_heap n k h) n a) (keep_used k (perform (action op) x (split_heap n k h))
    (effect_used (action op) x n k (split_heap n k h) a d (subst (λ nx. Used nx k) (sym (next_split n k h))
    (tail_in (next h) n k u)))))

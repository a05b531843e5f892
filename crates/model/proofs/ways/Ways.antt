-- The ways out of a location: which of them a heap takes, and that the way's heap then stands for that heap, cell by
-- cell, with its weights.
use Prim.Native.Nat.{◌<◌, ◌≤◌, suc, ℕ}
use mathlib.Core.Path.{◌∙◌, ◌≡◌, ap, refl, subst, sym}
use mathlib.Core.Bool.{cond, false, true}
use mathlib.Core.List.{List, [], ◌∷◌}
use native.Mathlib.Omega.{arith}
use lib.Dec.{eqb}
use lib.ListN.{get_or-eq_default, get_or-map, get_or, length, length-map}
use borrow.Author.Tests.{eqb-false, eqb-true, ne_eqb}
use Rattle.model.specs.Edges.{Guard, Way, Weight, adds_counter, counter, is_one_cell, is_less, one, less, split, split_heap, whole, view}
use Rattle.model.specs.Heap.{Heap, next, unused}
use Rattle.model.specs.Machine.{Action, makes}
use Rattle.model.specs.Shape.{Seg, counters, last, node_slot, segments, shape, size}
use Rattle.model.proofs.expansion.Effects.{exp_split}
use Rattle.model.specs.Notions.{Kept, Expansion, Room, seg_at, sg_after, upd, ClosedHeap, Used, Views, seg, Alone}
use Rattle.model.proofs.lists.Logic.{bool_case, clash, eq-case, eqb_same}
use Rattle.model.proofs.visits.Order.{used_below}
use Rattle.model.proofs.ways.Sizes.{split_short}
use Rattle.model.proofs.expansion.Start.{start}
use Rattle.model.proofs.ways.Weights.{Fair, weigh}
use Rattle.model.proofs.expansion.Writes.{upd-at, upd-off}
use Rattle.model.proofs.ways.Picks.{room_of}
use Rattle.model.proofs.ways.Views.{view_looks, view_split, view_used}

-- A way fits a heap: the heap expands the way's, each node that is read, written or freed is one cell, and the weights
-- are the chains' sizes. k is the number of nodes and the cell for new on the shape, c the cell for new on the heap.
pub record Fits (a : Action) (k c : ℕ) (y : Way) (H : Heap) (cs : List ℕ) : Type 0 where
  pub sg : ℕ → Seg
  pub expansion : Expansion y.heap sg H
  pub alone : Alone (view a y.heap) sg
  pub room : Room a y.heap k
  pub weighs : (i : ℕ) → size (sg_after a k c sg i) ≡ weigh cs (y.weight i)
  pub short : length y.heap.slots ≤ suc k
  pub fair : Fair k cs y.weight

-- ---- weights

same_weigh : (k : ℕ) (sg : ℕ → Seg) (f : ℕ → ℕ) → ((i : ℕ) → eqb i k ≡ false → size (sg i) ≡ f i) → size (sg k) ≡ 1
    → f k ≡ 1
    → (i : ℕ) → size (sg i) ≡ f i
same_weigh k sg f h z e i = eq-case i k (λ p. ap (λ x. size (sg x)) p ∙ z ∙ sym e ∙ ap f (sym p)) (h i)

weigh_of : (a : Action) (k c : ℕ) (sg : ℕ → Seg) (f : ℕ → ℕ) → ((i : ℕ) → eqb i k ≡ false → size (sg i) ≡ f i)
    → size (sg k) ≡ 1 → f k ≡ 1 → (i : ℕ) → size (sg_after a k c sg i) ≡ f i
weigh_of a k c sg f h z e i = bool_case (makes a)
    (λ m. rw m (eq-case i k (λ p. ap size (upd-at sg k (seg c []) i p) ∙ sym e ∙ ap f (sym p))
    (λ p. ap size (upd-off sg k (seg c []) i p) ∙ h i p)))
    (λ m. rw m (same_weigh k sg f h z e i))

-- the weights of the two kinds of way
module _ (k : ℕ) (cs : List ℕ) where
  abbrev whole_weight : ℕ → Weight
  whole_weight c = cond (eqb c k) one (counter c)

  pub whole_adds : (i c : ℕ) → adds_counter i (whole_weight c) ≡ true → (c ≡ i) × (eqb c k ≡ false)
  whole_adds i c h = bool_case (eqb c k) (λ e. clash (rw e at h) refl) (λ e. (sym (eqb-true i c (rw e at h)), e))

  pub whole_rest : (c : ℕ) → is_less (whole_weight c) ≡ true → ⊥
  whole_rest c h = bool_case (eqb c k) (λ e. clash (rw e at h) refl) (λ e. clash (rw e at h) refl)

  pub whole_one : (c : ℕ) → is_one_cell (whole_weight c) ≡ true → c ≡ k
  whole_one c h = bool_case (eqb c k) (λ e. eqb-true c k e) (λ e. clash (rw e at h) refl)

  pub whole_fair : Fair k cs whole_weight
  whole_fair = record {
    owned = λ i c d p q. (whole_adds i c p).0 ∙ sym (whole_adds i d q).0;
    single = λ c d p q. absurd (whole_rest c p);
    lone = λ c d p q. whole_one c p ∙ sym (whole_one d q);
    known = λ i c h p. let r = whole_adds i c p in let ne = eqb-false c k r.1 in let e = r.0 in omega arith;
    positive = λ c n e. absurd (whole_rest c (rw e));
  }

  module _ (n : ℕ) (lt : n < k) (pos : 1 ≤ get_or cs n 1) where
    abbrev split_weight : ℕ → Weight
    split_weight c = cond (eqb c n) one (cond (eqb c k) (less n) (counter c))

    split_adds : (i c : ℕ) → adds_counter i (split_weight c) ≡ true → (c ≡ cond (eqb i n) k i) × (c < suc k → i < k)
    split_adds i c h = bool_case (eqb c n) (λ e. clash (rw e at h) refl) (λ e. bool_case (eqb c k)
        (λ f. let p = eqb-true i n (rw (e, f) at h) in (rw (p, eqb_same n) (eqb-true c k f), λ z. omega arith))
        (λ f. let p = eqb-true i c (rw (e, f) at h) in let ne = eqb-false c k f in
        (rw (ap (λ x. eqb x n) p ∙ e) (sym p), λ z. omega arith)))

    split_rest : (c m : ℕ) → split_weight c ≡ less m → (c ≡ k) × (n ≡ m)
    split_rest c m h = bool_case (eqb c n)
        (λ e. let z : one ≡ less m = rw e at h in absurd (let y : ◌≡◌ {A = ℕ} 0 1 = cc in omega arith))
        (λ e. bool_case (eqb c k) (λ f. let z : less n ≡ less m = rw (e, f) at h in (eqb-true c k f, (cc)))
        (λ f. let z : counter c ≡ less m = rw (e, f) at h in absurd (let y : ◌≡◌ {A = ℕ} 0 1 = cc in omega arith)))

    rest_is : (x : Weight) → is_less x ≡ true → (m : ℕ) × (x ≡ less m)
    rest_is (counter m) h = clash h refl
    rest_is one h = clash h refl
    rest_is (less m) h = (m, refl)

    split_single : (c : ℕ) → is_less (split_weight c) ≡ true → c ≡ k
    split_single c h = let r = rest_is (split_weight c) h in (split_rest c r.0 r.1).0

    split_one : (c : ℕ) → is_one_cell (split_weight c) ≡ true → c ≡ n
    split_one c h = bool_case (eqb c n) (λ e. eqb-true c n e)
        (λ e. bool_case (eqb c k) (λ f. clash (rw (e, f) at h) refl) (λ f. clash (rw (e, f) at h) refl))

    pub split_fair : Fair k cs split_weight
    split_fair = record {
      owned = λ i c d p q. (split_adds i c p).0 ∙ sym (split_adds i d q).0;
      single = λ c d p q. split_single c p ∙ sym (split_single d q);
      lone = λ c d p q. split_one c p ∙ sym (split_one d q);
      known = λ i c h p. (split_adds i c p).1 h;
      positive = λ c m e. subst (λ x. 1 ≤ get_or cs x 1) (split_rest c m e).1 pos;
    }

module _ (H : Heap) (cl : ClosedHeap H) (kp : Kept H) where
  pub size_at : (i : ℕ) → size (seg_at (segments H) i) ≡ get_or (counters H) i 1
  size_at i = sym (get_or-map size (segments H) i (seg 0 []))

  past_end : next (shape H) (length (shape H).slots) ≡ unused
  past_end = get_or-eq_default (shape H).slots unused (omega arith)

  pub count_length : length (counters H) ≡ length (shape H).slots
  count_length = length-map (segments H) size ∙ sym
      (length-map (segments H) (λ (s : Seg). node_slot (segments H) (next H (last s))))

  past_size : size (seg_at (segments H) (length (shape H).slots)) ≡ 1
  past_size = size_at (length (shape H).slots) ∙ get_or-eq_default (counters H) 1 (omega (arith, count_length))

  -- ---- the ways that fit: nothing split, and a node split

  abbrev nodes : ℕ
  nodes = length (shape H).slots

  pub whole_fits : (a : Action) (c p : ℕ) (gs : List Guard) → Alone (view a (shape H)) (seg_at (segments H))
      → Fits a nodes c (whole gs p (shape H)) H (counters H)
  whole_fits a c p gs o = record {
    sg = seg_at (segments H);
    expansion = start H cl kp;
    alone = o;
    room = room_of a (shape H) nodes past_end;
    weighs = weigh_of a nodes c (seg_at (segments H)) (λ i. weigh (counters H) (cond (eqb i nodes) one (counter i)))
        (λ i e. rw e (size_at i)) past_size (rw (eqb_same nodes));
    short = omega arith;
    fair = whole_fair nodes (counters H);
  }

  no_rest : (l : List ℕ) → suc (length l) ≡ 1 → l ≡ []
  no_rest [] e = refl
  no_rest (x ∷ l) e = absurd (omega arith)

  -- a node whose counter is 1 is one cell
  pub one_alone : (n : ℕ) → get_or (counters H) n 1 ≡ 1 → (seg_at (segments H) n).rest ≡ []
  one_alone n e = no_rest (seg_at (segments H) n).rest (size_at n ∙ e)

  pub view_node : (a : Action) (n : ℕ) → Views (view a (shape H)) n → Used (next (shape H)) n
  view_node a n e = view_used a (shape H) (start H cl kp).closed n e

  -- every other node that is looked at is one cell
  pub split_fits : (a : Action) (c n : ℕ) (gs : List Guard) → Views (view a (shape H)) n → 2 ≤ get_or (counters H) n 1
      → ((i : ℕ) → Views (view a (shape H)) i → eqb i n ≡ false → get_or (counters H) i 1 ≡ 1)
      → Fits a nodes c (split gs n (shape H)) H (counters H)
  split_fits a c n gs v e others = by_rest (seg_at (segments H) n).rest refl
    where
      by_rest : (l : List ℕ) → (seg_at (segments H) n).rest ≡ l → Fits a nodes c (split gs n (shape H)) H (counters H)
      by_rest [] q = absurd (omega (arith, size_at n, ap length q))
      by_rest (t ∷ ts) q =
          let h = (seg_at (segments H) n).first in
          let sn : seg_at (segments H) n ≡ seg h (t ∷ ts) = λ i. record { first = h; rest = q i } in
          let u = view_node a n v in
          let lt : n < nodes = used_below (shape H).slots n u in
          let tail = upd (seg_at (segments H)) nodes (seg t ts) in
          let sg' = upd tail n (seg h []) in
          let L = view_looks a (shape H) n v in
          record {
            sg = sg';
            expansion = exp_split (shape H) (seg_at (segments H)) H (start H cl kp) n nodes h t ts sn u past_end;
            alone = λ i q. eq-case i n (λ x. ap (λ (s : Seg). s.rest) (upd-at tail n (seg h []) i x))
                (λ x. let q' = subst (λ y. Views y i) (view_split a n nodes (shape H)) q in
                let below = used_below (shape H).slots i (view_node a i q') in
                ap (λ (s : Seg). s.rest) (upd-off tail n (seg h []) i x
                ∙ upd-off (seg_at (segments H)) nodes (seg t ts) i (ne_eqb i nodes (λ z. omega arith)))
                ∙ one_alone i (others i q' x));
            room = L.roomy (split_heap n nodes (shape H)) nodes;
            weighs = λ i. ap (λ f. size (f i)) (L.chains nodes c sg') ∙ weigh_split i h t ts q;
            short = split_short n (shape H) lt;
            fair = split_fair nodes (counters H) n lt (omega arith);
          }
        where
          weigh_split : (i h t : ℕ) (ts : List ℕ) → (seg_at (segments H) n).rest ≡ t ∷ ts
              → size (upd (upd (seg_at (segments H)) nodes (seg t ts)) n (seg h []) i)
              ≡ weigh (counters H) (cond (eqb i n) one (cond (eqb i nodes) (less n) (counter i)))
          weigh_split i h t ts q =
              bool_case (eqb i n) (λ x. rw x) (λ x. rw x (bool_case (eqb i nodes)
              (λ y. rw y (omega (arith, size_at n, ap length q))) (λ y. rw y (size_at i))))

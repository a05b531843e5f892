-- Collection: it keeps exactly the visited cells, with what they hold; the visit stays; a heap that keeps its cells
-- stays; and it carries over from a heap to its expansion.
use Prim.Native.Nat.{◌+◌, suc, zero, ℕ}
use mathlib.Core.Path.{◌∙◌, ◌≡◌, ap, ap₂, refl, subst, sym}
use mathlib.Core.Bool.{Bool, cond, false, true}
use mathlib.Core.List.{List, [], ◌∷◌}
use native.Mathlib.Nat.{zero-add}
use native.Mathlib.Omega.{arith}
use lib.ListN.{get_or, length}
use Rattle.model.specs.Base.{mem}
use Rattle.model.specs.Heap.{Heap, Slot, Val, cell, each_used, holds, kept, next, null, order, undef, unused}
use Rattle.model.specs.Machine.{Effect, Fault, collect, done, fault, keep_slots, leak, settle}
use Rattle.model.specs.Notions.{Closed, ClosedHeap, Expansion, In, Kept, Reaches, Used, along, from_pointer}
use Rattle.model.specs.Shape.{Seg, cells}
use Rattle.model.proofs.expansion.Expand.{mem_cat, mem_of_cat}
use Rattle.model.proofs.expansion.Facts.{kept_test}
use Rattle.model.proofs.expansion.Folds.{order_cat}
use Rattle.model.proofs.expansion.Reach.{order_reaches, order_same, reaches_order}
use Rattle.model.proofs.expansion.Writes.{chain_cong, slot-clash}
use Rattle.model.proofs.lists.Logic.{and_l, and_r, bool_case}
use Rattle.model.proofs.visits.Order.{toured}
use Rattle.model.proofs.visits.Walks.{in_closed}

-- ---- the slots

slots_length : (p : ℕ → Bool) (i : ℕ) (ss : List Slot) → length (keep_slots p i ss) ≡ length ss
slots_length p i [] = refl
slots_length p i (s ∷ ss) = ap suc (slots_length p (suc i) ss)

slot_kept : (p : ℕ → Bool) (i : ℕ) (ss : List Slot) (c : ℕ)
    → get_or (keep_slots p i ss) c unused ≡ cond (p (i + c)) (get_or ss c unused) unused
slot_kept p i [] c = bool_case (p (i + c)) (λ e. rw e) (λ e. rw e)
slot_kept p i (s ∷ ss) zero = let e : i ≡ i + 0 = omega arith in ap (λ x. cond (p x) s unused) e
slot_kept p i (s ∷ ss) (suc c) =
    slot_kept p (suc i) ss c ∙ ap (λ x. cond (p x) (get_or ss c unused) unused) (omega arith)

-- slots whose cells in use all pass stay
slots_same : (p : ℕ → Bool) (i : ℕ) (ss : List Slot) → each_used p i ss ≡ true → keep_slots p i ss ≡ ss
slots_same p i [] h = refl
slots_same p i (unused ∷ ss) h =
    ap₂ ◌∷◌ (bool_case (p i) (λ e. rw e) (λ e. rw e)) (slots_same p (suc i) ss h)
slots_same p i (holds v ∷ ss) h =
    ap₂ ◌∷◌ (rw (and_l (p i) (each_used p (suc i) ss) h))
    (slots_same p (suc i) ss (and_r (p i) (each_used p (suc i) ss) h))

-- ---- what collection keeps

pub collect_slots : (h : Heap) → length (collect h).slots ≡ length h.slots
collect_slots h = slots_length _ 0 h.slots

next_collect : (h : Heap) (c : ℕ) → next (collect h) c ≡ cond (mem c (order h)) (next h c) unused
next_collect h c =
    slot_kept (λ x. mem x (order h)) 0 h.slots c ∙ ap (λ x. cond (mem x (order h)) (next h c) unused) (zero-add c)

-- a visited cell stays as it is, and any other is not in use
pub visited_stays : (h : Heap) (c : ℕ) → mem c (order h) ≡ true → next (collect h) c ≡ next h c
visited_stays h c m = next_collect h c ∙ rw m

pub lost_goes : (h : Heap) (c : ℕ) → mem c (order h) ≡ false → next (collect h) c ≡ unused
lost_goes h c m = next_collect h c ∙ rw m

-- so a cell in use afterwards was visited, and holds what it held
pub collect_back : (h : Heap) (c : ℕ) (v : Val) → next (collect h) c ≡ holds v → (mem c (order h) ≡ true)
    × (next h c ≡ holds v)
collect_back h c v e =
    bool_case (mem c (order h)) (λ m. (m, sym (visited_stays h c m) ∙ e)) (λ m. slot-clash (lost_goes h c m) e)

-- a heap that keeps its cells stays
pub collect_same : (h : Heap) → Kept h → collect h ≡ h
collect_same h k =
    ap (λ ss. record { ptrs = h.ptrs; slots = ss }) (slots_same (λ c. mem c (order h)) 0 h.slots (kept_test h k))

module _ (h : Heap) (cl : ClosedHeap h) where
  pub order_collect : order (collect h) ≡ order h
  order_collect =
      order_same h (collect h) cl refl (collect_slots h)
      (λ c r. visited_stays h c (reaches_order h cl c r))

  -- what is reachable is in use afterwards
  reached_used : (c : ℕ) → Reaches h c → Used (next (collect h)) c
  reached_used c r =
      let m = reaches_order h cl c r in
      let u = (toured h cl).used c m in
      (u.0, visited_stays h c m ∙ u.1)

  val_closed : (v : Val) → ((c : ℕ) → v ≡ cell c → Reaches h c) → Closed (next (collect h)) v
  val_closed null k = tt
  val_closed undef k = tt
  val_closed (cell c) k = reached_used c (k c refl)

  pub collect_closed : ClosedHeap (collect h)
  collect_closed = (
    in_closed (next (collect h)) h.ptrs
        (λ v i. val_closed v (λ c e. from_pointer (subst (λ x. In x h.ptrs) e i))),
    λ n v e. let b = collect_back h n v e in
        val_closed v (λ c q. along (order_reaches h cl n b.0) (b.1 ∙ ap holds q)),
  )

  -- and a heap after it keeps all its cells
  pub collect_kept : Kept (collect h)
  collect_kept c u = rw order_collect (collect_back h c u.0 u.1).0

  -- collecting twice is collecting once
  pub collect_twice : collect (collect h) ≡ collect h
  collect_twice = collect_same (collect h) collect_kept

-- ---- a heap and its expansion

module _ (W : Heap) (sg : ℕ → Seg) (H : Heap) (X : Expansion W sg H) where
  small : ClosedHeap W
  small = (X.closed, X.body.closed)

  -- the chain of a visited cell is visited
  chain_visited : (n c : ℕ) → mem n (order W) ≡ true → mem c (cells (sg n)) ≡ true → mem c (order H) ≡ true
  chain_visited n c m k = rw (order_cat W sg H X) (mem_cat sg c n (order W) m k)

  was_used : (n : ℕ) → Used (next (collect W)) n → Used (next W) n
  was_used n u = (u.0, (collect_back W n u.0 u.1).1)

  pub collect_expands : Expansion (collect W) sg (collect H)
  collect_expands = record {
    body = record {
      closed = (collect_closed W small).1;
      chain = λ n v e. let b = collect_back W n v e in
          chain_cong (next H) (next (collect H)) (sg n).first (sg n).rest _ (X.body.chain n v b.1)
          (λ d m. visited_stays H d (chain_visited n d b.0 m));
      cover = λ c v e. let b = collect_back H c v e in
          let r = mem_of_cat sg c (order W) (rw (order_cat W sg H X) at b.0) in
          let u = (toured W small).used r.0 r.1 in
          (r.0, (u.0, visited_stays W r.0 r.1 ∙ u.1), r.2);
      apart = λ n m c a b. X.body.apart n m c (was_used n a) (was_used m b);
      nodup = λ n a. X.body.nodup n (was_used n a);
    };
    closed = (collect_closed W small).0;
    ptrs = X.ptrs;
  }

-- ---- lost cells settled: collected, or a leak

-- a fault stays, and so does a heap that keeps its cells
pub settle_fault : (b : Bool) (f : Fault) → settle b (fault f) ≡ fault f
settle_fault true f = refl
settle_fault false f = refl

pub settle_kept : (b : Bool) (h : Heap) → Kept h → settle b (done h) ≡ done h
settle_kept true h k = ap done (collect_same h k)
settle_kept false h k = ap (λ x. cond x (done h) (fault leak)) (kept_test h k)

-- what holds of the effect, of each fault, and of a heap once it is collected, holds afterwards
pub settle_any : (b : Bool) (P : Effect → Type 0) → ((f : Fault) → P (fault f))
    → ((h : Heap) → P (done h) → P (done (collect h))) → (x : Effect) → P x → P (settle b x)
settle_any true P bad less (fault f) p = p
settle_any true P bad less (done h) p = less h p
settle_any false P bad less (fault f) p = p
settle_any false P bad less (done h) p = bool_case (kept h) (λ e. rw e p) (λ e. rw e (bad leak))

-- The walk with fuel against the walk without: the fuel is enough, the visit ends, and no cell is visited twice.
use Prim.Native.Nat.{◌+◌, ◌<◌, ◌≤◌, suc, zero, ℕ}
use mathlib.Core.Path.{◌∙◌, ◌≡◌, refl, subst, sym}
use mathlib.Core.Bool.{cond, false, true}
use mathlib.Core.List.{List, [], ◌++◌, ◌∷◌}
use native.Mathlib.Omega.{arith}
use lib.Dec.{eqb}
use lib.ListN.{get_or, length, length-append}
use borrow.Author.Tests.{eqb-true}
use Rattle.model.specs.Base.{mem, numbers}
use Rattle.model.specs.Heap.{Heap, Slot, Val, cell, holds, next, null, order, tour, undef, unused, walk}
use Rattle.model.specs.Notions.{NoDup, AllClosed, AllUsed, Closed, ClosedHeap, Tours, Used, Walks, ends_at_null, at_seen, ends_at_undef, go, tour_done, tour_more}
use Rattle.model.proofs.lists.Logic.{bool_case, clash, eqb_same, eqb_sym, mem_append, mem-append-cases, mem-cases, mem_here, mem_one, mem_there, or_false_l, or_false_r}
use Rattle.model.proofs.lists.Numbers.{length_numbers, mem_numbers, numbers_mem, numbers_nodup}

-- a list without the first x
del : ℕ → List ℕ → List ℕ
del x [] = []
del x (y ∷ l) = cond (eqb x y) l (y ∷ del x l)

keep_del : (x n : ℕ) (l : List ℕ) → (n ≡ x → ⊥) → mem n l ≡ true → mem n (del x l) ≡ true
unfolding del
keep_del x n [] ne h = h
keep_del x n (y ∷ l) ne h = bool_case (eqb x y)
    (λ e. rw e (mem-cases n y l h (λ q. absurd (ne (q ∙ sym (eqb-true x y e)))) (λ k. k)))
    (λ e. rw e (mem-cases n y l h (λ q. rw (q, eqb_same y)) (λ k. mem_there n y (del x l) (keep_del x n l ne k))))

shorter_del : (x : ℕ) (l : List ℕ) → mem x l ≡ true → suc (length (del x l)) ≤ length l
unfolding del
shorter_del x [] h = clash h refl
shorter_del x (y ∷ l) h = bool_case (eqb x y) (λ e. rw e (omega arith))
    (λ e. let r = shorter_del x l (rw e at h) in rw e (omega arith))

-- different numbers that all stand in another list are not more than it has
pub within : (l m : List ℕ) → NoDup l → ((n : ℕ) → mem n l ≡ true → mem n m ≡ true) → length l ≤ length m
within [] m nd h = omega arith
within (x ∷ l) m nd h =
    let r = within l (del x m) nd.1 (λ n k. keep_del x n m (λ e. clash (subst (λ y. mem y l ≡ true) e k) nd.0)
    (h n (mem_there n x l k))) in
    omega (arith, shorter_del x m (h x (mem_here x l)))

-- so different numbers below b are at most b, and a list that holds all numbers below b has at least b
pub pigeon : (b : ℕ) (l : List ℕ) → NoDup l → ((n : ℕ) → mem n l ≡ true → n < b) → length l ≤ b
pigeon b l nd h =
    omega (
      arith,
      length_numbers 0 b,
      within l (numbers 0 b) nd (λ n k. mem_numbers 0 b n (omega arith) (omega (arith, h n k))),
    )

pub crowd : (b : ℕ) (l : List ℕ) → ((n : ℕ) → n < b → mem n l ≡ true) → b ≤ length l
crowd b l h =
    omega (
      arith,
      length_numbers 0 b,
      within (numbers 0 b) l (numbers_nodup 0 b) (λ n k. h n (omega (arith, (numbers_mem 0 b n k).1))),
    )

pub nodup_snoc : (s : List ℕ) (c : ℕ) → NoDup s → mem c s ≡ false → NoDup (s ++ c ∷ [])
nodup_snoc [] c nd h = (refl, tt)
nodup_snoc (x ∷ s) c nd h = (
  mem_append x s (c ∷ []) ∙ rw (nd.0, eqb_sym x c, or_false_l (eqb c x) (mem c s) h),
  nodup_snoc s c nd.1
      (or_false_r (eqb c x) (mem c s) h),
)

pub used_snoc : (nx : ℕ → Slot) (s : List ℕ) (c : ℕ) → AllUsed nx s → Used nx c → AllUsed nx (s ++ c ∷ [])
used_snoc nx s c us u m k = mem-append-cases m s (c ∷ []) k (us m) (λ q. subst (Used nx) (sym (mem_one m c q)) u)

pub walks_grow : (nx : ℕ → Slot) {s t : List ℕ} {v : Val} → Walks nx s v t → length s ≤ length t
walks_grow nx ends_at_null = omega arith
walks_grow nx ends_at_undef = omega arith
walks_grow nx (at_seen h) = omega arith
walks_grow nx (go {s = s} {c = c} h e w) = omega (arith, walks_grow nx w, length-append s (c ∷ []))

pub tours_grow : (nx : ℕ → Slot) {s t : List ℕ} {vs : List Val} → Tours nx s vs t → length s ≤ length t
tours_grow nx tour_done = omega arith
tours_grow nx (tour_more w ws) = omega (arith, walks_grow nx w, tours_grow nx ws)

pub walk_of : (nx : ℕ → Slot) {s t : List ℕ} {v : Val} → Walks nx s v t → (f : ℕ) → length t ≤ length s + f
    → walk nx f s v ≡ t
walk_of nx ends_at_null zero h = refl
walk_of nx ends_at_null (suc f) h = refl
walk_of nx ends_at_undef zero h = refl
walk_of nx ends_at_undef (suc f) h = refl
walk_of nx (at_seen m) zero h = refl
walk_of nx (at_seen m) (suc f) h = rw (m, walk)
walk_of nx (go {s = s} {c = c} n e w) zero h = absurd (omega (arith, walks_grow nx w, length-append s (c ∷ [])))
walk_of nx (go {s = s} {c = c} n e w) (suc f) h =
    rw (n, walk) (rw (e, walk) (walk_of nx w f (omega (arith, length-append s (c ∷ [])))))

pub tour_of : (nx : ℕ → Slot) {s t : List ℕ} {vs : List Val} → Tours nx s vs t → (f : ℕ) → length t ≤ f
    → tour nx f s vs ≡ t
tour_of nx tour_done f h = refl
tour_of nx (tour_more w ws) f h = rw (walk_of nx w f (omega (arith, tours_grow nx ws))) (tour_of nx ws f h)

pub tours_same : (nx : ℕ → Slot) {s t r : List ℕ} {vs : List Val} → Tours nx s vs t → Tours nx s vs r → t ≡ r
tours_same nx {t = t} {r = r} a b = sym (tour_of nx a (length t + length r) (omega arith))
    ∙ tour_of nx b (length t + length r) (omega arith)

module _ (nx : ℕ → Slot) (b : ℕ) (cl : (n : ℕ) (v : Val) → nx n ≡ holds v → Closed nx v) (bd : (n : ℕ) → Used nx n
    → n < b) where
  walk_total : (f : ℕ) (s : List ℕ) (v : Val) → Closed nx v → NoDup s → AllUsed nx s → b ≤ length s + f → (t : List ℕ)
      × Walks nx s v t × NoDup t × AllUsed nx t
  walk_total zero s null k nd us h = (s, ends_at_null, nd, us)
  walk_total zero s undef k nd us h = (s, ends_at_undef, nd, us)
  walk_total zero s (cell c) k nd us h =
      bool_case (mem c s) (λ e. (s, at_seen e, nd, us))
      (λ e. absurd (omega (
        arith,
        length-append s (c ∷ []),
        pigeon b (s ++ c ∷ []) (nodup_snoc s c nd e)
            (λ n q. bd n (used_snoc nx s c us k n q)),
      )))
  walk_total (suc f) s null k nd us h = (s, ends_at_null, nd, us)
  walk_total (suc f) s undef k nd us h = (s, ends_at_undef, nd, us)
  walk_total (suc f) s (cell c) k nd us h =
      bool_case (mem c s) (λ e. (s, at_seen e, nd, us))
      (λ e. let r = walk_total f (s ++ c ∷ []) k.0 (cl c k.0 k.1) (nodup_snoc s c nd e) (used_snoc nx s c us k)
      (omega (arith, length-append s (c ∷ []))) in
      (r.0, go e k.1 r.1, r.2, r.3))

  tour_total : (s : List ℕ) (vs : List Val) → AllClosed nx vs → NoDup s → AllUsed nx s → (t : List ℕ)
      × Tours nx s vs t × NoDup t × AllUsed nx t
  tour_total s [] k nd us = (s, tour_done, nd, us)
  tour_total s (v ∷ vs) k nd us =
      let r = walk_total b s v k.0 nd us (omega arith) in
      let q = tour_total r.0 vs k.1 r.2 r.3 in
      (q.0, tour_more r.1 q.1, q.2, q.3)

-- no cell is visited twice, whatever the heap
walk_nodup : (nx : ℕ → Slot) (f : ℕ) (s : List ℕ) (v : Val) → NoDup s → NoDup (walk nx f s v)
walk_nodup nx zero s v nd = nd
walk_nodup nx (suc f) s null nd = nd
walk_nodup nx (suc f) s undef nd = nd
walk_nodup nx (suc f) s (cell c) nd =
    bool_case (mem c s) (λ e. rw (e, walk) nd)
    (λ e. rw (e, walk) (by_slot e (nx c) refl (λ w. walk_nodup nx f (s ++ c ∷ []) w (nodup_snoc s c nd e))))
  where
    by_slot : mem c s ≡ false → (x : Slot) → nx c ≡ x → ((w : Val) → NoDup (walk nx f (s ++ c ∷ []) w))
        → NoDup (elim (nx c) [ unused ↦ s | holds w ↦ walk nx f (s ++ c ∷ []) w ])
    by_slot e unused q h = rw (q, walk) nd
    by_slot e (holds w) q h = rw (q, walk) (h w)

tour_nodup : (nx : ℕ → Slot) (f : ℕ) (s : List ℕ) (vs : List Val) → NoDup s → NoDup (tour nx f s vs)
tour_nodup nx f s [] nd = nd
tour_nodup nx f s (v ∷ vs) nd = tour_nodup nx f (walk nx f s v) vs (walk_nodup nx f s v nd)

pub order_once : (h : Heap) → NoDup (order h)
order_once h = tour_nodup (next h) (length h.slots) [] h.ptrs tt

pub used_below : (l : List Slot) (n : ℕ) → Used (λ c. get_or l c unused) n → n < length l
used_below [] n u = let h = u.1 in let z : ◌≡◌ {A = ℕ} 0 1 = cc in omega arith
used_below (x ∷ l) zero u = omega arith
used_below (x ∷ l) (suc n) u = omega (arith, used_below l n u)

pub record Toured (h : Heap) : Type 0 where
  pub tours : Tours (next h) [] h.ptrs (order h)
  pub nodup : NoDup (order h)
  pub used : AllUsed (next h) (order h)

pub toured : (h : Heap) → ClosedHeap h → Toured h
toured h k =
    let r = tour_total (next h) (length h.slots) k.1 (used_below h.slots) [] h.ptrs k.0 tt
    (λ n q. clash q refl) in
    let e : order h ≡ r.0 = tour_of (next h) r.1 (length h.slots)
    (pigeon (length h.slots) r.0 r.2 (λ n q. used_below h.slots n (r.3 n q))) in
    record { tours = rw e r.1; nodup = rw e r.2; used = rw e r.3 }

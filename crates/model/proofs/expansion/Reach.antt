-- The visit order holds exactly the cells that are reachable from a pointer along nexts, each once; the test for a
-- lost cell is exact.
use Prim.Native.Nat.{◌+◌, suc, ℕ}
use mathlib.Core.Path.{◌∙◌, ◌≡◌, ap, refl, subst, sym}
use mathlib.Core.Logic.{◌↔◌, ◌⊎◌, inl, inr, ⊎_elim}
use mathlib.Core.Bool.{Bool, false, true}
use mathlib.Core.List.{List, [], ◌++◌, ◌∷◌}
use native.Mathlib.Nat.{zero-add}
use native.Mathlib.Omega.{arith}
use lib.ListN.{get_or, length}
use Rattle.model.specs.Base.{mem}
use Rattle.model.specs.Heap.{Heap, Slot, Val, cell, each_used, holds, kept, next, null, order, tour, undef, unused}
use Rattle.model.proofs.expansion.Facts.{kept_test, test_kept}
use Rattle.model.specs.Notions.{In, Reaches, along, from_pointer, ClosedHeap, Tours, Used, Walks, ends_at_null, at_seen, ends_at_undef, go, tour_done, tour_more}
use Rattle.model.proofs.lists.Logic.{bool_case, clash, mem-append-cases, mem_append_l, mem_append_r, mem_here, mem_one, not-true}
use Rattle.model.proofs.visits.Order.{pigeon, tour_of, toured, used_below}
use Rattle.model.proofs.expansion.Writes.{cell_inj, holds_inj}

val-clash {ℓ} : {C : Type ℓ} {v : Val} {c : ℕ} → cell c ≡ v → v ≡ null ⊎ v ≡ undef → C
val-clash {v} {c} e (inl q) = absurd (let z : ◌≡◌ {A = ℕ} 0 1 = cc in omega arith)
val-clash {v} {c} e (inr q) = absurd (let z : ◌≡◌ {A = ℕ} 0 1 = cc in omega arith)

module _ (nx : ℕ → Slot) where
  -- what holds of the cells that the walk begins with, and goes along nexts, holds of all that it visits
  module _ (P : ℕ → Type 0) (go_on : (c d : ℕ) → P c → nx c ≡ holds (cell d) → P d) where
    walk_only : {s t : List ℕ} {v : Val} → Walks nx s v t → ((c : ℕ) → mem c s ≡ true → P c)
        → ((c : ℕ) → cell c ≡ v → P c)
        → (c : ℕ) → mem c t ≡ true → P c
    walk_only ends_at_null f g = f
    walk_only ends_at_undef f g = f
    walk_only (at_seen h) f g = f
    walk_only (go {s = s} {c = c} {v = v} h e w) f g =
        walk_only w (λ x k. mem-append-cases x s (c ∷ []) k (f x) (λ q. subst P (sym (mem_one x c q)) (g c refl)))
        (λ x q. go_on c x (g c refl) (e ∙ ap holds (sym q)))

    tour_only : {s t : List ℕ} {vs : List Val} → Tours nx s vs t → ((c : ℕ) → mem c s ≡ true → P c)
        → ((c : ℕ) → In (cell c) vs → P c)
        → (c : ℕ) → mem c t ≡ true → P c
    tour_only tour_done f g = f
    tour_only (tour_more w ws) f g = tour_only ws (walk_only w f (λ c e. g c (inl e))) (λ c i. g c (inr i))

    -- nexts that are the same there have the same visit
    module _ (ny : ℕ → Slot) (same : (c : ℕ) → P c → ny c ≡ nx c) where
      walk_same : {s t : List ℕ} {v : Val} → Walks nx s v t → ((c : ℕ) → cell c ≡ v → P c) → Walks ny s v t
      walk_same ends_at_null g = ends_at_null
      walk_same ends_at_undef g = ends_at_undef
      walk_same (at_seen h) g = at_seen h
      walk_same (go {c = c} h e w) g =
          go h (same c (g c refl) ∙ e) (walk_same w (λ x q. go_on c x (g c refl) (e ∙ ap holds (sym q))))

      tour_same : {s t : List ℕ} {vs : List Val} → Tours nx s vs t → ((c : ℕ) → In (cell c) vs → P c) → Tours ny s vs t
      tour_same tour_done g = tour_done
      tour_same (tour_more w ws) g =
          tour_more (walk_same w (λ c e. g c (inl e))) (tour_same ws (λ c i. g c (inr i)))

  walk_keeps : {s t : List ℕ} {v : Val} → Walks nx s v t → (c : ℕ) → mem c s ≡ true → mem c t ≡ true
  walk_keeps ends_at_null c k = k
  walk_keeps ends_at_undef c k = k
  walk_keeps (at_seen h) c k = k
  walk_keeps (go {s = s} {c = d} h e w) c k = walk_keeps w c (mem_append_l c s (d ∷ []) k)

  tour_keeps : {s t : List ℕ} {vs : List Val} → Tours nx s vs t → (c : ℕ) → mem c s ≡ true → mem c t ≡ true
  tour_keeps tour_done c k = k
  tour_keeps (tour_more w ws) c k = tour_keeps ws c (walk_keeps w c k)

  walk_hits : {s t : List ℕ} {v : Val} → Walks nx s v t → (c : ℕ) → cell c ≡ v → mem c t ≡ true
  walk_hits ends_at_null c e = val-clash e (inl refl)
  walk_hits ends_at_undef c e = val-clash e (inr refl)
  walk_hits {s} (at_seen {c = d} h) c e = subst (λ x. mem x s ≡ true) (sym (cell_inj e)) h
  walk_hits (go {s = s} {c = d} h e' w) c e =
      walk_keeps w c (mem_append_r c s (d ∷ []) (subst (λ x. mem c (x ∷ []) ≡ true) (cell_inj e) (mem_here c [])))

  tour_hits : {s t : List ℕ} {vs : List Val} → Tours nx s vs t → (c : ℕ) → In (cell c) vs → mem c t ≡ true
  tour_hits tour_done c i = absurd i
  tour_hits (tour_more w ws) c (inl e) = tour_keeps ws c (walk_hits w c e)
  tour_hits (tour_more w ws) c (inr i) = tour_hits ws c i

  -- in a list of visited cells each next is visited too, or it is v, where the walk stands
  abbrev Open : List ℕ → Val → Type 0
  Open s v = (c d : ℕ) → mem c s ≡ true → nx c ≡ holds (cell d) → (mem d s ≡ true) ⊎ (cell d ≡ v)

  abbrev Whole : List ℕ → Type 0
  Whole s = (c d : ℕ) → mem c s ≡ true → nx c ≡ holds (cell d) → mem d s ≡ true

  open_snoc : (s : List ℕ) (x : ℕ) (v : Val) → Open s (cell x) → nx x ≡ holds v → Open (s ++ x ∷ []) v
  open_snoc s x v o e c d k q = mem-append-cases c s (x ∷ []) k
      (λ m. ⊎_elim (λ y. inl (mem_append_l d s (x ∷ []) y))
      (λ y. inl (mem_append_r d s (x ∷ []) (subst (λ z. mem d (z ∷ []) ≡ true) (cell_inj y) (mem_here d []))))
      (o c d m q))
      (λ m. inr (holds_inj (sym q ∙ ap nx (mem_one c x m) ∙ e)))

  walk_whole : {s t : List ℕ} {v : Val} → Walks nx s v t → Open s v → Whole t
  walk_whole ends_at_null o c d k q = ⊎_elim (λ y. y) (λ y. val-clash y (inl refl)) (o c d k q)
  walk_whole ends_at_undef o c d k q = ⊎_elim (λ y. y) (λ y. val-clash y (inr refl)) (o c d k q)
  walk_whole {s} (at_seen h) o c d k q = ⊎_elim (λ y. y) (λ y. subst (λ x. mem x s ≡ true) (sym (cell_inj y)) h)
      (o c d k q)
  walk_whole (go {s = s} {c = x} {v = v} h e w) o c d k q = walk_whole w (open_snoc s x v o e) c d k q

  tour_whole : {s t : List ℕ} {vs : List Val} → Tours nx s vs t → Whole s → Whole t
  tour_whole tour_done o = o
  tour_whole (tour_more w ws) o = tour_whole ws (walk_whole w (λ c d k q. inl (o c d k q)))

-- a cell visited is reachable
pub order_reaches : (h : Heap) → ClosedHeap h → (c : ℕ) → mem c (order h) ≡ true → Reaches h c
order_reaches h cl = tour_only (next h) (Reaches h) (λ c d r e. along r e) (toured h cl).tours (λ c k. clash k refl)
    (λ c i. from_pointer i)

-- a cell reachable is visited
pub reaches_order : (h : Heap) → ClosedHeap h → (c : ℕ) → Reaches h c → mem c (order h) ≡ true
reaches_order h cl c (from_pointer i) = tour_hits (next h) (toured h cl).tours c i
reaches_order h cl c (along {c = b} r e) = tour_whole (next h) (toured h cl).tours (λ a d k q. clash k refl) b c
    (reaches_order h cl b r) e

-- a heap with the same pointers and as many slots, in which every reachable cell holds the same, is visited alike
pub order_same : (h g : Heap) → ClosedHeap h → g.ptrs ≡ h.ptrs → length g.slots ≡ length h.slots
    → ((c : ℕ) → Reaches h c → next g c ≡ next h c) → order g ≡ order h
order_same h g cl p l e =
    let T = toured h cl in
    let few = pigeon (length h.slots) (order h) T.nodup (λ n q. used_below h.slots n (T.used n q)) in
    ap (tour (next g) (length g.slots) []) p
    ∙ tour_of (next g) (tour_same (next h) (Reaches h) (λ c d r q. along r q) (next g) e T.tours
    (λ c i. from_pointer i)) (length g.slots) (omega arith)

-- the test says that every cell in use is reachable
pub kept_reaches : (h : Heap) → ClosedHeap h → (kept h ≡ true) ↔ ((c : ℕ) → Used (next h) c → Reaches h c)
kept_reaches h cl = (
  (λ e c u. order_reaches h cl c (test_kept h e c u)),
  λ f. kept_test h
      (λ c u. reaches_order h cl c (f c u)),
)

each_fails : (p : ℕ → Bool) (i : ℕ) (ss : List Slot) → each_used p i ss ≡ false → (j : ℕ)
    × Used (λ x. get_or ss x unused) j × (p (i + j) ≡ false)
each_fails p i [] h = clash refl h
each_fails p i (unused ∷ ss) h = let r = each_fails p (suc i) ss h in
    (suc r.0, r.1, subst (λ x. p x ≡ false) (omega arith) r.2)
each_fails p i (holds v ∷ ss) h = bool_case (p i)
    (λ e. let r = each_fails p (suc i) ss (rw e at h) in
    (suc r.0, r.1, subst (λ x. p x ≡ false) (omega arith) r.2))
    (λ e. (0, (v, refl), subst (λ x. p x ≡ false) (omega arith) e))

-- it fails exactly where a cell in use is not reachable
pub lost_cell : (h : Heap) → ClosedHeap h → kept h ≡ false → (c : ℕ) × Used (next h) c × (Reaches h c → ⊥)
lost_cell h cl e = let r = each_fails (λ c. mem c (order h)) 0 h.slots e in
    (r.0, r.1, λ q. clash (reaches_order h cl r.0 q) (rw zero-add at r.2))

pub cell_lost : (h : Heap) → ClosedHeap h → (c : ℕ) → Used (next h) c → (Reaches h c → ⊥) → kept h ≡ false
cell_lost h cl c u f = not-true (kept h) (λ e. f ((kept_reaches h cl).0 e c u))

-- A shape has at most twice as many nodes as pointers; folding a shape changes nothing; segments are what 01 says.
use Prim.Native.Nat.{◌*◌, ◌+◌, ◌<◌, ◌≤◌, suc, zero, ℕ}
use mathlib.Core.Path.{◌∙◌, ◌≡◌, ap, refl, subst, sym}
use mathlib.Core.Bool.{Bool, cond, false, true}
use mathlib.Core.List.{List, [], ◌++◌, ◌∷◌}
use native.Mathlib.Omega.{arith}
use lib.Dec.{eqb, leb}
use lib.ListN.{length, length-map}
use borrow.Author.Tests.{leb-true, ne_eqb}
use Rattle.model.specs.Base.{mem}
use Rattle.model.specs.Heap.{Heap, Slot, Val, cell, holds, next, null, order, undef, unused}
use Rattle.model.specs.Shape.{Seg, core, cut, cut_from, holds_cell, is_cell, last, node_slot, node_val, segments, shape}
use Rattle.model.proofs.expansion.Cores.{core_head}
use Rattle.model.proofs.expansion.Cuts.{AllCore, Cuts, alls_at, core_of_pointed, linked_chain}
use Rattle.model.proofs.expansion.Folds.{Alls}
use Rattle.model.specs.Notions.{Kept, Chain, seg_at, ClosedHeap, Tours, Walks, ends_at_null, at_seen, ends_at_undef, go, tour_done, tour_more}
use Rattle.model.proofs.lists.Logic.{bool_case, clash, eq-case, eqb_same, or_cases, or_l, tsum}
use Rattle.model.proofs.visits.Order.{toured}
use Rattle.model.proofs.expansion.Start.{cuts_good, end, last_head, slot_at_lem, start}
use Rattle.model.proofs.visits.Walks.{holders, pointed}

-- the head of each segment is core
module _ (nx : ℕ → Slot) (p : ℕ → Bool) where
  abbrev First : List ℕ → Type 0
  First [] = Unit {0}
  First (c ∷ l) = p c ≡ true

  first_snoc : (s : List ℕ) (c : ℕ) → First s → (s ≡ [] → p c ≡ true) → First (s ++ c ∷ [])
  first_snoc [] c f h = h refl
  first_snoc (x ∷ s) c f h = f

  snoc_not_nil : (s : List ℕ) (c : ℕ) → s ++ c ∷ [] ≡ [] → ⊥
  snoc_not_nil [] c e = let z : ◌≡◌ {A = ℕ} 0 1 = cc in omega arith
  snoc_not_nil (x ∷ s) c e = let z : ◌≡◌ {A = ℕ} 0 1 = cc in omega arith

  walks_first : {s t : List ℕ} {v : Val} → Walks nx s v t → First s → ((c : ℕ) → v ≡ cell c → s ≡ [] → p c ≡ true)
      → First t
  walks_first ends_at_null f h = f
  walks_first ends_at_undef f h = f
  walks_first (at_seen q) f h = f
  walks_first (go {s = s} {c = c} q e w) f h =
      walks_first w (first_snoc s c f (h c refl)) (λ d _ z. absurd (snoc_not_nil s c z))

  tours_first : {s t : List ℕ} {vs : List Val} → Tours nx s vs t → First s → AllCore nx p vs → First t
  tours_first tour_done f k = f
  tours_first (tour_more w ws) f k = tours_first ws (walks_first w f (λ c e _. k.0 c e)) k.1

  cut_heads : (c : ℕ) (cur l : List ℕ) → p c ≡ true → Alls (λ s. p s.first ≡ true) (cut_from p c cur l)
  cut_heads c cur [] h = (h, tt)
  cut_heads c cur (d ∷ l) h = bool_case (p d) (λ e. rw (e, cut_from) (h, cut_heads d [] l e))
      (λ e. rw (e, cut_from) (cut_heads c (cur ++ d ∷ []) l h))

  cuts_heads : (l : List ℕ) → First l → Alls (λ s. p s.first ≡ true) (cut p l)
  cuts_heads [] f = tt
  cuts_heads (c ∷ l) f = cut_heads c [] l f

pub tsum_add : (b : ℕ) (f g : ℕ → ℕ) → tsum b (λ i. f i + g i) ≡ tsum b f + tsum b g
tsum_add zero f g = refl
tsum_add (suc b) f g = let r = tsum_add b f g in omega arith

pub tsum_zero : (b : ℕ) → tsum b (λ i. 0) ≡ 0
tsum_zero zero = refl
tsum_zero (suc b) = let r = tsum_zero b in omega arith

tsum_twice : (b : ℕ) (f : ℕ → ℕ) → ((i : ℕ) → i < b → 2 ≤ f i) → 2 * b ≤ tsum b f
tsum_twice zero f h = omega arith
tsum_twice (suc b) f h = let r = tsum_twice b f (λ i q. h i (omega arith)) in omega (arith, h b (omega arith))

abbrev one_if : Bool → ℕ
one_if b = cond b 1 0

delta_zero : (b d : ℕ) → b ≤ d → tsum b (λ i. one_if (eqb i d)) ≡ 0
delta_zero zero d h = refl
delta_zero (suc b) d h = rw (ne_eqb b d (λ e. omega arith)) (let r = delta_zero b d (omega arith) in omega arith)

delta_one : (b d : ℕ) → tsum b (λ i. one_if (eqb i d)) ≤ 1
delta_one zero d = omega arith
delta_one (suc b) d = eq-case b d (λ e. let r = delta_zero b d (omega arith) in
    let q : eqb b d ≡ true = subst (λ x. eqb x d ≡ true) (sym e) (eqb_same d) in rw q (omega arith))
    (λ e. rw e (let r = delta_one b d in omega arith))

abbrev pcount : ℕ → List Val → ℕ
pcount n [] = 0
pcount n (v ∷ vs) = one_if (is_cell n v) + pcount n vs

cell_one : (b : ℕ) (v : Val) → tsum b (λ i. one_if (is_cell i v)) ≤ 1
cell_one b null = omega (arith, tsum_zero b)
cell_one b undef = omega (arith, tsum_zero b)
cell_one b (cell d) = delta_one b d

slot_one : (b : ℕ) (s : Slot) → tsum b (λ i. one_if (holds_cell i s)) ≤ 1
slot_one b unused = omega (arith, tsum_zero b)
slot_one b (holds v) = cell_one b v

pcounts : (b : ℕ) (vs : List Val) → tsum b (λ i. pcount i vs) ≤ length vs
pcounts b [] = omega (arith, tsum_zero b)
pcounts b (v ∷ vs) = omega (
  arith,
  tsum_add b (λ i. one_if (is_cell i v)) (λ i. pcount i vs),
  cell_one b v,
  pcounts b vs,
)

hcounts : (b : ℕ) (ss : List Slot) → tsum b (λ i. holders i ss) ≤ length ss
hcounts b [] = omega (arith, tsum_zero b)
hcounts b (s ∷ ss) = omega (
  arith,
  tsum_add b (λ i. one_if (holds_cell i s)) (λ i. holders i ss),
  slot_one b s,
  hcounts
      b ss,
)

pointed_count : (n : ℕ) (vs : List Val) → pointed n vs ≡ true → 1 ≤ pcount n vs
pointed_count n [] h = clash h refl
pointed_count n (v ∷ vs) h = or_cases (is_cell n v) (pointed n vs) h (λ e. rw e (omega arith))
    (λ e. omega (arith, pointed_count n vs e))

core_count : (h : Heap) (n : ℕ) → core h n ≡ true → 2 ≤ (pcount n h.ptrs + pcount n h.ptrs) + holders n h.slots
core_count h n c = or_cases (pointed n h.ptrs) (leb 2 (holders n h.slots)) c
    (λ e. omega (arith, pointed_count n h.ptrs e))
    (λ e. omega (arith, leb-true 2 (holders n h.slots) e))

core_bound : (h : Heap) → ((n : ℕ) → n < length h.slots → core h n ≡ true)
    → length h.slots ≤ length h.ptrs + length h.ptrs
core_bound h c =
    let b = length h.slots in
    let p : ℕ → ℕ = λ i. pcount i h.ptrs in
    omega (
      arith,
      tsum_twice b (λ i. (p i + p i) + holders i h.slots) (λ i q. core_count h i (c i q)),
      tsum_add b (λ i. p i + p i) (λ i. holders i h.slots),
      tsum_add b p p,
      pcounts b h.ptrs,
      hcounts b h.slots,
    )

module _ (h : Heap) (cl : ClosedHeap h) (kp : Kept h) where
  heads_core : Alls (λ s. core h s.first ≡ true) (segments h)
  heads_core = cuts_heads (next h) (core h) (order h)
      (tours_first (next h) (core h) (toured h cl).tours tt
      (core_of_pointed h h.ptrs (λ c q. or_l (pointed c h.ptrs) (leb 2 (holders c h.slots)) q)))

  -- each node of a shape is core
  pub nodes_core : (n : ℕ) → n < length (segments h) → core (shape h) n ≡ true
  nodes_core n q =
      sym (core_head (shape h) (seg_at (segments h)) h (start h cl kp) n
      (node_val (segments h) (end h cl kp n q).0, slot_at_lem h cl kp n q))
      ∙ alls_at (λ s. core h s.first ≡ true) (segments h) heads_core n q

  pub few_nodes : length (segments h) ≤ length h.ptrs + length h.ptrs
  few_nodes =
      let a = length-map (segments h) (λ (s : Seg). node_slot (segments h) (next h (last s))) in
      let b = length-map h.ptrs (node_val (segments h)) in
      omega (arith, core_bound (shape h) (λ n q. nodes_core n (omega arith)))

  -- segments are what the paper says: a core cell, and the cells after it up to the next core cell, null, undefined or
  -- itself again
  pub segment_is : (n : ℕ) → n < length (segments h)
      → (v : Val) × (core h (seg_at (segments h) n).first ≡ true) × ((d : ℕ) → mem d (seg_at (segments h) n).rest
      ≡ true → core h d ≡ false)
      × Chain (next h) (seg_at (segments h) n).first (seg_at (segments h) n).rest v
      × ((c : ℕ) → v ≡ cell c → core h c ≡ true)
  segment_is n q =
      let s = seg_at (segments h) n in
      let g = alls_at (Cuts (next h) (core h)) (segments h) (cuts_good h cl kp) n q in
      let e = end h cl kp n q in (
        e.0,
        alls_at (λ s. core h s.first ≡ true) (segments h) heads_core n q,
        g.1,
        linked_chain (next h) (core h) s.first s.rest e.0 g.0 e.1,
        λ c p. let r = last_head h cl kp n c q (e.1 ∙ ap holds p) in
            ap (core h) (sym r.2) ∙ alls_at (λ s. core h s.first ≡ true) (segments h) heads_core r.0 r.1,
      )

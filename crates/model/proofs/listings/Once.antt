-- Each old counter is added in at most one update of an edge: a counter belongs to one cell, and a cell to one segment.
use Prim.Native.Nat.{ℕ}
use mathlib.Core.Path.{◌≡◌, refl, subst, sym}
use mathlib.Core.Logic.{inl, inr}
use mathlib.Core.Bool.{true}
use mathlib.Core.List.{List, [], ◌∷◌, map}
use native.Mathlib.Omega.{arith}
use lib.ListN.{length}
use Rattle.model.specs.Base.{mem}
use Rattle.model.specs.Edges.{Edge, Guard, Loc, Way, Weight, adds_counter, at, edge_by, edges_at, edges_of, failed, picks_of, step_by, stmt_at, update_of, ways, whole, split, View, view, ways_of, one_node, two_nodes, no_node, one_at, more_at}
use Rattle.model.specs.Heap.{Heap, next, order}
use Rattle.model.specs.Machine.{Answer, Stmt, faulted, refused, stopped, went, Kind, kind, action}
use Rattle.model.specs.Shape.{Seg, cells, core, segments}
use Rattle.model.proofs.expansion.Cuts.{flat_cut, mem_flat_in, nodup_apart, nodup_r}
use Rattle.model.specs.Notions.{In, Pairs, NoDup, AddApart, flat, ClosedHeap, Used, Views}
use Rattle.model.proofs.lists.Lists.{in_joined, in_map, in_single, pairs_map, pairs_mono}
use Rattle.model.proofs.visits.Order.{order_once, used_below}
use Rattle.model.specs.Listings.{GoodLoc}
use Rattle.model.proofs.ways.Ways.{split_fair, whole_fair}
use Rattle.model.proofs.ways.Weights.{update_adds}
use Rattle.model.proofs.ways.Views.{view_used}

-- the cells of different segments differ
segments_apart : (ss : List Seg) → NoDup (flat ss) → Pairs (λ s t. (c : ℕ) → mem c (cells s) ≡ true → mem c (cells t)
    ≡ true → ⊥) ss
segments_apart [] nd = tt
segments_apart (s ∷ ss) nd = (
  (λ t i c p q. nodup_apart (cells s) (flat ss) c nd p (mem_flat_in ss t c i q)),
  segments_apart ss (nodup_r (cells s) (flat ss) nd),
)

-- a counter belongs to one cell
abbrev Owned : (ℕ → Weight) → Type 0
Owned w = (i c d : ℕ) → adds_counter i (w c) ≡ true → adds_counter i (w d) ≡ true → c ≡ d

updates_apart : (k : ℕ) (w : ℕ → Weight) → Owned w → (ss : List Seg) → NoDup (flat ss)
    → Pairs AddApart (map (update_of k w) ss)
updates_apart k w o ss nd =
    pairs_map AddApart (update_of k w) ss
    (pairs_mono (λ s t. (c : ℕ) → mem c (cells s) ≡ true → mem c (cells t) ≡ true → ⊥)
    (λ s t. AddApart (update_of k w s) (update_of k w t)) ss
    (λ s t h i p q.
    let a = update_adds k w s i p in
    let b = update_adds k w t i q in
    h a.0 a.1 (subst (λ x. mem x (cells t) ≡ true) (sym (o i a.0 b.0 a.2 b.2)) b.1))
    (segments_apart ss nd))

whole_owned : (h : Heap) (gs : List Guard) (y : Way) → y ≡ whole gs 0 h → Owned y.weight
whole_owned h gs y e = subst (λ (z : Way). Owned z.weight) (sym e) (whole_fair (length h.slots) []).owned

split_owned : (h : Heap) (gs : List Guard) (n : ℕ) → Used (next h) n → (y : Way) → y ≡ split gs n h → Owned y.weight
split_owned h gs n u y e =
    subst (λ (z : Way). Owned z.weight) (sym e)
    (split_fair (length h.slots) [] n (used_below h.slots n u) (omega arith)).owned

ways_owned : (kd : Kind) (h : Heap) (v : View) → ((i : ℕ) → Views v i → Used (next h) i) → (y : Way)
    → In y (ways_of kd v h) → Owned y.weight
ways_owned kd h no_node k y i =
    let r = in_map (λ p. whole [] p h) y (picks_of kd) i in
    subst (λ (z : Way). Owned z.weight) (sym r.2) (whole_fair (length h.slots) []).owned
ways_owned kd h (one_node n) k y (inl e) = whole_owned h (one_at n ∷ []) y e
ways_owned kd h (one_node n) k y (inr (inl e)) = split_owned h (more_at n ∷ []) n (k n refl) y e
ways_owned kd h (one_node n) k y (inr (inr x)) = absurd x
ways_owned kd h (two_nodes n m) k y (inl e) = whole_owned h (one_at n ∷ one_at m ∷ []) y e
ways_owned kd h (two_nodes n m) k y (inr (inl e)) = split_owned h (one_at n ∷ more_at m ∷ []) m (k m (inr refl)) y e
ways_owned kd h (two_nodes n m) k y (inr (inr (inl e))) = split_owned h (more_at n ∷ []) n (k n (inl refl)) y e
ways_owned kd h (two_nodes n m) k y (inr (inr (inr x))) = absurd x

way_once : (s k : ℕ) (y : Way) (a : Answer) → Owned y.weight → (E : Edge) → In E (edge_by s k y a)
    → Pairs AddApart E.updates
way_once s k y refused o E i = absurd i
way_once s k y stopped o E i = absurd i
way_once s k y (faulted f) o E i = subst (λ (x : Edge). Pairs AddApart x.updates) (sym (in_single E _ i)) tt
way_once s k y (went b t h) o E i = subst (λ (x : Edge). Pairs AddApart x.updates) (sym (in_single E _ i))
    (updates_apart k y.weight o (segments h) (rw (flat_cut (core h) (order h)) (order_once h)))

-- of any heap whose values name cells in use
pub edges_once : (s : ℕ) (st : Stmt) (h : Heap) → ClosedHeap h → (E : Edge) → In E (edges_at s st h)
    → Pairs AddApart E.updates
edges_once s st h cl E i =
    let k = length h.slots in
    let j = in_joined E (map (λ z. edge_by s k z (step_by st k z)) (ways st.op h)) i in
    let w = in_map (λ z. edge_by s k z (step_by st k z)) j.0 (ways st.op h) j.1 in
    way_once s k w.0 (step_by st k w.0) (ways_owned (kind st.op) h (view (action st.op) h)
    (view_used (action st.op) h cl.0) w.0 w.1) E
    (subst (In E) w.2 j.2)

-- and so of each location that a listing holds
pub good_once : (sts : List Stmt) (l : Loc) → GoodLoc l → (E : Edge) → In E (edges_of sts l)
    → Pairs AddApart E.updates
good_once sts (at s h) g E i = edges_once s (stmt_at sts s) h g.0.closed E i
good_once sts (failed s f) g E i = absurd i

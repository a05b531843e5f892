-- What a statement looks at: the nodes are in use and stay so through a split, such a statement acts, and the guards of
-- its ways are on these nodes.
use Prim.Native.Nat.{◌≤◌, ℕ}
use mathlib.Core.Path.{◌∙◌, ◌≡◌, ap, refl, subst, sym}
use mathlib.Core.Logic.{⊎_elim, inl, inr}
use mathlib.Core.Bool.{true, false}
use mathlib.Core.List.{List, [], ◌∷◌}
use native.Mathlib.Omega.{arith}
use lib.ListN.{length}
use Rattle.model.specs.Edges.{Guard, Way, split_heap, whole, View, no_node, one_node, two_nodes, view, ways_of, picks_of, Test, is_one, is_more, one_at, more_at}
use Rattle.model.specs.Heap.{Heap, cell, next, Slot, ptr}
use Rattle.model.specs.Machine.{picks, Kind, Action, accepts_cell, makes, point, acts, follow, link, make, release, compare, splice, stay}
use Rattle.model.specs.Shape.{Seg}
use Rattle.model.proofs.expansion.Effects.{closed_ptr}
use Rattle.model.proofs.expansion.Splits.{pair_is, view_is}
use Rattle.model.specs.Notions.{Room, sg_after, AllClosed, Closed, In, Used, Views}
use Rattle.model.proofs.lists.Lists.{in_map}
use Rattle.model.proofs.lists.Logic.{clash}

pub acts_no_pick : (a : Action) → acts a ≡ picks → ⊥
acts_no_pick a e = let z : ◌≡◌ {A = ℕ} 0 1 = cc in omega arith

-- what looks at a node takes no cell
pub view_makes : (a : Action) (h : Heap) (n : ℕ) → Views (view a h) n → makes a ≡ false
view_makes stay h n e = refl
view_makes (compare u s) h n e = refl
view_makes (point u s) h n e = refl
view_makes (follow u w) h n e = refl
view_makes (link u s) h n e = refl
view_makes (splice u w) h n e = refl
view_makes (make u) h n e = absurd e
view_makes (release u) h n e = refl

pub record Looks (a : Action) : Type 0 where
  pub takes : (s : Slot) → accepts_cell a s ≡ true
  pub roomy : (h : Heap) (c : ℕ) → Room a h c
  pub chains : (k c : ℕ) (sg : ℕ → Seg) → sg_after a k c sg ≡ sg

pub view_looks : (a : Action) (h : Heap) (n : ℕ) → Views (view a h) n → Looks a
view_looks a h n e =
    let m = view_makes a h n e in
    record { takes = λ s. rw m; roomy = λ h c t. clash t m; chains = λ k c sg. rw m }

-- each node that is looked at is in use
pub ptr_used : (h : Heap) (u n : ℕ) → AllClosed (next h) h.ptrs → ptr h u ≡ cell n → Used (next h) n
ptr_used h u n k e = subst (Closed (next h)) e (closed_ptr (next h) h.ptrs u k)

pub view_used : (a : Action) (h : Heap) → AllClosed (next h) h.ptrs → (n : ℕ) → Views (view a h) n → Used (next h) n
view_used stay h k n e = absurd e
view_used (compare u s) h k n e = absurd e
view_used (point u s) h k n e = absurd e
view_used (follow u w) h k n e = ptr_used h w n k (view_is (ptr h w) n e)
view_used (link u s) h k n e = ptr_used h u n k (view_is (ptr h u) n e)
view_used (splice u w) h k n e =
    let p = pair_is (ptr h u) (ptr h w) n e in
    ⊎_elim (λ q. ptr_used h u n k (p.first_is ∙ ap cell (sym q)))
    (λ q. ptr_used h w n k (p.second_is ∙ ap cell (sym q))) p.either
view_used (make u) h k n e = absurd e
view_used (release u) h k n e = ptr_used h u n k (view_is (ptr h u) n e)

-- the pointers alone decide
pub view_split : (a : Action) (n k : ℕ) (h : Heap) → view a (split_heap n k h) ≡ view a h
view_split stay n k h = refl
view_split (compare u s) n k h = refl
view_split (point u s) n k h = refl
view_split (follow u w) n k h = refl
view_split (link u s) n k h = refl
view_split (splice u w) n k h = refl
view_split (make u) n k h = refl
view_split (release u) n k h = refl

-- the guards of a way: two at most, on nodes that are looked at
guard_node : (g : Guard) (n : ℕ) (t : Test) (gs : List Guard) {C : Type 0} → In g (record { node = n; test = t } ∷ gs)
    → (g.node ≡ n → C) → (In g gs → C) → C
guard_node g n t gs (inl e) f r = f (ap (λ (x : Guard). x.node) e)
guard_node g n t gs (inr i) f r = r i

pub ways_guards : (k : Kind) (v : View) (h : Heap) (y : Way) → In y (ways_of k v h)
    → (length y.guards ≤ 2) × ((g : Guard) → In g y.guards → Views v g.node)
ways_guards k no_node h y i =
    let r = in_map (λ p. whole [] p h) y (picks_of k) i in
    rw r.2 (omega arith, λ g j. absurd j)
ways_guards k (one_node n) h y (inl q) =
    rw q (omega arith, λ g j. guard_node g n is_one [] j (λ e. e) (λ x. absurd x))
ways_guards k (one_node n) h y (inr (inl q)) =
    rw q (omega arith, λ g j. guard_node g n is_more [] j (λ e. e) (λ x. absurd x))
ways_guards k (one_node n) h y (inr (inr x)) = absurd x
ways_guards k (two_nodes n m) h y (inl q) =
    rw q (
      omega arith,
      λ g j. guard_node g n is_one (one_at m ∷ []) j inl
          (λ i. guard_node g m is_one [] i inr (λ x. absurd x)),
    )
ways_guards k (two_nodes n m) h y (inr (inl q)) =
    rw q (
      omega arith,
      λ g j. guard_node g n is_one (more_at m ∷ []) j inl
          (λ i. guard_node g m is_more [] i inr (λ x. absurd x)),
    )
ways_guards k (two_nodes n m) h y (inr (inr (inl q))) =
    rw q (omega arith, λ g j. guard_node g n is_more [] j inl (λ x. absurd x))
ways_guards k (two_nodes n m) h y (inr (inr (inr x))) = absurd x

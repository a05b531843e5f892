-- The checks of the nodes of a shape: they pass exactly where it is canonical, and each is told by the first node that
-- fails it.
use Prim.Native.Nat.{◌<◌, ◌≤◌, ℕ}
use mathlib.Core.Path.{◌∙◌, ◌≡◌, ap, ap₂, refl, sym}
use mathlib.Core.Logic.{◌↔◌}
use mathlib.Core.Bool.{Bool, ◌&&◌, false, not, true}
use mathlib.Core.List.{List, [], ◌∷◌}
use lib.Dec.{ltb}
use lib.ListN.{length}
use borrow.Author.Tests.{le-ltb, lt-ltb}
use Rattle.model.specs.Base.{all, any, place_of}
use Rattle.model.specs.Heap.{Heap}
use Rattle.model.specs.Records.{checks_nodes}
use Rattle.model.specs.Shape.{as_visited, canonical, core, nodes, reachable}
use Rattle.model.specs.Notions.{Pass}
use Rattle.model.proofs.lists.Logic.{and_both, and_l, and_r, bool_case, clash, not-false}
use Rattle.model.proofs.lists.Numbers.{length_numbers}
use Rattle.model.proofs.shapes.Same.{place_test}

pub nodes_pass : (h : Heap) → Pass (checks_nodes h) ↔ (canonical h ≡ true)
nodes_pass h =
    let a = all (reachable h) (nodes h) in
    let b = all (core h) (nodes h) in
    let c = all (as_visited h) (nodes h) in (
      (λ p. and_both (a && b) c (and_both a b p.0 p.1.0) p.1.1.0),
      λ e. let k = and_l (a && b) c e in (and_l a b k, (and_r a b k, (and_r (a && b) c e, tt))),
    )

-- ---- a row about every node, by the first node that fails

each_first : (p : ℕ → Bool) (l : List ℕ) → ltb (place_of (λ v. not (p v)) l) (length l) ≡ not (all p l)
each_first p l = place_test (λ v. not (p v)) l ∙ any_not p l
  where
    any_not : (q : ℕ → Bool) (m : List ℕ) → any (λ v. not (q v)) m ≡ not (all q m)
    any_not q [] = refl
    any_not q (y ∷ m) = bool_case (q y) (λ e. rw e (any_not q m)) (λ e. rw e)

module _ (p : ℕ → Bool) (h : Heap) {f : ℕ} (e : f ≡ place_of (λ v. not (p v)) (nodes h)) where
  pub first_test : ltb f (length h.slots) ≡ not (all p (nodes h))
  first_test = ap₂ ltb e (sym (length_numbers 0 (length h.slots))) ∙ each_first p (nodes h)

  -- one fails, and the row tells the first; or none does
  pub first_fails : f < length h.slots → all p (nodes h) ≡ false
  first_fails l = not-false (all p (nodes h)) (sym first_test ∙ lt-ltb f (length h.slots) l)

  pub none_fails : length h.slots ≤ f → all p (nodes h) ≡ true
  none_fails l = bool_case (all p (nodes h)) (λ t. t)
      (λ t. clash (first_test ∙ ap not t) (le-ltb f (length h.slots) l))

-- What the checks of the nodes give is what is told of them: 9, 18 or 19 with the first node concerned, or nothing.
use Prim.Native.Nat.{◌<◌, suc, zero, ℕ}
use mathlib.Core.Path.{◌∙◌, ◌≡◌, ap, refl, subst, sym}
use mathlib.Core.Logic.{inl, inr}
use mathlib.Core.Bool.{Bool, false, not, true}
use mathlib.Core.List.{List, [], ◌∷◌, ◌++◌}
use native.Mathlib.Omega.{arith}
use lib.Dec.{eqb, ltb}
use lib.ListN.{get_or, length}
use borrow.Author.Tests.{eq-eqb, eqb-true, ltb-false, ltb-true}
use Rattle.model.specs.Base.{all, place_of}
use Rattle.model.specs.Heap.{Heap, order}
use Rattle.model.specs.Records.{Row, checks_nodes, failed_node, first_failed, tells_node}
use Rattle.model.specs.Shape.{as_visited, core, nodes, reachable, visit_number}
use Rattle.model.specs.Nodes.{EveryNode, FirstNode, GivenAsTold, OneTold, Told, not_core, nothing, numbered_otherwise, unreachable}
use Rattle.model.specs.Notions.{ClosedHeap, Reaches}
use Rattle.model.proofs.lists.Logic.{bool_case, clash, not-false, not-true}
use Rattle.model.proofs.lists.Numbers.{at_number, length_numbers}
use Rattle.model.proofs.records.Checks.{failed_after, failed_before, failed_number, given_failed, node_after_lem, node_before, none_failed, pass_none}
use Rattle.model.proofs.records.NodeChecks.{first_test, nodes_pass}
use Rattle.model.proofs.shapes.Canonical.{all_node, canon_canonical, canonical_canon, node_all, visit_count}
use Rattle.model.proofs.expansion.Reach.{order_reaches, reaches_order}
use Rattle.model.proofs.shapes.Same.{place_found, place_passes}

-- ---- the first node

-- before the first place where a test passes it passes nowhere
pub place_before : {A : Type 0} (p : A → Bool) (l : List A) (d : A) (i : ℕ) → i < place_of p l → p (get_or l i d)
    ≡ false
place_before p [] d i h = absurd (omega arith)
place_before p (x ∷ l) d zero h = bool_case (p x) (λ t. absurd (let k = rw t at h in omega arith)) (λ t. t)
place_before p (x ∷ l) d (suc i) h = bool_case (p x) (λ t. absurd (let k = rw t at h in omega arith))
    (λ t. let k = rw t at h in place_before p l d i (omega arith))

module _ (h : Heap) where
  node_at : (m : ℕ) → m < length h.slots → get_or (nodes h) m 0 ≡ m
  node_at m l = let e = at_number 0 (length h.slots) m 0 l in omega arith

  -- the first node that fails a test, where one does
  test_first : (p : ℕ → Bool) → all p (nodes h) ≡ false
      → FirstNode h (λ m. p m ≡ false) (place_of (λ v. not (p v)) (nodes h))
  test_first p e =
      let k = length h.slots in
      let f = place_of (λ v. not (p v)) (nodes h) in
      let low : f < k = ltb-true f k (first_test p h refl ∙ ap not e) in
      let wide : f < length (nodes h) = rw (length_numbers 0 k) low in
      record {
        below = low;
        concerned = not-false (p f) (ap (λ v. not (p v)) (sym (node_at f low))
            ∙ place_passes (λ v. not (p v)) (nodes h) 0 wide);
        first = λ m l q.
            let t = place_before (λ v. not (p v)) (nodes h) 0 m l in
            clash (ap not q) (ap (λ v. not (p v)) (sym (node_at m (omega arith))) ∙ t);
      }

  -- and there is one where a first node fails
  first_is_lem : (p : ℕ → Bool) {n : ℕ} → FirstNode h (λ m. p m ≡ false) n
      → (all p (nodes h) ≡ false) × (place_of (λ v. not (p v)) (nodes h) ≡ n)
  first_is_lem p {n} F =
      let e : all p (nodes h) ≡ false = not-true _ (λ t. clash (all_node h p t n F.below) F.concerned) in
      let G = test_first p e in
      let f = place_of (λ v. not (p v)) (nodes h) in (
        e,
        bool_case (ltb f n) (λ t. absurd (F.first f (ltb-true f n t) G.concerned))
            (λ t. bool_case (ltb n f) (λ u. absurd (G.first n (ltb-true n f u) F.concerned))
            (λ u. let a = ltb-false f n t in let b = ltb-false n f u in omega arith)),
      )

  first_as : {P Q : ℕ → Type 0} {n : ℕ} → ((m : ℕ) → P m → Q m) → ((m : ℕ) → Q m → P m) → FirstNode h P n
      → FirstNode h Q n
  first_as f g F =
      record { below = F.below; concerned = f _ F.concerned; first = λ m l q. F.first m l (g m q) }

-- ---- the checks of a closed heap

module _ (h : Heap) (cl : ClosedHeap h) where
  lost_as : (m : ℕ) → reachable h m ≡ false → Reaches h m → ⊥
  lost_as m e r = clash (reaches_order h cl m r) e

  as_lost : (m : ℕ) → (Reaches h m → ⊥) → reachable h m ≡ false
  as_lost m f = not-true _ (λ t. f (order_reaches h cl m t))

  all_reach : all (reachable h) (nodes h) ≡ true → EveryNode h (Reaches h)
  all_reach e n l = order_reaches h cl n (all_node h (reachable h) e n l)

  reach_all : EveryNode h (Reaches h) → all (reachable h) (nodes h) ≡ true
  reach_all f = node_all h (reachable h) (λ n l. reaches_order h cl n (f n l))

  moved_as : (m : ℕ) → as_visited h m ≡ false → visit_number h m ≡ m → ⊥
  moved_as m e q = clash (eq-eqb (visit_number h m) m q) e

  as_moved : (m : ℕ) → (visit_number h m ≡ m → ⊥) → as_visited h m ≡ false
  as_moved m f = not-true _ (λ t. f (eqb-true (visit_number h m) m t))

  -- something is told
  pub something : (n : ℕ) × (v : ℕ) × Told h n v
  something =
      bool_case (all (reachable h) (nodes h))
      (λ a. bool_case (all (core h) (nodes h))
      (λ b. bool_case (all (as_visited h) (nodes h))
      (λ c. (0, 0, nothing (canonical_canon h cl ((nodes_pass h).0 (a, (b, (c, tt)))))))
      (λ c. (
        19,
        _,
        numbered_otherwise (all_reach a) (all_node h (core h) b)
            (first_as h moved_as as_moved (test_first h (as_visited h) c)),
      )))
      (λ b. (18, _, not_core (all_reach a) (test_first h (core h) b))))
      (λ a. (9, _, unreachable (first_as h lost_as as_lost (test_first h (reachable h) a))))

  -- and the checks give it
  pub told_given : {n v : ℕ} → Told h n v → (first_failed (checks_nodes h) ≡ n) × (failed_node (checks_nodes h) ≡ v)
  told_given (unreachable {n} F) =
      let r = first_is_lem h (reachable h) (first_as h as_lost lost_as F) in
      given_failed (checks_nodes h) 9 n (inl (refl, r.1, r.0))
  told_given (not_core {n} a F) =
      let r = first_is_lem h (core h) F in
      given_failed (checks_nodes h) 18 n (inr (reach_all a, inl (refl, r.1, r.0)))
  told_given (numbered_otherwise {n} a b F) =
      let r = first_is_lem h (as_visited h) (first_as h as_moved moved_as F) in
      given_failed (checks_nodes h) 19 n
      (inr (reach_all a, inr (node_all h (core h) b, inl (refl, r.1, r.0))))
  told_given (nothing C) =
      let p = (nodes_pass h).1 (canon_canonical h C) in
      (pass_none (checks_nodes h) p, node_after_lem (checks_nodes h) [] p)

  -- the walk gives the node told with 19 a higher number, so that it is not the last node
  pub otherwise_higher : {n : ℕ} → Told h 19 n → (n < visit_number h n) × (visit_number h n < length h.slots)
  otherwise_higher {n} t = by_told t refl
    where
      held : (m : ℕ) → reachable h m ≡ true → m ≡ get_or (order h) (visit_number h m) 0
      held m e = eqb-true m (get_or (order h) (visit_number h m) 0)
          (place_passes (eqb m) (order h) 0 (place_found (eqb m) (order h) e))

      by_told : {k m : ℕ} → Told h k m → k ≡ 19 → (m < visit_number h m) × (visit_number h m < length h.slots)
      by_told (unreachable F) q = absurd (omega arith)
      by_told (not_core a F) q = absurd (omega arith)
      by_told (nothing C) q = absurd (omega arith)
      by_told (numbered_otherwise {n = m} a b F) q =
          let v = visit_number h m in
          let r = reach_all a in
          let reach = all_node h (reachable h) r in
          let low : v < length h.slots =
          let f = place_found (eqb m) (order h) (reach m F.below) in
          let c = visit_count h cl r in omega arith in
          let ne = F.concerned in
          bool_case (ltb v m)
          (λ u. let l = ltb-true v m u in
          let own : visit_number h v ≡ v = eqb-true (visit_number h v) v
          (bool_case (as_visited h v) (λ e. e) (λ e. absurd (F.first v l (moved_as v e)))) in
          let x : v ≡ get_or (order h) v 0 = held v (reach v low) ∙ ap (λ k. get_or (order h) k 0) own in
          absurd (let y = held m (reach m F.below) in omega arith))
          (λ u. let l = ltb-false v m u in (omega arith, low))

  pub one_told : OneTold h
  one_told =
      let x = something in
      let g = told_given x.2 in
      (x.0, x.1, x.2, λ m w t. let k = told_given t in (sym k.0 ∙ g.0, sym k.1 ∙ g.1))

  -- ---- the checks of the nodes with others behind them, none of which tells a node

  module _ (rest : List Row) (k : all (λ (c : Row). not (tells_node c.number)) rest ≡ true) where
    rest_plain : (m : ℕ) → first_failed rest ≡ m → tells_node m ≡ false
    rest_plain zero e = refl
    rest_plain (suc m) e = not-false _ (failed_number (λ n. not (tells_node n)) rest k m e)

    pub given_as_told : GivenAsTold h (first_failed (checks_nodes h ++ rest)) (failed_node (checks_nodes h ++ rest))
    given_as_told = by_number (first_failed (checks_nodes h)) refl
      where
        by_number : (m : ℕ) → first_failed (checks_nodes h) ≡ m
            → GivenAsTold h (first_failed (checks_nodes h ++ rest)) (failed_node (checks_nodes h ++ rest))
        by_number zero e =
            let p = none_failed (checks_nodes h) refl e in
            let plain : tells_node (first_failed (checks_nodes h ++ rest)) ≡ false =
            ap tells_node (failed_after (checks_nodes h) rest refl e) ∙ rest_plain (first_failed rest) refl in (
              (λ n v t. (
                (λ q. clash t (ap tells_node (sym q.0) ∙ plain)),
                λ y. clash t (ap tells_node (sym (told_given y).0 ∙ e)),
              )),
              (
                (λ q. nothing (canonical_canon h cl ((nodes_pass h).0 p))),
                λ y. plain,
              ),
            )
        by_number (suc m) e =
            let x = something in
            let g = told_given x.2 in
            let a = failed_before (checks_nodes h) rest m e in
            let b = node_before (checks_nodes h) rest m e in (
              (λ n v t. (
                (λ q. subst (Told h n) (sym g.1 ∙ sym b ∙ q.1)
                    (subst (λ y. Told h y x.1) (sym g.0 ∙ e ∙ sym a ∙ q.0) x.2)),
                λ y. let z = told_given y in (a ∙ sym e ∙ z.0, b ∙ z.1),
              )),
              (
                (λ q. clash (failed_number tells_node (checks_nodes h) refl m e) (ap tells_node (sym a) ∙ q)),
                λ y. let z = (told_given y).0 in absurd (omega arith),
              ),
            )

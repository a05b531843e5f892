-- What a visit's marks and order say of the nodes: the first that is not reachable, not core, or numbered otherwise.
use Prim.Native.Nat.{ℕ, ◌<◌, ◌≤◌}
use native.Mathlib.Omega.{arith}
use mathlib.Core.Path.{◌≡◌, refl, sym, ap, ◌∙◌}
use mathlib.Core.Logic.{inl, inr}
use mathlib.Core.Bool.{Bool, true, not}
use mathlib.Core.List.{List}
use lib.Dec.{eqb, leb, ltb}
use lib.ListN.{length, get_or, length-map}
use lib.Seq.{get_or-take}
use borrow.Author.Tests.{eqb-false, le-ltb, leb-false, leb-true, lt-ltb}
use Rattle.model.specs.Base.{all, numbers, place_of}
use Rattle.model.specs.Heap.{closed, kept, order}
use Rattle.model.specs.Image.{cell_slot, heap_of}
use Rattle.model.specs.Records.{checks_nodes}
use Rattle.model.specs.Structs.{Tells, failing}
use Rattle.model.specs.Shape.{as_visited, core, nodes, reachable, visit_number}
use Rattle.model.proofs.expansion.Facts.{kept_test, test_closed}
use Rattle.model.proofs.lists.Logic.{bool_case, eq-case}
use Rattle.model.proofs.records.Checks.{given_tells, pass_tells}
use Rattle.model.proofs.records.NodeChecks.{first_fails, none_fails}
use Rattle.model.proofs.shapes.Canonical.{all_node, visit_count}
use Rattle.model.proofs.visits.Order.{used_below}
use Rattle.visit.specs.Visit.{Visited}
use Rattle.visit.proofs.Whole.{kept_held}
use Rattle.visit.proofs.Laws.{visited_length}
use Rattle.canonical.proofs.Finding.{moved_first, place_same}

below_one : (a : ℕ) → ltb a 1 ≡ eqb a 0
below_one a = eq-case a 0 (λ e. rw e) (λ e. let ne = eqb-false a 0 e in le-ltb a 1 (omega arith) ∙ sym e)

below_leb : (a b : ℕ) → ltb a b ≡ not (leb b a)
below_leb a b = bool_case (leb b a) (λ e. le-ltb a b (leb-true b a e) ∙ ap not (sym e))
    (λ e. lt-ltb a b (leb-false b a e) ∙ ap not (sym e))

module _ {ps cs o s : List ℕ} {r : ℕ} (x : Visited ps cs o s r) where
  -- there is a node for each cell; a test of the cells against a test of the nodes
  first_same : (p q : ℕ → Bool) → ((c : ℕ) → c < length cs → q c ≡ not (p c))
      → place_of q (numbers 0 (length cs)) ≡ place_of (λ v. not (p v)) (nodes (heap_of ps cs))
  first_same p q k = place_same q (λ v. not (p v)) 0 (length cs) (λ j lo hi. k j (omega arith))
      ∙ ap (λ n. place_of (λ v. not (p v)) (numbers 0 n)) (sym (length-map cs cell_slot))

  pub lost_first : place_of (λ c. ltb (get_or s c 0) 1) (numbers 0 (length cs))
      ≡ place_of (λ v. not (reachable (heap_of ps cs) v)) (nodes (heap_of ps cs))
  lost_first = first_same (reachable (heap_of ps cs)) (λ c. ltb (get_or s c 0) 1)
      (λ c l. below_one (get_or s c 0) ∙ x.marked c l)

  -- every node is reachable
  module _ (t : all (reachable (heap_of ps cs)) (nodes (heap_of ps cs)) ≡ true) where
    is_kept_lem : kept (heap_of ps cs) ≡ true
    is_kept_lem =
        let h = heap_of ps cs in
        kept_test h (λ c u. all_node h (reachable h) t c (used_below h.slots c u))

    pub inner_first : place_of (λ c. ltb (get_or s c 0) 2) (numbers 0 (length cs))
        ≡ place_of (λ v. not (core (heap_of ps cs) v)) (nodes (heap_of ps cs))
    inner_first = first_same (core (heap_of ps cs)) (λ c. ltb (get_or s c 0) 2)
        (λ c l. below_leb (get_or s c 0) 2 ∙ ap not (kept_held x is_kept_lem c l))

    pub moved_node : closed (heap_of ps cs) ≡ true → length cs ≤ length o
        → place_of (λ c. not (eqb (get_or o c 0) c)) (numbers 0 (length cs))
        ≡ place_of (λ v. not (as_visited (heap_of ps cs) v)) (nodes (heap_of ps cs))
    moved_node k room =
        let h = heap_of ps cs in
        let n = length cs in
        let m : length (order h) ≡ n = visit_count h (test_closed h k) t ∙ length-map cs cell_slot in
        let e : r ≡ n = sym (visited_length x room) ∙ m in
        place_same (λ c. not (eqb (get_or o c 0) c)) (λ c. not (eqb (get_or (order h) c 0) c)) 0 n
        (λ j lo hi. let i : j < r = omega arith in
        ap (λ y. not (eqb y j)) (sym (get_or-take r o j 0 i) ∙ ap (λ l. get_or l j 0) x.visited))
        ∙ moved_first (order h) n m
        ∙ ap (λ z. place_of (λ c. not (eqb (visit_number h c) c)) (numbers 0 z)) (sym (length-map cs cell_slot))

-- ---- what is told, by the places found

module _ {ps cs o s : List ℕ} {r : ℕ} (x : Visited ps cs o s r) (k : closed (heap_of ps cs) ≡ true)
    (room : length cs ≤ length o) {f : ℕ} (e : f ≡ place_of (λ c. ltb (get_or s c 0) 1) (numbers 0 (length cs))) where
  pub tells_lost : f < length cs → Tells (checks_nodes (heap_of ps cs)) (failing 9 f)
  tells_lost l =
      let h = heap_of ps cs in
      let q = e ∙ lost_first x in
      given_tells (checks_nodes h) 9 f
      (inl (refl, sym q, first_fails (reachable h) h q (rw (length-map cs cell_slot) l)))

  module _ (l : length cs ≤ f) {g : ℕ} (d : g ≡ place_of (λ c. ltb (get_or s c 0) 2) (numbers 0 (length cs))) where
    all_reachable : all (reachable (heap_of ps cs)) (nodes (heap_of ps cs)) ≡ true
    all_reachable = none_fails (reachable (heap_of ps cs)) (heap_of ps cs) (e ∙ lost_first x)
        (rw (length-map cs cell_slot) l)

    pub tells_inner : g < length cs → Tells (checks_nodes (heap_of ps cs)) (failing 18 g)
    tells_inner m =
        let h = heap_of ps cs in
        let q = d ∙ inner_first x all_reachable in
        given_tells (checks_nodes h) 18 g
        (inr (all_reachable, inl (refl, sym q, first_fails (core h) h q (rw (length-map cs cell_slot) m))))

    module _ (m : length cs ≤ g) {i : ℕ}
        (b : i ≡ place_of (λ c. not (eqb (get_or o c 0) c)) (numbers 0 (length cs))) where
      all_core : all (core (heap_of ps cs)) (nodes (heap_of ps cs)) ≡ true
      all_core = none_fails (core (heap_of ps cs)) (heap_of ps cs) (d ∙ inner_first x all_reachable)
          (rw (length-map cs cell_slot) m)

      pub tells_moved : i < length cs → Tells (checks_nodes (heap_of ps cs)) (failing 19 i)
      tells_moved t =
          let h = heap_of ps cs in
          let q = b ∙ moved_node x all_reachable k room in
          given_tells (checks_nodes h) 19 i (inr (
            all_reachable,
            inr (all_core, inl (refl, sym q, first_fails (as_visited h) h q (rw (length-map cs cell_slot) t))),
          ))

      pub tells_none : length cs ≤ i → Tells (checks_nodes (heap_of ps cs)) (failing 0 0)
      tells_none t =
          let h = heap_of ps cs in
          let q = b ∙ moved_node x all_reachable k room in
          pass_tells (checks_nodes h)
          (all_reachable, (all_core, (none_fails (as_visited h) h q (rw (length-map cs cell_slot) t), tt)))

-- Each way whose guards are on lands beside the step of the routine, and one such way is there for each entry.
use Prim.Native.Nat.{◌≤◌, ℕ}
use mathlib.Core.Path.{◌∙◌, ◌≡◌, ap, refl, subst, sym}
use mathlib.Core.Logic.{inl, inr, ⊎_elim}
use mathlib.Core.Bool.{false, true}
use mathlib.Core.List.{List, [], ◌∷◌, map}
use native.Mathlib.Omega.{arith}
use lib.Dec.{eqb, leb}
use lib.ListN.{get_or, length}
use borrow.Author.Tests.{eq-eqb, eqb-false, eqb-true, le-leb, leb-true}
use Rattle.model.specs.Edges.{Guard, Way, picks_of, split, split_heap, whole, view, View, one_node, no_node, two_nodes, ways_of, one_at, more_at}
use Rattle.model.specs.Heap.{Heap}
use Rattle.model.specs.Machine.{Entry, Op, Stmt, accepts, branch, picks, is_stop, kind, entry, Action, action, answer_of, branch_by, leak, perform, settle}
use Rattle.model.specs.Shape.{counters, segments, shape}
use Rattle.model.specs.Notions.{Kept, In, SmallGuards, Views, seg_at, ClosedHeap, guard_on, guards_on}
use Rattle.model.proofs.ways.Leave.{Lands, fault_lands, fits_lands}
use Rattle.model.proofs.lists.Lists.{get_or_default, in_map, map_in}
use Rattle.model.proofs.lists.Logic.{bool_case, and_l, and_r, clash}
use Rattle.model.proofs.visits.Order.{used_below}
use Rattle.model.proofs.ways.Picks.{branch_pick, kind-case, pick_in, pick_low, accept_pick, accept_room}
use Rattle.model.proofs.expansion.Start.{start}
use Rattle.model.proofs.expansion.Step.{branch_same, step_go}
use Rattle.model.proofs.ways.Relinks.{heap_leaks, split_leaks}
use Rattle.model.proofs.ways.Ways.{count_length, size_at, whole_fits, view_node, split_fits, one_alone}
use Rattle.model.proofs.expansion.Splits.{view_acts, view_collects}
use Rattle.model.proofs.ways.Views.{view_looks, acts_no_pick, ways_guards}

-- ---- guards on counters

pub one_on : (n : ℕ) (gs : List Guard) (cs : List ℕ) → guards_on (one_at n ∷ gs) cs ≡ true → get_or cs n 0 ≡ 1
one_on n gs cs o = eqb-true (get_or cs n 0) 1 (and_l (eqb (get_or cs n 0) 1) (guards_on gs cs) o)

pub more_on : (n : ℕ) (gs : List Guard) (cs : List ℕ) → guards_on (more_at n ∷ gs) cs ≡ true → 2 ≤ get_or cs n 0
more_on n gs cs o = leb-true 2 (get_or cs n 0) (and_l (leb 2 (get_or cs n 0)) (guards_on gs cs) o)

pub rest_on : (g : Guard) (gs : List Guard) (cs : List ℕ) → guards_on (g ∷ gs) cs ≡ true → guards_on gs cs ≡ true
rest_on g gs cs o = and_r (guard_on cs g) (guards_on gs cs) o

-- a counter is 1 or more
pub one_or_more {ℓ} : {C : Type ℓ} (n : ℕ) (cs : List ℕ) → 1 ≤ get_or cs n 0 → (guard_on cs (one_at n) ≡ true → C)
    → (guard_on cs (more_at n) ≡ true → C) → C
one_or_more n cs p f g =
    bool_case (eqb (get_or cs n 0) 1) f
    (λ q. let ne = eqb-false (get_or cs n 0) 1 q in g (le-leb 2 (get_or cs n 0) (omega arith)))

module _ (s : ℕ) (st : Stmt) (H : Heap) (cl : ClosedHeap H) (kp : Kept H) where
  abbrev op_of_lem : Op
  op_of_lem = st.op

  abbrev does : Action
  does = action op_of_lem

  abbrev nodes : ℕ
  nodes = length (shape H).slots

  counter_same : (n : ℕ) → Views (view does (shape H)) n → get_or (counters H) n 0 ≡ get_or (counters H) n 1
  counter_same n a =
      let lt = used_below (shape H).slots n (view_node H cl kp does n a) in
      get_or_default (counters H) 0 1 n (omega (arith, count_length H cl kp))

  -- the branch on the heap and on its shape
  plain_branch : (p q : ℕ) → (kind op_of_lem ≡ picks → p ≡ q) → branch op_of_lem p H ≡ branch op_of_lem q (shape H)
  plain_branch p q h =
      branch_same (shape H) (seg_at (segments H)) H (start H cl kp) (kind op_of_lem) p
      ∙ kind-case (kind op_of_lem) (λ e. ap (λ z. branch op_of_lem z (shape H)) (h e))
      (λ n. branch_pick (kind op_of_lem) p q (shape H) n)

  node_branch : (n : ℕ) → Views (view does (shape H)) n → (p q : ℕ) (g : Heap) → branch op_of_lem p H
      ≡ branch op_of_lem q g
  node_branch n a p q g =
      let f = view_acts (kind op_of_lem) (shape H) n a in
      ap (λ k. branch_by k p H) f.1 ∙ sym (ap (λ k. branch_by k q g) f.1)

  -- ---- each way whose guards are on lands beside each entry that is accepted and, at choose, picks as the way does

  plain_lands : view does (shape H) ≡ no_node → (y : Way)
      → In y (map (λ p. whole [] p (shape H)) (picks_of (kind op_of_lem))) → (e : Entry)
      → is_stop (kind op_of_lem) ≡ false → accepts op_of_lem e H ≡ true → (kind op_of_lem ≡ picks → e.pick ≡ y.pick)
      → Lands s st H cl kp y e
  plain_lands v y i e g ac pk =
      let r = in_map (λ p. whole [] p (shape H)) y (picks_of (kind op_of_lem)) i in
      subst (λ z. Lands s st H cl kp z e) (sym r.2)
      (fits_lands s st H cl kp (whole [] r.0 (shape H)) e g
      (whole_fits H cl kp does e.cell_no r.0 [] (λ n q. absurd (subst (λ x. Views x n) v q)))
      (pick_low (kind op_of_lem) r.0 r.1) (record { few = omega arith; known = λ x j. absurd j }) ac
      (plain_branch e.pick r.0 (λ q. pk q ∙ ap (λ (z : Way). z.pick) r.2)))

  -- nothing split: each node that is looked at is one cell
  one_lands : (n : ℕ) → Views (view does (shape H)) n → (gs : List Guard) → SmallGuards nodes gs
      → ((i : ℕ) → Views (view does (shape H)) i → get_or (counters H) i 0 ≡ 1) → (e : Entry)
      → is_stop (kind op_of_lem) ≡ false → accepts op_of_lem e H ≡ true → Lands s st H cl kp (whole gs 0 (shape H)) e
  one_lands n v gs gd one e g ac =
      fits_lands s st H cl kp (whole gs 0 (shape H)) e g
      (whole_fits H cl kp does e.cell_no 0 gs (λ i q. one_alone H cl kp i (sym (counter_same i q) ∙ one i q)))
      (omega arith) gd ac (node_branch n v e.pick 0 (shape H))

  -- node n split: each other node that is looked at is one cell
  split_lands : (n : ℕ) → Views (view does (shape H)) n → (gs : List Guard) → SmallGuards nodes gs
      → 2 ≤ get_or (counters H) n 0
      → ((i : ℕ) → Views (view does (shape H)) i → eqb i n ≡ false → get_or (counters H) i 0 ≡ 1) → (e : Entry)
      → is_stop (kind op_of_lem) ≡ false → accepts op_of_lem e H ≡ true → Lands s st H cl kp (split gs n (shape H)) e
  split_lands n v gs gd more one e g ac =
      let w = counter_same n v in
      fits_lands s st H cl kp (split gs n (shape H)) e g
      (split_fits H cl kp does e.cell_no n gs v (omega arith) (λ i q z. sym (counter_same i q) ∙ one i q z))
      (omega arith) gd ac (node_branch n v e.pick 0 (split_heap n nodes (shape H)))

  -- the first of two nodes split: a leak, whatever the counter of the second
  leak_lands : (n m : ℕ) → view does (shape H) ≡ two_nodes n m → (gs : List Guard) → SmallGuards nodes gs
      → 2 ≤ get_or (counters H) n 0 → (e : Entry)
      → is_stop (kind op_of_lem) ≡ false → accepts op_of_lem e H ≡ true → Lands s st H cl kp (split gs n (shape H)) e
  leak_lands n m v gs gd more e g ac =
      let q : Views (view does (shape H)) n = subst (λ x. Views x n) (sym v) (inl refl) in
      let w = counter_same n q in
      let y = split gs n (shape H) in
      let d = entry 0 nodes in
      let X = start H cl kp in
      let aw : accepts op_of_lem d y.heap ≡ true =
      accept_room op_of_lem d y.heap ((view_looks does (shape H) n q).roomy y.heap nodes) (λ z. omega arith) in
      let k = view_collects (kind op_of_lem) (shape H) n q in
      fault_lands s st H cl kp y e leak gd
      (step_go st d y.heap g aw
      ∙ ap (λ c. answer_of st (branch op_of_lem 0 y.heap) (settle c (perform does nodes y.heap))) k
      ∙ ap (answer_of st (branch op_of_lem 0 y.heap))
      (split_leaks does nodes n m (shape H) (X.closed, X.body.closed) v))
      (step_go st e H g ac
      ∙ ap (λ c. answer_of st (branch op_of_lem e.pick H) (settle c (perform does e.cell_no H))) k
      ∙ ap (answer_of st (branch op_of_lem e.pick H)) (heap_leaks H cl kp does e.cell_no n m v (omega arith)))

  -- the nodes of a view
  sees : {v : View} → view does (shape H) ≡ v → (i : ℕ) → Views v i → Views (view does (shape H)) i
  sees e i = subst (λ x. Views x i) (sym e)

  seen : {v : View} → view does (shape H) ≡ v → (i : ℕ) → Views (view does (shape H)) i → Views v i
  seen e i = subst (λ x. Views x i) e

  abbrev count_of : ℕ → ℕ
  count_of i = get_or (counters H) i 0

  positive : (n : ℕ) → Views (view does (shape H)) n → 1 ≤ get_or (counters H) n 0
  positive n v = let sz = size_at H cl kp n in let w = counter_same n v in omega arith

  no_pick : (n : ℕ) → Views (view does (shape H)) n → (e : Entry) → kind op_of_lem ≡ picks → e.pick ≡ 0
  no_pick n v e q =
      let f = view_acts (kind op_of_lem) (shape H) n v in
      absurd (acts_no_pick f.0 (sym f.1 ∙ q))

  way_small : (v : View) → view does (shape H) ≡ v → (y : Way) → In y (ways_of (kind op_of_lem) v (shape H))
      → SmallGuards nodes y.guards
  way_small v e y i =
      let r = ways_guards (kind op_of_lem) v (shape H) y i in
      record {
        few = r.0;
        known = λ g j. used_below (shape H).slots g.node (view_node H cl kp does g.node
            (sees e g.node (r.1 g j)));
      }

  pub way_lands : (v : View) → view does (shape H) ≡ v → (y : Way) → In y (ways_of (kind op_of_lem) v (shape H))
      → guards_on y.guards (counters H) ≡ true → (e : Entry) → is_stop (kind op_of_lem) ≡ false
      → accepts op_of_lem e H ≡ true
      → (kind op_of_lem ≡ picks → e.pick ≡ y.pick) → Lands s st H cl kp y e
  way_lands no_node v y i on e g ac pk = plain_lands v y i e g ac pk
  way_lands (one_node n) v y (inl q) on e g ac pk =
      subst (λ z. Lands s st H cl kp z e) (sym q)
      (one_lands n (sees v n refl) (one_at n ∷ [])
      (way_small (one_node n) v (whole (one_at n ∷ []) 0 (shape H)) (inl refl))
      (λ i z. ap count_of (seen v i z) ∙ one_on n [] (counters H) (rw q at on)) e g ac)
  way_lands (one_node n) v y (inr (inl q)) on e g ac pk =
      subst (λ z. Lands s st H cl kp z e) (sym q)
      (split_lands n (sees v n refl) (more_at n ∷ [])
      (way_small (one_node n) v (split (more_at n ∷ []) n (shape H)) (inr (inl refl)))
      (more_on n [] (counters H) (rw q at on)) (λ i z d. clash (eq-eqb i n (seen v i z)) d) e g ac)
  way_lands (one_node n) v y (inr (inr x)) on e g ac pk = absurd x
  way_lands (two_nodes n m) v y (inl q) on e g ac pk =
      let o : guards_on (one_at n ∷ one_at m ∷ []) (counters H) ≡ true = rw q at on in
      let on_n = one_on n (one_at m ∷ []) (counters H) o in
      let on_m = one_on m [] (counters H) (rest_on (one_at n) (one_at m ∷ []) (counters H) o) in
      subst (λ z. Lands s st H cl kp z e) (sym q)
      (one_lands n (sees v n (inl refl)) (one_at n ∷ one_at m ∷ [])
      (way_small (two_nodes n m) v (whole (one_at n ∷ one_at m ∷ []) 0 (shape H)) (inl refl))
      (λ i z. ⊎_elim (λ p. ap count_of p ∙ on_n) (λ p. ap count_of p ∙ on_m) (seen v i z)) e g ac)
  way_lands (two_nodes n m) v y (inr (inl q)) on e g ac pk =
      let o : guards_on (one_at n ∷ more_at m ∷ []) (counters H) ≡ true = rw q at on in
      subst (λ z. Lands s st H cl kp z e) (sym q)
      (split_lands m (sees v m (inr refl)) (one_at n ∷ more_at m ∷ [])
      (way_small (two_nodes n m) v (split (one_at n ∷ more_at m ∷ []) m (shape H)) (inr (inl refl)))
      (more_on m [] (counters H) (rest_on (one_at n) (more_at m ∷ []) (counters H) o))
      (λ i z d. ⊎_elim (λ p. ap count_of p ∙ one_on n (more_at m ∷ []) (counters H) o)
      (λ p. clash (eq-eqb i m p) d) (seen v i z)) e g ac)
  way_lands (two_nodes n m) v y (inr (inr (inl q))) on e g ac pk =
      subst (λ z. Lands s st H cl kp z e) (sym q)
      (leak_lands n m v (more_at n ∷ [])
      (way_small (two_nodes n m) v (split (more_at n ∷ []) n (shape H)) (inr (inr (inl refl))))
      (more_on n [] (counters H) (rw q at on)) e g
      ac)
  way_lands (two_nodes n m) v y (inr (inr (inr x))) on e g ac pk = absurd x

  -- the way that the heap takes
  abbrev pub Taken : View → Entry → Type 0
  Taken v e = (y : Way) × In y (ways_of (kind op_of_lem) v (shape H)) × (guards_on y.guards (counters H) ≡ true)
      × (kind op_of_lem ≡ picks → e.pick ≡ y.pick)

  pub take_way : (v : View) → view does (shape H) ≡ v → (e : Entry) → accepts op_of_lem e H ≡ true → Taken v e
  take_way no_node v e ac =
      let r = pick_in (kind op_of_lem) e.pick (accept_pick op_of_lem e H ac) in (
        whole [] r.0 (shape H),
        map_in (λ p. whole [] p (shape H)) r.0 (picks_of (kind op_of_lem)) r.1,
        refl,
        r.2,
      )
  take_way (one_node n) v e ac =
      one_or_more n (counters H) (positive n (sees v n refl))
      (λ q. (whole (one_at n ∷ []) 0 (shape H), inl refl, rw q, no_pick n (sees v n refl) e))
      (λ q. (split (more_at n ∷ []) n (shape H), inr (inl refl), rw q, no_pick n (sees v n refl) e))
  take_way (two_nodes n m) v e ac =
      let np = no_pick n (sees v n (inl refl)) e in
      one_or_more n (counters H) (positive n (sees v n (inl refl)))
      (λ p. one_or_more m (counters H) (positive m (sees v m (inr refl)))
      (λ q. (whole (one_at n ∷ one_at m ∷ []) 0 (shape H), inl refl, rw (p, q), np))
      (λ q. (split (one_at n ∷ more_at m ∷ []) m (shape H), inr (inl refl), rw (p, q), np)))
      (λ p. (split (more_at n ∷ []) n (shape H), inr (inr (inl refl)), rw p, np))

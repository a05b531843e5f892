-- How many edges a location has, in which order and with which guards: none at a stop, two at a choose, two where an op
-- goes through a node, else one but for a relink of two nodes.
use Prim.Native.Nat.{◌≤◌, ℕ}
use mathlib.Core.Path.{◌∙◌, ◌≡◌, ap, refl}
use mathlib.Core.Bool.{false, true}
use mathlib.Core.List.{List, [], ◌∷◌, ◌++◌, map}
use native.Mathlib.Omega.{arith}
use lib.ListN.{get_or-eq_default, length}
use borrow.Author.Tests.{le-leb}
use Rattle.model.specs.Base.{joined}
use Rattle.model.specs.Edges.{Edge, Way, at, edge_by, edges_at, more_at, no_node, one_at, picks_of, split, step_by, view, view_pair, view_val, ways_of, whole}
use Rattle.model.specs.Heap.{Heap, Slot, Val, cell, null, ptr, undef, unused}
use Rattle.model.specs.Machine.{Action, Effect, Kind, Op, Stmt, accepts_cell, accepts, action, action_of, acts, answer_of, branch, carry_out, choose, clear, copy, done, entry, fault, free, is_null, is_stop, kind, let_go, load, new, picks, relink, same, set_null, skip, step, stop, store, target, went}
use Rattle.model.specs.Notions.{Canon, Other, Through, clears, frees, loads, stores}
use Rattle.model.proofs.expansion.Facts.{kept_test}
use Rattle.model.proofs.expansion.Step.{step_as_lem, step_go}
use Rattle.model.proofs.lists.Logic.{eqb_same}
use Rattle.model.proofs.shapes.Canon.{canon_fold}
use Rattle.model.proofs.ways.Guards.{acts_one}
use Rattle.model.proofs.ways.Picks.{accept_room, room_of}

-- ---- what an op looks at

-- where an op goes through pointer v, it acts on what v holds, and takes no cell
record GoesBy (op : Op) (v : ℕ) (h : Heap) : Type 0 where
  pub does : Action
  pub is_acts : kind op ≡ acts does
  pub takes : (s : Slot) → accepts_cell does s ≡ true
  pub looks : view does h ≡ view_val (ptr h v)

goes_by : (op : Op) (v : ℕ) (h : Heap) → Through op v → GoesBy op v h
goes_by op v h loads = record { does = _; is_acts = refl; takes = λ s. refl; looks = refl }
goes_by op v h clears = record { does = _; is_acts = refl; takes = λ s. refl; looks = refl }
goes_by op v h stores = record { does = _; is_acts = refl; takes = λ s. refl; looks = refl }
goes_by op v h frees = record { does = _; is_acts = refl; takes = λ s. refl; looks = refl }

no_cell : (v : Val) → ((n : ℕ) → v ≡ cell n → ⊥) → view_val v ≡ no_node
no_cell (cell n) f = absurd (f n refl)
no_cell null f = refl
no_cell undef f = refl

no_pair : (v w : Val) → ((n m : ℕ) → v ≡ cell n → w ≡ cell m → n ≡ m) → view_pair v w ≡ no_node
no_pair (cell n) (cell m) f = let e = f n m refl refl in rw (e, eqb_same m)
no_pair (cell n) null f = refl
no_pair (cell n) undef f = refl
no_pair null w f = refl
no_pair undef w f = refl

-- every other statement has one pick, and looks at no node
record OneWay (op : Op) (h : Heap) : Type 0 where
  pub goes : is_stop (kind op) ≡ false
  pub one_pick : picks_of (kind op) ≡ 0 ∷ []
  pub no_look : view (action op) h ≡ no_node

one_way : (op : Op) (h : Heap) → Other op h → OneWay op h
one_way stop h o = absurd (o.no_stop refl)
one_way (set_null u) h o = record { goes = refl; one_pick = refl; no_look = refl }
one_way (copy u w) h o = record { goes = refl; one_pick = refl; no_look = refl }
one_way (load u w) h o =
    record { goes = refl; one_pick = refl; no_look = no_cell (ptr h w) (λ n. o.no_node_through w n loads) }
one_way (clear u) h o =
    record { goes = refl; one_pick = refl; no_look = no_cell (ptr h u) (λ n. o.no_node_through u n clears) }
one_way (store u w) h o =
    record { goes = refl; one_pick = refl; no_look = no_cell (ptr h u) (λ n. o.no_node_through u n stores) }
one_way (new u) h o = record { goes = refl; one_pick = refl; no_look = refl }
one_way (free u) h o =
    record { goes = refl; one_pick = refl; no_look = no_cell (ptr h u) (λ n. o.no_node_through u n frees) }
one_way (is_null u) h o = record { goes = refl; one_pick = refl; no_look = refl }
one_way (same u w) h o = record { goes = refl; one_pick = refl; no_look = refl }
one_way choose h o = absurd (o.no_choose refl)
one_way skip h o = record { goes = refl; one_pick = refl; no_look = refl }
one_way (relink u w) h o =
    record { goes = refl; one_pick = refl; no_look = no_pair (ptr h u) (ptr h w) (λ n m. o.no_two_nodes u w n m refl) }
one_way (let_go u) h o = record { goes = refl; one_pick = refl; no_look = refl }

-- ---- the edges

module _ (i : ℕ) (st : Stmt) (h : Heap) where
  abbrev nodes : ℕ
  nodes = length h.slots

  abbrev by_way : Way → List Edge
  by_way y = edge_by i nodes y (step_by st nodes y)

  -- a way whose entry is accepted makes one edge, with its guards
  way_edge : (y : Way) → is_stop (kind st.op) ≡ false → accepts st.op (entry y.pick nodes) y.heap ≡ true
      → (E : Edge) × (by_way y ≡ E ∷ []) × (E.guards ≡ y.guards)
  way_edge y g a =
      rw (step_go st (entry y.pick nodes) y.heap g a) (by_run (carry_out st.op nodes y.heap))
    where
      by_run : (x : Effect) → (E : Edge) × (edge_by i nodes y (answer_of st (branch st.op y.pick y.heap) x)
          ≡ E ∷ []) × (E.guards ≡ y.guards)
      by_run (fault f) = (_, refl, refl)
      by_run (done g) = (_, refl, refl)

  -- the cell past the nodes is not in use
  accepts_zero : accepts st.op (entry 0 nodes) h ≡ true
  accepts_zero =
      accept_room st.op (entry 0 nodes) h
      (room_of (action st.op) h nodes (get_or-eq_default h.slots unused (omega arith))) (λ q. omega arith)

  pub one_edge_lem : Other st.op h → (E : Edge) × (edges_at i st h ≡ E ∷ []) × (E.guards ≡ [])
  one_edge_lem o =
      let w = one_way st.op h o in
      let e = way_edge (whole [] 0 h) w.goes accepts_zero in (
        e.0,
        ap (λ v. joined (map by_way (ways_of (kind st.op) v h))) w.no_look
            ∙ ap (λ ps. joined (map by_way (map (λ p. whole [] p h) ps))) w.one_pick
            ∙ ap (λ l. l ++ []) e.1,
        e.2,
      )

  pub stop_edges : st.op ≡ stop → edges_at i st h ≡ []
  stop_edges o = ap (λ op. joined (map (λ y. edge_by i nodes y (step (record {
    op = op;
    first_target = st.first_target;
    second_target = st.second_target;
  }) (entry y.pick nodes) y.heap)) (ways_of (kind op) (view (action op) h) h))) o

  module _ (C : Canon h) where
    pub two_edges : (v n : ℕ) → Through st.op v → ptr h v ≡ cell n → (E F : Edge) × (edges_at i st h ≡ E ∷ F ∷ [])
        × (E.branch_no ≡ 0) × (E.guards ≡ one_at n ∷ []) × (F.branch_no ≡ 0) × (F.guards ≡ more_at n ∷ [])
    two_edges v n t p =
        let g = goes_by st.op v h t in
        let kp = kept_test h C.kept in
        let a = acts_one i st h kp g.does g.is_acts g.takes (whole (one_at n ∷ []) 0 h) in
        let b = acts_one i st h kp g.does g.is_acts g.takes (split (more_at n ∷ []) n h) in (
          a.0,
          b.0,
          ap (λ (c : Kind). joined (map by_way (ways_of (kind st.op) (view (action_of c) h) h))) g.is_acts
              ∙ ap (λ x. joined (map by_way (ways_of (kind st.op) x h))) (g.looks ∙ ap view_val p)
              ∙ (λ j. a.1 j ++ (b.1 j ++ [])),
          a.2,
          a.3,
          b.2,
          b.3,
        )

    -- a pick of a choose goes to its target, and the shape stays
    pick_edge : st.op ≡ choose → (p : ℕ) → p ≤ 1 → (E : Edge) × (by_way (whole [] p h) ≡ E ∷ [])
        × (E.branch_no ≡ p) × (E.guards ≡ []) × (E.to ≡ at (target st p) h)
    pick_edge o p l = (
      _,
      ap (edge_by i nodes (whole [] p h)) (goes p l),
      refl,
      refl,
      ap (at (target st p)) (canon_fold h C),
    )
      where
        goes : (q : ℕ) → q ≤ 1 → step st (entry q nodes) h ≡ went q (target st q) h
        goes q l =
            step_as_lem st (entry q nodes) h picks (ap kind o)
            ∙ rw (le-leb q 1 l, kept_test h C.kept)

    pub choose_edges : st.op ≡ choose → (E F : Edge) × (edges_at i st h ≡ E ∷ F ∷ [])
        × ((E.branch_no ≡ 0) × (E.guards ≡ []) × (E.to ≡ at st.first_target h))
        × ((F.branch_no ≡ 1) × (F.guards ≡ []) × (F.to ≡ at st.second_target h))
    choose_edges o =
        let a = pick_edge o 0 (omega arith) in
        let b = pick_edge o 1 (omega arith) in (
          a.0,
          b.0,
          ap (λ (c : Kind). joined (map by_way (ways_of c (view (action_of c) h) h))) (ap kind o)
              ∙ (λ j. a.1 j ++ (b.1 j ++ [])),
          (a.2, a.3, a.4),
          (b.2, b.3, b.4),
        )

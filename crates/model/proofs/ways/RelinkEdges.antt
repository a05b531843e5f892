-- A relink, step by step and edge by edge: its faults, the cell that both pointers hold, and its three edges.
use Prim.Native.Nat.{◌≤◌, ℕ}
use mathlib.Core.Path.{◌∙◌, ◌≡◌, ap, refl, sym}
use mathlib.Core.Bool.{Bool, cond, true}
use mathlib.Core.List.{List, [], ◌∷◌, ◌++◌, map, map-map}
use native.Mathlib.Omega.{arith}
use lib.ListN.{get_or, length}
use borrow.Author.Tests.{ne_eqb}
use Rattle.model.specs.Base.{joined, numbers}
use Rattle.model.specs.Edges.{Edge, Way, at, edge_by, edges_at, failed, more_at, no_node, one_at, split, step_by, two_nodes, update_of, view, view_pair, ways_of, whole}
use Rattle.model.specs.Heap.{Heap, cell, holds, kept, next, null, ptr, undef}
use Rattle.model.specs.Machine.{Entry, Fault, Kind, Stmt, action_of, acts, answer_of, done, fault, faulted, held, keep, kind, leak, perform, put_slot, splice, step, went}
use Rattle.model.specs.Notions.{Canon, ClosedHeap, Kept, LooksBad, u_null, u_undef, w_null, w_undef, worth}
use Rattle.model.specs.Shape.{counters, segments, shape}
use Rattle.model.proofs.expansion.Effects.{put_same}
use Rattle.model.proofs.expansion.Facts.{kept_test}
use Rattle.model.proofs.expansion.Splits.{pair_none, splice_does}
use Rattle.model.proofs.expansion.Step.{step_as_lem}
use Rattle.model.proofs.lists.Lists.{map_same}
use Rattle.model.proofs.lists.Logic.{eqb_same, mem_one}
use Rattle.model.proofs.lists.Numbers.{in_numbers, read_all}
use Rattle.model.proofs.shapes.Canon.{canon_fold, canon_segments, single}
use Rattle.model.proofs.ways.Guards.{acts_one}
use Rattle.model.proofs.ways.Relinks.{heap_leaks, split_leaks}
use Rattle.model.proofs.ways.Weights.{update_value}
use Rattle.model.proofs.ways.Ways.{whole_fair}
use Rattle.model.proofs.ways.Views.{ptr_used}

module _ (st : Stmt) (u w : ℕ) (k : kind st.op ≡ acts (splice u w)) where
  -- ---- one step

  module _ (e : Entry) (h : Heap) where
    -- every entry is accepted
    relink_step : step st e h ≡ answer_of st 0 (keep (perform (splice u w) e.cell_no h))
    relink_step = step_as_lem st e h (acts (splice u w)) k

    looks_bad : (f : Fault) → LooksBad h u w f → perform (splice u w) e.cell_no h ≡ fault f
    looks_bad f (w_null p) = rw p
    looks_bad f (w_undef p) = rw p
    looks_bad f (u_null d p q) = rw (p, q)
    looks_bad f (u_undef d p q) = rw (p, q)

    pub relink_faults : (f : Fault) → LooksBad h u w f → step st e h ≡ faulted f
    relink_faults f b = relink_step ∙ ap (λ x. answer_of st 0 (keep x)) (looks_bad f b)

    module _ (cl : ClosedHeap h) (c d : ℕ) (p : ptr h u ≡ cell c) (q : ptr h w ≡ cell d) where
      relink_done : step st e h ≡ answer_of st 0 (keep (done (put_slot c (next h d) h)))
      relink_done =
          let n = ptr_used h w d cl.0 q in
          relink_step ∙ ap (λ x. answer_of st 0 (keep x)) (splice_does u w e.cell_no c d h p q)
          ∙ ap (λ s. answer_of st 0 (keep (done (put_slot c s h)))) (ap (λ s. holds (held s)) n.1 ∙ sym n.1)

      -- the test for lost cells
      pub relink_goes : (b : Bool) → kept (put_slot c (next h d) h) ≡ b
          → step st e h ≡ answer_of st 0 (cond b (done (put_slot c (next h d) h)) (fault leak))
      relink_goes b t =
          relink_done ∙ ap (λ x. answer_of st 0 (cond x (done (put_slot c (next h d) h)) (fault leak))) t

    -- nothing changes where both hold one cell
    pub relink_same : ClosedHeap h → kept h ≡ true → (c : ℕ) → ptr h u ≡ cell c → ptr h w ≡ cell c
        → step st e h ≡ went 0 st.first_target h
    relink_same cl kp c p q =
        relink_step ∙ ap (λ x. answer_of st 0 (keep x)) (splice_does u w e.cell_no c c h p q)
        ∙ ap (λ x. answer_of st 0 (keep (done x))) (put_same h c (ptr_used h u c cl.0 p))
        ∙ ap (λ b. answer_of st 0 (cond b (done h) (fault leak))) kp

    -- a leak wherever the counter of u's node is 2 or more
    pub long_leaks : (cl : ClosedHeap h) (kp : Kept h) (n m : ℕ) → ptr (shape h) u ≡ cell n → ptr (shape h) w ≡ cell m
        → (n ≡ m → ⊥) → 2 ≤ get_or (counters h) n 1 → step st e h ≡ faulted leak
    long_leaks cl kp n m p q apart more =
        let v : view (splice u w) (shape h) ≡ two_nodes n m = rw (p, q, ne_eqb n m apart) in
        relink_step ∙ ap (answer_of st 0) (heap_leaks h cl kp (splice u w) e.cell_no n m v more)

  -- ---- its edges

  module _ (i : ℕ) (h : Heap) where
    abbrev nodes : ℕ
    nodes = length h.slots

    abbrev by_way : Way → List Edge
    by_way y = edge_by i nodes y (step_by st nodes y)

    edges_are : edges_at i st h ≡ joined (map by_way (ways_of (kind st.op) (view_pair (ptr h u) (ptr h w)) h))
    edges_are = ap (λ (c : Kind). joined (map by_way (ways_of (kind st.op) (view (action_of c) h) h))) k

    -- no node is looked at: the edge of one way
    one_edge_lem : view_pair (ptr h u) (ptr h w) ≡ no_node → edges_at i st h ≡ by_way (whole [] 0 h) ++ []
    one_edge_lem v =
        edges_are ∙ ap (λ x. joined (map by_way (ways_of (kind st.op) x h))) v
        ∙ ap (λ (c : Kind). joined (map by_way (ways_of c no_node h))) k

    none_bad : (f : Fault) → LooksBad h u w f → view_pair (ptr h u) (ptr h w) ≡ no_node
    none_bad f (w_null p) = rw p (pair_none (ptr h u) null refl)
    none_bad f (w_undef p) = rw p (pair_none (ptr h u) undef refl)
    none_bad f (u_null d p q) = rw q
    none_bad f (u_undef d p q) = rw q

    pub fault_edge_lem : (f : Fault) → LooksBad h u w f
        → edges_at i st h ≡ record { branch_no = 0; guards = []; to = failed i f; updates = [] } ∷ []
    fault_edge_lem f b =
        one_edge_lem (none_bad f b)
        ∙ ap (λ a. edge_by i nodes (whole [] 0 h) a ++ []) (relink_faults (record { pick = 0; cell_no = nodes }) h f b)

    -- both at one node: the shape stays, and each counter is carried
    module _ (C : Canon h) (n : ℕ) (p : ptr h u ≡ cell n) (q : ptr h w ≡ cell n) where
      abbrev carrying : Edge
      carrying = record {
        branch_no = 0;
        guards = [];
        to = at st.first_target h;
        updates = map (update_of nodes (whole [] 0 h).weight) (segments h);
      }

      pub same_edge : edges_at i st h ≡ carrying ∷ []
      same_edge =
          one_edge_lem (rw (p, q, eqb_same n))
          ∙ ap (λ a. edge_by i nodes (whole [] 0 h) a ++ [])
          (relink_same (record { pick = 0; cell_no = nodes }) h C.closed (kept_test h C.kept) n p q)
          ∙ ap (λ x. record {
            branch_no = 0;
            guards = [];
            to = at st.first_target x;
            updates = map (update_of nodes (whole [] 0 h).weight) (segments h);
          } ∷ []) (canon_fold h C)

      pub same_counters : (cs : List ℕ) → length cs ≡ nodes → map (worth cs) carrying.updates ≡ cs
      same_counters cs len =
          let w = (whole [] 0 h).weight in
          ap (λ ss. map (worth cs) (map (update_of nodes w) ss)) (canon_segments h C)
          ∙ map-map (worth cs) (update_of nodes w) (map single (numbers 0 nodes))
          ∙ map-map (λ x. worth cs (update_of nodes w x)) single (numbers 0 nodes)
          ∙ map_same (λ j. worth cs (update_of nodes w (single j))) (λ j. get_or cs j 1) (numbers 0 nodes)
          (λ j r. let lt = (in_numbers 0 nodes j r).1 in
          sym (update_value nodes cs len w (whole_fair nodes cs) (single j) (refl, tt)
          (λ c m. let z = mem_one c j m in omega arith))
          ∙ rw (ne_eqb j nodes (λ z. omega arith)) (omega arith))
          ∙ ap (λ m. map (λ j. get_or cs j 1) (numbers 0 m)) (sym len) ∙ read_all 1 cs

    -- at two nodes: three edges
    module _ (C : Canon h) (n m : ℕ) (p : ptr h u ≡ cell n) (q : ptr h w ≡ cell m) (apart : n ≡ m → ⊥) where
      two : view_pair (ptr h u) (ptr h w) ≡ two_nodes n m
      two = rw (p, q, ne_eqb n m apart)

      abbrev leaking : Edge
      leaking = record { branch_no = 0; guards = more_at n ∷ []; to = failed i leak; updates = [] }

      third : by_way (split (more_at n ∷ []) n h) ≡ leaking ∷ []
      third =
          let y = split (more_at n ∷ []) n h in
          ap (edge_by i nodes y) (relink_step (record { pick = 0; cell_no = nodes }) y.heap
          ∙ ap (answer_of st 0) (split_leaks (splice u w) nodes n m h C.closed two))

      pub three_edges : (E F : Edge) × (edges_at i st h ≡ E ∷ F ∷ leaking ∷ [])
          × (E.branch_no ≡ 0) × (E.guards ≡ one_at n ∷ one_at m ∷ [])
          × (F.branch_no ≡ 0) × (F.guards ≡ one_at n ∷ more_at m ∷ [])
      three_edges =
          let kp = kept_test h C.kept in
          let a = acts_one i st h kp (splice u w) k (λ x. refl) (whole (one_at n ∷ one_at m ∷ []) 0 h) in
          let b = acts_one i st h kp (splice u w) k (λ x. refl) (split (one_at n ∷ more_at m ∷ []) m h) in (
            a.0,
            b.0,
            edges_are ∙ ap (λ x. joined (map by_way (ways_of (kind st.op) x h))) two
                ∙ (λ j. a.1 j ++ (b.1 j ++ (third j ++ []))),
            a.2,
            a.3,
            b.2,
            b.3,
          )

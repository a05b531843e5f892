-- Every edge of a shape leads to a fault or to a shape with as many pointers, and its updates are small; so every
-- reached location can be written.
use Prim.Native.Nat.{◌<◌, ◌≤◌, ℕ}
use mathlib.Core.Path.{◌∙◌, ◌≡◌, ap, refl, subst, sym}
use mathlib.Core.Logic.{inl, inr}
use mathlib.Core.Option.{some}
use mathlib.Core.Bool.{◌&&◌, cond, true}
use mathlib.Core.List.{List, map, [], ◌∷◌}
use native.Mathlib.Omega.{arith}
use lib.Dec.{eqb, leb}
use lib.ListN.{get_or-eq_default, get_or, length, length-map}
use borrow.Author.Tests.{ne_eqb}
use Rattle.model.specs.Base.{numbers}
use Rattle.model.specs.Edges.{Edge, Guard, Loc, Way, at, edge_by, edges_at, edges_of, failed, picks_of, split, step_by, stmt_at, whole, one_at, more_at, View, ways_of, view, one_node, two_nodes, no_node}
use Rattle.model.specs.Heap.{Heap, in_use, unused}
use Rattle.model.specs.Image.{spread, unfold_heap}
use Rattle.model.specs.Machine.{Action, Effect, Entry, Stmt, accepts, answer_of, branch, carry_out, done, entry, fault, step, target, Kind, action, kind, perform, collects, settle}
use Rattle.model.specs.Runs.{State, Status, Advance, made, past, running}
use Rattle.model.specs.Shape.{node_val, segments, size}
use Rattle.model.specs.Translate.{Routine}
use Rattle.model.specs.Notions.{Canon, In, Pairs, Exclude, Positive, SmallEdge, nodes_of, worth, ClosedHeap, Views, guard_on, guards_on, statement_of}
use Rattle.model.proofs.shapes.Canon.{fold_canon}
use Rattle.model.proofs.records.Checked.{GoodStarts}
use Rattle.model.proofs.records.Falls.{StaysPositive}
use Rattle.model.proofs.records.Refusals.{good_leads}
use Rattle.model.proofs.records.Statements.{Leads}
use Rattle.model.proofs.expansion.Collect.{settle_any}
use Rattle.model.proofs.expansion.Facts.{heap_closed, heap_kept, kept_test}
use Rattle.model.proofs.ways.Guards.{edges_cover, edges_exclude}
use Rattle.model.proofs.ways.Leave.{Fit, MatchIn, begin}
use Rattle.model.specs.Listings.{GoodInput, Reached, by_edge, from_start, GoodLoc}
use Rattle.model.proofs.lists.Lists.{get_or_default, in_map, in_single, map_in, some_inj}
use Rattle.model.proofs.lists.Logic.{and_both, bool_case, eqb_same}
use Rattle.model.proofs.lists.Numbers.{length_numbers, map_number}
use Rattle.model.proofs.ways.Location.{edge_goes, edge_way, leave_backward, way_guards}
use Rattle.model.proofs.visits.Order.{used_below}
use Rattle.model.proofs.ways.Picks.{made_goes}
use Rattle.model.proofs.expansion.Step.{step_go}
use Rattle.model.proofs.shapes.Unfold.{counters_unfold, shape_unfold, unfold_is_heap}
use Rattle.model.proofs.expansion.Kinds.{PtrsAre, leaves_ptrs, effect_leaves}
use Rattle.model.proofs.ways.Relinks.{view_two}
use Rattle.model.proofs.ways.Views.{view_used}

pub made_ptrs : (s : ℕ) (st : Stmt) (e : Entry) (h : Heap) → ClosedHeap h → (x : Advance State)
    → made (begin s h) (step st e h) ≡ some x → length x.after.heap.ptrs ≡ length h.ptrs
made_ptrs s st e h cl x m =
    let g = made_goes (begin s h) st e h x m in
    let a = action st.op in
    let y = perform a e.cell_no h in
    let b = collects (kind st.op) in
    by_run (settle b y) (settle_any b (PtrsAre (length h.ptrs)) (λ f. tt) (λ g k. k) y
    (leaves_ptrs a e.cell_no h y (effect_leaves a e.cell_no h cl)))
    (rw (step_go st e h g.0 g.1) at m)
  where
    by_run : (r : Effect) → PtrsAre (length h.ptrs) r
        → made (begin s h) (answer_of st (branch st.op e.pick h) r) ≡ some x
        → length x.after.heap.ptrs ≡ length h.ptrs
    by_run (done k) p q = ap (λ (y : Advance State). length y.after.heap.ptrs) (sym (some_inj q)) ∙ p
    by_run (fault f) p q = ap (λ (y : Advance State). length y.after.heap.ptrs) (sym (some_inj q))

-- There are counters for which the guards of a way hold.
abbrev Met : ℕ → List Guard → Type 0
Met k gs = (cs : List ℕ) × (length cs ≡ k) × Positive cs × (guards_on gs cs ≡ true)

-- 2 at node m, and 1 at the others
module _ (k m : ℕ) where
  abbrev two_at : ℕ → ℕ
  two_at i = cond (eqb i m) 2 1

  two_at_1 : (i : ℕ) → 1 ≤ two_at i
  two_at_1 i = bool_case (eqb i m) (λ e. rw e (omega arith)) (λ e. rw e (omega arith))

  met_by : (gs : List Guard) → ((cs : List ℕ) → ((i : ℕ) → i < k → get_or cs i 0 ≡ two_at i) → guards_on gs cs ≡ true)
      → Met k gs
  met_by gs f =
      let cs = map two_at (numbers 0 k) in
      let len : length cs ≡ k = length-map (numbers 0 k) two_at ∙ length_numbers 0 k in
      let is : (d i : ℕ) → i < k → get_or cs i d ≡ two_at i = λ d i lt. map_number two_at k i d lt in (
        cs,
        len,
        (λ i lt. let z = is 1 i (omega arith) in let p = two_at_1 i in omega arith),
        f cs (is 0),
      )

  module _ (cs : List ℕ) (is : (i : ℕ) → i < k → get_or cs i 0 ≡ two_at i) where
    one_met : (n : ℕ) → n < k → (n ≡ m → ⊥) → guard_on cs (one_at n) ≡ true
    one_met n lt ne = ap (λ c. eqb c 1) (is n lt ∙ ap (λ b. cond b 2 1) (ne_eqb n m ne))

    more_met : m < k → guard_on cs (more_at m) ≡ true
    more_met lt = ap (leb 2) (is m lt ∙ ap (λ b. cond b 2 1) (eqb_same m))

module _ (kd : Kind) (a : Action) (h : Heap) (cl : ClosedHeap h) where
  abbrev nodes : ℕ
  nodes = length h.slots

  below : {v : View} → view a h ≡ v → (n : ℕ) → Views v n → n < nodes
  below e n q = used_below h.slots n (view_used a h cl.0 n (subst (λ x. Views x n) (sym e) q))

  way_met : (y z : Way) → y ≡ z → Met nodes z.guards → Met nodes y.guards
  way_met y z e = subst (λ (x : Way). Met nodes x.guards) (sym e)

  ways_met : (v : View) → view a h ≡ v → (y : Way) → In y (ways_of kd v h) → Met nodes y.guards
  ways_met no_node v y i =
      let r = in_map (λ p. whole [] p h) y (picks_of kd) i in
      way_met y (whole [] r.0 h) r.2 (met_by nodes 0 [] (λ cs is. refl))
  ways_met (one_node n) v y (inl e) =
      let lt = below v n refl in
      way_met y (whole (one_at n ∷ []) 0 h) e (met_by nodes nodes (one_at n ∷ []) (λ cs is.
      and_both (guard_on cs (one_at n)) true (one_met nodes nodes cs is n lt (λ q. omega arith)) refl))
  ways_met (one_node n) v y (inr (inl e)) =
      way_met y (split (more_at n ∷ []) n h) e (met_by nodes n (more_at n ∷ []) (λ cs is.
      and_both (guard_on cs (more_at n)) true (more_met nodes n cs is (below v n refl)) refl))
  ways_met (one_node n) v y (inr (inr x)) = absurd x
  ways_met (two_nodes n m) v y (inl e) =
      let ln = below v n (inl refl) in
      let lm = below v m (inr refl) in
      way_met y (whole (one_at n ∷ one_at m ∷ []) 0 h) e (met_by nodes nodes (one_at n ∷ one_at m ∷ []) (λ cs is.
      and_both (guard_on cs (one_at n)) (guard_on cs (one_at m) && true)
      (one_met nodes nodes cs is n ln (λ q. omega arith))
      (and_both (guard_on cs (one_at m)) true (one_met nodes nodes cs is m lm (λ q. omega arith)) refl)))
  ways_met (two_nodes n m) v y (inr (inl e)) =
      let S = view_two a h n m v in
      way_met y (split (one_at n ∷ more_at m ∷ []) m h) e (met_by nodes m (one_at n ∷ more_at m ∷ []) (λ cs is.
      and_both (guard_on cs (one_at n)) (guard_on cs (more_at m) && true)
      (one_met nodes m cs is n (below v n (inl refl)) (λ q. S.apart (sym q)))
      (and_both (guard_on cs (more_at m)) true (more_met nodes m cs is (below v m (inr refl))) refl)))
  ways_met (two_nodes n m) v y (inr (inr (inl e))) =
      way_met y (split (more_at n ∷ []) n h) e (met_by nodes n (more_at n ∷ []) (λ cs is.
      and_both (guard_on cs (more_at n)) true (more_met nodes n cs is (below v n (inl refl))) refl))
  ways_met (two_nodes n m) v y (inr (inr (inr x))) = absurd x

-- what is known where a state fits a location with counters: the location is good, and the counters are sizes of
-- segments
fit_good : (x : State) (l : Loc) (cs : List ℕ) → Fit x l cs → length x.heap.ptrs ≡ 6 → GoodLoc l
fit_good x l cs f p = by_status x.status f
  where
    by_status : (q : Status) → MatchIn q x.stmt x.heap l cs → GoodLoc l
    by_status running m = subst GoodLoc (sym m.0) (
      fold_canon x.heap m.2 m.3,
      length-map x.heap.ptrs
          (node_val (segments x.heap)) ∙ p,
    )
    by_status (past f) m = subst GoodLoc (sym m.0) tt

fit_positive : (x : State) (l : Loc) (cs : List ℕ) → Fit x l cs → (c : ℕ) → In c cs → 1 ≤ c
fit_positive x l cs f c i = by_status x.status f
  where
    by_status : (q : Status) → MatchIn q x.stmt x.heap l cs → 1 ≤ c
    by_status running m = omega (arith, (in_map size c (segments x.heap) (subst (In c) m.1 i)).2)
    by_status (past f) m = absurd (subst (In c) m.1 i)

module _ (s : ℕ) (st : Stmt) (h : Heap) (C : Canon h) (six : length h.ptrs ≡ 6) where
  -- an enabled edge of a shape, taken from the shape unfolded with the counters
  unfolded_edge : (E : Edge) → In E (edges_at s st h) → (cs : List ℕ) → length cs ≡ length h.slots → Positive cs
      → guards_on E.guards cs ≡ true
      → (x : State) × (length x.heap.ptrs ≡ 6) × Fit x E.to (map (worth cs) E.updates)
      × SmallEdge (length h.slots) E
  unfolded_edge E i cs len pos on =
      let H = unfold_heap h cs in
      let X = unfold_is_heap h C cs len pos in
      let sh = shape_unfold h C cs len pos in
      let ct = counters_unfold h C cs len pos in
      let e : Entry = record { pick = E.branch_no; cell_no = length H.slots } in
      let r = leave_backward s st H (heap_closed H X) (heap_kept H X) E (subst (λ x. In E (edges_at s st x)) (sym sh) i)
      (ap (guards_on E.guards) ct ∙ on) e refl (ap in_use (get_or-eq_default H.slots unused (omega arith))) in (
        r.0.after,
        made_ptrs s st e H (heap_closed H X) r.0 r.1 ∙ length-map h.ptrs (spread cs) ∙ six,
        subst (λ ds. Fit r.0.after E.to (map (worth ds) E.updates)) ct r.3,
        subst (λ (x : Heap). SmallEdge (length x.slots) E) sh r.4,
      )

  -- each edge of a shape
  pub shape_edge : (E : Edge) → In E (edges_at s st h) → SmallEdge (length h.slots) E × GoodLoc E.to
  shape_edge E i =
      let k = length h.slots in
      let w = edge_way s st h E i in
      let y = w.0 in
      let a = action st.op in
      let m = ways_met (kind st.op) a h C.closed (view a h) refl y w.1 in
      let g : E.guards ≡ y.guards = way_guards s k y (step_by st k y) E w.2 in
      let u = unfolded_edge E i m.0 m.1 m.2 (ap (λ gs. guards_on gs m.0) g ∙ m.3) in
      (u.3, fit_good u.0 E.to (map (worth m.0) E.updates) u.2 u.1)

-- the edges of a good location
pub good_edge : (sts : List Stmt) (l : Loc) → GoodLoc l → (E : Edge) → In E (edges_of sts l) → SmallEdge (nodes_of l) E
    × GoodLoc E.to
good_edge sts (at s h) g E i = shape_edge s (stmt_at sts s) h g.0 g.1 E i
good_edge sts (failed s f) g E i = absurd i

-- from counters of 1 or more, an enabled edge of a good location gives such counters
pub edge_positive : (sts : List Stmt) (l : Loc) → GoodLoc l → (E : Edge) → In E (edges_of sts l)
    → StaysPositive (nodes_of l) E
edge_positive sts (failed s f) g E i cs len pos on u j = absurd i
edge_positive sts (at s h) g E i cs len pos on u j =
    let r = unfolded_edge s (stmt_at sts s) h g.0 g.1 E i cs len pos on in
    fit_positive r.0 E.to (map (worth cs) E.updates) r.2 (worth cs u)
    (map_in (worth cs) u E.updates j)

-- every reached location is good
pub reached_good : (r : Routine) → GoodStarts r → (l : Loc) → Reached r.stmts r.starts l → GoodLoc l
reached_good r G l (from_start {h = h} i) = G.shapes h i
reached_good r G l (by_edge {l = k} e p i) = (good_edge r.stmts k (reached_good r G k p) e i).1

-- an edge leads to one of n statements, where the statement that it leaves does
pub edge_stmt : (n s : ℕ) (st : Stmt) (h : Heap) → s < n → Leads n st → (E : Edge) → In E (edges_at s st h)
    → statement_of E.to < n
edge_stmt n s st h low L E i =
    let k = length h.slots in
    let w = edge_way s st h E i in
    let y = w.0 in
    let e = entry y.pick k in
    let g = edge_goes s k y st E w.2 in
    bool_case (accepts st.op e y.heap)
    (λ a. by_run y (branch st.op y.pick y.heap) (L g y.pick y.heap) (carry_out st.op k y.heap)
    (subst (λ x. In E (edge_by s k y x)) (step_go st e y.heap g a) w.2))
    (λ a. absurd (rw a at w.2))
  where
    by_run : (y : Way) (b : ℕ) → target st b < n → (x : Effect)
        → In E (edge_by s (length h.slots) y (answer_of st b x)) → statement_of E.to < n
    by_run y b t (fault f) q = rw (in_single E _ q) low
    by_run y b t (done g) q = rw (in_single E _ q) t

-- so every reached location has one of the routine's
pub reached_stmt : (s : List ℕ) (r : Routine) → GoodInput s r → (l : Loc) → Reached r.stmts r.starts l
    → statement_of l < length r.stmts
reached_stmt s r G l (from_start i) = (good_leads s r G).0
reached_stmt s r G l (by_edge {l = at k h} e p i) =
    let low = reached_stmt s r G (at k h) p in
    edge_stmt (length r.stmts) k (stmt_at r.stmts k) h low ((good_leads s r G).1 k low) e i
reached_stmt s r G l (by_edge {l = failed k f} e p i) = absurd i

-- the guards of the edges of one branch exclude each other and leave nothing out
pub good_exclude : (sts : List Stmt) (l : Loc) → GoodLoc l → Pairs Exclude (edges_of sts l)
good_exclude sts (at s h) g = edges_exclude s (stmt_at sts s) h (kept_test h g.0.kept)
good_exclude sts (failed s f) g = tt

pub good_cover : (sts : List Stmt) (l : Loc) → GoodLoc l → (cs : List ℕ) → length cs ≡ nodes_of l → Positive cs
    → (E : Edge) → In E (edges_of sts l)
    → (D : Edge) × In D (edges_of sts l) × (D.branch_no ≡ E.branch_no) × (guards_on D.guards cs ≡ true)
good_cover sts (failed s f) g cs len pos E i = absurd i
good_cover sts (at s h) g cs len pos E i =
    let a = action (stmt_at sts s).op in
    edges_cover s (stmt_at sts s) h (kept_test h g.0.kept) cs
    (λ n e. let lt = used_below h.slots n (view_used a h g.0.closed.0 n e) in
    let z = get_or_default cs 0 1 n (omega arith) in let o = pos n (omega arith) in omega arith) E i

-- The edges of a location against the steps of the routine, both ways: each step is an edge, and each enabled edge is
-- a step.
use Prim.Native.Nat.{◌≤◌, ℕ}
use mathlib.Core.Path.{◌∙◌, ◌≡◌, ap, refl, subst, sym}
use mathlib.Core.Logic.{inl}
use mathlib.Core.Option.{some}
use mathlib.Core.Bool.{false, true}
use mathlib.Core.List.{List, [], ◌∷◌, map}
use native.Mathlib.Omega.{arith}
use lib.Dec.{leb}
use lib.ListN.{length}
use Rattle.model.specs.Edges.{Edge, Way, edge_by, edges_at, picks_of, step_by, ways, whole, view, no_node, ways_of}
use Rattle.model.specs.Heap.{Heap, IsHeap, in_use, kept, next}
use Rattle.model.specs.Machine.{Answer, Entry, Op, Stmt, accepts, faulted, picks, refused, step, stopped, went, is_stop, kind, entry, Action, action, action_of}
use Rattle.model.specs.Runs.{State, Advance, made}
use Rattle.model.specs.Shape.{counters, segments, shape}
use Rattle.model.proofs.expansion.Facts.{heap_closed, heap_kept, is_heap_lem, kept_test, unused_of}
use Rattle.model.specs.Notions.{Kept, In, SmallEdge, seg_at, worth, ClosedHeap, guards_on}
use Rattle.model.proofs.expansion.Folds.{kept_down}
use Rattle.model.proofs.ways.Leave.{Fit, begin}
use Rattle.model.proofs.lists.Lists.{in_joined, in_map, in_single, joined_in, map_in}
use Rattle.model.proofs.lists.Logic.{bool_case}
use Rattle.model.proofs.ways.Picks.{made_goes, pick_low, accept_room, room_of}
use Rattle.model.proofs.expansion.Start.{start}
use Rattle.model.proofs.ways.Lands.{take_way, way_lands}

-- what is known of an edge by its way
pub way_guards : (s k : ℕ) (y : Way) (a : Answer) (E : Edge) → In E (edge_by s k y a) → E.guards ≡ y.guards
way_guards s k y refused E i = absurd i
way_guards s k y stopped E i = absurd i
way_guards s k y (faulted f) E i = ap (λ (x : Edge). x.guards) (in_single E _ i)
way_guards s k y (went b t h) E i = ap (λ (x : Edge). x.guards) (in_single E _ i)

pub edge_goes : (s k : ℕ) (y : Way) (st : Stmt) (E : Edge) → In E (edge_by s k y (step_by st k y))
    → is_stop (kind st.op) ≡ false
edge_goes s k y st E i = bool_case (is_stop (kind st.op))
    (λ e. bool_case (accepts st.op (entry y.pick k) y.heap) (λ a. absurd (rw (a, e) at i))
    (λ a. absurd (rw a at i)))
    (λ e. e)

-- the way of an edge
pub edge_way : (s : ℕ) (st : Stmt) (h : Heap) (E : Edge) → In E (edges_at s st h)
    → let k = length h.slots in (y : Way) × In y (ways st.op h) × In E (edge_by s k y (step_by st k y))
edge_way s st h E i =
    let by : Way → List Edge = λ y. edge_by s (length h.slots) y (step_by st (length h.slots) y) in
    let r = in_joined E (map by (ways st.op h)) i in
    let q = in_map by r.0 (ways st.op h) r.1 in
    (q.0, q.1, subst (In E) q.2 r.2)

-- at choose the branch of an edge is the pick of its way, since nothing is lost
pub choose_edge : (s k : ℕ) (st : Stmt) → kind st.op ≡ picks → (y : Way) → kept y.heap ≡ true → (E : Edge)
    → In E (edge_by s k y (step_by st k y)) → E.branch_no ≡ y.pick
choose_edge s k st q y kt E i =
    let j = rw q at i in
    bool_case (leb y.pick 1)
    (λ a. ap (λ (x : Edge). x.branch_no) (in_single E _ (rw (a, kt) at j)))
    (λ a. absurd (rw a at j))

module _ (s : ℕ) (st : Stmt) (H : Heap) (cl : ClosedHeap H) (kp : Kept H) where
  abbrev op_of_lem : Op
  op_of_lem = st.op

  abbrev does : Action
  does = action op_of_lem

  abbrev nodes : ℕ
  nodes = length (shape H).slots

  edge_in : (y : Way) (E : Edge) → In y (ways op_of_lem (shape H)) → edge_by s nodes y (step_by st nodes y) ≡ E ∷ []
      → In E (edges_at s st (shape H))
  edge_in y E i e =
      joined_in E (edge_by s nodes y (step_by st nodes y)) (map (λ z. edge_by s nodes z (step_by st nodes z))
      (ways op_of_lem (shape H)))
      (map_in (λ z. edge_by s nodes z (step_by st nodes z)) y (ways op_of_lem (shape H)) i) (rw e (inl refl))

  -- each step that the routine makes is an edge of the location
  pub leave_forward : (e : Entry) (x : Advance State) → made (begin s H) (step st e H) ≡ some x
      → (E : Edge) × In E (edges_at s st (shape H)) × (guards_on E.guards (counters H) ≡ true)
      × (x.branch_no ≡ E.branch_no)
      × Fit x.after E.to (map (worth (counters H)) E.updates)
  leave_forward e x m =
      let g = made_goes (begin s H) st e H x m in
      let T = take_way s st H cl kp (view does (shape H)) refl e g.1 in
      let r = way_lands s st H cl kp (view does (shape H)) refl T.0 T.1 T.2 e g.0 g.1 T.3 in
      let L = r.3 in
      let z : L.taken ≡ x = (let u = L.is_made in cc) in (
        r.0,
        edge_in T.0 r.0 T.1 r.1,
        ap (λ gs. guards_on gs (counters H)) r.2 ∙ T.2,
        ap (λ (y : Advance State). y.branch_no) (sym z) ∙ L.branches,
        subst (λ (y : Advance State). Fit y.after r.0.to (map (worth (counters H)) r.0.updates)) z L.fits,
      )

  -- a way of choose has the shape as it is
  choose_way : kind op_of_lem ≡ picks → (y : Way) → In y (ways op_of_lem (shape H)) → (y.heap ≡ shape H) × (y.pick ≤ 1)
  choose_way q y i =
      let v : view does (shape H) ≡ no_node = ap (λ k. view (action_of k) (shape H)) q in
      let r = in_map (λ p. whole [] p (shape H)) y (picks_of (kind op_of_lem))
      (subst (λ x. In y (ways_of (kind op_of_lem) x (shape H))) v i) in (
        ap (λ (z : Way). z.heap) r.2,
        subst (λ (z : Way). z.pick ≤ 1) (sym r.2)
            (pick_low (kind op_of_lem) r.0 r.1),
      )

  -- each enabled edge is a step of the routine, fed the edge's branch and whichever cell that is not in use
  pub leave_backward : (E : Edge) → In E (edges_at s st (shape H)) → guards_on E.guards (counters H) ≡ true
      → (e : Entry)
      → e.pick ≡ E.branch_no → in_use (next H e.cell_no) ≡ false
      → (x : Advance State) × (made (begin s H) (step st e H) ≡ some x) × (x.branch_no ≡ E.branch_no)
      × Fit x.after E.to (map (worth (counters H)) E.updates)
      × SmallEdge nodes E
  leave_backward E i on e p u =
      let w = edge_way s st (shape H) E i in
      let y = w.0 in
      let on' = ap (λ gs. guards_on gs (counters H)) (sym (way_guards s nodes y (step_by st nodes y) E w.2)) ∙ on in
      let g : is_stop (kind op_of_lem) ≡ false = edge_goes s nodes y st E w.2 in
      let kt = kept_test (shape H) (kept_down (shape H) (seg_at (segments H)) H (start H cl kp) kp) in
      let pk : kind op_of_lem ≡ picks → e.pick ≡ y.pick =
      λ q. p ∙ choose_edge s nodes st q y (ap kept (choose_way q y w.1).0 ∙ kt) E w.2 in
      let ac : accepts op_of_lem e H ≡ true =
      accept_room op_of_lem e H (room_of does H e.cell_no (unused_of (next H e.cell_no) u))
      (λ q. let z = pk q in let l = (choose_way q y w.1).1 in omega arith) in
      let r = way_lands s st H cl kp (view does (shape H)) refl y w.1 on' e g ac pk in
      let z : E ≡ r.0 = in_single E r.0 (subst (In E) r.1 w.2) in
      let L = r.3 in (
        L.taken,
        L.is_made,
        L.branches ∙ ap (λ (x : Edge). x.branch_no) (sym z),
        subst (λ (x : Edge). Fit L.taken.after x.to (map (worth (counters H)) x.updates)) (sym z) L.fits,
        subst (SmallEdge nodes) (sym z) r.4,
      )

-- a step leaves a heap
pub step_heap : (st : Stmt) (e : Entry) (h : Heap) → IsHeap h → (b t : ℕ) (g : Heap) → step st e h ≡ went b t g
    → IsHeap g
step_heap st e h x b t g q =
    let F = (leave_forward 0 st h (heap_closed h x) (heap_kept h x) e (record { branch_no = b; after = begin t g })
    (ap (made (begin 0 h)) q)).4 in
    is_heap_lem g F.2 F.3

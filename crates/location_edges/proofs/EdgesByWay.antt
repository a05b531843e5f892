-- The edges that the ways out of a location make: each way of a statement that goes on makes exactly one, and the
-- edges of the location are these, in order.
use Prim.Native.Nat.{ℕ, zero, suc, ◌+◌, ◌≤◌, ◌<◌}
use mathlib.Core.Path.{◌≡◌, refl, ap, subst, sym, ◌∙◌}
use mathlib.Core.Logic.{inl}
use mathlib.Core.Option.{some}
use mathlib.Core.Bool.{Bool, true, false, cond}
use mathlib.Core.List.{List, [], ◌∷◌, ◌++◌, map}
use native.Mathlib.Omega.{arith}
use native.Mathlib.Numerals.{add-one}
use lib.ListN.{get_or-eq_default, drop, drop_of_length-le, get_elem?, length}
use Rattle.std.specs.Prelude.{Option, Some, None}
use Rattle.model.specs.Base.{joined}
use Rattle.model.specs.declared.Node.{Node}
use Rattle.model.specs.Heap.{Heap, next, unused}
use Rattle.model.specs.Machine.{Effect, accepts, action, answer_of, branch, carry_out, done, entry, fault, is_stop, kind}
use Rattle.model.specs.Edges.{Edge, Loc, Way, at, edge_by, edges_at, failed, split_heap, step_by, view, ways}
use Rattle.model.specs.Listings.{GoodLoc, WritableLoc}
use Rattle.model.specs.Notions.{In, statement_of}
use Rattle.model.specs.Structs.{op_in, stmt_in}
use Rattle.model.specs.declared.Decoded.{Decoded}
use Rattle.model.proofs.expansion.Step.{step_go}
use Rattle.model.proofs.lists.Lists.{joined_in, map_in, some_inj, some-none}
use Rattle.model.proofs.lists.Logic.{bool_case}
use Rattle.model.proofs.listings.Reached.{edge_stmt, shape_edge}
use Rattle.model.proofs.records.ReadBack.{canon_writable}
use Rattle.model.proofs.shapes.Same.{elem_in}
use Rattle.model.proofs.ways.Picks.{accept_room, room_of}
use Rattle.model.proofs.ways.Views.{view_looks}
use Rattle.way.specs.Ready.{WayReady}
use Rattle.way.specs.Way.{IsWay, IsWayOf, view_in, way_by, way_in}
use Rattle.way.specs.declared.Way as declared
use Rattle.way.specs.declared.Looked.{Looked}
use Rattle.location_edges.specs.Added.{LocOk}
use Rattle.location_edges.specs.LocationEdges.{AtShape, Counted, WayEdge}

-- ---- one way

-- the edge, or none, by a way out of statement s, which is d, with shape h
abbrev made : ℕ → Decoded → Heap → Way → List Edge
made s d h y = edge_by s (length h.slots) y (step_by (stmt_in d) (length h.slots) y)

module _ {l : List ℕ} {d : Decoded} {s : ℕ} {h : Heap} {y : declared.Way} (R : WayReady l d s h y) where
  abbrev nodes : ℕ
  nodes = length h.slots

  abbrev z : Way
  z = way_in y h

  abbrev Accepted : Way → Type 0
  Accepted x = accepts (op_in d) (entry x.pick nodes) x.heap ≡ true

  by_split : (sp : Option Node) → y.split ≡ sp → Accepted (way_by sp y h)
  by_split (Some n) e =
      let g = split_heap n.0 nodes h in
      accept_room (op_in d) (entry 0 nodes) g ((view_looks (action (op_in d)) h n.0 (R.is_node n e)).roomy g nodes)
      (λ q. omega arith)
  by_split None e =
      let past : next h nodes ≡ unused = get_or-eq_default h.slots unused (omega arith) in
      accept_room (op_in d) (entry y.pick nodes) h (room_of (action (op_in d)) h nodes past) (λ q. R.pick)

  -- a ready way makes one edge
  way_makes : (E : Edge) × (made s d h (way_in y h) ≡ E ∷ [])
  way_makes = by_run (carry_out (op_in d) nodes z.heap) refl
    where
      answers : (x : Effect) → carry_out (op_in d) nodes z.heap ≡ x
          → made s d h z ≡ edge_by s nodes z (answer_of (stmt_in d) (branch (op_in d) z.pick z.heap) x)
      answers x e =
          ap (edge_by s nodes z)
          (step_go (stmt_in d) (entry z.pick nodes) z.heap R.goes (by_split y.split refl)
          ∙ ap (answer_of (stmt_in d) (branch (op_in d) z.pick z.heap)) e)

      by_run : (x : Effect) → carry_out (op_in d) nodes z.heap ≡ x → (E : Edge) × (made s d h z ≡ E ∷ [])
      by_run (fault f) e = (_, answers (fault f) e)
      by_run (done w) e = (_, answers (done w) e)

-- ---- all ways, as a list

-- the ways that make an edge: none at a stop
abbrev makers : Decoded → Heap → List Way
makers d h = cond (is_stop (kind (op_in d))) [] (ways (op_in d) h)

-- the edges by the ways from way j on
abbrev pub edges_from : ℕ → Decoded → Heap → ℕ → List Edge
edges_from s d h j = joined (map (made s d h) (drop j (makers d h)))

joined_none : {A B : Type 0} (f : A → List B) (l : List A) → ((x : A) → f x ≡ []) → joined (map f l) ≡ []
joined_none f [] e = refl
joined_none f (x ∷ l) e = ap (λ m. m ++ joined (map f l)) (e x) ∙ joined_none f l e

drop_elem : {A : Type 0} (l : List A) (j : ℕ) (x : A) → get_elem? l j ≡ some x → drop j l ≡ x ∷ drop (suc j) l
drop_elem [] j x e = some-none e
drop_elem (a ∷ l) zero x e = ap (λ b. b ∷ l) (some_inj e)
drop_elem (a ∷ l) (suc j) x e = drop_elem l j x e

module _ (s : ℕ) (d : Decoded) (h : Heap) where
  stop_makes : is_stop (kind (op_in d)) ≡ true → (y : Way) → made s d h y ≡ []
  stop_makes e y =
      bool_case (accepts (op_in d) (entry y.pick (length h.slots)) y.heap) (λ a. rw (a, e)) (λ a. rw a)

  pub edges_all : edges_at s (stmt_in d) h ≡ edges_from s d h 0
  edges_all = by_stop (is_stop (kind (op_in d))) refl
    where
      by_stop : (b : Bool) → is_stop (kind (op_in d)) ≡ b
          → joined (map (made s d h) (ways (op_in d) h))
          ≡ joined (map (made s d h) (drop 0 (cond b [] (ways (op_in d) h))))
      by_stop true e = joined_none (made s d h) (ways (op_in d) h) (stop_makes e)
      by_stop false e = refl

  module _ (v : Looked) (count : ℕ) (C : Counted d h v count) where
    count_is : count ≡ length (makers d h)
    count_is = C.number ∙ by_stop (is_stop (kind (op_in d)))
      where
        by_stop : (b : Bool) → cond b 0 (length (ways (op_in d) h)) ≡ length (cond b [] (ways (op_in d) h))
        by_stop true = refl
        by_stop false = refl

    pub edges_none : (j : ℕ) → count ≤ j → edges_from s d h j ≡ []
    edges_none j hi =
        let le : length (makers d h) ≤ j = omega (arith, count_is) in
        ap (λ l. joined (map (made s d h) l)) (drop_of_length-le (makers d h) le)

    goes_on : (j : ℕ) → j < count → is_stop (kind (op_in d)) ≡ false
    goes_on j lt =
        bool_case (is_stop (kind (op_in d)))
        (λ e. let z : count ≡ 0 = C.number ∙ rw e in absurd (omega arith)) (λ e. e)

    makers_are : (j : ℕ) → j < count → makers d h ≡ ways (op_in d) h
    makers_are j lt = ap (λ b. cond b [] (ways (op_in d) h)) (goes_on j lt)

-- ---- way j of a location

-- it makes an edge, to a good location, and the edges from way j on begin with that
pub record Next (l : List ℕ) (d : Decoded) (n s : ℕ) (h : Heap) (j : ℕ) (y : declared.Way) : Type 0 where
  pub edge : Edge
  pub is_edge : WayEdge l d s h y edge
  pub fine : LocOk n edge.to
  pub rest : edges_from s d h j ≡ edge ∷ edges_from s d h (j + 1)

loc_fine : (n : ℕ) (l : Loc) → GoodLoc l → statement_of l < n → LocOk n l
loc_fine n (at s h) g b = (g, b)
loc_fine n (failed s f) g b = b

loc_writable : (n : ℕ) (l : Loc) → LocOk n l → WritableLoc l
loc_writable n (at s h) g = canon_writable h g.0.0 g.0.1
loc_writable n (failed s f) g = tt

module _ {l : List ℕ} {d : Decoded} {n s : ℕ} {h : Heap} (A : AtShape l d n s h) (v : Looked) (count : ℕ)
    (C : Counted d h v count) (j : ℕ) (lt : j < count) (y : declared.Way) (Y : IsWay (view_in v) j y) where
  is_way_of : IsWayOf (view (action (op_in d)) h) j y (kind (op_in d)) h
  is_way_of =
      subst (λ x. IsWay x j y) C.looks Y (kind (op_in d)) h
      (omega (arith, count_is s d h v count C, ap length (makers_are s d h v count C j lt)))

  ready : WayReady l d s h y
  ready = record {
    is_record = A.is_record;
    is_shape = A.is_shape;
    six = A.six;
    statement = A.statement.fields;
    low = omega (arith, A.low, A.statement.few);
    goes = goes_on s d h v count C j lt;
    pick = is_way_of.pick;
    guards = is_way_of.guards;
    is_node = is_way_of.is_node;
  }

  is_way_lem : get_elem? (ways (op_in d) h) j ≡ some (way_in y h)
  is_way_lem = is_way_of.is_way

  pub next_way : Next l d n s h j y
  next_way =
      let M = way_makes ready in
      let E = M.0 in
      let all = ways (op_in d) h in
      let is_in : In E (edges_at s (stmt_in d) h) =
      joined_in E (made s d h (way_in y h)) (map (made s d h) all)
      (map_in (made s d h) (way_in y h) all (elem_in all j (way_in y h) is_way_lem))
      (rw M.1 (inl refl)) in
      let S = shape_edge s (stmt_in d) h A.is_shape A.six E is_in in
      let fine : LocOk n E.to =
      loc_fine n E.to S.1 (edge_stmt n s (stmt_in d) h A.low A.statement.leads E is_in) in
      let m = makers_are s d h v count C j lt in
      let from : drop j (makers d h) ≡ way_in y h ∷ drop (j + 1) (makers d h) =
      ap (drop j) m ∙ drop_elem all j (way_in y h) is_way_lem
      ∙ ap (λ k. way_in y h ∷ drop k all) (sym (add-one j)) ∙ ap (λ x. way_in y h ∷ drop (j + 1) x) (sym m) in
      record {
        edge = E;
        is_edge = record {
          ready = ready;
          made = M.1;
          good = loc_writable n E.to fine;
          branch = S.0.branch;
          guarded = record {
            few = S.0.guarded.few;
            known = λ g i. omega (arith, S.0.guarded.known g i, (canon_writable h A.is_shape A.six).few);
          };
        };
        fine = fine;
        rest = ap (λ x. joined (map (made s d h) x)) from ∙ ap (λ x. x ++ edges_from s d h (j + 1)) M.1;
      }

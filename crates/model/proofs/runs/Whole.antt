-- Whole lists: the routine fed entries and the automaton fed edge numbers match, in both directions.
use Prim.Native.Nat.{suc, ℕ}
use mathlib.Core.Path.{◌∙◌, ◌≡◌, ap, refl, subst, sym}
use mathlib.Core.Option.{Option, none, some}
use mathlib.Core.Bool.{false, not, true}
use mathlib.Core.List.{List, [], ◌∷◌}
use native.Mathlib.Omega.{arith}
use lib.ListN.{get_or-eq_default, length}
use Rattle.model.specs.Edges.{Edge, Loc, edges_of, stmt_at}
use Rattle.model.specs.Heap.{Heap, in_use, next, unused}
use Rattle.model.specs.Machine.{Effect, Entry, Stmt, accepts, answer_of, branch, done, fault, carry_out, step, is_stop, kind, action}
use Rattle.model.specs.Records.{byte, loc_record, shape_of}
use Rattle.model.specs.Runs.{Config, DescribesIn, Forced, Match, Matched, Matching, Paired, State, Status, Advance, Supply, AreUnused, after_entry, ended, ended_in, fault_of, fed, final, leaves, made, move_of, past, running, step_of, trace}
use Rattle.model.specs.Shape.{shape}
use Rattle.model.specs.Translate.{Link, Listing, Routine, Tables, tables_of}
use Rattle.model.proofs.records.Checked.{GoodStarts}
use Rattle.model.proofs.listings.Exact.{edge_listed}
use Rattle.model.proofs.expansion.Facts.{is_heap_lem}
use Rattle.model.proofs.ways.Leave.{MatchIn, begin}
use Rattle.model.specs.Listings.{Exact, WritableLoc, link_at, link_of, loc_at, no_link}
use Rattle.model.specs.Notions.{In}
use Rattle.model.proofs.lists.Lists.{in_get_or_lem}
use Rattle.model.proofs.ways.Location.{edge_goes, edge_way, leave_forward}
use Rattle.model.proofs.lists.Logic.{bool_case, clash, not-true}
use Rattle.model.proofs.listings.Moves.{good_writable, leaves_link, link_facts, link_leaves, loc_good, loc_record_lem}
use Rattle.model.proofs.records.ReadBack.{location_shape}
use Rattle.model.proofs.runs.Single.{Both, backward, forward, only_one}
use Rattle.model.proofs.expansion.Step.{step_go}
use Rattle.model.proofs.ways.Picks.{room_of, accept_room}

module _ (r : Routine) (t : Listing) (X : Exact r t) (G : GoodStarts r) (a b : ℕ) where
  abbrev sts : List Stmt
  sts = r.stmts

  abbrev T : Tables
  T = tables_of a b t

  abbrev Fits : State → Config → Type 0
  Fits q c = Both r t X G a b q c

  -- no edge leaves the location exactly when the routine is at a stop or past a fault
  some_step : (s : ℕ) (st : Stmt) (e : Entry) (h : Heap) → is_stop (kind st.op) ≡ false → accepts st.op e h ≡ true
      → (x : Advance State) × (made (begin s h) (step st e h) ≡ some x)
  some_step s st e h g ac = rw (step_go st e h g ac) (by_run (carry_out st.op e.cell_no h))
    where
      by_run : (x : Effect) → (y : Advance State) × (made (begin s h) (answer_of st (branch st.op e.pick h) x)
          ≡ some y)
      by_run (done k) = (_, refl)
      by_run (fault f) = (_, refl)

  link_in : (i : ℕ) → leaves T i ≡ true → (E : Edge) × In E (edges_of sts (loc_at t.locs i))
  link_in i h =
      let q = leaves_link r t X G a b i h in
      let L = link_facts r t X G a b q.0 q.1 in (
        (link_at t q.0).edge,
        subst (λ j. In (link_at t q.0).edge (edges_of sts (loc_at t.locs j))) q.2
            L.edge_of,
      )

  in_leaves : (i : ℕ) (E : Edge) → In E (edges_of sts (loc_at t.locs i)) → leaves T i ≡ true
  in_leaves i E h =
      let q = in_get_or_lem t.links no_link (link_of i t.locs E) (edge_listed r t X i E h) in
      subst (λ j. leaves T j ≡ true) (ap (λ (k : Link). k.from) q.2) (link_leaves r t X G a b q.0 q.1)

  unused_past : (h : Heap) → in_use (next h (length h.slots)) ≡ false
  unused_past h = ap in_use (get_or-eq_default h.slots unused (omega arith))

  ends_at : (q : State) (c : Config) → Fits q c → leaves T c.loc ≡ not (ended sts q)
  ends_at q c B = by_status q.status B.0
    where
      by_status : (f : Status) → MatchIn f q.stmt q.heap (loc_at t.locs c.loc) c.values
          → leaves T c.loc ≡ not (ended_in f (stmt_at sts q.stmt))
      by_status (past f) m = not-true (leaves T c.loc) (λ e. let z = link_in c.loc e in
          subst (λ l. In z.0 (edges_of sts l)) m.0 z.1)
      by_status running m =
          let st = stmt_at sts q.stmt in
          let H = q.heap in
          bool_case (is_stop (kind st.op))
          (λ z. rw z (not-true (leaves T c.loc) (λ e.
          let k = link_in c.loc e in
          let w = edge_way q.stmt st (shape H) k.0 (subst (λ l. In k.0 (edges_of sts l)) m.0 k.1) in
          clash z (edge_goes q.stmt (length (shape H).slots) w.0 st k.0 w.2))))
          (λ z. rw z
          (let e : Entry = record { pick = 0; cell_no = length H.slots } in
          let x = some_step q.stmt st e H z (accept_room st.op e H
          (room_of (action st.op) H (length H.slots) (get_or-eq_default H.slots unused (omega arith)))
          (λ q. omega arith)) in
          let F = leave_forward q.stmt st H m.2 m.3 e x.0 x.1 in
          in_leaves c.loc F.0 (subst (λ l. In F.0 (edges_of sts l)) (sym m.0) F.1)))

  -- what fits, matches
  pub fits_match : (q : State) (c : Config) → Fits q c → Match sts T q c
  fits_match q c B = record {
    is_location = B.1;
    statement_is = ap (λ x. byte x 1) (loc_record_lem r t X G a b c.loc B.1) ∙ stmt_is q.status B.0;
    fault_is = ap (λ x. byte x 2) (loc_record_lem r t X G a b c.loc B.1) ∙ fault_is_lem q.status B.0;
    describes = rw (loc_record_lem r t X G a b c.loc B.1) (describes_is q.status B.0);
    ends = ends_at q c B;
  }
    where
      l : Loc
      l = loc_at t.locs c.loc

      stmt_is : (f : Status) → MatchIn f q.stmt q.heap l c.values → byte (loc_record l) 1 ≡ q.stmt
      stmt_is running m = ap (λ x. byte (loc_record x) 1) m.0
      stmt_is (past f) m = ap (λ x. byte (loc_record x) 1) m.0

      fault_is_lem : (f : Status) → MatchIn f q.stmt q.heap l c.values → byte (loc_record l) 2 ≡ fault_of f
      fault_is_lem running m = ap (λ x. byte (loc_record x) 2) m.0
      fault_is_lem (past f) m = ap (λ x. byte (loc_record x) 2) m.0

      describes_is : (f : Status) → MatchIn f q.stmt q.heap l c.values
          → DescribesIn f (shape_of (loc_record l)) c.values q.heap
      describes_is running m =
          let W = subst WritableLoc m.0 (good_writable l (loc_good r t X G a b c.loc B.1)) in
          record {
            is_heap = is_heap_lem q.heap m.2 m.3;
            shape_is = sym (ap (λ x. shape_of (loc_record x)) m.0 ∙ location_shape q.stmt (shape q.heap) W);
            counters_are = sym m.1;
          }
      describes_is (past f) m = tt

  -- along a list, and where it ends
  pub paired_final : (q : State) (c : Config) (xs : List (Advance State)) (ys : List (Advance Config))
      → Match sts T q c → Paired sts T xs ys
      → Match sts T (final q xs) (final c ys)
  paired_final q c [] [] m p = m
  paired_final q c [] (y ∷ ys) m p = absurd p
  paired_final q c (x ∷ xs) [] m p = absurd p
  paired_final q c (x ∷ xs) (y ∷ ys) m p = paired_final x.after y.after xs ys p.1 p.2

  matched : (q : State) (c : Config) (xs : List (Advance State)) (ys : List (Advance Config)) → Fits q c
      → Paired sts T xs ys → Matched sts T q c xs ys
  matched q c xs ys B p = record { pairs = p; at_end = paired_final q c xs ys (fits_match q c B) p }

  -- from the routine to the automaton
  follows : (es : List Entry) (q : State) (c : Config) → Fits q c
      → (ns : List ℕ) × Forced T c ns × Paired sts T (trace (step_of sts) q es) (trace (move_of T) c ns)
  follows [] q c B = ([], tt, tt)
  follows (e ∷ es) q c B = by_step (step_of sts q e) refl (λ q' c' B'. follows es q' c' B')
    where
      by_step : (o : Option (Advance State)) → step_of sts q e ≡ o
          → ((q' : State) (c' : Config) → Fits q' c' → (ns : List ℕ) × Forced T c' ns
          × Paired sts T (trace (step_of sts) q' es) (trace (move_of T) c' ns))
          → (ns : List ℕ) × Forced T c ns × Paired sts T (trace (step_of sts) q (e ∷ es)) (trace (move_of T) c ns)
      by_step none p rec = let k = rec q c B in (k.0, k.1, rw (p, trace) k.2)
      by_step (some x) p rec =
          let f = forward r t X G a b q c B e x p in
          let k = rec x.after f.1.after f.4 in (
            f.0 ∷ k.0,
            (f.1, f.2, (λ m z u v. only_one r t X G a b m f.0 c f.1 z u f.2 v), k.1),
            rw (p, f.2, trace) (f.3, fits_match x.after f.1.after f.4, k.2),
          )

  -- from the automaton to the routine, with cells of which each is not in use at its turn
  Led : State → List (Advance Config) → List ℕ → Type 0
  Led q ys cs = Paired sts T (trace (step_of sts) q (fed ys cs)) ys

  led : (ns : List ℕ) (q : State) (c : Config) → Fits q c → (cs : List ℕ) → length cs ≡ length (trace (move_of T) c ns)
      → AreUnused sts q (fed (trace (move_of T) c ns) cs)
      → Led q (trace (move_of T) c ns) cs
  unfolding Led
  led [] q c B [] l u = tt
  led [] q c B (d ∷ cs) l u = tt
  led (n ∷ ns) q c B cs l u = by_move (move_of T c n) refl (λ q' c' B' cs'. led ns q' c' B' cs') cs l u
    where
      by_move : (o : Option (Advance Config)) → move_of T c n ≡ o
          → ((q' : State) (c' : Config) → Fits q' c' → (cs' : List ℕ) → length cs' ≡ length (trace (move_of T) c' ns)
          → AreUnused sts q' (fed (trace (move_of T) c' ns) cs')
          → Paired sts T (trace (step_of sts) q' (fed (trace (move_of T) c' ns) cs')) (trace (move_of T) c' ns))
          → (cs : List ℕ) → length cs ≡ length (trace (move_of T) c (n ∷ ns))
          → AreUnused sts q (fed (trace (move_of T) c (n ∷ ns)) cs)
          → Paired sts T (trace (step_of sts) q (fed (trace (move_of T) c (n ∷ ns)) cs)) (trace (move_of T) c (n ∷ ns))
      by_move none p rec cs l u = rw (p, trace) (rec q c B cs (rw (p, trace) at l) (rw (p, trace) at u))
      by_move (some y) p rec [] l u = absurd (let z = rw (p, trace) at l in omega arith)
      by_move (some y) p rec (d ∷ cs) l u =
          let v = rw (p, trace) at u in
          let e : Entry = record { pick = y.branch_no; cell_no = d } in
          let f = backward r t X G a b q c B n y p e refl v.0 in
          rw (p, trace) (rw (f.1, trace) (
            f.2,
            fits_match f.0.after y.after f.3,
            rec f.0.after y.after f.3 cs (let z = rw (p, trace) at l in omega arith)
                (subst (λ o. AreUnused sts (after_entry q o) (fed (trace (move_of T) y.after ns) cs)) f.1 v.1),
          ))

  -- there are always such cells
  supplied : (ns : List ℕ) (q : State) (c : Config) → Fits q c → (cs : List ℕ)
      × Supply sts q (trace (move_of T) c ns) cs
  supplied [] q c B = ([], record { enough = refl; are_unused = tt })
  supplied (n ∷ ns) q c B = by_move (move_of T c n) refl (λ q' c' B'. supplied ns q' c' B')
    where
      by_move : (o : Option (Advance Config)) → move_of T c n ≡ o
          → ((q' : State) (c' : Config) → Fits q' c' → (cs : List ℕ) × Supply sts q' (trace (move_of T) c' ns) cs)
          → (cs : List ℕ) × Supply sts q (trace (move_of T) c (n ∷ ns)) cs
      by_move none p rec = let k = rec q c B in (k.0, rw (p, trace) k.1)
      by_move (some y) p rec =
          let d = length q.heap.slots in
          let e : Entry = record { pick = y.branch_no; cell_no = d } in
          let f = backward r t X G a b q c B n y p e refl (unused_past q.heap) in
          let k = rec f.0.after y.after f.3 in (
            d ∷ k.0,
            rw (p, trace) (record {
              enough = ap suc k.1.enough;
              are_unused = (
                unused_past q.heap,
                subst (λ o. AreUnused sts (after_entry q o)
                    (fed (trace (move_of T) y.after ns) k.0)) (sym f.1) k.1.are_unused,
              );
            }),
          )

  -- whole lists are matched, in either direction
  pub matching : (q : State) (c : Config) → Fits q c → Matching sts T q c
  unfolding Led
  matching q c B = record {
    start = fits_match q c B;
    to_automaton = λ es. let k = follows es q c B in
        (k.0, k.1, matched q c (trace (step_of sts) q es) (trace (move_of T) c k.0) B k.2);
    to_routine =
        λ ns cs S. matched q c (trace (step_of sts) q (fed (trace (move_of T) c ns) cs)) (trace (move_of T) c ns) B
        (led ns q c B cs S.enough S.are_unused);
    supply = λ ns. supplied ns q c B;
  }

-- One step against one edge, both ways, on the tables of a listing: each step made is one enabled edge and the only
-- one of its branch.
use Prim.Native.Nat.{◌<◌, ℕ}
use mathlib.Core.Path.{◌∙◌, ◌≡◌, ap, ap₂, refl, subst, subst₂, sym}
use mathlib.Core.Option.{some}
use mathlib.Core.Bool.{false, true}
use mathlib.Core.List.{List, map}
use native.Mathlib.Omega.{arith}
use lib.Dec.{ltb}
use lib.ListN.{length}
use borrow.Author.Tests.{eqb-false, ltb-false, ltb-true}
use Rattle.model.specs.Base.{numbers}
use Rattle.model.specs.Edges.{Edge, edges_of, stmt_at}
use Rattle.model.specs.Heap.{in_use, next}
use Rattle.model.specs.Machine.{Answer, Entry, Stmt, faulted, refused, step, stopped, went}
use Rattle.model.specs.Runs.{Config, State, Status, Advance, made, move_of, past, running, step_in, step_of}
use Rattle.model.specs.Translate.{Link, Listing, Routine, Tables, tables_of}
use Rattle.model.proofs.records.Checked.{GoodStarts}
use Rattle.model.proofs.listings.Exact.{LinkGood, edge_listed}
use Rattle.model.proofs.ways.Leave.{Fit, MatchIn, begin}
use Rattle.model.specs.Listings.{Exact, link_at, link_of, links_from, loc_at}
use Rattle.model.specs.Notions.{In, Pairs, Exclude, worth, guards_on}
use Rattle.model.proofs.lists.Lists.{in_get_or_lem, in_map, pairs_at, pairs_joined, pairs_map, pairs_mono, some-none}
use Rattle.model.proofs.ways.Location.{leave_backward, leave_forward}
use Rattle.model.proofs.lists.Logic.{bool_case, eq-case}
use Rattle.model.proofs.listings.Moves.{by_link, link_facts, loc_good, move_of_lem, move_some}
use Rattle.model.proofs.lists.Numbers.{in_numbers, pairs_numbers}
use Rattle.model.proofs.listings.Reached.{good_exclude}

-- a step does not look at the status
made_begin : (q : State) (x : Answer) → made (begin q.stmt q.heap) x ≡ made q x
made_begin q refused = refl
made_begin q stopped = refl
made_begin q (faulted f) = refl
made_begin q (went b t h) = refl

module _ (r : Routine) (t : Listing) (X : Exact r t) (G : GoodStarts r) (a b : ℕ) where
  abbrev sts : List Stmt
  sts = r.stmts

  abbrev T : Tables
  T = tables_of a b t

  -- two links that leave one location by one branch are never enabled together
  abbrev Apart : Link → Link → Type 0
  Apart j k = j.from ≡ k.from → Exclude j.edge k.edge

  from_is : (i : ℕ) (k : Link) → In k (links_from sts t.locs i) → k.from ≡ i
  from_is i k q = let m = in_map (link_of i t.locs) k (edges_of sts (loc_at t.locs i)) q in
      ap (λ (x : Link). x.from) m.2

  links_apart : Pairs Apart t.links
  links_apart = subst (Pairs Apart) (sym X.links)
      (pairs_joined Apart (links_from sts t.locs) (numbers 0 (length t.locs))
      (λ i q. pairs_map Apart (link_of i t.locs) (edges_of sts (loc_at t.locs i))
      (pairs_mono Exclude (λ x y. Apart (link_of i t.locs x) (link_of i t.locs y))
      (edges_of sts (loc_at t.locs i)) (λ x y e _. e)
      (good_exclude sts (loc_at t.locs i) (loc_good r t X G a b i
      (omega (arith, in_numbers 0 (length t.locs) i q))))))
      (pairs_numbers _ (λ i j h u v p q e. absurd (let x = from_is i u p in let y = from_is j v q in omega arith)) 0
      (length t.locs)))

  pub only_one : (m n : ℕ) (c : Config) (y z : Advance Config) → move_of T c m ≡ some z → move_of T c n ≡ some y
      → z.branch_no ≡ y.branch_no → m ≡ n
  only_one m n c y z p q e =
      let M = move_some r t X G a b m c z p in
      let N = move_some r t X G a b n c y q in
      let bm : (link_at t m).edge.branch_no ≡ (link_at t n).edge.branch_no =
      ap (λ (x : Advance Config). x.branch_no) (sym M.3) ∙ e ∙ ap (λ (x : Advance Config). x.branch_no) N.3 in
      eq-case m n (λ s. s) (λ s. let ne = eqb-false m n s in bool_case (ltb m n)
      (λ l. absurd (pairs_at Apart t.links _ m n links_apart (ltb-true m n l) N.0 (M.1 ∙ sym N.1) bm
      c.values M.2 N.2))
      (λ l. absurd (pairs_at Apart t.links _ n m links_apart (let g = ltb-false m n l in omega arith) M.0
      (N.1 ∙ sym M.1) (sym bm) c.values
      N.2 M.2)))

  -- the state fits the configuration's location
  abbrev pub Both : State → Config → Type 0
  Both q c = Fit q (loc_at t.locs c.loc) c.values × (c.loc < length t.locs)

  -- the place of a link
  link_place : (k : Link) → In k t.links → (n : ℕ) × (n < length t.links) × (link_at t n ≡ k)
  link_place k i = in_get_or_lem t.links _ k i

  pub forward : (q : State) (c : Config) → Both q c → (e : Entry) (x : Advance State) → step_of sts q e ≡ some x
      → (n : ℕ) × (y : Advance Config) × (move_of T c n ≡ some y) × (x.branch_no ≡ y.branch_no)
      × Both x.after y.after
  forward q c B e x p = by_status q.status B.0 p
    where
      by_status : (f : Status) → MatchIn f q.stmt q.heap (loc_at t.locs c.loc) c.values
          → step_in f sts q e ≡ some x
          → (n : ℕ) × (y : Advance Config) × (move_of T c n ≡ some y) × (x.branch_no ≡ y.branch_no)
          × Both x.after y.after
      by_status (past f) m s = some-none s
      by_status running m s =
          let st = stmt_at sts q.stmt in
          let H = q.heap in
          let F = leave_forward q.stmt st H m.2 m.3 e x (made_begin q (step st e H) ∙ s) in
          let E = F.0 in
          let i = edge_listed r t X c.loc E (subst (λ l. In E (edges_of sts l)) (sym m.0) F.1) in
          let P = link_place (link_of c.loc t.locs E) i in
          let n = P.0 in
          let k = link_at t n in
          let ed : k.edge ≡ E = ap (λ (z : Link). z.edge) P.2 in
          let L = link_facts r t X G a b n P.1 in
          let on : guards_on k.edge.guards c.values ≡ true =
          ap₂ (λ (z : Edge) cs. guards_on z.guards cs) ed m.1 ∙ F.2 in (
            n,
            by_link c k,
            move_of_lem r t X G a b n c P.1 (ap (λ (z : Link). z.from) P.2) on,
            F.3 ∙ ap (λ (z : Edge). z.branch_no) (sym ed),
            (
              subst₂ (λ l vs. Fit x.after l vs) (ap (λ (z : Edge). z.to) (sym ed) ∙ sym L.dest_is)
                  (ap₂ (λ cs (z : Edge). map (worth cs) z.updates) (sym m.1) (sym ed)) F.4,
              L.dest_below,
            ),
          )

  pub backward : (q : State) (c : Config) → Both q c → (n : ℕ) (y : Advance Config) → move_of T c n ≡ some y
      → (e : Entry) → e.pick ≡ y.branch_no
      → in_use (next q.heap e.cell_no) ≡ false
      → (x : Advance State) × (step_of sts q e ≡ some x) × (x.branch_no ≡ y.branch_no) × Both x.after y.after
  backward q c B n y p e pk u = by_status q.status B.0
    where
      M : (n < length t.links) × ((link_at t n).from ≡ c.loc) × (guards_on (link_at t n).edge.guards c.values
          ≡ true) × (y ≡ by_link c (link_at t n))
      M = move_some r t X G a b n c y p

      L : LinkGood sts t (link_at t n)
      L = link_facts r t X G a b n M.0

      in_edges : In (link_at t n).edge (edges_of sts (loc_at t.locs c.loc))
      in_edges = subst (λ i. In (link_at t n).edge (edges_of sts (loc_at t.locs i))) M.1 L.edge_of

      by_status : (f : Status) → MatchIn f q.stmt q.heap (loc_at t.locs c.loc) c.values
          → (x : Advance State) × (step_in f sts q e ≡ some x) × (x.branch_no ≡ y.branch_no) × Both x.after y.after
      by_status (past f) m = absurd (subst (λ l. In (link_at t n).edge (edges_of sts l)) m.0 in_edges)
      by_status running m =
          let k = link_at t n in
          let F = leave_backward q.stmt (stmt_at sts q.stmt) q.heap m.2 m.3 k.edge
          (subst (λ l. In k.edge (edges_of sts l)) m.0 in_edges)
          (ap (guards_on k.edge.guards) (sym m.1) ∙ M.2) e
          (pk ∙ ap (λ (z : Advance Config). z.branch_no) M.3) u in (
            F.0,
            sym (made_begin q (step (stmt_at sts q.stmt) e q.heap)) ∙ F.1,
            F.2 ∙ ap (λ (z : Advance Config). z.branch_no) (sym M.3),
            subst (λ (z : Advance Config). Both F.0.after z.after) (sym M.3) (
              subst₂ (λ l vs. Fit F.0.after l vs) (sym L.dest_is)
                  (ap (λ cs. map (worth cs) k.edge.updates) (sym m.1)) F.3,
              L.dest_below,
            ),
          )

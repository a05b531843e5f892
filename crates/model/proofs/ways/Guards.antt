-- The edges of a location that share a branch: their guards exclude each other and leave nothing out.
use Prim.Native.Nat.{◌≤◌, ℕ}
use mathlib.Core.Path.{◌∙◌, ◌≡◌, ap, refl, subst, sym}
use mathlib.Core.Logic.{inl, inr}
use mathlib.Core.Bool.{false, true}
use mathlib.Core.List.{List, [], ◌∷◌, append-nil, map}
use native.Mathlib.Omega.{arith}
use lib.ListN.{get_or, length}
use Rattle.model.specs.Base.{joined}
use Rattle.model.specs.Edges.{Edge, Guard, Way, edge_by, edges_at, picks_of, split, step_by, whole, View, view, one_at, ways_of, one_node, two_nodes, more_at, no_node}
use Rattle.model.specs.Heap.{Heap, kept, Slot, next}
use Rattle.model.specs.Machine.{Answer, Effect, Stmt, accepts, answer_of, branch, done, fault, faulted, picks, refused, carry_out, stopped, went, is_stop, Kind, kind, Action, acts, action, drops, tests, accepts_cell, entry, halts, action_of, branch_by}
use Rattle.model.specs.Notions.{In, Pairs, Exclude, Views, guards_on}
use Rattle.model.proofs.lists.Lists.{in_joined, in_map, pairs_append, pairs_few, few_same, joined_in, map_in}
use Rattle.model.proofs.ways.Location.{choose_edge, way_guards}
use Rattle.model.proofs.ways.Lands.{more_on, one_on, one_or_more, rest_on}
use Rattle.model.proofs.expansion.Step.{step_go}
use Rattle.model.proofs.expansion.Splits.{view_acts}
use Rattle.model.proofs.ways.Views.{view_looks}

edge_few : (s k : ℕ) (y : Way) (a : Answer) → length (edge_by s k y a) ≤ 1
edge_few s k y refused = omega arith
edge_few s k y stopped = omega arith
edge_few s k y (faulted f) = omega arith
edge_few s k y (went b t h) = omega arith

-- guards that are never on together, whatever the counters; and ways of which no two have such guards
abbrev Apart : List Guard → List Guard → Type 0
Apart gs fs = (cs : List ℕ) → guards_on gs cs ≡ true → guards_on fs cs ≡ true → ⊥

abbrev ApartFrom : List Guard → List Way → Type 0
ApartFrom gs [] = Unit {0}
ApartFrom gs (y ∷ ys) = Apart gs y.guards × ApartFrom gs ys

abbrev AllApart : List Way → Type 0
AllApart [] = Unit {0}
AllApart (y ∷ ys) = ApartFrom y.guards ys × AllApart ys

apart_in : (gs : List Guard) (ys : List Way) → ApartFrom gs ys → (z : Way) → In z ys → Apart gs z.guards
apart_in gs [] a z i = elim i [ ]
apart_in gs (y ∷ ys) a z (inl e) = subst (λ (x : Way). Apart gs x.guards) (sym e) a.0
apart_in gs (y ∷ ys) a z (inr i) = apart_in gs ys a.1 z i

one_not_more : (n : ℕ) (gs fs : List Guard) → Apart (one_at n ∷ gs) (more_at n ∷ fs)
one_not_more n gs fs cs p q = let a = one_on n gs cs p in let b = more_on n fs cs q in omega arith

module _ (s : ℕ) (st : Stmt) (h : Heap) (kp : kept h ≡ true) where
  abbrev nodes : ℕ
  nodes = length h.slots

  abbrev does : Action
  does = action st.op

  abbrev edges_by : Way → List Edge
  edges_by y = edge_by s nodes y (step_by st nodes y)

  one_way : (y : Way) → Pairs Exclude (joined (map edges_by (y ∷ [])))
  one_way y = rw (append-nil (edges_by y)) (pairs_few Exclude (edges_by y) (edge_few s nodes y (step_by st nodes y)))

  more_ways : (y : Way) (ys : List Way) → ((a b : Edge) → In a (edges_by y) → In b (joined (map edges_by ys))
      → Exclude a b)
      → Pairs Exclude (joined (map edges_by ys)) → Pairs Exclude (joined (map edges_by (y ∷ ys)))
  more_ways y ys f r =
      pairs_append Exclude (edges_by y) (joined (map edges_by ys))
      (pairs_few Exclude (edges_by y) (edge_few s nodes y (step_by st nodes y))) r f

  two_ways : (y z : Way) → ((a b : Edge) → In a (edges_by y) → In b (edges_by z) → Exclude a b)
      → Pairs Exclude (joined (map edges_by (y ∷ z ∷ [])))
  two_ways y z f = more_ways y (z ∷ []) (λ a b i j. f a b i (rw (append-nil (edges_by z)) at j)) (one_way z)

  -- the way of an edge
  way_of : (ys : List Way) (b : Edge) → In b (joined (map edges_by ys)) → (z : Way) × In z ys × In b (edges_by z)
  way_of ys b j =
      let r = in_joined b (map edges_by ys) j in
      let q = in_map edges_by r.0 ys r.1 in
      (q.0, q.1, subst (In b) q.2 r.2)

  -- ways whose guards exclude each other
  guards_apart : (y z : Way) → Apart y.guards z.guards → (a b : Edge) → In a (edges_by y) → In b (edges_by z)
      → Exclude a b
  guards_apart y z f a b i j e cs p q =
      f cs (ap (λ gs. guards_on gs cs) (sym (way_guards s nodes y (step_by st nodes y) a i)) ∙ p)
      (ap (λ gs. guards_on gs cs) (sym (way_guards s nodes z (step_by st nodes z) b j)) ∙ q)

  ways_apart : (ys : List Way) → AllApart ys → Pairs Exclude (joined (map edges_by ys))
  ways_apart [] f = tt
  ways_apart (y ∷ ys) f =
      more_ways y ys (λ a b i j. let w = way_of ys b j in
      guards_apart y w.0 (apart_in y.guards ys f.0 w.0 w.1) a b i w.2)
      (ways_apart ys f.1)

  plain_exclude : (k : Kind) → kind st.op ≡ k
      → Pairs Exclude (joined (map edges_by (map (λ p. whole [] p h) (picks_of k))))
  plain_exclude halts q = one_way (whole [] 0 h)
  plain_exclude (acts a) q = one_way (whole [] 0 h)
  plain_exclude (drops u) q = one_way (whole [] 0 h)
  plain_exclude (tests u s) q = one_way (whole [] 0 h)
  plain_exclude picks q = two_ways (whole [] 0 h) (whole [] 1 h) (λ x y i j e cs g k. absurd (differ x y i j e))
    where
      differ : (x y : Edge) → In x (edges_by (whole [] 0 h)) → In y (edges_by (whole [] 1 h)) → x.branch_no
          ≡ y.branch_no → ⊥
      differ x y i j e =
          let p = choose_edge s nodes st q (whole [] 0 h) kp x i in
          let r = choose_edge s nodes st q (whole [] 1 h) kp y j in omega arith

  ways_exclude : (v : View) → view does h ≡ v → Pairs Exclude (joined (map edges_by (ways_of (kind st.op) v h)))
  ways_exclude no_node a = plain_exclude (kind st.op) refl
  ways_exclude (one_node n) a =
      ways_apart (ways_of (kind st.op) (one_node n) h) ((one_not_more n [] [], tt), (tt, tt))
  ways_exclude (two_nodes n m) a =
      ways_apart (ways_of (kind st.op) (two_nodes n m) h) (
        (second_apart n m, (one_not_more n (one_at m ∷ []) [], tt)),
        ((one_not_more n (more_at m ∷ []) [], tt), (tt, tt)),
      )
    where
      second_apart : (n m : ℕ) → Apart (one_at n ∷ one_at m ∷ []) (one_at n ∷ more_at m ∷ [])
      second_apart n m cs p q =
          one_not_more m [] [] cs (rest_on (one_at n) (one_at m ∷ []) cs p) (rest_on (one_at n) (more_at m ∷ []) cs q)

  -- the edges of one branch exclude each other
  pub edges_exclude : Pairs Exclude (edges_at s st h)
  edges_exclude = ways_exclude (view does h) refl

  -- ---- of each branch that the edges have, one is enabled

  -- an edge of one of the ways, whose guards are on
  abbrev Enabled : List Way → List ℕ → ℕ → Type 0
  Enabled ys cs b = (D : Edge) × In D (joined (map edges_by ys)) × (D.branch_no ≡ b) × (guards_on D.guards cs ≡ true)

  -- a way that acts makes an edge, of branch 0
  acts_edge : (a : Action) → kind st.op ≡ acts a → ((x : Slot) → accepts_cell a x ≡ true) → (y : Way)
      → (E : Edge) × In E (edges_by y) × (E.branch_no ≡ 0)
  acts_edge a q t y =
      let g : is_stop (kind st.op) ≡ false = rw q in
      let ac : accepts st.op (entry y.pick nodes) y.heap ≡ true = rw q (t (next y.heap nodes)) in
      rw (step_go st (entry y.pick nodes) y.heap g ac)
      (by_run (carry_out st.op nodes y.heap) (ap (λ k. branch_by k y.pick y.heap) q))
    where
      by_run : (x : Effect) → branch st.op y.pick y.heap ≡ 0
          → (E : Edge) × In E (edge_by s nodes y (answer_of st (branch st.op y.pick y.heap) x))
          × (E.branch_no ≡ 0)
      by_run (fault f) b = (_, inl refl, refl)
      by_run (done g) b = (_, inl refl, b)

  -- and no other
  pub acts_one : (a : Action) → kind st.op ≡ acts a → ((x : Slot) → accepts_cell a x ≡ true) → (y : Way)
      → (E : Edge) × (edges_by y ≡ E ∷ []) × (E.branch_no ≡ 0) × (E.guards ≡ y.guards)
  acts_one a q t y =
      let r = acts_edge a q t y in (
        r.0,
        few_one (edges_by y) (edge_few s nodes y (step_by st nodes y)) r.0 r.1,
        r.2,
        way_guards s nodes y (step_by st nodes y) r.0 r.1,
      )
    where
      few_one : (l : List Edge) → length l ≤ 1 → (E : Edge) → In E l → l ≡ E ∷ []
      few_one [] h E i = absurd i
      few_one (x ∷ []) h E (inl e) = ap (λ z. z ∷ []) (sym e)
      few_one (x ∷ []) h E (inr i) = absurd i
      few_one (x ∷ y ∷ l) h E i = absurd (omega arith)

  -- each edge of a way that acts has branch 0
  acts_branch : (a : Action) → kind st.op ≡ acts a → ((x : Slot) → accepts_cell a x ≡ true) → (y : Way) (E : Edge)
      → In E (edges_by y)
      → E.branch_no ≡ 0
  acts_branch a q t y E i =
      let r = acts_edge a q t y in
      ap (λ (x : Edge). x.branch_no) (few_same (edges_by y) (edge_few s nodes y (step_by st nodes y)) E r.0 i
      r.1) ∙ r.2

  -- the edge of a way whose guards are on
  way_enabled : (a : Action) → kind st.op ≡ acts a → ((x : Slot) → accepts_cell a x ≡ true)
      → (ys : List Way) (y : Way) → In y ys
      → (cs : List ℕ) → guards_on y.guards cs ≡ true → Enabled ys cs 0
  way_enabled a q t ys y i cs on =
      let r = acts_edge a q t y in (
        r.0,
        joined_in r.0 (edges_by y) (map edges_by ys) (map_in edges_by y ys i) r.1,
        r.2,
        ap (λ gs. guards_on gs cs) (way_guards s nodes y (step_by st nodes y) r.0 r.1) ∙ on,
      )

  -- where a node is looked at, one way whose guards are on is enough
  acts_cover : (n : ℕ) → Views (view does h) n → (ys : List Way) (y : Way) → In y ys → (cs : List ℕ)
      → guards_on y.guards cs ≡ true → (E : Edge) → In E (joined (map edges_by ys)) → Enabled ys cs E.branch_no
  acts_cover n v ys y i cs on E j =
      let f = view_acts (kind st.op) h n v in
      let t = (view_looks f.0 h n (subst (λ k. Views (view (action_of k) h) n) f.1 v)).takes in
      let w = way_of ys E j in
      subst (Enabled ys cs) (sym (acts_branch f.0 f.1 t w.0 E w.2))
      (way_enabled f.0 f.1 t ys y i cs on)

  ways_cover : (v : View) → view does h ≡ v → (cs : List ℕ) → ((n : ℕ) → Views v n → 1 ≤ get_or cs n 0) → (E : Edge)
      → In E (joined (map edges_by (ways_of (kind st.op) v h))) → Enabled (ways_of (kind st.op) v h) cs
      E.branch_no
  ways_cover no_node a cs pos E j =
      let kd = kind st.op in
      let q = way_of (map (λ p. whole [] p h) (picks_of kd)) E j in
      let w = in_map (λ p. whole [] p h) q.0 (picks_of kd) q.1 in
      let g = way_guards s nodes q.0 (step_by st nodes q.0) E q.2 in
      (E, j, refl, ap (λ gs. guards_on gs cs) (g ∙ ap (λ (z : Way). z.guards) w.2))
  ways_cover (one_node n) a cs pos E j =
      let v = subst (λ x. Views x n) (sym a) refl in
      let ys = ways_of (kind st.op) (one_node n) h in
      one_or_more n cs (pos n refl)
      (λ o. acts_cover n v ys (whole (one_at n ∷ []) 0 h) (inl refl) cs (rw o) E j)
      (λ o. acts_cover n v ys (split (more_at n ∷ []) n h) (inr (inl refl)) cs (rw o) E j)
  ways_cover (two_nodes n m) a cs pos E j =
      let v = subst (λ x. Views x n) (sym a) (inl refl) in
      let ys = ways_of (kind st.op) (two_nodes n m) h in
      one_or_more n cs (pos n (inl refl))
      (λ o. one_or_more m cs (pos m (inr refl))
      (λ q. acts_cover n v ys (whole (one_at n ∷ one_at m ∷ []) 0 h) (inl refl) cs (rw (o, q)) E j)
      (λ q. acts_cover n v ys (split (one_at n ∷ more_at m ∷ []) m h) (inr (inl refl)) cs (rw (o, q)) E j))
      (λ o. acts_cover n v ys (split (more_at n ∷ []) n h) (inr (inr (inl refl))) cs (rw o) E j)

  -- whatever the counters are, as long as each node that is looked at has a cell
  pub edges_cover : (cs : List ℕ) → ((n : ℕ) → Views (view does h) n → 1 ≤ get_or cs n 0) → (E : Edge)
      → In E (edges_at s st h)
      → (D : Edge) × In D (edges_at s st h) × (D.branch_no ≡ E.branch_no) × (guards_on D.guards cs ≡ true)
  edges_cover cs pos E i = ways_cover (view does h) refl cs pos E i

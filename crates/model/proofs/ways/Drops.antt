-- Drops: the step to the collected heap, the one edge, and the counters that it carries.
use Prim.Native.Nat.{◌<◌, suc, zero, ℕ}
use mathlib.Core.Path.{◌∙◌, ◌≡◌, ap, refl, subst, sym}
use mathlib.Core.Logic.{◌⊎◌, inl, inr}
use mathlib.Core.Bool.{cond, false, true}
use mathlib.Core.List.{List, [], ◌∷◌, map}
use native.Mathlib.Omega.{arith}
use lib.Dec.{eqb}
use lib.ListN.{get_or, length, set}
use borrow.Author.Tests.{eqb-true, ne_eqb}
use Rattle.model.specs.Base.{any, joined, mem, numbers}
use Rattle.model.specs.Edges.{Edge, Update, Way, Weight, adds_counter, at, edge_by, edges_at, step_by, update_of, view, ways_of, whole}
use Rattle.model.specs.Heap.{Heap, Slot, Val, kept, next, null, order, ptr, tour, undef, walk}
use Rattle.model.specs.Machine.{Entry, Kind, Op, Stmt, accepts, action_of, acts, answer_of, branch, choose, clear, collect, collects, copy, done, drops, effect, entry, fault, faulted, free, halts, is_null, is_stop, kind, leak, let_go, load, new, perform, picks, relink, same, set_null, set_ptr, settle, skip, step, stop, store, tests, went}
use Rattle.model.specs.Notions.{ClosedHeap, In, Kept, Reaches, gathered, seg_at}
use Rattle.model.specs.Shape.{Seg, cells, core, segments, shape}
use Rattle.model.proofs.expansion.Collect.{collect_same, order_collect}
use Rattle.model.proofs.expansion.Cuts.{flat_cut, flat_mem, mem_flat_in}
use Rattle.model.proofs.expansion.Effects.{set_closed}
use Rattle.model.proofs.expansion.Reach.{order_reaches, reaches_order}
use Rattle.model.proofs.expansion.Step.{step_as_lem, step_go}
use Rattle.model.proofs.lists.Lists.{get_or_in_lem, in_map, map_in, map_same}
use Rattle.model.proofs.lists.Logic.{bool_case, clash, eqb_same}
use Rattle.model.proofs.lists.Numbers.{in_numbers}
use Rattle.model.proofs.visits.Order.{toured, used_below}
use Rattle.model.proofs.ways.Ways.{whole_adds, whole_one, whole_rest}
use Rattle.model.proofs.ways.Weights.{adds_update, count_none, update_adds}

-- ---- nothing is lost with a pointer that holds no cell

no_walk : (nx : ℕ → Slot) (f : ℕ) (s : List ℕ) (v : Val) → (v ≡ null) ⊎ (v ≡ undef) → walk nx f s v ≡ s
no_walk nx zero s v n = refl
no_walk nx (suc f) s v (inl e) = rw e
no_walk nx (suc f) s v (inr e) = rw e

tour_without : (nx : ℕ → Slot) (f : ℕ) (s : List ℕ) (vs : List Val) (u : ℕ)
    → (get_or vs u undef ≡ null) ⊎ (get_or vs u undef ≡ undef) → tour nx f s (set vs u null) ≡ tour nx f s vs
tour_without nx f s [] u n = refl
tour_without nx f s (v ∷ vs) zero n =
    ap (λ t. tour nx f t vs) (no_walk nx f s null (inl refl) ∙ sym (no_walk nx f s v n))
tour_without nx f s (v ∷ vs) (suc u) n = tour_without nx f (walk nx f s v) vs u n

pub null_keeps : (h : Heap) (u : ℕ) → Kept h → (ptr h u ≡ null) ⊎ (ptr h u ≡ undef)
    → collect (set_ptr u null h) ≡ set_ptr u null h
null_keeps h u k n =
    collect_same (set_ptr u null h)
    (λ c w. rw (tour_without (next h) (length h.slots) [] h.ptrs u n) (k c w))

-- ---- every other statement

-- it collects nothing
pub no_drop : (op : Op) → ((u : ℕ) → op ≡ let_go u → ⊥) → collects (kind op) ≡ false
no_drop stop n = refl
no_drop (set_null u) n = refl
no_drop (copy u w) n = refl
no_drop (load u w) n = refl
no_drop (clear u) n = refl
no_drop (store u w) n = refl
no_drop (new u) n = refl
no_drop (free u) n = refl
no_drop (is_null u) n = refl
no_drop (same u w) n = refl
no_drop choose n = refl
no_drop skip n = refl
no_drop (relink u w) n = refl
no_drop (let_go u) n = absurd (n u refl)

-- a stop leaves the heap
pub stop_stays : (c : Kind) (n : ℕ) (h g : Heap) → is_stop c ≡ true → perform (action_of c) n h ≡ done g → h ≡ g
stop_stays halts n h g e d = done_inj d
  where
    done_inj : done h ≡ done g → h ≡ g
    done_inj q = cc
stop_stays (acts a) n h g e d = clash e refl
stop_stays (drops u) n h g e d = clash e refl
stop_stays (tests u s) n h g e d = clash e refl
stop_stays picks n h g e d = clash e refl

-- an op that collects nothing stops at a leak
pub leak_stops : (st : Stmt) (e : Entry) (h g : Heap) → is_stop (kind st.op) ≡ false → accepts st.op e h ≡ true
    → collects (kind st.op) ≡ false → effect st.op e.cell_no h ≡ done g → kept g ≡ false
    → step st e h ≡ faulted leak
leak_stops st e h g go a c d l =
    step_go st e h go a
    ∙ ap (λ b. answer_of st turn (settle b (effect st.op e.cell_no h))) c
    ∙ ap (λ x. answer_of st turn (settle false x)) d
    ∙ ap (λ b. answer_of st turn (cond b (done g) (fault leak))) l
  where
    turn : ℕ
    turn = branch st.op e.pick h

-- ---- a drop

-- the edge of a step that goes on: to the shape of the heap that it leaves, with the counters of that heap's segments
went_edge : (s n : ℕ) (y : Way) (b t : ℕ) (g : Heap) → edge_by s n y (went b t g) ≡ record {
  branch_no = b;
  guards = y.guards;
  to = at t (shape g);
  updates = map (update_of n y.weight) (segments g);
} ∷ []
went_edge s n y b t g = refl

module _ (st : Stmt) (u : ℕ) (k : kind st.op ≡ drops u) where
  pub drop_goes : (e : Entry) (h : Heap) → step st e h ≡ went 0 st.first_target (collect (set_ptr u null h))
  drop_goes e h = step_as_lem st e h (drops u) k

  module _ (i : ℕ) (h : Heap) where
    abbrev nodes : ℕ
    nodes = length h.slots

    abbrev cut : Heap
    cut = set_ptr u null h

    abbrev carries : ℕ → Weight
    carries = (whole [] 0 h).weight

    abbrev pub going : Edge
    going = record {
      branch_no = 0;
      guards = [];
      to = at st.first_target (shape (collect cut));
      updates = map (update_of nodes carries) (segments (collect cut));
    }

    pub drop_edge : edges_at i st h ≡ going ∷ []
    drop_edge =
        ap (λ (c : Kind). joined (map (λ y. edge_by i nodes y (step_by st nodes y))
        (ways_of c (view (action_of c) h) h))) k
        ∙ ap (λ a. joined (edge_by i nodes (whole [] 0 h) a ∷ [])) (drop_goes (entry 0 nodes) h)
        ∙ ap (λ es. joined (es ∷ [])) (went_edge i nodes (whole [] 0 h) 0 st.first_target (collect cut))

    module _ (cl : ClosedHeap h) where
      cut_closed : ClosedHeap cut
      cut_closed = set_closed h u null cl tt

      -- the cells of the segments that are left are the cells that are still visited
      visited : (s : Seg) → In s (segments (collect cut)) → (c : ℕ) → mem c (cells s) ≡ true → mem c (order cut) ≡ true
      visited s j c m =
          subst (λ l. mem c l ≡ true)
          (flat_cut (core (collect cut)) (order (collect cut)) ∙ order_collect cut cut_closed)
          (mem_flat_in (segments (collect cut)) s c j m)

      below : (c : ℕ) → mem c (order cut) ≡ true → c < nodes
      below c m = used_below h.slots c ((toured cut cut_closed).used c m)

      abbrev Carried : ℕ → Type 0
      Carried n = (U : Update) × In U going.updates × (get_or U.adds n false ≡ true)

      pub carried_reaches : (n : ℕ) → Carried n → Reaches cut n
      carried_reaches n (U, j, a) =
          let (s, is, e) = in_map (update_of nodes carries) U (segments (collect cut)) j in
          let (c, m, w) = update_adds nodes carries s n (subst (λ (x : Update). get_or x.adds n false ≡ true) e a) in
          order_reaches cut cut_closed n (visited s is n
          (subst (λ x. mem x (cells s) ≡ true) (whole_adds nodes [] n c w).0 m))

      pub reaches_carried : (n : ℕ) → n < nodes → Reaches cut n → Carried n
      reaches_carried n lt r =
          let ss = segments (collect cut) in
          let o : mem n (order (collect cut)) ≡ true = rw (order_collect cut cut_closed)
          (reaches_order cut cut_closed n r) in
          let (m, lm, has) = flat_mem ss n
          (subst (λ l. mem n l ≡ true) (sym (flat_cut (core (collect cut)) (order (collect cut)))) o) in (
            update_of nodes carries (seg_at ss m),
            map_in (update_of nodes carries) (seg_at ss m) ss (get_or_in_lem ss _ m lm),
            adds_update nodes carries (seg_at ss m) n n lt has (rw (ne_eqb n nodes (λ e. omega arith), eqb_same n)),
          )

      pub no_constant : (U : Update) → In U going.updates → U.plus ≡ 1
      no_constant U j =
          let (s, is, e) = in_map (update_of nodes carries) U (segments (collect cut)) j in
          let ones = count_none _ (cells s) (λ c m q. omega (
            arith,
            below c (visited s is c m),
            whole_one nodes [] c q,
          )) in
          let rests = count_none _ (cells s) (λ c m q. whole_rest nodes [] c q) in
          ap (λ (x : Update). x.plus) e ∙ (omega arith)

      -- each update adds the counters of the nodes that its segment joins
      pub drop_updates : going.updates ≡ map (gathered nodes) (segments (collect cut))
      drop_updates = map_same (update_of nodes carries) (gathered nodes) (segments (collect cut)) (λ s is.
          let u = update_of nodes carries in
          let plus = no_constant (u s) (map_in u s (segments (collect cut)) is) in
          let adds = map_same (λ n. any (λ c. adds_counter n (carries c)) (cells s)) (λ n. mem n (cells s))
          (numbers 0 nodes) (λ n r. let lt = (in_numbers 0 nodes n r).1 in
          λ j. any (λ c. weighed n c (omega arith) j) (cells s)) in
          λ j. record { adds = adds j; plus = plus j })
        where
          weighed : (n c : ℕ) → n < nodes → adds_counter n (carries c) ≡ eqb n c
          weighed n c lt = bool_case (eqb c nodes)
              (λ e. let q = eqb-true c nodes e in rw (e, ne_eqb n c (λ z. omega arith)))
              (λ e. rw e)

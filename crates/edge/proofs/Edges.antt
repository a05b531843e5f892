-- An edge by its way: the step that the way stands for, the edge of a fault, and the edge of a run that is done.
use Prim.Native.Nat.{ℕ, ◌≤◌}
use mathlib.Core.Path.{◌≡◌, refl, sym, ap, ap₂, subst, ◌∙◌}
use mathlib.Core.List.{List, [], ◌∷◌, head-eq_of_cons-eq, map, map-map}
use native.Mathlib.Omega.{arith}
use lib.ListN.{get_or-eq_default, drop, length, length-map, take}
use lib.Seq.{length-take-le}
use borrow.Author.Tests.{ne_eqb}
use Rattle.model.specs.Edges.{Edge, Guard, Way, Weight, at, edge_by, failed, split_heap, step_by, update_of}
use Rattle.model.specs.Heap.{Heap, next, unused}
use Rattle.model.specs.Machine.{Answer, Fault, action, answer_of, at_null, at_undef, branch, branch_by, carry_out, done, entry, fault, fault_number, faulted, kind, leak, target, went}
use Rattle.model.specs.Notions.{Used, Views}
use Rattle.model.specs.Records.{byte, loc_record, shape_of, update_code}
use Rattle.model.specs.Shape.{segments, shape}
use Rattle.model.specs.Structs.{Coded, op_in, stmt_in}
use Rattle.model.specs.declared.Decoded.{Decoded}
use Rattle.model.specs.declared.EdgeMade.{EdgeMade}
use Rattle.model.specs.declared.Guards.{Guards}
use Rattle.model.proofs.expansion.Splits.{tail_used, view_acts}
use Rattle.model.proofs.expansion.Step.{step_go}
use Rattle.model.proofs.ways.Picks.{accept_room, room_of}
use Rattle.model.proofs.ways.Views.{view_looks, view_split}
use Rattle.effect.specs.Effect.{effect_of}
use Rattle.machine.specs.Run.{Bytes}
use Rattle.record.specs.Written.{fault_bytes}
use Rattle.cell_sum.specs.Codes.{weight_by, weight_in}
use Rattle.cell_sum.specs.declared.Weights.{Weights}
use Rattle.way.proofs.Ready.{node_below, node_used, nodes_few, nodes_is, shape_is_lem, split-case, statement_is_lem}
use Rattle.way.specs.Ready.{WayReady}
use Rattle.way.specs.Way.{way_in}
use Rattle.way.specs.declared.Way as declared
use Rattle.std.specs.Prelude.{Some}
use Rattle.model.specs.Codes.{fault_code as code}
use Rattle.model.specs.declared.Node.{Node}
use Rattle.model.specs.declared.codes.Fault.{Fault as declared_fault}
use Rattle.model.specs.declared.codes.Fault.TheVariants as named
use Rattle.edge.specs.Edge.{FaultMade, Faults, LeavesBy}
use Rattle.shape_run.specs.WayRun.{WayDone, left_in}
use Rattle.refold.specs.Refold.{IsLeft, LeaveReady}
use Rattle.shape_run.specs.declared.Gone.{Gone}

-- ---- the edge of an answer

fault_edge_lem : (s k : ℕ) (y : Way) (x : Fault) (a : Answer) (E : Edge) → a ≡ faulted x → edge_by s k y a ≡ E ∷ []
    → record { branch_no = 0; guards = y.guards; to = failed s x; updates = [] } ≡ E
fault_edge_lem s k y x a E e q = head-eq_of_cons-eq (sym (ap (edge_by s k y) e) ∙ q)

pub went_edge : (s k : ℕ) (y : Way) (b t : ℕ) (h : Heap) (a : Answer) (E : Edge) → a ≡ went b t h → edge_by s k y a ≡ E
    ∷ []
    → record {
      branch_no = b;
      guards = y.guards;
      to = at t (shape h);
      updates = map (update_of k y.weight) (segments h);
    } ≡ E
went_edge s k y b t h a E e q = head-eq_of_cons-eq (sym (ap (edge_by s k y) e) ∙ q)

-- the same guards, in numbers
pub guards_as : {gs fs : List Guard} {g f : Guards} → gs ≡ fs → g ≡ f → Coded fs f → Coded gs g
guards_as p q c = rw (p, q) c

-- the fault by its name
abbrev pub fault_as : declared_fault → Fault
fault_as named.Null = at_null
fault_as named.Undefined = at_undef
fault_as named.Leak = leak

pub fault_effect : (f : declared_fault) (g : Heap) → effect_of (code f) g ≡ fault (fault_as f)
fault_effect named.Null g = refl
fault_effect named.Undefined g = refl
fault_effect named.Leak g = refl

fault_code : (f : declared_fault) → code f ≡ fault_number (fault_as f)
fault_code named.Null = refl
fault_code named.Undefined = refl
fault_code named.Leak = refl

-- ---- a ready way

module _ {l : List ℕ} {d : Decoded} {s : ℕ} {h : Heap} {y : declared.Way} (R : WayReady l d s h y) where
  abbrev k : ℕ
  k = length h.slots

  -- the step of the way: the pick is read by choose only, which splits nothing
  pub step_way : step_by (stmt_in d) k (way_in y h)
      ≡ answer_of (stmt_in d) (branch (op_in d) y.pick h) (carry_out (op_in d) k (way_in y h).heap)
  step_way = split-case y.split
      (λ n e. rw e
      (let x = split_heap n.0 k h in
      let v = R.is_node n e in
      let f = view_acts (kind (op_in d)) h n.0 v in
      step_go (stmt_in d) (entry 0 k) x R.goes
      (accept_room (op_in d) (entry 0 k) x ((view_looks (action (op_in d)) h n.0 v).roomy x k) (λ q. omega arith))
      ∙ ap (λ b. answer_of (stmt_in d) b (carry_out (op_in d) k x))
      (ap (λ i. branch_by i 0 x) f.1 ∙ sym (ap (λ i. branch_by i y.pick h) f.1))))
      (λ e. rw e (step_go (stmt_in d) (entry y.pick k) h R.goes
      (accept_room (op_in d) (entry y.pick k) h
      (room_of (action (op_in d)) h k (get_or-eq_default h.slots unused (omega arith)))
      (λ q. R.pick))))

  pub guards_is : Coded (way_in y h).guards y.guards
  guards_is = split-case y.split (λ n e. rw e R.guards) (λ e. rw e R.guards)

  pub weight_way : (way_in y h).weight ≡ weight_by y.split k
  weight_way = split-case y.split (λ n e. rw e) (λ e. rw e)

-- the edge of a fault
pub fault_leaves : {l : List ℕ} {d : Decoded} {y : declared.Way} {t us : List ℕ} (f : declared_fault) {r : EdgeMade}
    → Faults l d y f → FaultMade l (code f) y.guards t r → LeavesBy l d y t us r
fault_leaves {l = l} {d = d} {y = y} {us = us} f F m s h R E e =
    let st = stmt_in d in
    let k = length h.slots in
    let w = way_in y h in
    let x = fault_as f in
    let step : step_by st k w ≡ answer_of st (branch (op_in d) y.pick h) (fault x) =
    step_way R ∙ ap (answer_of st (branch (op_in d) y.pick h)) (sym (F s h R h) ∙ fault_effect f h) in
    let q = fault_edge_lem s k w x (step_by st k w) E step e in
    record {
      branch = m.0 ∙ ap (λ (z : Edge). z.branch_no) q;
      guards = guards_as (ap (λ (z : Edge). z.guards) (sym q)) m.1 (guards_is R);
      target = m.3 ∙ ap₂ fault_bytes (statement_is_lem R) (fault_code f) ∙ ap (λ (z : Edge). loc_record z.to) q;
      number = m.2 ∙ ap (λ (z : Edge). length z.updates) q;
      few = omega (arith, m.2);
      updates = ap (λ i. take i us) m.2 ∙ ap (λ (z : Edge). map update_code z.updates) q;
    }

-- ---- a run by a ready way

-- the fault that it gives
pub run_faults : (l : List ℕ) (d : Decoded) (y : declared.Way) (f : declared_fault)
    → ((g : Heap) → effect_of (code f) g ≡ carry_out (op_in d) (byte l 3) (way_in y (shape_of l)).heap)
    → Faults l d y f
run_faults l d y f W s h R g =
    W g ∙ ap₂ (λ k (x : Heap). carry_out (op_in d) k (way_in y x).heap) (nodes_is R) (shape_is_lem R)

module _ {l : List ℕ} {d : Decoded} {y : declared.Way} {image : Bytes} {visit seen : List ℕ} {g : Gone}
    (W : WayDone l d y image visit seen g) where
  abbrev left : Heap
  left = left_in image g

  -- what the cells stand for
  abbrev w : Weights
  w = record { nodes = byte l 3; split = y.split }

  module _ {s : ℕ} {h : Heap} (R : WayReady l d s h y) where
    -- what the run gave, by the shape
    outcome_is : carry_out (op_in d) (length h.slots) (way_in y h).heap ≡ done left
    outcome_is =
        ap₂ (λ k (x : Heap). carry_out (op_in d) k (way_in y x).heap) (sym (nodes_is R)) (sym (shape_is_lem R))
        ∙ sym W.outcome

    tail_kept : (n : Node) → y.split ≡ Some n → Used (next left) (byte l 3)
    tail_kept n e =
        let k = length h.slots in
        let v = n.0 in
        let below = node_below R n e in
        let is = nodes_is R in
        rw is (tail_used (op_in d) k v k h left
        (subst (λ x. Views x v) (sym (view_split (action (op_in d)) v k h)) (R.is_node n e))
        (ne_eqb k v (λ q. omega arith)) (node_used R n e)
        (sym (ap (λ (x : Heap). carry_out (op_in d) k x) (let q : (way_in y h).heap ≡ split_heap v k h = rw e in q))
        ∙ outcome_is))

    -- the image of a run that is done can be folded
    pub leave_ready : length image.pointers ≡ 6 → 13 ≤ length image.cells → 13 ≤ length visit → 13 ≤ length seen
        → (t us : List ℕ) → length t ≡ 32 → 13 ≤ length us
        → LeaveReady image.pointers (take g.cells image.cells) (take g.visited visit) seen w t us
    leave_ready six room places marks t us wide roomy =
        let few = nodes_few R in
        let count = W.count in
        let len = length-take-le g.cells image.cells (omega arith) in
        let most = W.few in
        let long = length-take-le g.visited visit (omega arith) in
        record {
          image = record {
            is_heap = W.is_heap;
            six = six;
            few = omega arith;
            visited = W.visited;
            holders = omega arith;
            counts = W.held;
          };
          few_old = omega arith;
          few = omega arith;
          short = omega arith;
          is_node = node_below R;
          has_tail = tail_kept;
          wide = wide;
          room = roomy;
        }

  -- the edge of a run that is done: t is headed by its next statement
  pub done_leaves : (t' t us : List ℕ) (a m : ℕ) → a ≡ target (stmt_in d) g.branch
      → IsLeft image.pointers (take g.cells image.cells) w t' us m → t ≡ 0x4c ∷ a ∷ 0 ∷ m ∷ drop 4 t'
      → LeavesBy l d y t us (record { branch = g.branch; guards = y.guards; nodes = m })
  done_leaves t' t us a m ae L te s h R E e =
      let st = stmt_in d in
      let k = length h.slots in
      let yy = way_in y h in
      let b = g.branch in
      let step : step_by st k yy ≡ went b (target st b) left =
      step_way R ∙ ap₂ (answer_of st) (ap (branch (op_in d) y.pick) (sym (shape_is_lem R)) ∙ sym W.branch)
      (outcome_is R) in
      let q = went_edge s k yy b (target st b) left (step_by st k yy) E step e in
      let codes : ℕ → (ℕ → Weight) → List ℕ = λ j f. map (λ i. update_code (update_of j f i)) (segments left) in
      let weights : codes w.nodes (weight_in w) ≡ codes k yy.weight =
      ap (λ j. codes j (weight_by y.split j)) (nodes_is R) ∙ ap (codes k) (sym (weight_way R)) in
      record {
        branch = ap (λ (i : Edge). i.branch_no) q;
        guards = guards_as (ap (λ (i : Edge). i.guards) (sym q)) refl (guards_is R);
        target = te ∙ L.target a ∙ ap (λ i. loc_record (at i (shape left))) ae ∙ ap (λ (i : Edge). loc_record i.to) q;
        number = L.number ∙ sym (length-map (segments left) (update_of k yy.weight))
            ∙ ap (λ (i : Edge). length i.updates) q;
        few = L.few;
        updates = L.updates ∙ weights ∙ sym (map-map update_code (update_of k yy.weight) (segments left))
            ∙ ap (λ (i : Edge). map update_code i.updates) q;
      }

-- The edge of a test, choose or skip, which is not run: the fault of a test that looks at an undefined pointer; else
-- the run would be done with the heap as it is, which is its own shape, and each counter is carried.
use Prim.Native.Nat.{ℕ, ◌+◌, ◌^◌, ◌≤◌, ◌<◌}
use mathlib.Core.Path.{◌≡◌, refl, subst, sym, ap, ap₂, ◌∙◌}
use mathlib.Core.Bool.{Bool, ◌&&◌, false, true}
use mathlib.Core.List.{List, [], ◌∷◌, map, map-map}
use native.Mathlib.Omega.{arith}
use lib.Dec.{leb}
use lib.ListN.{drop, get_or, length, length-map, set, take}
use lib.Seq.{get_or-take, length-take-le}
use borrow.Author.Tests.{eq-eqb, ne_eqb}
use Rattle.model.specs.Base.{numbers}
use Rattle.model.specs.Edges.{Edge, at, step_by, update_of}
use Rattle.model.specs.Heap.{Heap}
use Rattle.model.specs.Image.{heap_of}
use Rattle.model.specs.Machine.{answer_of, branch, carry_out, collects, done, effect, kind, settle, target}
use Rattle.model.specs.Notions.{Canon, Views}
use Rattle.model.specs.Records.{byte, loc_record, shape_of, update_code}
use Rattle.model.specs.Shape.{Seg, segments}
use Rattle.model.specs.Structs.{keeps_at, op_in, stmt_in}
use Rattle.model.specs.declared.Decoded.{Decoded}
use Rattle.model.proofs.expansion.Collect.{settle_fault, settle_kept}
use Rattle.model.proofs.lists.Lists.{in_single, map_same, mem_in}
use Rattle.model.proofs.lists.Logic.{clash}
use Rattle.model.proofs.lists.Numbers.{in_numbers, length_numbers, read_all}
use Rattle.model.proofs.records.Ops.{op_stops}
use Rattle.model.proofs.shapes.Canon.{canon_fold, canon_segments, single}
use Rattle.effect.specs.Effect.{TestFault, effect_of}
use Rattle.cell_sum.proofs.Codes.{segment_update}
use Rattle.cell_sum.specs.Codes.{plus_by, weight_by}
use Rattle.way.proofs.Ready.{nodes_few, nodes_is, shape_is_lem, split-case}
use Rattle.way.specs.Ready.{WayReady}
use Rattle.way.proofs.Through.{view_keeps}
use Rattle.way.specs.Way.{way_in}
use Rattle.way.specs.declared.Way.{Way}
use Rattle.std.specs.Prelude.{None}
use Rattle.model.specs.Codes.{fault_code, op_number}
use Rattle.model.specs.declared.codes.Fault.{Fault}
use Rattle.model.specs.declared.codes.Fault.TheVariants as fault
use Rattle.edge.specs.Edge.{Faults, KeepsShape, LeavesBy}
use Rattle.edge.proofs.Edges.{guards_as, guards_is, step_way, went_edge}
use Rattle.shape_run.proofs.Running.{branch_pointers}

-- ---- ops that are not run

-- no node is looked at, so no split is ready: the statement is run on the shape itself
module _ {l : List ℕ} {d : Decoded} {s : ℕ} {h : Heap} {y : Way} (R : WayReady l d s h y)
    (stays : keeps_at (op_number d.op) ≡ true) where
  still_whole : y.split ≡ None
  still_whole =
      split-case y.split
      (λ n q. absurd (subst (λ x. Views x n.0)
      (sym (view_keeps (op_number d.op) d.u.0 d.w.0 h R.statement.known stays)) (R.is_node n q)))
      (λ q. q)

  still_heap : (way_in y h).heap ≡ h
  still_heap = rw still_whole

-- nothing of a shape is lost
kept_run : (d : Decoded) (k : ℕ) (h : Heap) → Canon h → effect (op_in d) k h ≡ done h → carry_out (op_in d) k h ≡ done h
kept_run d k h C e = ap (settle (collects (kind (op_in d)))) e ∙ settle_kept (collects (kind (op_in d))) h C.kept

-- the fault that a test was answered is that of its run
settled_fault : (f : Fault) (b : Bool) (g h : Heap) → effect_of (fault_code f) g
    ≡ settle b (effect_of (fault_code f) h)
settled_fault fault.Null b g h = sym (settle_fault b _)
settled_fault fault.Undefined b g h = sym (settle_fault b _)
settled_fault fault.Leak b g h = sym (settle_fault b _)

pub still_faults : {l : List ℕ} {d : Decoded} {y : Way} (f : Fault) → keeps_at (op_number d.op) ≡ true
    → TestFault d (take 6 (drop 4 l)) (fault_code f) → Faults l d y f
still_faults {l = l} {d = d} {y = y} f stays t s h R g =
    let k = length h.slots in
    let b = collects (kind (op_in d)) in
    let e = subst (λ (x : Heap). effect_of (fault_code f) x ≡ effect (op_in d) k x) (shape_is_lem R)
    (t k (shape_of l) refl) in
    settled_fault f b g h ∙ ap (settle b) e ∙ ap (carry_out (op_in d) k) (sym (still_heap R stays))

pub still_keeps : (l : List ℕ) (d : Decoded) → TestFault d (take 6 (drop 4 l)) 0 → KeepsShape l d
still_keeps l d t n = sym (t n (shape_of l) refl)

-- ---- the updates

-- a node of its own carries its counter
carried : (k i : ℕ) → i < k → 4096 + 2 ^ i ≡ update_code (update_of k (weight_by None k) (single i))
carried k i lt =
    let here : plus_by (weight_by None k i) ≡ 2 ^ i = rw (ne_eqb i k (λ e. omega arith)) in
    omega (
      arith,
      segment_update None k (single i) (λ n e. cc) (refl, tt)
          (λ c q. omega (arith, in_single c i (mem_in c (i ∷ []) q))),
    )

codes_carried : (k : ℕ) (us : List ℕ) → k ≤ 12 → k ≤ length us → ((j : ℕ) → j < 12 → get_or us j 0 ≡ 4096 + 2 ^ j)
    → take k us ≡ map (λ x. update_code (update_of k (weight_by None k) x)) (map single (numbers 0 k))
codes_carried k us few room codes =
    let code : Seg → ℕ = λ x. update_code (update_of k (weight_by None k) x) in
    let f = take k us in
    let len = length-take-le k us room in
    sym (read_all 0 f) ∙ ap (λ n. map (λ j. get_or f j 0) (numbers 0 n)) len
    ∙ map_same (λ j. get_or f j 0) (λ j. code (single j)) (numbers 0 k)
    (λ j q. let lt = (in_numbers 0 k j q).1 in
    let below : j < k = omega arith in
    get_or-take k us j 0 below ∙ codes j (omega arith) ∙ carried k j below)
    ∙ sym (map-map code single (numbers 0 k))

-- ---- the edge

pub keep_leaves : {l : List ℕ} {d : Decoded} {y : Way} (t us : List ℕ) (a b : ℕ) → keeps_at (op_number d.op) ≡ true
    → KeepsShape l d → 12 ≤ length us
    → b ≡ branch (op_in d) y.pick (heap_of (take 6 (drop 4 l)) []) → a ≡ target (stmt_in d) b → t ≡ set l 1 a
    → ((j : ℕ) → j < 12 → get_or us j 0 ≡ 4096 + 2 ^ j)
    → LeavesBy l d y t us (record { branch = b; guards = y.guards; nodes = byte l 3 })
keep_leaves {l = l} {d = d} {y = y} t us a b le keeps room be ae te codes s h R E e =
    let st = stmt_in d in
    let k = length h.slots in
    let w = way_in y h in
    let few = nodes_few R in
    let is = nodes_is R in
    let weight_is : w.weight ≡ weight_by None k = rw (still_whole R le) in
    let does : effect (op_in d) k h ≡ done h =
    subst (λ (g : Heap). effect (op_in d) k g ≡ done g) (shape_is_lem R) (keeps k) in
    let step : step_by st k w ≡ answer_of st b (done h) =
    step_way R
    ∙ ap₂ (answer_of st)
    (ap (branch (op_in d) y.pick) (sym (shape_is_lem R))
    ∙ sym (be ∙ branch_pointers (kind (op_in d)) y.pick (heap_of (take 6 (drop 4 l)) []) (shape_of l) refl))
    (ap (carry_out (op_in d) k) (still_heap R le) ∙ kept_run d k h R.is_shape does) in
    let q = went_edge s k w b (target st b) h (step_by st k w) E step e in
    let update = update_of k w.weight in
    let ss = canon_segments h R.is_shape in
    let number : length (map update (segments h)) ≡ k =
    length-map (segments h) update ∙ ap length ss ∙ length-map (numbers 0 k) single ∙ length_numbers 0 k in
    record {
      branch = ap (λ (x : Edge). x.branch_no) q;
      guards = guards_as (ap (λ (x : Edge). x.guards) (sym q)) refl (guards_is R);
      target = te ∙ ap (λ x. set x 1 a) R.is_record
          ∙ ap₂ (λ i x. loc_record (at i x)) ae (sym (canon_fold h R.is_shape))
          ∙ ap (λ (x : Edge). loc_record x.to) q;
      number = is ∙ sym number ∙ ap (λ (x : Edge). length x.updates) q;
      few = few;
      updates = ap (λ i. take i us) is ∙ codes_carried k us (omega arith) (omega arith) codes
          ∙ ap (λ f. map (λ x. update_code (update_of k f x)) (map single (numbers 0 k))) (sym weight_is)
          ∙ ap (map (λ x. update_code (update x))) (sym ss) ∙ sym (map-map update_code update (segments h))
          ∙ ap (λ (x : Edge). map update_code x.updates) q;
    }

-- any other op that goes may change the heap
pub changes_op : {l : List ℕ} {s : ℕ} {h : Heap} {y : Way} (d : Decoded) → WayReady l d s h y
    → leb 8 (op_number d.op) && leb (op_number d.op) 11 ≡ false → keeps_at (op_number d.op) ≡ false
changes_op d R n =
    let z : op_number d.op ≡ 0 → ⊥ = λ e. clash (op_stops (op_number d.op) d.u.0 d.w.0 R.statement.known
    ∙ eq-eqb (op_number d.op) 0 e) R.goes in
    rw (ne_eqb (op_number d.op) 0 z, n)

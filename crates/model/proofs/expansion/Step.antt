-- One step carries over: on a heap and on its expansion the machine faults alike, or goes on alike to heaps of which
-- one expands the other.
use Prim.Native.Nat.{ℕ}
use mathlib.Core.Path.{◌∙◌, ◌≡◌, ap, refl}
use mathlib.Core.Bool.{Bool, ◌&&◌, cond, false, true}
use lib.Dec.{eqb}
use borrow.Author.Tests.{eq-eqb, eqb-true}
use Rattle.model.specs.Heap.{Heap, Slot, Val, cell, kept, next, null, ptr, same_val, undef}
use Rattle.model.specs.Machine.{is_stop, Effect, Kind, Answer, Stmt, Fault, branch_by, answer_of, Entry, fault, faulted, kind, done, went, accepts, step, branch, tests, carry_out, action, test, perform, value_of, acts, collects, drops, halts, picks, settle, accepts_cell, accepts_pick, action_of, refused, stopped}
use Rattle.model.specs.Shape.{Seg}
use Rattle.model.proofs.expansion.Collect.{collect_expands, collect_kept}
use Rattle.model.proofs.expansion.Cores.{first_inj}
use Rattle.model.proofs.expansion.Effects.{effect_alike, ptr_closed, ptr_img, value_closed, value_img}
use Rattle.model.proofs.expansion.Facts.{kept_same, test_kept}
use Rattle.model.proofs.expansion.Folds.{large_closed}
use Rattle.model.specs.Notions.{Kept, Alike, Expands, Expansion, Room, both_bad, both_ok, img, sg_after, Closed, Alone}
use Rattle.model.proofs.lists.Logic.{bool_case, bool_ext}
use Rattle.model.specs.Edges.{view}

-- what is left after lost cells were settled: none, in any case
pub data After (sg : ℕ → Seg) : Effect → Effect → Type 0 where
  fault_both : {f : Fault} → After sg (fault f) (fault f)
  done_both : {W H : Heap} → Expansion W sg H → Kept H → After sg (done W) (done H)

settle_alike : (c : Bool) (sg : ℕ → Seg) (a b : Effect) → Alike sg a b → After sg (settle c a) (settle c b)
settle_alike true sg a b both_bad = fault_both
settle_alike true sg a b (both_ok {W} {H} X) =
    done_both (collect_expands W sg H X) (collect_kept H (large_closed W sg H X))
settle_alike false sg a b both_bad = fault_both
settle_alike false sg a b (both_ok {W} {H} X) =
    bool_case (kept W)
    (λ e. let k = kept_same W sg H X ∙ e in rw (e, k) (done_both X (test_kept H k)))
    (λ e. rw (e, kept_same W sg H X ∙ e) fault_both)

-- tests are answered alike
same_img : (nw : ℕ → Slot) (sg : ℕ → Seg) (nh : ℕ → Slot) → Expands nw sg nh → (v w : Val) → Closed nw v → Closed nw w
    → same_val (img sg v) (img sg w) ≡ same_val v w
same_img nw sg nh E null null k l = refl
same_img nw sg nh E null undef k l = refl
same_img nw sg nh E null (cell d) k l = refl
same_img nw sg nh E undef null k l = refl
same_img nw sg nh E undef undef k l = refl
same_img nw sg nh E undef (cell d) k l = refl
same_img nw sg nh E (cell c) null k l = refl
same_img nw sg nh E (cell c) undef k l = refl
same_img nw sg nh E (cell c) (cell d) k l =
    bool_ext (eqb (sg c).first (sg d).first) (eqb c d)
    (λ e. eq-eqb c d (first_inj nw sg nh E c d k l (eqb-true (sg c).first (sg d).first e)))
    (λ e. eq-eqb (sg c).first (sg d).first (ap (λ x. (sg x).first) (eqb-true c d e)))

module _ (W : Heap) (sg : ℕ → Seg) (H : Heap) (X : Expansion W sg H) where
  test_same : (v w x y : Val) → x ≡ img sg v → y ≡ img sg w → Closed (next W) v → Closed (next W) w → same_val x y
      ≡ same_val v w
  test_same v w x y p q k l = rw (p, q) (same_img (next W) sg (next H) X.body v w k l)

  pub branch_same : (c : Kind) (p : ℕ) → branch_by c p H ≡ branch_by c p W
  branch_same halts p = refl
  branch_same (acts x) p = refl
  branch_same (drops u) p = refl
  branch_same (tests u s) p =
      ap test (test_same (ptr W u) (value_of s W) (ptr H u) (value_of s H) (ptr_img W sg H X u) (value_img W sg H X s)
      (ptr_closed W sg H X u) (value_closed W sg H X s))
  branch_same picks p = refl

-- the answers of two steps
pub data Agree (sg : ℕ → Seg) : Answer → Answer → Type 0 where
  fault_alike : {f : Fault} → Agree sg (faulted f) (faulted f)
  went_alike : {b t : ℕ} {W H : Heap} → Expansion W sg H → Kept H → Agree sg (went b t W) (went b t H)

answer_agree : (sg : ℕ → Seg) (st : Stmt) (b : ℕ) (x y : Effect) → After sg x y
    → Agree sg (answer_of st b x) (answer_of st b y)
answer_agree sg st b x y fault_both = fault_alike
answer_agree sg st b x y (done_both X k) = went_alike X k

-- a step by the kind of its statement
abbrev pub step_as : Kind → Stmt → Entry → Heap → Answer
step_as c st e h =
    cond (accepts_pick c e.pick && accepts_cell (action_of c) (next h e.cell_no))
    (cond (is_stop c) stopped (answer_of st (branch_by c e.pick h)
    (settle (collects c) (perform (action_of c) e.cell_no h)))) refused

pub step_as_lem : (st : Stmt) (e : Entry) (h : Heap) (c : Kind) → kind st.op ≡ c → step st e h ≡ step_as c st e h
step_as_lem st e h c k = ap (λ x. step_as x st e h) k

pub step_go : (st : Stmt) (e : Entry) (h : Heap) → is_stop (kind st.op) ≡ false → accepts st.op e h ≡ true
    → step st e h ≡ answer_of st (branch st.op e.pick h) (carry_out st.op e.cell_no h)
step_go st e h g a = rw (a, g)

-- the step of an entry d on W and that of an entry e on its expansion H
pub step_agree : (st : Stmt) (d e : Entry) (W : Heap) (sg : ℕ → Seg) (H : Heap) → Expansion W sg H
    → is_stop (kind st.op) ≡ false
    → accepts st.op d W ≡ true → accepts st.op e H ≡ true
    → Alone (view (action st.op) W) sg
    → Room (action st.op) W d.cell_no → Room (action st.op) H e.cell_no
    → branch st.op e.pick H ≡ branch st.op d.pick W
    → Agree (sg_after (action st.op) d.cell_no e.cell_no sg) (step st d W) (step st e H)
step_agree st d e W sg H X g aw ah o rw' rh b =
    let a = action st.op in
    let sg' = sg_after a d.cell_no e.cell_no sg in
    rw (step_go st d W g aw, step_go st e H g ah, b)
    (answer_agree sg' st (branch st.op d.pick W) (carry_out st.op d.cell_no W)
    (carry_out st.op e.cell_no H)
    (settle_alike (collects (kind st.op)) sg' (perform a d.cell_no W) (perform a e.cell_no H)
    (effect_alike W sg H X a d.cell_no e.cell_no o rw' rh)))

-- Leaving a location: each step that the routine makes is one of the location's edges, and each enabled edge is a step
-- of the routine.
use Prim.Native.Nat.{◌+◌, ◌≤◌, suc, ℕ}
use mathlib.Core.Path.{◌∙◌, ◌≡◌, ap, ap₂, refl, subst, sym}
use mathlib.Core.Logic.{inl, inr}
use mathlib.Core.Option.{some}
use mathlib.Core.Bool.{false, true}
use mathlib.Core.List.{List, [], ◌∷◌, map}
use native.Mathlib.Omega.{arith}
use lib.ListN.{length, length-map}
use Rattle.model.specs.Base.{sum}
use Rattle.model.specs.Edges.{Edge, Loc, Update, Way, Weight, at, edge_by, failed, step_by, update_of}
use Rattle.model.specs.Heap.{Heap, next}
use Rattle.model.specs.Machine.{Answer, Effect, Entry, Fault, Stmt, accepts, answer_of, branch, done, fault, faulted, refused, carry_out, step, stopped, went, is_stop, kind, action}
use Rattle.model.specs.Runs.{State, Status, Advance, made, past, running}
use Rattle.model.specs.Shape.{Seg, cells, counters, fold_by, last, node_slot, segments, shape, size}
use Rattle.model.proofs.expansion.Folds.{Alls, counters_grow, fold_same, large_closed}
use Rattle.model.specs.Notions.{Kept, SmallEdge, SmallGuards, SmallUpdates, sg_after, total, worth, ClosedHeap}
use Rattle.model.proofs.ways.Sizes.{Neat, neat, run_short}
use Rattle.model.proofs.expansion.Step.{Agree, fault_alike, step_agree, step_go, went_alike}
use Rattle.model.proofs.ways.Ways.{Fits, count_length}
use Rattle.model.proofs.ways.Weights.{Fair, update_small, update_value, weigh}
use Rattle.model.proofs.expansion.Kinds.{Short}
use Rattle.model.proofs.ways.Picks.{accept_room, branch_low, room_accept}

-- the match of a state with a location and counters
abbrev pub MatchIn : Status → ℕ → Heap → Loc → List ℕ → Type 0
MatchIn running s h l cs = (l ≡ at s (shape h)) × (cs ≡ counters h) × ClosedHeap h × Kept h
MatchIn (past f) s h l cs = (l ≡ failed s f) × (cs ≡ [])

abbrev pub Fit : State → Loc → List ℕ → Type 0
Fit q l cs = MatchIn q.status q.stmt q.heap l cs

abbrev pub begin : ℕ → Heap → State
begin s h = record { stmt = s; status = running; heap = h }

-- a branch of 0 or 1, and how long an answer's heap can be
abbrev ShortAnswer : ℕ → Answer → Type 0
ShortAnswer b refused = Unit {0}
ShortAnswer b stopped = Unit {0}
ShortAnswer b (faulted f) = Unit {0}
ShortAnswer b (went c t h) = (c ≤ 1) × (length h.slots ≤ b)

answer_short : (b : ℕ) (st : Stmt) (c : ℕ) (x : Effect) → c ≤ 1 → Short b x → ShortAnswer b (answer_of st c x)
answer_short b st c (done h) l s = (l, s)
answer_short b st c (fault f) l s = tt

sum_total : (sg : ℕ → Seg) (f : ℕ → ℕ) → ((i : ℕ) → size (sg i) ≡ f i) → (l : List ℕ) → total sg l ≡ sum f l
sum_total sg f h [] = refl
sum_total sg f h (n ∷ l) = ap₂ ◌+◌ (h n) (sum_total sg f h l)

sums : (k : ℕ) (cs : List ℕ) (w : ℕ → Weight) (sg : ℕ → Seg) → length cs ≡ k → Fair k cs w
    → ((i : ℕ) → size (sg i) ≡ weigh cs (w i)) → (ss : List Seg)
    → Alls (Neat (suc k)) ss
    → map (λ (s : Seg). total sg (cells s)) ss ≡ map (worth cs) (map (update_of k w) ss)
sums k cs w sg len F h [] a = refl
sums k cs w sg len F h (s ∷ ss) a = ap₂ ◌∷◌
    (sum_total sg (λ i. weigh cs (w i)) h (cells s) ∙ update_value k cs len w F s a.0.0 a.0.1)
    (sums k cs w sg len F h ss a.1)

smalls : (k : ℕ) (cs : List ℕ) (w : ℕ → Weight) → length cs ≡ k → Fair k cs w → (ss : List Seg) → Alls (Neat (suc k)) ss
    → SmallUpdates k (map (update_of k w) ss)
smalls k cs w len F [] a u i = absurd i
smalls k cs w len F (s ∷ ss) a u (inl e) =
    let r = update_small k cs len w F s a.0.0 in subst (λ (x : Update). (x.plus ≤ 2) × (length x.adds ≡ k))
    (sym e) r
smalls k cs w len F (s ∷ ss) a u (inr i) = smalls k cs w len F ss a.1 u i

-- an edge and the routine's step, side by side
pub record Landed (q : State) (a : Answer) (E : Edge) (cs : List ℕ) : Type 0 where
  pub taken : Advance State
  pub is_made : made q a ≡ some taken
  pub branches : taken.branch_no ≡ E.branch_no
  pub fits : Fit taken.after E.to (map (worth cs) E.updates)

-- the edge of a way, by the answer a on its heap, beside the answer b on the heap H
abbrev Landing : ℕ → ℕ → Way → Heap → List ℕ → Answer → Answer → Type 0
Landing s k y H cs a b = (E : Edge) × (edge_by s k y a ≡ E ∷ []) × (E.guards ≡ y.guards) × Landed (begin s H) b E cs
    × SmallEdge k E

-- both fault alike
fault_landed : (s k : ℕ) (y : Way) (H : Heap) (cs : List ℕ) (f : Fault) → SmallGuards k y.guards
    → Landing s k y H cs (faulted f) (faulted f)
fault_landed s k y H cs f gd = (
  record { branch_no = 0; guards = y.guards; to = failed s f; updates = [] },
  refl,
  refl,
  record {
    taken = record { branch_no = 0; after = record { stmt = s; status = past f; heap = H } };
    is_made = refl;
    branches = refl;
    fits = (refl, refl);
  },
  record { number = refl; branch = omega arith; guarded = gd; small = λ u i. absurd i },
)

landed : (s k : ℕ) (y : Way) (H : Heap) (cs : List ℕ) (sg : ℕ → Seg) (a b : Answer) → SmallGuards k y.guards
    → length cs ≡ k
    → Fair k cs y.weight
    → ((i : ℕ) → size (sg i) ≡ weigh cs (y.weight i))
    → Agree sg a b → ShortAnswer (suc k) a
    → Landing s k y H cs a b
landed s k y H cs sg a b gd len F h (fault_alike {f = f}) sh = fault_landed s k y H cs f gd
landed s k y H cs sg a b gd len F h (went_alike {b = c} {t = t} {W = W'} {H = H'} X kp) sh = (
  record {
    branch_no = c;
    guards = y.guards;
    to = at t (fold_by (segments W') W');
    updates = map (update_of k y.weight) (segments W');
  },
  refl,
  refl,
  record {
    taken = record { branch_no = c; after = record { stmt = t; status = running; heap = H' } };
    is_made = refl;
    branches = refl;
    fits = (
      ap (at t) (sym (fold_same W' sg H' X)),
      sym (counters_grow W' sg H' X ∙ sums k cs y.weight sg len F h (segments W')
          (neat (suc k) W' (X.closed, X.body.closed) sh.1)),
      large_closed W' sg H' X,
      kp,
    );
  },
  record {
    number = length-map (segments W') (update_of k y.weight)
        ∙ sym (length-map (segments W') (λ (g : Seg). node_slot (segments W') (next W' (last g))));
    branch = sh.0;
    guarded = gd;
    small = smalls k cs y.weight len F (segments W') (neat (suc k) W' (X.closed, X.body.closed) sh.1);
  },
)

-- the edge of a way beside the step of an entry
module _ (s : ℕ) (st : Stmt) (H : Heap) (cl : ClosedHeap H) (kp : Kept H) where
  abbrev nodes : ℕ
  nodes = length (shape H).slots

  abbrev pub Lands : Way → Entry → Type 0
  Lands y e = Landing s nodes y H (counters H) (step_by st nodes y) (step st e H)

  -- a way by which both are the same fault
  pub fault_lands : (y : Way) (e : Entry) (f : Fault) → SmallGuards nodes y.guards → step_by st nodes y ≡ faulted f
      → step st e H ≡ faulted f → Lands y e
  fault_lands y e f gd p q = rw (p, q) (fault_landed s nodes y H (counters H) f gd)

  -- a way that fits
  pub fits_lands : (y : Way) (e : Entry) → is_stop (kind st.op) ≡ false
      → Fits (action st.op) nodes e.cell_no y H (counters H) → y.pick ≤ 1 → SmallGuards nodes y.guards
      → accepts st.op e H ≡ true → branch st.op e.pick H ≡ branch st.op y.pick y.heap → Lands y e
  fits_lands y e g F p gd ac b =
      let a = action st.op in
      let d : Entry = record { pick = y.pick; cell_no = nodes } in
      let aw : accepts st.op d y.heap ≡ true = accept_room st.op d y.heap F.room (λ q. p) in
      landed s nodes y H (counters H) (sg_after a nodes e.cell_no F.sg) (step_by st nodes y) (step st e H) gd
      (count_length H cl kp) F.fair F.weighs
      (step_agree st d e y.heap F.sg H F.expansion g aw ac F.alone F.room (room_accept st.op e H ac)
      b)
      (rw (step_go st d y.heap g aw)
      (answer_short (suc nodes) st (branch st.op y.pick y.heap) (carry_out st.op nodes y.heap)
      (branch_low (kind st.op) y.pick y.heap p)
      (run_short st.op nodes (suc nodes) y.heap (F.expansion.closed, F.expansion.body.closed) F.short
      (omega arith))))

-- The cases of an answer are told apart by what they say, and a call's outcome has one answer and one content of what
-- was lent.
use Prim.Native.Nat.{ℕ}
use Rattle.model.proofs.records.Checks.{not_both, refused_inj}
use Rattle.model.specs.Notions.{Halted}
use mathlib.Core.Path.{◌∙◌, ◌≡◌, ap, ap₂, refl, sym}
use mathlib.Core.List.{List, [], ◌∷◌}
use mathlib.Core.Option.{Option, none, some}
use native.Mathlib.Omega.{arith}
use mathlib.Core.Bool.{false, true}
use lib.Dec.{eqb}
use lib.ListN.{drop, get_or}
use Rattle.model.specs.Answers.{folding_of, found_numbers, found_of, outcome_of, refusal_in, step_answer_of, step_numbers, stepping_of, unfolding_of, verdict_of}
use Rattle.model.specs.Codes.{fault_code, move_refusal_number, reason_node, reason_number}
use Rattle.model.specs.Image.{Folding, StepAnswer, Stepping, Unfolding, no_step, to_fault, to_next, to_stop}
use Rattle.model.specs.Records.{is_accepted, is_refused}
use Rattle.model.specs.Translate.{Outcome}
use Rattle.model.specs.Walking.{Moved, Walked, moved_of, refused_in, walked_of}
use Rattle.std.specs.Prelude.{Result, Ok, Err, Some, None, Option as declared_option}
use Rattle.model.specs.declared.Configuration.{Configuration}
use Rattle.model.specs.declared.Counts.{Counts}
use Rattle.model.specs.declared.Folded.{Folded}
use Rattle.model.specs.declared.Stepped.{Stepped}
use Rattle.model.specs.declared.Stepped.TheVariants as stepped
use Rattle.model.specs.declared.Walked.{Walked as DeclaredWalked}
use Rattle.model.specs.declared.codes.Fault.{Fault}
use Rattle.model.specs.declared.codes.Fault.TheVariants as fault
use Rattle.model.specs.declared.codes.MoveRefusal.{MoveRefusal}
use Rattle.model.specs.declared.codes.MoveRefusal.TheVariants as move
use Rattle.model.specs.declared.codes.Reason.{Reason}
use Rattle.model.specs.declared.codes.Reason.TheVariants as reason
use Rattle.model.specs.declared.codes.Refusal.{Refusal as DeclaredRefusal}

never {ℓ} : {C : Type ℓ} → ◌≡◌ {A = ℕ} 0 1 → C
never e = absurd (omega arith)

-- ---- the names are told apart by their numbers: from its number a name comes back

abbrev fault_by : ℕ → Fault
fault_by n = get_or (fault.Null ∷ fault.Null ∷ fault.Undefined ∷ fault.Leak ∷ []) n fault.Null

fault_back : (f : Fault) → fault_by (fault_code f) ≡ f
fault_back fault.Null = refl
fault_back fault.Undefined = refl
fault_back fault.Leak = refl

pub fault_one : (f g : Fault) → fault_code f ≡ fault_code g → f ≡ g
fault_one f g e = sym (fault_back f) ∙ ap fault_by e ∙ fault_back g

abbrev reason_by : ℕ → ℕ → Reason
reason_by n v =
    get_or (reason.InputLength ∷ reason.InputLength ∷ reason.StatementCount ∷ reason.ShapeCount ∷ reason.RecordKind
    ∷ reason.UnknownOp ∷ reason.StatementFields ∷ reason.Target ∷ reason.ShapeLayout
    ∷ reason.UnreachableNode (record { 0 = v }) ∷ reason.RepeatedShape ∷ reason.LocationsFull ∷ reason.EdgesFull
    ∷ reason.Image ∷ reason.LostCell ∷ reason.Counters ∷ reason.Entry ∷ reason.Entry
    ∷ reason.NodeNotCore (record { 0 = v }) ∷ reason.NodeOrder (record { 0 = v }) ∷ []) n reason.InputLength

reason_back : (r : Reason) → reason_by (reason_number r) (reason_node r) ≡ r
reason_back reason.InputLength = refl
reason_back reason.StatementCount = refl
reason_back reason.ShapeCount = refl
reason_back reason.RecordKind = refl
reason_back reason.UnknownOp = refl
reason_back reason.StatementFields = refl
reason_back reason.Target = refl
reason_back reason.ShapeLayout = refl
reason_back (reason.UnreachableNode v) = refl
reason_back reason.RepeatedShape = refl
reason_back reason.LocationsFull = refl
reason_back reason.EdgesFull = refl
reason_back reason.Image = refl
reason_back reason.LostCell = refl
reason_back reason.Counters = refl
reason_back reason.Entry = refl
reason_back (reason.NodeNotCore v) = refl
reason_back (reason.NodeOrder v) = refl

pub refusal_one : (r s : DeclaredRefusal) → refusal_in r ≡ refusal_in s → r ≡ s
refusal_one r s e =
    let q = sym (reason_back r.reason) ∙ (λ i. reason_by (e i).number (e i).node) ∙ reason_back s.reason in
    λ i. record { reason = q i; place = (e i).place }

abbrev move_by : ℕ → MoveRefusal
move_by n = elim (eqb n 20) [ true ↦ move.NotMade | false ↦ move.CounterTooLarge ]

move_back : (r : MoveRefusal) → move_by (move_refusal_number r) ≡ r
move_back move.NotMade = refl
move_back move.CounterTooLarge = refl

move_one : (r s : MoveRefusal) → move_refusal_number r ≡ move_refusal_number s → r ≡ s
move_one r s e = sym (move_back r) ∙ ap move_by e ∙ move_back s

move_above : (r : MoveRefusal) → 0 ≡ move_refusal_number r → ⊥
move_above move.NotMade e = omega arith
move_above move.CounterTooLarge e = omega arith

-- ---- the answers

pub verdict_one : (a b : Result (Unit {0}) DeclaredRefusal) → verdict_of a ≡ verdict_of b → a ≡ b
verdict_one (Ok x) (Ok y) e = refl
verdict_one (Ok x) (Err r) e = never (cc)
verdict_one (Err r) (Ok x) e = never (cc)
verdict_one (Err r) (Err s) e = ap Err (refusal_one r s (refused_inj e))

pub step_one : (a b : Result Stepped DeclaredRefusal) → step_answer_of a ≡ step_answer_of b → a ≡ b
step_one (Ok (stepped.Went b n)) (Ok (stepped.Went c m)) e =
    let x : b ≡ c = cc in
    let y : n.0 ≡ m.0 = cc in
    λ i. Ok (stepped.Went (x i) (record { 0 = y i }))
step_one (Ok (stepped.Went b n)) (Ok (stepped.Faulted f)) e = never (cc)
step_one (Ok (stepped.Went b n)) (Ok stepped.Stopped) e = never (cc)
step_one (Ok (stepped.Went b n)) (Err r) e = never (cc)
step_one (Ok (stepped.Faulted f)) (Ok (stepped.Went c m)) e = never (cc)
step_one (Ok (stepped.Faulted f)) (Ok (stepped.Faulted g)) e =
    let x : fault_code f ≡ fault_code g = cc in ap (λ h. Ok (stepped.Faulted h)) (fault_one f g x)
step_one (Ok (stepped.Faulted f)) (Ok stepped.Stopped) e = never (cc)
step_one (Ok (stepped.Faulted f)) (Err r) e = never (cc)
step_one (Ok stepped.Stopped) (Ok (stepped.Went c m)) e = never (cc)
step_one (Ok stepped.Stopped) (Ok (stepped.Faulted g)) e = never (cc)
step_one (Ok stepped.Stopped) (Ok stepped.Stopped) e = refl
step_one (Ok stepped.Stopped) (Err r) e = never (cc)
step_one (Err r) (Ok (stepped.Went c m)) e = never (cc)
step_one (Err r) (Ok (stepped.Faulted g)) e = never (cc)
step_one (Err r) (Ok stepped.Stopped) e = never (cc)
step_one (Err r) (Err s) e = let x : refusal_in r ≡ refusal_in s = cc in ap Err (refusal_one r s x)

pub outcome_one : (a b : Result Counts DeclaredRefusal) (ls es : List ℕ) → outcome_of a ls es ≡ outcome_of b ls es
    → a ≡ b
outcome_one (Ok c) (Ok d) ls es q =
    λ i. Ok (record { locations = (q i).tables.loc_count; edges = (q i).tables.edge_count })
outcome_one (Ok c) (Err r) ls es q =
    not_both is_accepted (refusal_in r) refl (ap (λ (o : Outcome). o.verdict) q)
outcome_one (Err r) (Ok c) ls es q =
    not_both is_accepted (refusal_in r) refl (sym (ap (λ (o : Outcome). o.verdict) q))
outcome_one (Err r) (Err s) ls es q = ap Err (refusal_one r s (refused_inj (ap (λ (o : Outcome). o.verdict) q)))

pub found_one : (a b : declared_option ℕ) → found_of a ≡ found_of b → a ≡ b
found_one (Some n) (Some m) e = cc
found_one (Some n) None e = never (cc)
found_one None (Some m) e = never (cc)
found_one None None e = refl

pub moved_one : (c : Configuration) (a b : Result Configuration MoveRefusal) → moved_of c a ≡ moved_of c b → a ≡ b
moved_one c (Ok d) (Ok e) q = λ i. Ok (q i).configuration
moved_one c (Ok d) (Err r) q = absurd (move_above r (ap (λ (m : Moved). m.refusal) q))
moved_one c (Err r) (Ok d) q = absurd (move_above r (sym (ap (λ (m : Moved). m.refusal) q)))
moved_one c (Err r) (Err s) q = ap Err (move_one r s (ap (λ (m : Moved). m.refusal) q))

refused_one : (a b : declared_option MoveRefusal) → refused_in a ≡ refused_in b → a ≡ b
refused_one None None e = refl
refused_one None (Some r) e = absurd (move_above r e)
refused_one (Some r) None e = absurd (move_above r (sym e))
refused_one (Some r) (Some s) e = ap Some (move_one r s e)

pub walked_one : (a b : DeclaredWalked) → walked_of a ≡ walked_of b → a ≡ b
walked_one a b e =
    let r = refused_one a.refused b.refused (ap (λ (w : Walked). w.refusal) e) in
    λ i. record { made = (e i).made; configuration = (e i).configuration; refused = r i }

pub found_numbers_one : (x y : Option ℕ) → found_numbers x ≡ found_numbers y → x ≡ y
found_numbers_one (some n) (some m) e = λ i. some (e i).1
found_numbers_one (some n) none e = never (sym (ap (λ z. z.0) e))
found_numbers_one none (some m) e = never (ap (λ z. z.0) e)
found_numbers_one none none e = refl

-- only a step to a next statement tells a branch and that statement
pub halted_numbers : (a : StepAnswer) → Halted a → drop 2 (step_numbers a) ≡ 0 ∷ 0 ∷ []
halted_numbers (to_next b n) h = absurd h
halted_numbers (to_fault f) h = refl
halted_numbers to_stop h = refl
halted_numbers (no_step x) h = refl

-- ---- an answer with what stands in the lent bytes: the same outcome is the same answer and the same bytes

outcome_locations : (x : Result Counts DeclaredRefusal) (ls es : List ℕ) → (outcome_of x ls es).tables.loc_bytes ≡ ls
outcome_locations (Ok c) ls es = refl
outcome_locations (Err r) ls es = refl

outcome_edges : (x : Result Counts DeclaredRefusal) (ls es : List ℕ) → (outcome_of x ls es).tables.edge_bytes ≡ es
outcome_edges (Ok c) ls es = refl
outcome_edges (Err r) ls es = refl

pub outcomes_one : (x y : Result Counts DeclaredRefusal) (ls es ms fs : List ℕ)
    → outcome_of x ls es ≡ outcome_of y ms fs → (x ≡ y) × (ls ≡ ms) × (es ≡ fs)
outcomes_one x y ls es ms fs e =
    let l = sym (outcome_locations x ls es) ∙ ap (λ (o : Outcome). o.tables.loc_bytes) e ∙ outcome_locations y ms fs in
    let d = sym (outcome_edges x ls es) ∙ ap (λ (o : Outcome). o.tables.edge_bytes) e ∙ outcome_edges y ms fs in
    (outcome_one x y ls es (e ∙ ap₂ (outcome_of y) (sym l) (sym d)), l, d)

pub folded_one : (x y : Result Folded DeclaredRefusal) → folding_of x ≡ folding_of y → x ≡ y
folded_one (Ok f) (Ok g) e = λ i. Ok (record { shape = (e i).record_bytes; counters = (e i).counts })
folded_one (Ok f) (Err r) e = not_both is_accepted (refusal_in r) refl (ap (λ (f : Folding). f.verdict) e)
folded_one (Err r) (Ok f) e = not_both is_accepted (refusal_in r) refl (sym (ap (λ (f : Folding). f.verdict) e))
folded_one (Err r) (Err s) e = ap Err (refusal_one r s (refused_inj (ap (λ (f : Folding). f.verdict) e)))

pub unfoldings_one : (x y : Result (Unit {0}) DeclaredRefusal) (ps cs qs ds : List ℕ)
    → unfolding_of x ps cs ≡ unfolding_of y qs ds → (x ≡ y) × (ps ≡ qs) × (cs ≡ ds)
unfoldings_one x y ps cs qs ds e = (
  verdict_one x y (ap (λ (u : Unfolding). u.verdict) e),
  ap (λ (u : Unfolding). u.ptr_bytes) e,
  ap (λ (u : Unfolding). u.cell_bytes) e,
)

pub steppings_one : (x y : Result Stepped DeclaredRefusal) (ps cs qs ds : List ℕ)
    → stepping_of x ps cs ≡ stepping_of y qs ds → (x ≡ y) × (ps ≡ qs) × (cs ≡ ds)
steppings_one x y ps cs qs ds e = (
  step_one x y (ap (λ (s : Stepping). s.answer) e),
  ap (λ (s : Stepping). s.ptr_bytes) e,
  ap (λ (s : Stepping). s.cell_bytes) e,
)

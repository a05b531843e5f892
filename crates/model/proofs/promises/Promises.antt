-- The promises: each is a type, and under it stands its proof, which cites a law. This page has demand 1; demand 2 is
-- in PromisesShapes, PromisesEdges and PromisesListings, demand 3 in PromisesRuns, reading the tables in
-- PromisesTables, single statements in PromisesStatements and PromisesDrops, the controller bench in PromisesBench, the
-- nodes that are told with a refusal in PromisesNodes, and moves and walks in PromisesWalks. The words are those of
-- specs/.
use Prim.Native.Nat.{◌*◌, ◌-◌, ◌/◌, ◌<◌, ◌≤◌, suc, ℕ}
use mathlib.Core.Path.{◌∙◌, ◌≡◌, sym}
use mathlib.Core.Logic.{◌↔◌, ◌⊎◌}
use mathlib.Core.Bool.{false, true}
use mathlib.Core.List.{List, [], ◌∷◌}
use native.Mathlib.Omega.{arith}
use lib.ListN.{drop, get_or, length, replicate}
use Rattle.model.specs.Base.{mem}
use Rattle.model.specs.Answers.{folding_of, outcome_of, step_answer_of, step_numbers, stepping_of, unfolding_of, verdict_of}
use Rattle.model.specs.Heap.{IsHeap}
use Rattle.model.specs.Image.{answered, checks_image, checks_step, checks_unfold, fold_image, heap_of, step_image, step_verdict, to_fault, unfold_image}
use Rattle.model.proofs.records.Checks.{accepted_by}
use Rattle.model.specs.Machine.{entry, step}
use Rattle.model.specs.Records.{Refusal, filled, is_accepted, is_refused, is_s, shape_of, shape_record, stmt_of}
use Rattle.model.specs.Shape.{counters, shape}
use Rattle.model.specs.Translate.{Routine, Tables, bad, check, good, translate}
use Rattle.model.specs.Ranges.{ranged_of, ranging}
use Rattle.model.specs.Walking.{moved, moved_of, walked, walked_of}
use Rattle.std.specs.Prelude.{Result}
use Rattle.model.specs.declared.Configuration.{Configuration}
use Rattle.model.specs.declared.Counts.{Counts}
use Rattle.model.specs.declared.Folded.{Folded}
use Rattle.model.specs.declared.Ranged.{Ranged as DeclaredRanged}
use Rattle.model.specs.declared.Stepped.{Stepped}
use Rattle.model.specs.declared.Walked.{Walked as DeclaredWalked}
use Rattle.model.specs.declared.codes.MoveRefusal.{MoveRefusal}
use Rattle.model.specs.declared.codes.RangeRefusal.{RangeRefusal}
use Rattle.model.specs.declared.codes.Refusal.{Refusal as DeclaredRefusal}
use Rattle.model.proofs.images.Images.{fold_accepted, fold_checked, fold_gives, fold_lengths, fold_refused, fold_verdict, image_accepted, unfold_checked, unfold_lengths, unfold_refused}
use Rattle.model.specs.Listings.{BadInput, GoodInput, record_refusal, records_of, numbers_input, numbers_translate, numbers_s, numbers_h}
use Rattle.model.specs.Notions.{CheckedBy, Halted}
use Rattle.model.proofs.images.OneToOne.{folded_one, halted_numbers, outcome_one, outcomes_one, step_one, steppings_one, moved_one, unfoldings_one, verdict_one, walked_one}
use Rattle.model.proofs.listings.Outcomes.{bad_translate, fitting, places_most, refused_tables, translate_number}
use Rattle.model.proofs.records.Refusals.{accepted_input, bad_number, bad_refused, good_accepted, record_number, refused_input}
use Rattle.model.proofs.images.Stepping.{step_answers, step_checked, step_faults, step_lengths, step_stays}

-- ==== demand 1: every call states its outcome for all inputs

-- no two answers say the same: a finished call is never told as a refusal, nor a fault as a step
abbrev pub AnswersDiffer : Type 0
AnswersDiffer = ((a b : Result (Unit {0}) DeclaredRefusal) → verdict_of a ≡ verdict_of b → a ≡ b)
    × ((a b : Result Folded DeclaredRefusal) → folding_of a ≡ folding_of b → a ≡ b)
    × ((a b : Result Stepped DeclaredRefusal) → step_answer_of a ≡ step_answer_of b → a ≡ b)
    × ((a b : Result Counts DeclaredRefusal) (ls es : List ℕ) → outcome_of a ls es ≡ outcome_of b ls es → a ≡ b)
    × ((c : Configuration) (a b : Result Configuration MoveRefusal) → moved_of c a ≡ moved_of c b → a ≡ b)
    × ((a b : DeclaredWalked) → walked_of a ≡ walked_of b → a ≡ b)

pub answers_differ : AnswersDiffer
answers_differ = (verdict_one, folded_one, step_one, outcome_one, moved_one, walked_one)

-- a contract leaves nothing free: what two programs answer and leave, by the same contract and for the same input, is
-- the same, so that none but the definition's outcome meets it
abbrev pub OneOutcome : Type 0
OneOutcome = ((s : List ℕ) (a b : ℕ) (x y : Result Counts DeclaredRefusal) (ls es ms fs : List ℕ)
    → outcome_of x ls es ≡ translate s a b → outcome_of y ms fs ≡ translate s a b
    → (x ≡ y) × (ls ≡ ms) × (es ≡ fs))
    × ((ps cs : List ℕ) (x y : Result Folded DeclaredRefusal) → folding_of x ≡ fold_image ps cs
    → folding_of y ≡ fold_image ps cs → x ≡ y)
    × ((r vs ps cs : List ℕ) (x y : Result (Unit {0}) DeclaredRefusal) (qs ds us es : List ℕ)
    → unfolding_of x qs ds ≡ unfold_image r vs ps cs → unfolding_of y us es ≡ unfold_image r vs ps cs
    → (x ≡ y) × (qs ≡ us) × (ds ≡ es))
    × ((r : List ℕ) (p c : ℕ) (ps cs : List ℕ) (x y : Result Stepped DeclaredRefusal) (qs ds us es : List ℕ)
    → stepping_of x qs ds ≡ step_image r p c ps cs → stepping_of y us es ≡ step_image r p c ps cs
    → (x ≡ y) × (qs ≡ us) × (ds ≡ es))
    × ((t : Tables) (c : Configuration) (n : ℕ) (x y : Result Configuration MoveRefusal) → moved_of c x ≡ moved t c n
    → moved_of c y ≡ moved t c n → x ≡ y)
    × ((t : Tables) (c : Configuration) (ns : List ℕ) (x y : DeclaredWalked) → walked_of x ≡ walked t c ns
    → walked_of y ≡ walked t c ns → x ≡ y)
    × ((t : Tables) (l : ℕ) (rs ns : List ℕ) (x y : Result DeclaredRanged RangeRefusal)
    → x ≡ ranged_of (ranging t l rs ns) → y ≡ ranged_of (ranging t l rs ns) → x ≡ y)

pub one_outcome : OneOutcome
one_outcome = (
  λ s a b x y ls es ms fs p q. outcomes_one x y ls es ms fs (p ∙ sym q),
  λ ps cs x y p q. folded_one x y (p ∙ sym q),
  λ r vs ps cs x y qs ds us es p q. unfoldings_one x y qs ds us es (p ∙ sym q),
  λ r p c ps cs x y qs ds us es e f. steppings_one x y qs ds us es (e ∙ sym f),
  λ t c n x y p q. moved_one c x y (p ∙ sym q),
  λ t c ns x y p q. walked_one x y (p ∙ sym q),
  λ t l rs ns x y p q. p ∙ sym q,
)

-- "The two record counts are reported, both 0 on a refusal." A refused translation leaves both tables all zero.
abbrev pub RefusalClears : Type 0
RefusalClears = (s : List ℕ) (a b : ℕ) (x : Refusal) → (translate s a b).verdict ≡ is_refused x
    → ((translate s a b).tables.loc_bytes ≡ replicate a 0) × ((translate s a b).tables.edge_bytes ≡ replicate b 0)
    × ((translate s a b).tables.loc_count ≡ 0) × ((translate s a b).tables.edge_count ≡ 0)

pub refusal_clears : RefusalClears
refusal_clears = refused_tables

-- the tables keep their lengths
abbrev pub TablesKeepLength : Type 0
TablesKeepLength = (s : List ℕ) (a b : ℕ) → (length (translate s a b).tables.loc_bytes ≡ a)
    × (length (translate s a b).tables.edge_bytes ≡ b)

pub tables_keep_length : TablesKeepLength
tables_keep_length s a b = let f = fitting s a b in (f.loc_length, f.edge_length)

-- "at most 1,024 locations and 2,048 edges, and no more than length ÷ 32 rounded down"
abbrev pub CountsFit : Type 0
CountsFit = (s : List ℕ) (a b : ℕ) → ((translate s a b).tables.loc_count ≤ 1024)
    × ((translate s a b).tables.loc_count ≤ a / 32)
    × ((translate s a b).tables.edge_count ≤ 2048) × ((translate s a b).tables.edge_count ≤ b / 32)

pub counts_fit_lem : CountsFit
counts_fit_lem s a b =
    let f = fitting s a b in
    let p = places_most 1024 a in
    let q = places_most 2048 b in
    (omega arith, omega arith, omega arith, omega arith)

-- "bytes after the last are zero"
abbrev pub RestIsZero : Type 0
RestIsZero = (s : List ℕ) (a b : ℕ)
    → (drop (32 * (translate s a b).tables.loc_count) (translate s a b).tables.loc_bytes
    ≡ replicate (a - 32 * (translate s a b).tables.loc_count) 0)
    × (drop (32 * (translate s a b).tables.edge_count) (translate s a b).tables.edge_bytes
    ≡ replicate (b - 32 * (translate s a b).tables.edge_count) 0)

pub rest_is_zero : RestIsZero
rest_is_zero s a b = let f = fitting s a b in (f.loc_rest, f.edge_rest)

-- the numbers; "for 1, 2 and 3 it is 0"
abbrev pub TranslateNumbers : Type 0
TranslateNumbers = (s : List ℕ) (a b : ℕ) (x : Refusal) → (translate s a b).verdict ≡ is_refused x
    → (mem x.number numbers_translate ≡ true) × (x.number ≤ 3 → x.place ≡ 0)

pub translate_numbers : TranslateNumbers
translate_numbers = translate_number

-- "Refusals by place of check", those of the input: an input is refused exactly when that is wrong with it which the
-- number says, at the place given, and nothing before it; and a translation is then refused so, whatever the tables
abbrev pub InputRefused : Type 0
InputRefused = (s : List ℕ) (x : Refusal) → ((check s ≡ bad x) ↔ BadInput s x)
    × (check s ≡ bad x → (a b : ℕ) → (translate s a b).verdict ≡ is_refused x)

pub input_refused : InputRefused
input_refused s x = ((refused_input s x, bad_refused s x), λ e a b. bad_translate s a b x e)

-- an input is accepted exactly when nothing is wrong with it
abbrev pub InputAccepted : Type 0
InputAccepted = (s : List ℕ) (r : Routine) → (check s ≡ good r) ↔ GoodInput s r

pub input_accepted : InputAccepted
input_accepted s r = (accepted_input s r, good_accepted s r)

-- "The place given is the record number from 0 (for 1, 2 and 3 it is 0"; 5 to 7 are an S record's, 8, 9, 18, 19 and 10
-- an H record's
abbrev pub InputNumbers : Type 0
InputNumbers = (s : List ℕ) (x : Refusal) → BadInput s x → (mem x.number numbers_input ≡ true)
    × (x.number ≤ 3 → x.place ≡ 0) × (4 ≤ x.number → x.place < length (records_of s))

pub input_numbers : InputNumbers
input_numbers = bad_number

abbrev pub RecordNumbers : Type 0
RecordNumbers = (rs : List (List ℕ)) (i m : ℕ) → record_refusal rs i ≡ suc m
    → ((is_s (get_or rs i []) ≡ true) × (mem (suc m) numbers_s ≡ true)) ⊎ ((is_s (get_or rs i []) ≡ false)
    × (mem (suc m) numbers_h ≡ true))

pub record_numbers : RecordNumbers
record_numbers = record_number

-- 13, then 14: each exactly when its condition is met and none before it; the place is 0
abbrev pub FoldRefusals : Type 0
FoldRefusals = (ps cs : List ℕ) → CheckedBy (checks_image ps cs) (fold_image ps cs).verdict

pub fold_refusals : FoldRefusals
fold_refusals = fold_checked

-- an image is accepted exactly when it is six pointers and at most 240 cells, and a heap
abbrev pub FoldAccepts : Type 0
FoldAccepts = (ps cs : List ℕ) → ((fold_image ps cs).verdict ≡ is_accepted) ↔ ((length ps ≡ 6) × (length cs ≤ 240)
    × IsHeap (heap_of ps cs))

pub fold_accepts : FoldAccepts
fold_accepts ps cs = (
  (λ z. (image_accepted ps cs).0 (fold_accepted ps cs z)),
  λ q. fold_verdict ps cs
      ∙ accepted_by 0 ((image_accepted ps cs).1 q),
)

-- "A refused fold gives a zero record and zero counters"; a record has 32 bytes, and there are twelve counters
abbrev pub FoldLeaves : Type 0
FoldLeaves = (ps cs : List ℕ) → (length (fold_image ps cs).record_bytes ≡ 32) × (length (fold_image ps cs).counts ≡ 12)
    × ((x : Refusal) → (fold_image ps cs).verdict ≡ is_refused x → ((fold_image ps cs).record_bytes ≡ replicate 32 0)
    × ((fold_image ps cs).counts ≡ replicate 12 0))

pub fold_leaves : FoldLeaves
fold_leaves ps cs = let l = fold_lengths ps cs in (l.0, l.1, fold_refused ps cs)

-- "Folding gives an H record and twelve counters of 32 bits (0 past k)."
abbrev pub FoldGives : Type 0
FoldGives = (ps cs : List ℕ) → (fold_image ps cs).verdict ≡ is_accepted
    → ((fold_image ps cs).record_bytes ≡ shape_record (shape (heap_of ps cs)))
    × ((fold_image ps cs).counts ≡ filled 12 (counters (heap_of ps cs)))
    × (shape_of (fold_image ps cs).record_bytes ≡ shape (heap_of ps cs)) × (length (counters (heap_of ps cs)) ≤ 12)

pub fold_is : FoldGives
fold_is = fold_gives

-- "Unfolding checks the lengths (13), then 8, 9, 15", with 18 and 19 right after 9: each exactly when its condition is
-- met and none before it, with its node; the place is 0
abbrev pub UnfoldRefusals : Type 0
UnfoldRefusals = (r vs ps cs : List ℕ) → CheckedBy (checks_unfold r vs (length ps) (length cs))
    (unfold_image r vs ps cs).verdict

pub unfold_refusals : UnfoldRefusals
unfold_refusals = unfold_checked

-- "a refused unfolding or step leaves pointers and cells as they stood"; lengths are kept
abbrev pub UnfoldLeaves : Type 0
UnfoldLeaves = (r vs ps cs : List ℕ)
    → (length (unfold_image r vs ps cs).ptr_bytes ≡ length ps)
    × (length (unfold_image r vs ps cs).cell_bytes ≡ length cs)
    × ((x : Refusal) → (unfold_image r vs ps cs).verdict ≡ is_refused x → ((unfold_image r vs ps cs).ptr_bytes ≡ ps)
    × ((unfold_image r vs ps cs).cell_bytes ≡ cs))

pub unfold_leaves : UnfoldLeaves
unfold_leaves r vs ps cs = let l = unfold_lengths r vs ps cs in (l.0, l.1, unfold_refused r vs ps cs)

-- "a plain step 13, 14, 4 (its record is no S), 5, 6, 7, 16": each exactly when its condition is met and none before
-- it; the place is 0
abbrev pub StepRefusals : Type 0
StepRefusals = (r : List ℕ) (p c : ℕ) (ps cs : List ℕ) → CheckedBy (checks_step r (entry p c) ps cs)
    (step_verdict (step_image r p c ps cs).answer)

pub step_refusals : StepRefusals
step_refusals = step_checked

-- a step that is not refused is the plain machine's
abbrev pub StepAnswers : Type 0
StepAnswers = (r : List ℕ) (p c : ℕ) (ps cs : List ℕ) → step_verdict (step_image r p c ps cs).answer ≡ is_accepted
    → step_image r p c ps cs ≡ answered (step (stmt_of r) (entry p c) (heap_of ps cs)) ps cs

pub step_is : StepAnswers
step_is = step_answers

-- "fault 1; .. fault 2 .. fault 3 (a leak)"
abbrev pub StepFaults : Type 0
StepFaults = (r : List ℕ) (p c : ℕ) (ps cs : List ℕ) (f : ℕ) → (step_image r p c ps cs).answer ≡ to_fault f → (1 ≤ f)
    × (f ≤ 3)

pub step_faults_known : StepFaults
step_faults_known = step_faults

-- "at a fault, a stop or a refusal both numbers are 0 and the heap stays"; lengths are kept
abbrev pub StepLeaves : Type 0
StepLeaves = (r : List ℕ) (p c : ℕ) (ps cs : List ℕ)
    → (length (step_image r p c ps cs).ptr_bytes ≡ length ps) × (length (step_image r p c ps cs).cell_bytes ≡ length cs)
    × (Halted (step_image r p c ps cs).answer
    → ((step_image r p c ps cs).ptr_bytes ≡ ps) × ((step_image r p c ps cs).cell_bytes ≡ cs)
    × (drop 2 (step_numbers (step_image r p c ps cs).answer) ≡ 0 ∷ 0 ∷ []))

pub step_leaves : StepLeaves
step_leaves r p c ps cs =
    let l = step_lengths r p c ps cs in (
      l.0,
      l.1,
      λ h. let q = step_stays r p c ps cs h in
          (q.0, q.1, halted_numbers (step_image r p c ps cs).answer h),
    )

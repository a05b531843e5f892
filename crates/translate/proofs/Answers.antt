-- What an answer of the translator says: its counts have their records in the tables, and its outcome has its text;
-- and what is printed for the part of an input that was read.
use Prim.Native.Nat.{ℕ, ◌≤◌, ◌<◌}
use native.Mathlib.Omega.{arith}
use mathlib.Core.Path.{◌≡◌, sym, ap, ◌∙◌}
use mathlib.Core.List.{List, [], ◌++◌, append-nil}
use lib.Dec.{leb}
use lib.ListN.{length, take}
use lib.Seq.{take_all}
use borrow.Author.Tests.{leb-false, leb-true}
use Rattle.std.proofs.Common.{Option, None, Some, IfSome, Result, subst}
use Rattle.std.proofs.lemmas.List.{take-append-le}
use Rattle.std.specs.Io.KnownBytes.{Appends, Consumes, IsAtEnd}
use Rattle.model.specs.Answers.{outcome_of}
use Rattle.model.specs.Translate.{translate}
use Rattle.model.specs.declared.Counts.{Counts}
use Rattle.model.specs.declared.codes.Refusal.{Refusal}
use Rattle.model.proofs.lists.Logic.{bool_case}
use Rattle.model.proofs.listings.Outcomes.{fitting}
use Rattle.text.specs.Text.{Stands, text_of}
use Rattle.translate.specs.Printed.{printed}

module _ (s : List ℕ) (a b : ℕ) (o : Result Counts Refusal) (ls es : List ℕ)
    (e : outcome_of o ls es ≡ translate s a b) where
  pub counts_stand : length ls ≡ a → length es ≡ b → Stands o ls es
  counts_stand p q =
      let l = ap (λ x. x.tables.loc_count) e in
      let m = ap (λ x. x.tables.edge_count) e in
      let f = (fitting s a b).loc_most in
      let g = (fitting s a b).edge_most in
      (omega arith, omega arith, omega arith, omega arith)

  -- the text u of the outcome is the definition's, where the input is read whole and the tables have their places
  pub text_printed : length s ≤ 4096 → a ≡ 32768 → b ≡ 65536 → {u : List ℕ} → u ≡ text_of (outcome_of o ls es)
      → u ≡ printed s
  text_printed h p q w = w ∙ ap text_of e ∙ rw (p, q, take_all 4096 s h)

-- what is read is the whole input, or its first 4,096 bytes
first_read : (s x y : List ℕ) → x ≡ s ++ y → (length s < 4096 → y ≡ []) → take 4096 s ≡ take 4096 x
first_read s x y e end = bool_case (leb 4096 (length s))
    (λ q. sym (ap (take 4096) e ∙ take-append-le 4096 s y (leb-true 4096 (length s) q)))
    (λ q. ap (take 4096) (sym (e ∙ ap (λ l. s ++ l) (end (leb-false 4096 (length s) q)) ∙ append-nil s)))

-- what is printed for the part that was read is printed for the input
pub printed_whole : (s : List ℕ) (old new a b : Option (List ℕ)) → Consumes old new s → (length s < 4096 → IsAtEnd new)
    → Appends a b (printed s) → IfSome old (λ x. Appends a b (printed x))
printed_whole s None new a b p q w = tt
printed_whole s (Some x) None a b p q w = absurd p
printed_whole s (Some x) (Some y) a b p q w =
    subst (Appends a b) (ap (λ l. text_of (translate l 32768 65536)) (first_read s x y p q)) w

-- The two texts of an outcome.
use mathlib.Core.Path.{◌≡◌, refl, sym, ap, ap₂, ◌∙◌}
use mathlib.Core.List.{List, ◌++◌}
use Prim.Native.Nat.{ℕ}
use Rattle.std.specs.Option.{unwrap_or}
use Rattle.std.specs.Prelude.{Option, Some, None, Result, Ok, Err}
use Rattle.model.specs.Answers.{outcome_of, refusal_in}
use Rattle.model.specs.Codes.{node_told, reason_node, reason_number}
use Rattle.model.specs.Records.{refusal_at}
use Rattle.model.specs.declared.Counts.{Counts}
use Rattle.model.specs.declared.Node.{Node}
use Rattle.model.specs.declared.codes.Reason.{Reason}
use Rattle.model.specs.declared.codes.Refusal.{Refusal}
use Rattle.hex_lines.specs.Lines.{lines_of}
use Rattle.text.specs.Text.{refusal_line, text_of}

-- the node that is told with a reason, else node 0
node_of : (r : Reason) → (unwrap_or (node_told r) (record { 0 = 0 })).0 ≡ reason_node r
node_of r = number (node_told r)
  where
    number : (o : Option Node) → (unwrap_or o (record { 0 = 0 })).0 ≡ elim o [ Some v ↦ v.0 | None ↦ 0 ]
    number (Some v) = refl
    number None = refl

module _ (ls es : List ℕ) {o : Result Counts Refusal} where
  pub listed_text : {c : Counts} → o ≡ Ok c
      → lines_of c.locations ls ++ lines_of c.edges es ≡ text_of (outcome_of o ls es)
  unfolding text_of
  listed_text q = ap (λ x. text_of (outcome_of x ls es)) (sym q)

  pub refused_text : {r : Refusal} → o ≡ Err r → refusal_line (refusal_in r) ≡ text_of (outcome_of o ls es)
  unfolding text_of
  refused_text q = ap (λ x. text_of (outcome_of x ls es)) (sym q)

  -- the same of the numbers of the refusal
  pub numbers_text : {r : Refusal} {n : ℕ} {v : Node} → o ≡ Err r → n ≡ reason_number r.reason
      → v ≡ unwrap_or (node_told r.reason) (record { 0 = 0 })
      → refusal_line (refusal_at n r.place v.0) ≡ text_of (outcome_of o ls es)
  numbers_text {r} q n v =
      ap₂ (λ i j. refusal_line (refusal_at i r.place j)) n (ap (λ w. w.0) v ∙ node_of r.reason) ∙ refused_text q

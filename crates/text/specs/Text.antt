-- The text of an outcome, as the request's P1 fixes it: "prints each L, then each E, as 64 hex digits a line, or
-- `refused`, number and place in base 10 with one space between". Assumes nothing.
use Rattle.std.specs.Prelude.{ℕ, zero, suc, ◌+◌, ◌/◌, ◌%◌, true, false, cond, List, [], ◌∷◌, ◌++◌, ltb, Result}
use Rattle.model.specs.Records.{Refusal, is_accepted, is_refused, tells_node}
use Rattle.model.specs.Answers.{outcome_of}
use Rattle.model.specs.Translate.{Outcome}
use Rattle.model.specs.declared.Counts.{Counts}
use Rattle.model.specs.declared.codes.Refusal as declared
use Rattle.hex_lines.specs.Lines.{lines_of, Stand}

-- ---- a refusal

-- a number in base 10, the high digit first, with at most f digits
abbrev pub digits_within : ℕ → ℕ → List ℕ
digits_within zero n = []
digits_within (suc f) n =
    elim (ltb n 10) [
      | true ↦ (48 + n) ∷ []
      | false ↦ digits_within f (n / 10) ++ (48 + n % 10) ∷ []
    ]

-- the same with all its digits, of which there are at most n + 1
unfoldable pub decimal_of : ℕ → List ℕ
decimal_of n = digits_within (suc n) n

-- the word `refused` and a space
abbrev pub refused_word : List ℕ
refused_word = 0x72 ∷ 0x65 ∷ 0x66 ∷ 0x75 ∷ 0x73 ∷ 0x65 ∷ 0x64 ∷ 0x20 ∷ []

-- 02, job 5: "the programs print the node after the place for these three only"
abbrev pub node_part : ℕ → ℕ → List ℕ
node_part n v = cond (tells_node n) (0x20 ∷ decimal_of v) []

abbrev pub refusal_line : Refusal → List ℕ
refusal_line x =
    refused_word ++ decimal_of x.number ++ 0x20 ∷ [] ++ decimal_of x.place ++ node_part x.number x.node
    ++ 10 ∷ []

-- ---- the whole answer

-- the locations and then the edges where nothing is refused, else the refusal
unfoldable pub text_of : Outcome → List ℕ
text_of o =
    elim o.verdict [
      | is_accepted ↦ let t = o.tables in lines_of t.loc_count t.loc_bytes ++ lines_of t.edge_count t.edge_bytes
      | is_refused x ↦ refusal_line x
    ]

-- the records that an outcome counts stand in the tables, and the text has room for them
abbrev pub Stands : Result Counts declared.Refusal → List ℕ → List ℕ → Type 0
Stands o ls es = Stand (outcome_of o ls es).tables.loc_count ls (outcome_of o ls es).tables.edge_count es

-- Answers in numbers, written over the start of a lent list as far as it reaches. Assumes nothing.
use Rattle.std.specs.Prelude.{ℕ, ◌≡◌, cond, List, ◌++◌, eqb, length, take, drop, set, Option, Some, None}
use Rattle.model.specs.Answers.{refusal_of}
use Rattle.model.specs.Records.{Verdict}
use Rattle.model.specs.declared.Node.{Node}

-- a list over the start of another
abbrev pub over : {A : Type 0} → List A → List A → List A
over xs l = take (length l) xs ++ drop (length xs) l

-- the same where there is something to tell; 0 leaves the list
abbrev pub laid_where : ℕ → List ℕ → List ℕ → List ℕ
laid_where n xs l = cond (eqb n 0) l (over xs l)

-- three numbers at the first three places of a list; `set` past its end changes nothing
abbrev pub told : List ℕ → ℕ → ℕ → ℕ → List ℕ
told xs place first second = set (set (set xs 0 place) 1 first) 2 second

-- the number of a node that is told, 0 where none is
abbrev pub node_number : Option Node → ℕ
node_number (Some v) = v.0
node_number None = 0

-- how a call ended, as the number n of a refusal and its place p
pub record IsTold (v : Verdict) (n p : ℕ) : Type 0 where
  pub number : n ≡ (refusal_of v).number
  pub place : p ≡ (refusal_of v).place

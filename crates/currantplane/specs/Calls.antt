-- What the calls for Rust and C answer and leave, in numbers and lent lists. Assumes nothing.
use Rattle.std.specs.Prelude.{ℕ, ◌≡◌, List, set}
use Rattle.model.specs.Answers.{refusal_of, step_numbers}
use Rattle.model.specs.Image.{Folding, Stepping, Unfolding, step_verdict}
use Rattle.model.specs.Part.{Part}
use Rattle.model.specs.Runs.{IsRoutineOf}
use Rattle.model.specs.Translate.{translate}
use Rattle.model.specs.Ranges.{Ranged}
use Rattle.answers.specs.Numbers.{IsTold, laid_where, over, told}

-- a translation of input s into tables of a and b bytes: the number r, the answer before (xs) and after (ys), and the
-- bytes of the tables
pub record IsTranslated (s : List ℕ) (a b : ℕ) (xs : List ℕ) (r : ℕ) (ys ls es : List ℕ) : Type 0 where
  pub number : r ≡ (refusal_of (translate s a b).verdict).number
  pub answer : ys
      ≡ set (told xs (refusal_of (translate s a b).verdict).place
      (translate s a b).tables.loc_count (translate s a b).tables.edge_count) 3
      (refusal_of (translate s a b).verdict).node
  pub locations : ls ≡ (translate s a b).tables.loc_bytes
  pub edges : es ≡ (translate s a b).tables.edge_bytes
  pub automaton : r ≡ 0 → IsRoutineOf s (translate s a b).tables

-- a record looked up, with the refusal r and the answer before (xs) and after (ys): the place, and where the part
-- begins in the table that was meant, and its length
pub record IsRecord (p : Part) (xs : List ℕ) (r : ℕ) (ys : List ℕ) : Type 0 where
  pub number : r ≡ (refusal_of p.verdict).number
  pub answer : ys ≡ told xs (refusal_of p.verdict).place p.begins p.size

-- a fold with the refusal n at place p, the record r where r₀ stood, and the counters vs where vs₀ stood
pub record IsFolded (f : Folding) (n p : ℕ) (r r₀ vs vs₀ : List ℕ) : Type 0 where
  pub ended : IsTold f.verdict n p
  pub shape : r ≡ over f.record_bytes r₀
  pub counters : vs ≡ over f.counts vs₀

-- an unfolding with the refusal n at place p with node v, and the bytes ps and cs
pub record IsUnfolded (u : Unfolding) (n p v : ℕ) (ps cs : List ℕ) : Type 0 where
  pub ended : IsTold u.verdict n p
  pub node : v ≡ (refusal_of u.verdict).node
  pub pointers : ps ≡ u.ptr_bytes
  pub cells : cs ≡ u.cell_bytes

-- a step with the refusal n at place p, the bytes ps and cs, and the answer a where l stood
pub record IsStepped (s : Stepping) (n p : ℕ) (ps cs a l : List ℕ) : Type 0 where
  pub ended : IsTold (step_verdict s.answer) n p
  pub pointers : ps ≡ s.ptr_bytes
  pub cells : cs ≡ s.cell_bytes
  pub answer : a ≡ over (step_numbers s.answer) l

-- what the call for ranges leaves: the refusal's number; its place or the position, whether some start follows the
-- path, and the location reached, over the answer; and, where some start does, the final ranges over the ranges
pub record IsRanged (o : Ranged) (r : ℕ) (rs₀ rs answer₀ answer : List ℕ) : Type 0 where
  pub number : r ≡ o.refusal
  pub ranges : rs ≡ laid_where o.follows o.ranges rs₀
  pub tells : answer ≡ told answer₀ o.place o.follows o.location

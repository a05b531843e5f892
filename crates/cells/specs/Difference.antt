-- 02, job 10, "Where the cells went": two starts that differ in one counter, along one path. Assumes nothing.
use Rattle.std.specs.Prelude.{ℕ, ◌+◌, ◌<◌, ◌≡◌, ◌⊎◌, List, get_or, length, set}
use Rattle.std.proofs.Math.Option.{some}
use Rattle.model.specs.Machine.{Entry, Stmt}
use Rattle.model.specs.Ranges.{followed}
use Rattle.model.specs.Runs.{Config, Matched, State, move_of, step_of, trace}
use Rattle.model.specs.Translate.{Tables}

-- counter i with d more
abbrev pub raised : ℕ → ℕ → List ℕ → List ℕ
raised i d cs = set cs i (get_or cs i 0 + d)

-- "differ only in one counter, by some amount": ds are the larger ones
abbrev pub OneMore : ℕ → List ℕ → List ℕ → Type 0
OneMore d cs ds = (i : ℕ) × (i < length cs) × (ds ≡ raised i d cs)

-- "at most one counter differs, and by exactly that amount"
abbrev pub AtMostOneMore : ℕ → List ℕ → List ℕ → Type 0
AtMostOneMore d cs ds = (cs ≡ ds) ⊎ OneMore d cs ds

-- The routine, fed these entries, goes along the path: "each edge number taken", and these pair off with its steps.
pub record GoesAlong (sts : List Stmt) (t : Tables) (q : State) (c : Config) (es : List Entry) (ns : List ℕ) : Type 0
  where
    pub end : Config
    pub follows : followed t c ns ≡ some end
    pub pairs : Matched sts t q c (trace (step_of sts) q es) (trace (move_of t) c ns)

-- What the updates of an edge are judged by: its two guards, as numbers. Assumes nothing.
use Rattle.std.specs.Prelude.{ℕ, ◌≡◌, Bool, true, ◌&&◌, ◌||◌, not, List, [], ◌∷◌, eqb}
use Rattle.model.specs.Layout.{adds_old, constant_keeps, could_fall, counters_there, guard_keeps, guard_there}
use Rattle.model.specs.Records.{GuardCode}
use Rattle.model.specs.Structs.{code_in}
use Rattle.model.specs.declared.Guards.{Guards}

abbrev pub codes_in : Guards → List GuardCode
codes_in g = code_in g.first ∷ code_in g.second ∷ []

-- a guard that keeps the layout, where the source has k nodes
abbrev pub guard_ok : ℕ → GuardCode → Bool
guard_ok k g = guard_keeps g && guard_there k g

pub record GuardsKept (k : ℕ) (g : Guards) : Type 0 where
  pub first : guard_ok k (code_in g.first) ≡ true
  pub second : guard_ok k (code_in g.second) ≡ true

-- a guard asks for 2 or more of a counter that the update adds
abbrev pub asks : GuardCode → ℕ → Bool
asks g u = eqb g.test 2 && adds_old g.node u

-- no counters pass both
abbrev pub exclude : GuardCode → GuardCode → Bool
exclude a b =
    ((eqb a.test 1 && eqb b.test 2) || (eqb a.test 2 && eqb b.test 1)) && eqb a.node b.node

-- what the layout asks of one update
abbrev pub update_keeps : ℕ → List GuardCode → ℕ → Bool
update_keeps k gs u = constant_keeps u && counters_there k u && not (could_fall k gs u)

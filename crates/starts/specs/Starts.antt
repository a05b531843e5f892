-- The starting shapes of an input as locations, and what entering them asks of the input and the table.
-- Assumes nothing.
use Rattle.std.specs.Prelude.{ℕ, ◌≤◌, ◌≡◌, List, map, length, replicate}
use Rattle.model.specs.Base.{most_locations}
use Rattle.model.specs.Edges.{Loc, at}
use Rattle.model.specs.Translate.{check, good, places}
use Rattle.input.specs.Input.{routine_in}
use Rattle.input.specs.Accepted.{Accepted}

-- the starting shapes behind n statements, at statement 0
abbrev pub start_locs : ℕ → List ℕ → List Loc
start_locs n s = map (at 0) (routine_in n s).starts

-- the input s has n statements and m shapes, and the location table is cleared and has a place for each shape
pub record StartsReady (s : List ℕ) (n m : ℕ) (ls : List ℕ) : Type 0 where
  pub is_good : check s ≡ good (routine_in n s)
  pub accepted : Accepted s n m
  pub room : m ≤ places most_locations (length ls)
  pub blank : ls ≡ replicate (length ls) 0

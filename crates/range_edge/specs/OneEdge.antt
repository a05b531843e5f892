-- One edge followed with ranges, whose ends are kept in two lists of twelve, 0 past the last. Assumes nothing.
use Rattle.std.specs.Prelude.{ℕ, ◌+◌, ◌*◌, ◌≤◌, ◌<◌, ◌≡◌, true, List, length, Option, None, MatchOption}
use Rattle.std.proofs.Math.Option.{Option as MathOption, none, some}
use Rattle.model.specs.Base.{most_nodes, record_size}
use Rattle.model.specs.Notions.{In}
use Rattle.model.specs.Ranges.{Box, cut_by, image_of}
use Rattle.model.specs.Records.{GuardCode, byte, filled, record_at, word}
use Rattle.model.specs.Runs.{guards_of, updates_of}
use Rattle.model.specs.Walking.{in_counters}
use Rattle.range_edge.specs.declared.Ranges.{Ranges}

abbrev pub box_of : List ℕ → List ℕ → Box
box_of ls hs = record { lows = ls; highs = hs }

abbrev pub box_in : Ranges → Box
box_in r = box_of r.lows r.highs

-- an edge's record r that leads to a location of the table ls
pub record EdgeReady (r ls : List ℕ) : Type 0 where
  pub whole : length r ≡ record_size
  pub target : record_size * word r 4 + record_size ≤ length ls
  pub few : byte (record_at ls (word r 4)) 3 ≤ most_nodes
  pub guard_nodes : (g : GuardCode) → In g (guards_of r) → g.node < most_nodes

-- the moved ends, as far as each has 32 bits
pub record Moved (b : Box) (r : Ranges) : Type 0 where
  pub lows_are : in_counters b.lows ≡ true → r.lows ≡ filled most_nodes b.lows
  pub highs_are : in_counters b.highs ≡ true → r.highs ≡ filled most_nodes b.highs

-- whether values pass the guards, and how these are moved
abbrev pub PassedTo : List ℕ → MathOption Box → Option Unit → Ranges → Type 0
PassedTo us none r after = r ≡ None
PassedTo us (some c) r after = MatchOption r ⊥ (λ _. Moved (image_of us c) after)

abbrev pub OneFollowed : List ℕ → List ℕ → Ranges → Option Unit → Ranges → Type 0
OneFollowed r ls before passed after =
    PassedTo (updates_of (byte (record_at ls (word r 4)) 3) r) (cut_by (guards_of r) (box_in before)) passed after

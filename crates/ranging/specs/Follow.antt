-- A path followed with ranges, whose ends are kept in two lists of twelve, 0 past the last. Assumes nothing.
use Rattle.std.specs.Prelude.{ℕ, ◌≡◌, true, List, length, Result, Err, MatchResult}
use Rattle.model.specs.Base.{most_nodes}
use Rattle.model.specs.Ranges.{Ranging, askable, ends_at, first_wrong, follows, linked_part, refused_at}
use Rattle.model.specs.Records.{filled}
use Rattle.model.specs.Runs.{nodes_at}
use Rattle.model.specs.Translate.{Tables}
use Rattle.range_edge.specs.declared.Ranges.{Ranges}

-- what a path is followed with, where nothing is refused
pub record FollowReady (t : Tables) (l : ℕ) (rs ns : List ℕ) : Type 0 where
  pub asked : askable t l ns ≡ true
  pub linked : linked_part t l ns ≡ length ns
  pub ranges : first_wrong (nodes_at t l) rs ≡ nodes_at t l

-- all of a path is followed, with these final ranges; or no start goes on at a position
abbrev pub IsFollowed : Ranging → Result Ranges ℕ → Type 0
IsFollowed (follows l b) r =
    MatchResult r (λ m. (m.lows ≡ filled most_nodes b.lows) × (m.highs ≡ filled most_nodes b.highs)) (λ _. ⊥)
IsFollowed (ends_at i) r = r ≡ Err i
IsFollowed (refused_at x p) r = ⊥

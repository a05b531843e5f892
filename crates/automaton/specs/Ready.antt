-- What listing the starting shapes of an input asks of the input and the tables. Assumes nothing.
use Rattle.std.specs.Prelude.{ℕ, ◌≡◌, List, length, replicate}
use Rattle.starts.specs.Starts.{StartsReady}

-- the starting shapes can be entered, and the edge table is cleared too
pub record ListReady (s : List ℕ) (n m : ℕ) (ls es : List ℕ) : Type 0 where
  pub starts : StartsReady s n m ls
  pub blank : es ≡ replicate (length es) 0

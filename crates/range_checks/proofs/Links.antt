-- A path, guards aside, edge by edge: how many of its edges lead on, and where they lead.
use Prim.Native.Nat.{ℕ, ◌+◌}
use mathlib.Core.Path.{◌≡◌}
use mathlib.Core.List.{List}
use lib.ListN.{drop}
use Rattle.model.specs.Ranges.{linked_part, reached}
use Rattle.model.specs.Translate.{Tables}

-- after i edges from l₀, each of which leads on, the path stands at l, and the rest of it decides
pub record Led (t : Tables) (l₀ : ℕ) (ns : List ℕ) (i l : ℕ) : Type 0 where
  pub part : linked_part t l₀ ns ≡ i + linked_part t l (drop i ns)
  pub end : reached t l₀ ns ≡ reached t l (drop i ns)

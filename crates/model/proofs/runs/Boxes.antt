-- Ranges that hold some value, and guards that fit them; small cases that are computed.
use Prim.Native.Nat.{◌<◌, ◌≤◌, ℕ}
use mathlib.Core.Path.{◌≡◌, refl}
use mathlib.Core.Bool.{true}
use mathlib.Core.List.{List, [], ◌++◌, ◌∷◌}
use lib.ListN.{get_or, length, replicate}
use Rattle.model.specs.Layout.{guard_keeps, guard_there, keeps_layout}
use Rattle.model.specs.Ranges.{Box, along, ends_at, follows, ranging, refused_at}
use Rattle.model.specs.Records.{GuardCode}
use Rattle.model.specs.Translate.{Tables}

-- as many highest as lowest values, none of these below 1, and no range without a value
pub record Full (b : Box) : Type 0 where
  pub alike : length b.highs ≡ length b.lows
  pub ordered : (i : ℕ) → get_or b.lows i 0 ≤ get_or b.highs i 0
  pub positive : (i : ℕ) → i < length b.lows → 1 ≤ get_or b.lows i 0

-- a guard that the layout allows at a location with k nodes
pub record GuardFits (k : ℕ) (g : GuardCode) : Type 0 where
  pub keeps : guard_keeps g ≡ true
  pub there : guard_there k g ≡ true

-- ---- cases: a location with one node, a fault, and three edges

-- a node that pointer 0 holds, and fault 3
locations : List ℕ
locations = (0x4c ∷ 0 ∷ 0 ∷ 1 ∷ 0 ∷ replicate 6 0xfe) ++ replicate 21 0 ++ (0x4c ∷ 0 ∷ 3 ∷ []) ++ replicate 29 0

-- c ≥ 2, and c + 1 afterwards; c = 1, and c; to the fault
edges : List ℕ
edges = (0x45 ∷ 0 ∷ 0 ∷ 0 ∷ 0 ∷ 0 ∷ 2 ∷ 0 ∷ 1 ∷ 0x20 ∷ replicate 22 0)
    ++ (0x45 ∷ 0 ∷ 0 ∷ 0 ∷ 0 ∷ 0 ∷ 1 ∷ 0 ∷ 1 ∷ 0x10 ∷ replicate 22 0)
    ++ (0x45 ∷ 0 ∷ 0 ∷ 0 ∷ 1 ∷ 0 ∷ replicate 26 0)

small : Tables
small = record { loc_bytes = locations; edge_bytes = edges; loc_count = 2; edge_count = 3 }

range : ℕ → ℕ → Box
range a b = record { lows = a ∷ []; highs = b ∷ [] }

-- a guard cuts before the update moves
moved_on : along small 0 0 (range 1 3) (0 ∷ 0 ∷ []) ≡ follows 0 (range 4 5)
unfolding small locations edges range
moved_on = refl

-- none goes on at the second edge
stops_there : along small 0 0 (range 1 3) (0 ∷ 1 ∷ []) ≡ ends_at 1
unfolding small locations edges range
stops_there = refl

-- a fault has no ranges
at_fault : along small 0 0 (range 1 3) (2 ∷ []) ≡ follows 1 (record { lows = []; highs = [] })
unfolding small locations edges range
at_fault = refl

-- an edge that is not there, and a range that is none
both_wrong : ranging small 0 (0 ∷ []) (0 ∷ 3 ∷ []) ≡ refused_at 23 1
unfolding small locations edges ranging keeps_layout
both_wrong = refl

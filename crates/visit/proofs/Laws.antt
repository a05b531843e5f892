-- What a visited image says of its cells: the marks tell whether a cell is lost, and the order has as many cells as
-- were visited.
use Prim.Native.Nat.{ℕ, suc, ◌+◌, ◌<◌, ◌≤◌}
use native.Mathlib.Omega.{arith}
use mathlib.Core.Path.{◌≡◌, refl, sym, ap, ap₂, ◌∙◌}
use mathlib.Core.Bool.{Bool, not, ◌&&◌, not-not}
use mathlib.Core.List.{List, [], ◌∷◌, map}
use lib.Dec.{eqb}
use lib.ListN.{length, get_or, length-map}
use lib.Seq.{length-take-le}
use Rattle.model.specs.Base.{mem}
use Rattle.model.specs.Heap.{Slot, unused, holds, each_used, kept, order}
use Rattle.model.specs.Image.{cell_slot, heap_of}
use Rattle.visit.specs.Visit.{Visited}

-- tests that agree on the cells
each_same : (p q : ℕ → Bool) (i : ℕ) (ss : List Slot) → ((c : ℕ) → c < i + length ss → p c ≡ q c) → each_used p i ss
    ≡ each_used q i ss
each_same p q i [] h = refl
each_same p q i (unused ∷ ss) h = each_same p q (suc i) ss (λ c k. h c (omega arith))
each_same p q i (holds v ∷ ss) h = ap₂ ◌&&◌ (h i (omega arith)) (each_same p q (suc i) ss (λ c k. h c (omega arith)))

module _ {ps cs o s : List ℕ} {r : ℕ} (d : Visited ps cs o s r) where
  -- every cell in use has a mark exactly where every cell is reachable
  pub kept_marked : each_used (λ c. not (eqb (get_or s c 0) 0)) 0 (map cell_slot cs) ≡ kept (heap_of ps cs)
  kept_marked =
      each_same (λ c. not (eqb (get_or s c 0) 0)) (λ c. mem c (order (heap_of ps cs))) 0 (map cell_slot cs)
      (λ c k. let h : c < length cs = omega (arith, length-map cs cell_slot) in ap not (d.marked c h)
      ∙ not-not (mem c (order (heap_of ps cs))))

  -- the order has r cells, where there is room for all
  pub visited_length : length cs ≤ length o → length (order (heap_of ps cs)) ≡ r
  visited_length k = ap length (sym d.visited) ∙ length-take-le r o (let f = d.few in omega arith)

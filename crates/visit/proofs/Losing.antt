-- The search for a lost cell, turn by turn: a cell in use without a mark is one, any other leaves it to the cells
-- after.
use Prim.Native.Nat.{ℕ, ◌+◌, suc, ◌<◌, ◌≤◌}
use native.Mathlib.Numerals.{add-one}
use mathlib.Core.Path.{◌≡◌, refl, sym, ap, ◌∙◌}
use mathlib.Core.Bool.{Bool, true, false, not, ◌&&◌}
use mathlib.Core.List.{List, ◌∷◌, map}
use lib.Dec.{eqb}
use lib.ListN.{length, get_or, drop}
use Rattle.model.specs.Heap.{Slot, each_used}
use Rattle.model.specs.Image.{cell_slot}
use Rattle.model.proofs.lists.Logic.{bool_case}
use Rattle.model.proofs.lists.Slices.{map_end, map_step}
use Rattle.visit.specs.Steps.{lost_at}

-- the cell has a mark
abbrev pub has_mark : List ℕ → ℕ → Bool
has_mark s c = not (eqb (get_or s c 0) 0)

-- the search from cell i on
abbrev pub kept_from : List ℕ → List ℕ → ℕ → Bool
kept_from s cs i = each_used (has_mark s) i (map cell_slot (drop i cs))

each_step : (s : List ℕ) (i b : ℕ) (ss : List Slot) → each_used (has_mark s) i (cell_slot b ∷ ss)
    ≡ not (lost_at b (get_or s i 0)) && each_used (has_mark s) (suc i) ss
each_step s i b ss = bool_case (eqb b 0xfd) (λ t. rw t) (λ f. rw f)

kept_step : (s cs : List ℕ) (i : ℕ) → i < length cs → kept_from s cs i ≡ not (lost_at (get_or cs i 0) (get_or s i 0))
    && kept_from s cs (i + 1)
kept_step s cs i h =
    ap (each_used (has_mark s) i) (map_step cell_slot cs i h)
    ∙ each_step s i (get_or cs i 0) (map cell_slot (drop (i + 1) cs))
    ∙ ap (λ k. not (lost_at (get_or cs i 0) (get_or s i 0))
    && each_used (has_mark s) k (map cell_slot (drop (i + 1) cs)))
    (sym (add-one i))

-- one cell more: it, and what was kept before it
pub kept_more : (s cs : List ℕ) (i : ℕ) (before : Bool) → i < length cs
    → before && kept_from s cs i ≡ (not (lost_at (get_or cs i 0) (get_or s i 0)) && before) && kept_from s cs (i + 1)
kept_more s cs i true h = kept_step s cs i h
    ∙ bool_case (lost_at (get_or cs i 0) (get_or s i 0)) (λ t. rw t) (λ f. rw f)
kept_more s cs i false h = bool_case (lost_at (get_or cs i 0) (get_or s i 0)) (λ t. rw t) (λ f. rw f)

pub kept_end : (s cs : List ℕ) (i : ℕ) (before : Bool) → length cs ≤ i → before && kept_from s cs i ≡ before
kept_end s cs i true h = ap (each_used (has_mark s) i) (map_end cell_slot cs i h)
kept_end s cs i false h = refl

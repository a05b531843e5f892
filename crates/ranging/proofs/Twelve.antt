-- Ranges kept in two lists of twelve, 0 past the last: guards cut these, and updates move them, as they do the ranges.
use Prim.Native.Nat.{ℕ, zero, suc, ◌+◌, ◌-◌, ◌*◌, ◌/◌, ◌%◌, ◌<◌}
use mathlib.Core.Path.{◌≡◌, ◌∙◌, ap, ap₂, refl, sym}
use mathlib.Core.Logic.{inl, inr}
use mathlib.Core.Bool.{cond}
use mathlib.Core.Option.{Option, none, some}
use mathlib.Core.List.{List, [], ◌∷◌, ◌++◌}
use native.Mathlib.Omega.{arith}
use lib.Dec.{leb, ltb}
use lib.ListN.{get_or, length, length-set, replicate, set}
use lib.Seq.{set-append_left, set-get_or}
use borrow.Author.Tests.{eqb-true, ltb-true}
use Rattle.model.specs.Notions.{In}
use Rattle.model.specs.Ranges.{Box, cut, cut_by, high_passed, image_of, left_at, low_passed}
use Rattle.model.specs.Records.{GuardCode, filled, is_zero}
use Rattle.model.specs.Runs.{added, applied}
use Rattle.model.proofs.lists.Lists.{map_same}
use Rattle.model.proofs.lists.Logic.{bool_case, or_cases}
use Rattle.model.proofs.runs.Boxes.{GuardFits}
use Rattle.model.proofs.runs.Cuts.{cut_length}
use Rattle.range_edge.specs.OneEdge.{box_of}

abbrev pub twelve : Box → Box
twelve b = box_of (filled 12 b.lows) (filled 12 b.highs)

abbrev pub twelve_of : Option Box → Option Box
twelve_of none = none
twelve_of (some c) = some (twelve c)

-- ---- updates

added_zeros : (m j : ℕ) → added m (replicate j 0) ≡ 0
added_zeros m zero = refl
added_zeros m (suc j) = omega (arith, added_zeros (m / 2) j)

added_more : (m : ℕ) (xs : List ℕ) (j : ℕ) → added m (xs ++ replicate j 0) ≡ added m xs
added_more m [] j = added_zeros m j
added_more m (x ∷ xs) j = ap (λ s. m % 2 * x + s) (added_more (m / 2) xs j)

applied_filled : (xs : List ℕ) (u : ℕ) → applied (filled 12 xs) u ≡ applied xs u
applied_filled xs u = ap (λ s. (s + u / 4096 % 4) - 1) (added_more (u % 4096) xs (12 - length xs))

pub image_twelve : (us : List ℕ) (c : Box) → image_of us (twelve c) ≡ image_of us c
image_twelve us c =
    ap₂ box_of
    (map_same (applied (filled 12 c.lows)) (applied c.lows) us (λ u i. applied_filled c.lows u))
    (map_same (applied (filled 12 c.highs)) (applied c.highs) us (λ u i. applied_filled c.highs u))

-- ---- one value of twelve

get_or_zeros_lem : (j i : ℕ) → ◌≡◌ {A = ℕ} (get_or (replicate j 0) i 0) 0
get_or_zeros_lem zero i = refl
get_or_zeros_lem (suc j) zero = refl
get_or_zeros_lem (suc j) (suc i) = get_or_zeros_lem j i

get_or_more_lem : (xs : List ℕ) (j i : ℕ) → get_or (xs ++ replicate j 0) i 0 ≡ get_or xs i 0
get_or_more_lem [] j i = get_or_zeros_lem j i
get_or_more_lem (x ∷ xs) j zero = refl
get_or_more_lem (x ∷ xs) j (suc i) = get_or_more_lem xs j i

get_or_filled_lem : (xs : List ℕ) (i : ℕ) → get_or (filled 12 xs) i 0 ≡ get_or xs i 0
get_or_filled_lem xs i = get_or_more_lem xs (12 - length xs) i

set_filled : (f : ℕ → ℕ) (xs : List ℕ) (n : ℕ) → n < length xs
    → set (filled 12 xs) n (f (get_or (filled 12 xs) n 0)) ≡ filled 12 (set xs n (f (get_or xs n 0)))
set_filled f xs n lt =
    let v = f (get_or xs n 0) in
    ap (λ x. set (filled 12 xs) n (f x)) (get_or_filled_lem xs n)
    ∙ set-append_left xs (replicate (12 - length xs) 0) n v lt
    ∙ ap (λ m. set xs n v ++ replicate (12 - m) 0) (sym (length-set xs n v))

-- ---- guards

-- without a test nothing is cut
cut_nothing : (g : GuardCode) (b : Box) → g.test ≡ 0 → cut g b ≡ b
cut_nothing g b e =
    ap (λ t. box_of (set b.lows g.node (low_passed t (get_or b.lows g.node 0)))
    (set b.highs g.node (high_passed t (get_or b.highs g.node 0)))) e
    ∙ ap₂ box_of (set-get_or b.lows g.node 0) (set-get_or b.highs g.node 0)

module _ (g : GuardCode) (b : Box) where
  cut_twelve : length b.highs ≡ length b.lows → GuardFits (length b.lows) g
      → cut g (twelve b) ≡ twelve (cut g b)
  cut_twelve a G = or_cases (is_zero g.test) (ltb g.node (length b.lows)) G.there
      (λ z. let e = eqb-true g.test 0 z in cut_nothing g (twelve b) e ∙ ap twelve (sym (cut_nothing g b e)))
      (λ z. let lt = ltb-true g.node (length b.lows) z in
      ap₂ box_of (set_filled (low_passed g.test) b.lows g.node lt)
      (set_filled (high_passed g.test) b.highs g.node (omega (arith, lt))))

  left_twelve : left_at g (twelve b) ≡ left_at g b
  left_twelve = ap₂ leb (get_or_filled_lem b.lows g.node) (get_or_filled_lem b.highs g.node)

pub cut_by_twelve : (gs : List GuardCode) (b : Box) → length b.highs ≡ length b.lows
    → ((g : GuardCode) → In g gs → GuardFits (length b.lows) g) → cut_by gs (twelve b) ≡ twelve_of (cut_by gs b)
cut_by_twelve [] b a G = refl
cut_by_twelve (g ∷ gs) b a G =
    let d = cut g b in
    let n = length-set b.highs g.node (high_passed g.test (get_or b.highs g.node 0)) in
    let r = cut_by_twelve gs d (n ∙ a ∙ sym (cut_length g b)) (λ x i. rw (cut_length g b) (G x (inr i))) in
    ap (λ x. cond (left_at g x) (cut_by gs x) none) (cut_twelve g b a (G g (inl refl)))
    ∙ ap₂ (λ t o. cond t o none) (left_twelve g d) r
    ∙ bool_case (left_at g d) (λ t. rw t) (λ t. rw t)

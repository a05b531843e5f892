-- The given ends of ranges, read over twelve zeros.
use Prim.Native.Nat.{ℕ, zero, suc, ◌+◌, ◌-◌}
use mathlib.Core.Path.{◌≡◌, ◌∙◌, ap, sym}
use mathlib.Core.List.{List, ◌++◌, map}
use native.Mathlib.Omega.{arith}
use lib.ListN.{drop, get_or, length, length-map, replicate}
use Rattle.model.specs.Base.{numbers}
use Rattle.model.specs.Ranges.{low_given, start_box}
use Rattle.model.specs.Records.{filled}
use Rattle.model.proofs.lists.Lists.{map_same}
use Rattle.model.proofs.lists.Numbers.{length_numbers}

drop_zeros : (n m : ℕ) → drop n (replicate {A = ℕ} m 0) ≡ replicate (m - n) 0
drop_zeros zero m = let e : m ≡ m - 0 = omega arith in ap (λ j. replicate j 0) e
drop_zeros (suc n) zero = let e : 0 ≡ 0 - suc n = omega arith in ap (λ j. replicate j 0) e
drop_zeros (suc n) (suc m) = drop_zeros n m ∙ ap (λ j. replicate j 0) (let e : m - n ≡ suc m - suc n = omega arith in e)

-- over twelve zeros
pub put_filled : (f : ℕ → ℕ) (k : ℕ) → map f (numbers 0 k) ++ drop k (replicate 12 0) ≡ filled 12 (map f (numbers 0 k))
put_filled f k =
    let xs = map f (numbers 0 k) in
    let n : length xs ≡ k = length-map (numbers 0 k) f ∙ length_numbers 0 k in
    ap (λ l. xs ++ l) (drop_zeros k 12) ∙ ap (λ m. xs ++ replicate (12 - m) 0) (sym n)

pub lows_read : (rs : List ℕ) (k : ℕ) → map (λ i. get_or rs (0 + i) 0) (numbers 0 k) ≡ (start_box k rs).lows
lows_read rs k = map_same (λ i. get_or rs (0 + i) 0) (low_given rs) (numbers 0 k)
    (λ i h. ap (λ j. get_or rs j 0) (let e : 0 + i ≡ i = omega arith in e))

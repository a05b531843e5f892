-- Zeros dropped.
use Prim.Native.Nat.{ℕ, zero, suc, ◌-◌, ◌≤◌}
use mathlib.Core.Path.{◌≡◌}
use mathlib.Core.List.{List, ◌++◌}
use native.Mathlib.Omega.{arith}
use lib.ListN.{drop, replicate}

-- fewer zeros
pub drop_zeros : (m n : ℕ) (d : List ℕ) → m ≤ n → drop m (replicate n 0 ++ d) ≡ replicate (n - m) 0 ++ d
drop_zeros zero n d h = let e : n - 0 ≡ n = omega arith in rw e
drop_zeros (suc m) zero d h = absurd (omega arith)
drop_zeros (suc m) (suc n) d h = let e : suc n - suc m ≡ n - m = omega arith in rw e (drop_zeros m n d (omega arith))

-- Numbers are all zero where their sum is.
use Prim.Native.Nat.{ℕ, zero, suc, ◌+◌}
use mathlib.Core.Path.{◌≡◌, refl}
use mathlib.Core.List.{List, [], ◌∷◌}
use native.Mathlib.Nat.{zero-add}
use native.Mathlib.Omega.{arith}
use mathlib.Core.Bool.{false}
use lib.Dec.{eqb}
use borrow.Author.Tests.{ne_eqb}
use Rattle.model.specs.Base.{all, sum}
use Rattle.model.specs.Records.{is_zero}

pub zero_sum : (l : List ℕ) → eqb (sum (λ v. v) l) 0 ≡ all is_zero l
zero_sum [] = refl
zero_sum (zero ∷ l) = rw zero-add (zero_sum l)
zero_sum (suc x ∷ l) =
    let p : eqb (suc x) 0 ≡ false = ne_eqb (suc x) 0 (λ e. omega arith) in
    rw p (ne_eqb (suc x + sum (λ v. v) l) 0 (λ e. omega arith))

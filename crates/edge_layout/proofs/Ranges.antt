-- What holds of each record of a table, as `all` over a range tells it.
use Prim.Native.Nat.{ℕ, zero, suc, ◌+◌, ◌*◌, ◌≤◌, ◌<◌}
use mathlib.Core.Path.{◌≡◌, ◌∙◌, ap, refl, sym}
use mathlib.Core.Bool.{Bool, true}
use mathlib.Core.List.{List, ◌∷◌}
use native.Mathlib.Numerals.{add-one}
use native.Mathlib.Omega.{arith}
use lib.ListN.{length}
use Rattle.std.proofs.Common.{length-take, length-drop}
use Rattle.std.specs.List.{list_all, range_with_len}
use Rattle.model.specs.Base.{all, numbers, record_size}
use Rattle.model.specs.Records.{record_at}
use Rattle.model.proofs.lists.Chains.{all_is}
use Rattle.model.proofs.lists.Lists.{all_in}
use Rattle.model.proofs.lists.Numbers.{numbers_in}

pub record_whole : (t : List ℕ) (n : ℕ) → record_size * n + record_size ≤ length t
    → length (record_at t n) ≡ record_size
record_whole t n h = omega (arith, length-take {A = ℕ}, length-drop {A = ℕ})

numbers_range : (a n : ℕ) → numbers a n ≡ range_with_len a n
numbers_range a zero = refl
numbers_range a (suc n) = ap (λ l. a ∷ l) (numbers_range (suc a) n ∙ ap (λ m. range_with_len m n) (sym (add-one a)))

pub all_range : (p : ℕ → Bool) (n : ℕ) {r : Bool} → r ≡ list_all p (range_with_len 0 n) → r ≡ all p (numbers 0 n)
all_range p n e = e ∙ sym (ap (list_all p) (numbers_range 0 n)) ∙ sym (all_is p (numbers 0 n))

-- what passes for all passes for each
pub each_in_range : (p : ℕ → Bool) (n : ℕ) → list_all p (range_with_len 0 n) ≡ true → (i : ℕ) → i < n → p i ≡ true
each_in_range p n e i lt =
    all_in p (numbers 0 n) i (sym (all_range p n (sym e))) (numbers_in 0 n i (omega arith) (omega arith))

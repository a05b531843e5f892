-- Lists of numbers: elements by place.
use Prim.Native.Nat.{ℕ, zero, suc, ◌<◌}
use native.Mathlib.Omega.{arith}
use mathlib.Core.Path.{◌≡◌, refl, sym, ap, subst}
use mathlib.Core.Bool.{true}
use mathlib.Core.List.{List, [], ◌∷◌}
use lib.ListN.{length, get_or}
use Rattle.model.specs.Base.{mem}
use Rattle.model.proofs.lists.Lists.{mem_at}
use Rattle.model.specs.Notions.{NoDup}
use Rattle.model.proofs.lists.Logic.{clash}

-- different places of a list without repetition have different numbers
pub nodup_at : (l : List ℕ) (i j : ℕ) → NoDup l → i < length l → j < length l → get_or l i 0 ≡ get_or l j 0 → i ≡ j
nodup_at [] i j nd h k e = absurd (omega arith)
nodup_at (x ∷ l) zero zero nd h k e = refl
nodup_at (x ∷ l) zero (suc j) nd h k e = clash (subst (λ y. mem y l ≡ true) (sym e) (mem_at l j (omega arith))) nd.0
nodup_at (x ∷ l) (suc i) zero nd h k e = clash (subst (λ y. mem y l ≡ true) e (mem_at l i (omega arith))) nd.0
nodup_at (x ∷ l) (suc i) (suc j) nd h k e = ap suc (nodup_at l i j nd.1 (omega arith) (omega arith) e)

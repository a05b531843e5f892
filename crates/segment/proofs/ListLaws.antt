-- Lists with one element behind, by place.
use Prim.Native.Nat.{ℕ, zero, suc, ◌<◌}
use mathlib.Core.Path.{◌≡◌, ◌∙◌, ap, refl}
use mathlib.Core.List.{List, [], ◌∷◌, ◌++◌}
use native.Mathlib.Omega.{arith}
use lib.ListN.{length, length-append}

pub length_snoc : {A : Type 0} (l : List A) (x : A) → length (l ++ x ∷ []) ≡ suc (length l)
length_snoc l x = length-append l (x ∷ []) ∙ omega arith

-- the places of a list with one element behind
pub snoc-place {ℓ} : {C : Type ℓ} {A : Type 0} (l : List A) (x : A) (i : ℕ) → i < length (l ++ x ∷ [])
    → (i < length l → C) → (i ≡ length l → C) → C
snoc-place [] x zero h f g = g refl
snoc-place [] x (suc i) h f g = absurd (omega arith)
snoc-place (y ∷ l) x zero h f g = f (omega arith)
snoc-place (y ∷ l) x (suc i) h f g = snoc-place l x i (omega arith) (λ k. f (omega arith)) (λ e. g (ap suc e))

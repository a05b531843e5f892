-- Laws on lists: parts of two lists compared.
use Prim.Native.Nat.{ℕ, zero, suc, ◌+◌}
use mathlib.Core.Path.{◌≡◌, sym, ap, ◌∙◌}
use mathlib.Core.Bool.{Bool, ◌&&◌, and_assoc}
use mathlib.Core.List.{List, [], ◌∷◌}
use native.Mathlib.Nat.{suc-add, zero-add}
use lib.Dec.{eqb}
use lib.ListN.{take, drop}
use lib.Seq.{drop-drop}
use Rattle.model.specs.Base.{same_list}
use Rattle.model.proofs.shapes.Same.{same_bytes_refl}

-- the n elements of t from a on are those of r from b on
abbrev pub same_part : ℕ → List ℕ → ℕ → List ℕ → ℕ → Bool
same_part n t a r b = same_list eqb (take n (drop a t)) (take n (drop b r))

-- the first m elements, and the others
same_cut : (m n : ℕ) (x y : List ℕ)
    → same_list eqb (take (m + n) x) (take (m + n) y) ≡ same_list eqb (take m x) (take m y) && same_part n x m y m
same_cut zero n x y = rw zero-add
same_cut (suc m) n [] [] = rw suc-add (sym (same_bytes_refl (take n [])))
same_cut (suc m) n [] (b ∷ y) = rw suc-add
same_cut (suc m) n (a ∷ x) [] = rw suc-add
same_cut (suc m) n (a ∷ x) (b ∷ y) = rw suc-add
    (ap (λ z. eqb a b && z) (same_cut m n x y)
    ∙ sym (and_assoc (eqb a b) (same_list eqb (take m x) (take m y)) (same_part n x m y m)))

pub same_split : (m n : ℕ) (t : List ℕ) (a : ℕ) (r : List ℕ) (b : ℕ)
    → same_part (m + n) t a r b ≡ same_part m t a r b && same_part n t (a + m) r (b + m)
same_split m n t a r b = same_cut m n (drop a t) (drop b r) ∙ rw (drop-drop m a t, drop-drop m b r)

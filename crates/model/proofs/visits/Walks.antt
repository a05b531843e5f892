-- Cells in use and values that name them; the walk as a relation, without fuel; short names for what the definitions
-- say in one line.
use Prim.Native.Nat.{ℕ}
use mathlib.Core.Path.{◌≡◌, refl, subst, sym}
use mathlib.Core.Logic.{inl, inr}
use mathlib.Core.Bool.{Bool}
use mathlib.Core.List.{List, [], ◌∷◌, map}
use Rattle.model.specs.Base.{any, count}
use Rattle.model.specs.Heap.{Slot, Val}
use Rattle.model.specs.Shape.{holds_cell, is_cell}
use Rattle.model.specs.Notions.{In, AllClosed, Closed}
use Rattle.model.proofs.lists.Lists.{map_same}

-- what `core` counts
abbrev pub pointed : ℕ → List Val → Bool
pointed c vs = any (is_cell c) vs

abbrev pub holders : ℕ → List Slot → ℕ
holders c ss = count (holds_cell c) ss

-- ---- values that name cells in use

pub closed_in : (nx : ℕ → Slot) (vs : List Val) (v : Val) → AllClosed nx vs → In v vs → Closed nx v
closed_in nx [] v k h = absurd h
closed_in nx (w ∷ vs) v k (inl e) = subst (Closed nx) (sym e) k.0
closed_in nx (w ∷ vs) v k (inr h) = closed_in nx vs v k.1 h

pub in_closed : (nx : ℕ → Slot) (vs : List Val) → ((v : Val) → In v vs → Closed nx v) → AllClosed nx vs
in_closed nx [] h = tt
in_closed nx (v ∷ vs) h = (h v (inl refl), in_closed nx vs (λ w i. h w (inr i)))

pub closed_up : (nx ny : ℕ → Slot) (vs : List Val) → ((x : Val) → Closed nx x → Closed ny x) → AllClosed nx vs
    → AllClosed ny vs
closed_up nx ny vs f k = in_closed ny vs (λ v i. f v (closed_in nx vs v k i))

pub closed_map : (nx ny : ℕ → Slot) (g : Val → Val) (vs : List Val) → ((x : Val) → Closed nx x → Closed ny (g x))
    → AllClosed nx vs → AllClosed ny (map g vs)
closed_map nx ny g [] f k = tt
closed_map nx ny g (v ∷ vs) f k = (f v k.0, closed_map nx ny g vs f k.1)

-- maps that agree on such values
pub map_closed : {A : Type 0} (nx : ℕ → Slot) (f g : Val → A) (vs : List Val) → ((x : Val) → Closed nx x → f x ≡ g x)
    → AllClosed nx vs → map f vs ≡ map g vs
map_closed nx f g vs h k = map_same f g vs (λ v i. h v (closed_in nx vs v k i))

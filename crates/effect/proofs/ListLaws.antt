-- A list whose first elements went through a function.
use Prim.Native.Nat.{ℕ, suc, ◌+◌, ◌≤◌, ◌<◌}
use native.Mathlib.Omega.{arith}
use mathlib.Core.Path.{◌∙◌, ◌≡◌, ap, refl}
use mathlib.Core.List.{List, ◌++◌, map, append-nil}
use lib.ListN.{drop, drop_of_length-le, get_or, length, length-map, set, take}
use lib.Seq.{drop-cons, get_or_at, length-take-le, take_all}
use Rattle.model.proofs.lists.Slices.{map_fill}

-- the first i elements went through f
abbrev pub part_map : {A : Type 0} → (A → A) → List A → ℕ → List A
part_map f l i = map f (take i l) ++ drop i l

part_front : {A : Type 0} (f : A → A) (l : List A) (i : ℕ) → i < length l → length (map f (take i l)) ≡ i
part_front f l i h = length-map (take i l) f ∙ length-take-le i l (omega arith)

pub part_at : {A : Type 0} (f : A → A) (l : List A) (i : ℕ) (d : A) → i < length l
    → get_or (part_map f l i) i d ≡ get_or l i d
part_at f l i d h =
    ap (λ r. get_or (map f (take i l) ++ r) i d) (drop-cons l i d h)
    ∙ get_or_at (map f (take i l)) (get_or l i d) (drop (suc i) l) d i (part_front f l i h)

pub part_step : {A : Type 0} (f : A → A) (l : List A) (i : ℕ) (d : A) → i < length l
    → set (part_map f l i) i (f (get_or l i d)) ≡ part_map f l (i + 1)
part_step f l i d h = map_fill f l l (part_map f l i) d i (f (get_or l i d)) h h refl refl

pub part_all : {A : Type 0} (f : A → A) (l : List A) (i : ℕ) → length l ≤ i → part_map f l i ≡ map f l
part_all f l i h = rw (take_all i l h, drop_of_length-le l h, append-nil)

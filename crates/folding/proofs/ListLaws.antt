-- Lists under `map` by place, and one list over the front of another.
use Prim.Native.Nat.{ℕ, suc, ◌+◌, ◌-◌, ◌<◌}
use mathlib.Core.Path.{◌≡◌, ◌∙◌, ap, ap₂, refl, sym}
use mathlib.Core.List.{List, [], ◌∷◌, ◌++◌, append_assoc, map}
use native.Mathlib.Omega.{arith}
use lib.ListN.{length, get_or, drop, take}
use lib.Seq.{drop-append-add, drop-drop, take_at}
use borrow.Rule.Slice.PartMut.{mid_of, put_mid}
use Rattle.model.proofs.lists.Slices.{put_back}

-- two functions that agree at each place of a list
pub map_at : {A B : Type 0} (f g : A → B) (d : A) (l : List A)
    → ((i : ℕ) → i < length l → f (get_or l i d) ≡ g (get_or l i d)) → map f l ≡ map g l
map_at f g d [] h = refl
map_at f g d (x ∷ l) h = ap₂ ◌∷◌ (h 0 (omega arith)) (map_at f g d l (λ i k. h (suc i) (omega arith)))

-- xs over the first n of a list, and then ys over what is lent from there on
pub over_front : (l l' xs ys part : List ℕ) (n k : ℕ) → length xs ≡ n → l' ≡ xs ++ drop n l
    → part ≡ ys ++ drop k (mid_of n (length l' - n) l') → put_mid n (length l' - n) l' part
    ≡ (xs ++ ys) ++ drop (n + k) l
over_front l l' xs ys part n k e a b =
    let front : take n l' ≡ xs = ap (take n) a ∙ take_at xs (drop n l) n e in
    let rest : drop (n + k) l' ≡ drop (n + k) l =
    ap₂ (λ i r. drop (i + k) r) (sym e) a ∙ drop-append-add xs (drop n l) k ∙ drop-drop k n l in
    put_back l' ys part n k b ∙ ap₂ (λ r s. r ++ (ys ++ s)) front rest ∙ sym (append_assoc xs ys (drop (n + k) l))

-- Two lists laid over a third, one behind the other.
use Prim.Native.Nat.{ℕ, ◌-◌, ◌<◌, ◌≤◌}
use mathlib.Core.Path.{◌≡◌, refl, sym, ap, ap₂, ◌∙◌}
use mathlib.Core.List.{List, [], ◌∷◌, ◌++◌}
use native.Mathlib.Omega.{arith}
use lib.ListN.{length, take, drop}
use lib.Seq.{drop_at, drop-drop, take_at, take-nil}
use borrow.Rule.Slice.PartMut.{mid_of, put_mid}
use Rattle.model.proofs.lists.Slices.{part_from, put_back}
use Rattle.answers.specs.Numbers.{over}

over_whole : (ls t : List ℕ) → length ls ≤ length t → over ls t ≡ ls ++ drop (length ls) t
over_whole [] t h = rw take-nil
over_whole (x ∷ ls) [] h = absurd (omega arith)
over_whole (x ∷ ls) (y ∷ t) h = ap (λ z. x ∷ z) (over_whole ls t (omega arith))

over_front : (ls hs t : List ℕ) → length ls ≤ length t → over (ls ++ hs) t ≡ ls ++ over hs (drop (length ls) t)
over_front [] hs t h = refl
over_front (x ∷ ls) hs [] h = absurd (omega arith)
over_front (x ∷ ls) hs (y ∷ t) h = ap (λ z. x ∷ z) (over_front ls hs t (omega arith))

-- xs is t with ls laid over it, and ys the part behind ls with hs laid over it
pub over_behind : (ls hs t xs ys : List ℕ) → length ls < length t → xs ≡ over ls t
    → ys ≡ over hs (mid_of (length ls) (length xs - length ls) xs)
    → put_mid (length ls) (length xs - length ls) xs ys ≡ over (ls ++ hs) t
over_behind ls hs t xs ys h e f =
    let k = length ls in
    let w : xs ≡ ls ++ drop k t = e ∙ over_whole ls t (omega arith) in
    let behind : drop k xs ≡ drop k t = ap (drop k) w ∙ drop_at ls (drop k t) k refl in
    let part : mid_of k (length xs - k) xs ≡ drop k t = part_from xs k ∙ behind in
    put_back xs (take (length (mid_of k (length xs - k) xs)) hs) ys k (length hs) f
    ∙ ap₂ ◌++◌ (ap (take k) w ∙ take_at ls (drop k t) k refl)
    (ap₂ ◌++◌ (ap (λ m. take (length m) hs) part)
    (sym (drop-drop (length hs) k xs) ∙ ap (drop (length hs)) behind))
    ∙ sym (over_front ls hs t (omega arith))

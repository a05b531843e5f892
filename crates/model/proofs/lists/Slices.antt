-- Parts of lists: what is left from a place on and what stands before it, with tests, maps and sums of these, for a
-- loop at that place; a part that is lent; a front that is written.
use Prim.Native.Nat.{◌+◌, ◌-◌, ◌<◌, ◌≤◌, suc, zero, ℕ}
use mathlib.Core.Path.{◌∙◌, ◌≡◌, ap, ap₂, sym}
use mathlib.Core.Bool.{Bool, ◌&&◌, true}
use mathlib.Core.List.{List, [], ◌++◌, ◌∷◌, append_assoc, append-nil, map, map-append}
use native.Mathlib.Numerals.{add-one}
use native.Mathlib.Omega.{arith}
use lib.ListN.{drop, drop_of_length-le, get_or, length, length-append, length-drop, length-map, set, take}
use lib.Seq.{drop-append-add, drop-cons, drop-drop, length-take-le, paste-suc, set_at, take_all, take_at, take-suc}
use borrow.Rule.Slice.PartMut.{mid_of, put_mid}
use Rattle.model.specs.Base.{all, joined, sum}
use Rattle.model.proofs.lists.Lists.{joined_snoc}

-- what is left from i on
pub drop_step : (l : List ℕ) (i : ℕ) → i < length l → drop i l ≡ get_or l i 0 ∷ drop (i + 1) l
drop_step l i h = drop-cons l i 0 h ∙ ap (λ n. get_or l i 0 ∷ drop n l) (sym (add-one i))

-- one element more of the front
pub take_next : (l : List ℕ) (i : ℕ) → i < length l → take (i + 1) l ≡ take i l ++ get_or l i 0 ∷ []
take_next l i h = ap (λ n. take n l) (add-one i) ∙ take-suc l i 0 h

-- lists made of the elements, joined: one more
pub joined_next : (f : ℕ → List ℕ) (l : List ℕ) (i : ℕ) → i < length l → joined (map f (take (i + 1) l))
    ≡ joined (map f (take i l)) ++ f (get_or l i 0)
joined_next f l i h =
    ap (λ x. joined (map f x)) (take_next l i h) ∙ ap joined (map-append f (take i l) (get_or l i 0 ∷ []))
    ∙ joined_snoc (map f (take i l)) (f (get_or l i 0))

-- the part from a on, as a lent part has it
pub part_from : (l : List ℕ) (a : ℕ) → take (length l - a) (drop a l) ≡ drop a l
part_from l a = take_all (length l - a) (drop a l) (omega (arith, length-drop a l))

-- what a slice xs holds once the part from a on, whose first n elements were written with r, is back
pub put_back : (xs r ys : List ℕ) (a n : ℕ) → ys ≡ r ++ drop n (mid_of a (length xs - a) xs)
    → put_mid a (length xs - a) xs ys ≡ take a xs ++ (r ++ drop (a + n) xs)
put_back xs r ys a n e =
    let l : length (drop a xs) ≤ length xs - a = omega (arith, length-drop a xs) in
    let p : drop (length xs - a) (drop a xs) ≡ [] = drop_of_length-le (drop a xs) l in
    rw (e, part_from xs a, p, append-nil, drop-drop)

-- s is t with w over its first a places: n places more, written with v
pub put_next : (t s w v : List ℕ) (a n : ℕ) → length s ≡ length t → a ≤ length t → s ≡ w ++ drop a t
    → take a s ++ (v ++ drop (a + n) s) ≡ (w ++ v) ++ drop (a + n) t
put_next t s w v a n k h e =
    let r = drop a t in
    let l : length w ≡ a = omega (arith, ap length e, length-append w r, length-drop a t) in
    let d : drop (a + n) (w ++ r) ≡ drop (a + n) t = ap (λ m. drop (m + n) (w ++ r)) (sym l) ∙ drop-append-add w r n
    ∙ drop-drop n a t in
    ap (λ x. take a x ++ (v ++ drop (a + n) x)) e ∙ ap₂ (λ x y. x ++ (v ++ y)) (take_at w r a l) d
    ∙ sym (append_assoc w v (drop (a + n) t))

-- and w is what stands before place a
pub front_is : (t s w : List ℕ) (a : ℕ) → length s ≡ length t → a ≤ length t → s ≡ w ++ drop a t → take a s ≡ w
front_is t s w a k h e =
    let r = drop a t in
    ap (take a) e ∙ take_at w r a (omega (arith, ap length e, length-append w r, length-drop a t))

-- one turn of a loop that tests each element, and its end
pub all_step : (p : ℕ → Bool) (l : List ℕ) (i : ℕ) → i < length l → all p (drop i l) ≡ p (get_or l i 0)
    && all p (drop (i + 1) l)
all_step p l i h = ap (all p) (drop_step l i h)

pub all_end : (p : ℕ → Bool) (l : List ℕ) (i : ℕ) → length l ≤ i → all p (drop i l) ≡ true
all_end p l i h = ap (all p) (drop_of_length-le l h)

-- and of one that reads each
pub map_step : {B : Type 0} (f : ℕ → B) (l : List ℕ) (i : ℕ) → i < length l → map f (drop i l) ≡ f (get_or l i 0)
    ∷ map f (drop (i + 1) l)
map_step f l i h = ap (map f) (drop_step l i h)

pub map_end : {B : Type 0} (f : ℕ → B) (l : List ℕ) (i : ℕ) → length l ≤ i → map f (drop i l) ≡ []
map_end f l i h = ap (map f) (drop_of_length-le l h)

-- ---- stores

-- a list s whose first elements are f of those of vs, and whose others are those of t: one store more
pub map_fill : {A B : Type 0} (f : A → B) (vs : List A) (t s : List B) (d : A) (i : ℕ) (x : B) → i < length vs
    → i < length t
    → s ≡ map f (take i vs) ++ drop i t → x ≡ f (get_or vs i d) → set s i x ≡ map f (take (i + 1) vs) ++ drop (i + 1) t
map_fill f vs t s d i x h k e q =
    let p = map f (take i vs) in
    let n : length p ≡ i = length-map (take i vs) f ∙ length-take-le i vs (omega arith) in
    ap (λ l. set l i x) (e ∙ ap (λ l. p ++ l) (drop-cons t i x k)) ∙ set_at p (get_or t i x) (drop (suc i) t) x i n
    ∙ rw add-one (sym (ap (λ l. map f l ++ drop (suc i) t) (take-suc vs i d h)
    ∙ ap (λ l. l ++ drop (suc i) t) (map-append f (take i vs) (get_or vs i d ∷ []))
    ∙ append_assoc p (f (get_or vs i d) ∷ []) (drop (suc i) t) ∙ ap (λ y. p ++ y ∷ drop (suc i) t) (sym q)))

-- one element more of rec copied over the front of part
pub copy_turn : (part rec : List ℕ) (i : ℕ) → i < length part → i < length rec
    → set (take i rec ++ drop i part) i (get_or rec i 0) ≡ take (i + 1) rec ++ drop (i + 1) part
copy_turn part rec i h k =
    let z : 0 + i ≡ i = omega arith in
    let y : 0 + (i + 1) ≡ i + 1 = omega arith in
    let p = paste-suc part 0 rec i 0 (omega arith) k in
    rw (z, ← add-one i, y) at p

-- ---- sums

pub sum_append : (w : ℕ → ℕ) (s t : List ℕ) → sum w (s ++ t) ≡ sum w s + sum w t
sum_append w [] t = omega arith
sum_append w (c ∷ s) t = omega (arith, sum_append w s t)

pub sum_take : (k : ℕ) (vs : List ℕ) → sum (λ v. v) (take k vs) ≤ sum (λ v. v) vs
sum_take zero vs = omega arith
sum_take (suc k) [] = omega arith
sum_take (suc k) (v ∷ vs) = omega (arith, sum_take k vs)

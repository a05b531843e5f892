-- Values as one number, the first lowest: one value more goes below those behind it, and the number stays small. And
-- what a closure found at each place of a list.
use Prim.Native.Nat.{ℕ, suc, ◌+◌, ◌*◌, ◌^◌, ◌≤◌, ◌<◌}
use mathlib.Core.Path.{◌≡◌, refl, sym, ap, ap₂, subst, ◌∙◌}
use mathlib.Core.List.{List, [], ◌∷◌, ◌++◌, map}
use native.Mathlib.Nat.{pow-le-pow_right, pow-succ', zero-lt-suc}
use native.Mathlib.Numerals.{add-one}
use native.Mathlib.Omega.{arith}
use lib.ListN.{drop, get_or, length, length-append, set, take}
use lib.Seq.{drop-cons, drop-length, get_or_at, take-suc, take_all, take_at}
use Rattle.model.proofs.lists.Slices.{map_fill}
use Rattle.std.specs.List.{AllZip}
use Rattle.std.proofs.lemmas.Slice.Zip.{all_zipped_more}
use Rattle.word.specs.Words.{number_of}

-- ---- a number for a list

-- n stands for the values of the list l, and is below so many powers of 256
pub record Coded (f : ℕ → ℕ) (l : List ℕ) (n : ℕ) : Type 0 where
  pub is_code : n ≡ number_of (map f l)
  pub low : n < 256 ^ length l

pub coded_none : (f : ℕ → ℕ) → Coded f [] 0
coded_none f = record { is_code = refl; low = omega arith }

-- so small
pub coded_below : (f : ℕ → ℕ) (l : List ℕ) (n k : ℕ) → Coded f l n → length l ≤ k → n < 256 ^ k
coded_below f l n k C h =
    let p : 256 ^ length l ≤ 256 ^ k = pow-le-pow_right (zero-lt-suc 255) h in
    omega (arith, C.low)

pub coded_next : (f : ℕ → ℕ) (l : List ℕ) (n v b : ℕ) → Coded f l n → b < 256 → b ≡ f v
    → Coded f (v ∷ l) (n * 256 + b)
coded_next f l n v b C lt e =
    let p : 256 ^ suc (length l) ≡ 256 * 256 ^ length l = pow-succ' 256 (length l) in
    record { is_code = omega (arith, e, C.is_code); low = omega (arith, C.low) }

-- ---- what was found at each place

-- one place more in front, and behind
pub found_before : (R : ℕ → ℕ → Type 0) (l bs : List ℕ) (i j b : ℕ) → i ≡ suc j → j < length l → R (get_or l j 0) b
    → AllZip R (drop i l) bs → AllZip R (drop j l) (b ∷ bs)
found_before R l bs i j b e h r z =
    subst (λ d. AllZip R d (b ∷ bs)) (sym (drop-cons l j 0 h)) (r, subst (λ k. AllZip R (drop k l) bs) e z)

pub found_behind : (R : ℕ → ℕ → Type 0) (l bs : List ℕ) (i b : ℕ) → i < length l → R (get_or l i 0) b
    → AllZip R (take i l) bs → AllZip R (take (i + 1) l) (bs ++ b ∷ [])
found_behind R l bs i b h r z =
    rw add-one (rw (take-suc l i 0 h) (all_zipped_more R (take i l) bs (get_or l i 0) b z r))

-- none, and all
pub found_none : (R : ℕ → ℕ → Type 0) (l : List ℕ) → AllZip R (drop (length l) l) []
found_none R l = rw (drop-length l) tt

pub found_from : (R : ℕ → ℕ → Type 0) (l bs : List ℕ) (i : ℕ) → i ≡ 0 → AllZip R (drop i l) bs → AllZip R l bs
found_from R l bs i e z = subst (λ k. AllZip R (drop k l) bs) e z

pub found_to : (R : ℕ → ℕ → Type 0) (l bs : List ℕ) (i : ℕ) → i ≡ length l → AllZip R (take i l) bs → AllZip R l bs
found_to R l bs i e z = subst (λ k. AllZip R k bs) (take_all i l (omega arith)) z

-- a list s whose first elements are f of those of bs, and whose others are those of t: one store more
pub map_more : (f : ℕ → ℕ) (bs t s : List ℕ) (i b x : ℕ) → length bs ≡ i → i < length t
    → s ≡ map f bs ++ drop i t → x ≡ f b → set s i x ≡ map f (bs ++ b ∷ []) ++ drop (i + 1) t
map_more f bs t s i b x n h e q =
    let vs = bs ++ b ∷ [] in
    let len : length vs ≡ i + 1 = length-append bs (b ∷ []) ∙ omega arith in
    map_fill f vs t s 0 i x (omega arith) h (e ∙ ap (λ v. map f v ++ drop i t) (sym (take_at bs (b ∷ []) i n)))
    (q ∙ ap f (sym (get_or_at bs b [] 0 i n))) ∙ ap (λ v. map f v ++ drop (i + 1) t) (take_all (i + 1) vs (omega arith))

-- where it is a function of the place
pub found_is : (R : ℕ → ℕ → Type 0) (f : ℕ → ℕ) (l bs : List ℕ)
    → ((i b : ℕ) → i < length l → R (get_or l i 0) b → b ≡ f (get_or l i 0)) → AllZip R l bs → bs ≡ map f l
found_is R f [] [] h z = refl
found_is R f [] (b ∷ bs) h z = absurd z
found_is R f (x ∷ l) [] h z = absurd z
found_is R f (x ∷ l) (b ∷ bs) h z =
    ap₂ ◌∷◌ (h 0 b (omega arith) z.0) (found_is R f l bs (λ i c lt. h (suc i) c (omega arith)) z.1)

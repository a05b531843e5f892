-- Bytes as digits in base 256: a part of a list as a number, and the bytes of that number are the part.
use Prim.Native.Nat.{ℕ, zero, suc, ◌+◌, ◌*◌, ◌/◌, ◌%◌, ◌^◌, ◌≤◌, ◌<◌}
use mathlib.Core.Path.{◌≡◌, refl, sym, ap, ap₂, subst, ◌∙◌}
use mathlib.Core.Logic.{inl, inr}
use mathlib.Core.List.{List, [], ◌∷◌, ◌++◌, append-nil}
use native.Mathlib.Nat.{add_assoc, add-mul-div_left, add-mul-mod_self_left, div-eq_of_lt, mod-eq_of_lt, mul-add, mul_assoc, pow-succ', pow-zero}
use native.Mathlib.Omega.{arith}
use lib.ListN.{take, drop, drop_of_length-le, get_or, length, length-take, length-drop, replicate, set, take-append-drop}
use Rattle.std.specs.List.{slice_index}
use Rattle.std.proofs.lemmas.List.{get_or-drop, get_or-take}
use lib.Seq.{drop-cons, drop-drop, length-take-le, take-add, take_all}
use Rattle.model.specs.Notions.{In}
use Rattle.model.specs.Records.{byte, word}
use Rattle.model.proofs.lists.Digits.{Below, code_of}
use Rattle.model.proofs.lists.Lists.{in_append_l, in_drop, in_get_or_lem}
use Rattle.word.specs.Words.{bytes_of, eight_at, four_at, number_of}

pub part_length : (t : List ℕ) (a n : ℕ) → a + n ≤ length t → length (take n (drop a t)) ≡ n
part_length t a n h = simp (length-take, length-drop) (omega arith)

-- the bytes of a part, each at its place
module _ (t : List ℕ) (a n : ℕ) (bs : List ℕ) (part : bs ≡ take n (drop a t)) where
  byte_at : (i k : ℕ) → i < n → a + i ≡ k → slice_index bs i ≡ byte t k
  byte_at i k h e =
      ap (λ l. get_or l i 0) part ∙ get_or-take n (drop a t) i 0 h ∙ get_or-drop a t i 0 ∙ ap (λ j. get_or t j 0) e

  pub word_at : (i k : ℕ) → suc i < n → a + i ≡ k → slice_index bs i + 256 * slice_index bs (suc i) ≡ word t k
  word_at i k h e =
      ap₂ (λ x y. x + 256 * y) (byte_at i k (omega arith) e) (byte_at (suc i) (suc k) h (omega (arith, e)))

-- ---- bytes as a number

code_append : (c : ℕ) (l m : List ℕ) → code_of c (l ++ m) ≡ code_of c l + c ^ length l * code_of c m
code_append c [] m = rw pow-zero (omega arith)
code_append c (x ∷ l) m =
    let p = c ^ length l in
    rw (
      code_append c l m,
      pow-succ' c (length l),
      mul-add c (code_of c l) (p * code_of c m),
      mul_assoc c p (code_of c m),
    )
    (sym (add_assoc x (c * code_of c l) (c * (p * code_of c m))))

-- the n bytes of t from a on
abbrev pub code_at : ℕ → List ℕ → ℕ → ℕ
code_at n t a = code_of 256 (take n (drop a t))

module _ (t : List ℕ) (a : ℕ) where
  code_add : (m n : ℕ) → a + m ≤ length t → code_at (m + n) t a ≡ code_at m t a + 256 ^ m * code_at n t (a + m)
  code_add m n h =
      ap (code_of 256) (take-add m n (drop a t)) ∙ code_append 256 (take m (drop a t)) (take n (drop m (drop a t)))
      ∙ rw (part_length t a m h, drop-drop m a t)

  word_code : a + 2 ≤ length t → word t a ≡ code_at 2 t a
  word_code h =
      let e = drop-cons t a 0 (omega arith) ∙ ap (λ l. get_or t a 0 ∷ l) (drop-cons t (suc a) 0 (omega arith)) in
      let n : word t a ≡ code_of 256 (get_or t a 0 ∷ get_or t (suc a) 0 ∷ []) = omega arith in
      n ∙ sym (ap (λ l. code_of 256 (take 2 l)) e)

four_code : (t : List ℕ) (a : ℕ) → a + 4 ≤ length t → four_at t a ≡ code_at 4 t a
four_code t a h =
    ap₂ (λ x y. x + 0x1_0000 * y) (word_code t a (omega arith)) (word_code t (a + 2) (omega arith))
    ∙ sym (code_add t a 2 2 (omega arith))

pub eight_code : (t : List ℕ) (a : ℕ) → a + 8 ≤ length t → eight_at t a ≡ code_at 8 t a
eight_code t a h =
    ap₂ (λ x y. x + 0x1_0000_0000 * y) (four_code t a (omega arith)) (four_code t (a + 4) (omega arith))
    ∙ sym (code_add t a 4 4 (omega arith))

-- ---- bytes of a number

-- each place holds a byte
abbrev pub Bytes : List ℕ → Type 0
Bytes l = (i : ℕ) → get_or l i 0 < 256

pub part_below : (t : List ℕ) (a n : ℕ) → Bytes t → Below 256 (take n (drop a t))
part_below t a n B x i =
    let d = drop a t in
    let j : In x t = in_drop x a t (subst (In x) (take-append-drop n d) (in_append_l x (take n d) (drop n d) i)) in
    let g = in_get_or_lem t 0 x j in
    subst (λ y. y < 256) g.2 (B g.0)

-- the bytes of a number that bytes give are these
pub bytes_code : (l : List ℕ) → Below 256 l → bytes_of (length l) (code_of 256 l) ≡ l
bytes_code [] h = refl
bytes_code (x ∷ l) h =
    let lt = h x (inl refl) in
    let c = code_of 256 l in
    ap₂ ◌∷◌ (add-mul-mod_self_left x 256 c ∙ mod-eq_of_lt lt)
    (ap (bytes_of (length l)) (add-mul-div_left x c {y = 256} (omega arith) ∙ omega (arith, div-eq_of_lt lt))
    ∙ bytes_code l (λ y i. h y (inr i)))

-- eight bytes that are read as a number and written again
pub eight_back : (t : List ℕ) (a : ℕ) → a + 8 ≤ length t → Bytes t → bytes_of 8 (eight_at t a) ≡ take 8 (drop a t)
eight_back t a h B =
    let l = take 8 (drop a t) in
    let n = sym (part_length t a 8 h) in
    (λ i. bytes_of (n i) (eight_code t a h i)) ∙ bytes_code l (part_below t a 8 B)

number_code : (l : List ℕ) → number_of l ≡ code_of 256 l
number_code [] = refl
number_code (x ∷ l) = ap (λ n. x + 256 * n) (number_code l)

bytes_zero : (k : ℕ) → bytes_of k 0 ≡ replicate k 0
bytes_zero zero = refl
bytes_zero (suc k) = ap (λ l. 0 ∷ l) (bytes_zero k)

-- more bytes than a number has are zeros
pub bytes_pad : (l : List ℕ) (n k : ℕ) → Below 256 l → n ≡ length l + k → bytes_of n (number_of l) ≡ l ++ replicate k 0
bytes_pad [] n k h e = let q : n ≡ k = omega (arith, e) in ap (λ m. bytes_of m 0) q ∙ bytes_zero k
bytes_pad (x ∷ l) zero k h e = absurd (omega (arith, e))
bytes_pad (x ∷ l) (suc n) k h e =
    let lt = h x (inl refl) in
    let c = number_of l in
    ap₂ ◌∷◌ (add-mul-mod_self_left x 256 c ∙ mod-eq_of_lt lt)
    (ap (bytes_of n) (add-mul-div_left x c {y = 256} (omega arith) ∙ omega (arith, div-eq_of_lt lt))
    ∙ bytes_pad l n k (λ y i. h y (inr i)) (omega (arith, e)))

-- ---- a record copied

-- the first a bytes are copied
abbrev pub copied_to : ℕ → List ℕ → List ℕ → List ℕ
copied_to a from to = take a from ++ drop a to

-- a record copied over one of its length is the record
pub copied_all : (from to : List ℕ) → length from ≡ 32 → length to ≡ 32 → copied_to 32 from to ≡ from
copied_all from to h k =
    let short : length to ≤ 32 = omega arith in
    ap₂ ◌++◌ (take_all 32 from (omega arith)) (drop_of_length-le to short) ∙ append-nil from

-- ---- the first word of a record

-- a record whose second byte is replaced in its first word
pub second_put : (l : List ℕ) (t : ℕ) → 8 ≤ length l → Bytes l → t < 256
    → bytes_of 8 (eight_at l 0 % 256 + 256 * t + 0x1_0000 * (eight_at l 0 / 0x1_0000)) ++ drop 8 l ≡ set l 1 t
second_put [] t h B k = absurd (omega arith)
second_put (a ∷ []) t h B k = absurd (omega arith)
second_put (a ∷ b ∷ r) t h B k =
    let l = a ∷ b ∷ r in
    let d = a ∷ t ∷ take 6 r in
    let n : length (take 6 r) ≡ 6 = length-take-le 6 r (omega arith) in
    let e : eight_at l 0 ≡ a + 256 * (b + 256 * code_of 256 (take 6 r)) = eight_code l 0 h in
    let x : eight_at l 0 % 256 + 256 * t + 0x1_0000 * (eight_at l 0 / 0x1_0000) ≡ code_of 256 d =
    omega (arith, e, B 0, B 1) in
    let m : 8 ≡ length d = omega (arith, n) in
    let low : Below 256 d = λ y i. second_low y i in
    ap (λ z. z ++ drop 6 r) ((λ i. bytes_of (m i) (x i)) ∙ bytes_code d low)
    ∙ ap (λ z. a ∷ t ∷ z) (take-append-drop 6 r)
  where
    second_low : (y : ℕ) → In y (a ∷ t ∷ take 6 r) → y < 256
    second_low y (inl e) = subst (λ z. z < 256) (sym e) (B 0)
    second_low y (inr (inl e)) = subst (λ z. z < 256) (sym e) k
    second_low y (inr (inr i)) = part_below (a ∷ b ∷ r) 2 6 B y i

-- a word of three bytes, and zeros
pub three_bytes : (a b c : ℕ) → a < 256 → b < 256 → c < 256
    → bytes_of 8 (a + 0x100 * b + 0x1_0000 * c) ≡ a ∷ b ∷ c ∷ 0 ∷ 0 ∷ 0 ∷ 0 ∷ 0 ∷ []
three_bytes a b c h k l =
    let d = a ∷ b ∷ c ∷ 0 ∷ 0 ∷ 0 ∷ 0 ∷ 0 ∷ [] in
    let x : a + 0x100 * b + 0x1_0000 * c ≡ code_of 256 d = omega arith in
    ap (bytes_of 8) x ∙ bytes_code d low
  where
    low : (y : ℕ) → In y (a ∷ b ∷ c ∷ 0 ∷ 0 ∷ 0 ∷ 0 ∷ 0 ∷ []) → y < 256
    low y (inl e) = omega (arith, e)
    low y (inr (inl e)) = omega (arith, e)
    low y (inr (inr (inl e))) = omega (arith, e)
    low y (inr (inr (inr (inl e)))) = omega (arith, e)
    low y (inr (inr (inr (inr (inl e))))) = omega (arith, e)
    low y (inr (inr (inr (inr (inr (inl e)))))) = omega (arith, e)
    low y (inr (inr (inr (inr (inr (inr (inl e))))))) = omega (arith, e)
    low y (inr (inr (inr (inr (inr (inr (inr (inl e)))))))) = omega (arith, e)
    low y (inr (inr (inr (inr (inr (inr (inr (inr i)))))))) = absurd i

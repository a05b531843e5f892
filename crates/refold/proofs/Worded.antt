-- The four words of a record have the bytes of a shape: six pointers, at most twelve successors, and zeros.
use Prim.Native.Nat.{ℕ, min, ◌+◌, ◌-◌, ◌*◌, ◌/◌, ◌%◌, ◌≤◌, ◌<◌}
use mathlib.Core.Path.{◌≡◌, refl, sym, ap, ap₂, subst, ◌∙◌}
use mathlib.Core.Logic.{inl, inr}
use mathlib.Core.List.{List, [], ◌∷◌, ◌++◌, append_assoc, append-nil, map, map-append}
use native.Mathlib.Omega.{arith}
use lib.Dec.{ltb}
use lib.ListN.{drop, get_or, length, length-append, length-drop, length-map, replicate, replicate-append-replicate, take, take-append-drop}
use lib.Seq.{drop_at, drop-drop, length-take-le, take_at}
use borrow.Author.Tests.{ltb-false, ltb-true}
use Rattle.model.specs.Notions.{In}
use Rattle.model.proofs.lists.Digits.{Below}
use Rattle.model.proofs.lists.Lists.{in_get_or_lem, in_map}
use Rattle.model.proofs.lists.Logic.{bool_case}
use Rattle.word.specs.Words.{bytes_of, number_of}
use Rattle.word.proofs.Codes.{Bytes, bytes_pad}
use Rattle.folding.specs.Fold.{fold_byte}
use Rattle.refold.specs.Worded.{shape_bytes, shape_words}

-- ---- values in terms of nodes are bytes

fold_low : (m : List ℕ) (b : ℕ) → Bytes m → b < 256 → fold_byte m b < 256
fold_low m b M h = bool_case (ltb b 0xfd) (λ e. rw e (M b)) (λ e. rw e h)

pub values_low : (m l : List ℕ) → Bytes m → Bytes l → Below 256 (map (fold_byte m) l)
values_low m l M L x i =
    let y = in_map (fold_byte m) x l i in
    let g = in_get_or_lem l 0 y.0 y.1 in
    subst (λ z. z < 256) (sym y.2) (fold_low m y.0 M (subst (λ z. z < 256) g.2 (L g.0)))

pub lasts_low : (m cs l : List ℕ) → Bytes m → Bytes cs → Below 256 (map (λ c. fold_byte m (get_or cs c 0)) l)
lasts_low m cs l M C x i =
    let y = in_map (λ c. fold_byte m (get_or cs c 0)) x l i in
    subst (λ z. z < 256) (sym y.2) (fold_low m (get_or cs y.0 0) M (C y.0))

-- ---- the words

abbrev zeroes : ℕ → List ℕ
zeroes n = replicate n 0

zeros : (a b : ℕ) → zeroes a ++ zeroes b ≡ zeroes (a + b)
zeros a b = replicate-append-replicate a b 0

-- the six pointers
module _ (a b c d e f low : ℕ) (L : Below 256 (a ∷ b ∷ c ∷ d ∷ e ∷ f ∷ [])) where
  abbrev P : ℕ
  P = number_of (a ∷ b ∷ c ∷ d ∷ e ∷ f ∷ [])

  below : (a < 256) × (b < 256) × (c < 256) × (d < 256) × (e < 256) × (f < 256)
  below = (
    L a (inl refl),
    L b (inr (inl refl)),
    L c (inr (inr (inl refl))),
    L d (inr (inr (inr (inl refl)))),
    L e (inr (inr (inr (inr (inl refl))))),
    L f (inr (inr (inr (inr (inr (inl refl)))))),
  )

  first_word : bytes_of 8 ((P % 0x1_0000_0000) * 0x1_0000_0000) ≡ 0 ∷ 0 ∷ 0 ∷ 0 ∷ a ∷ b ∷ c ∷ d ∷ []
  first_word =
      let l : List ℕ = 0 ∷ 0 ∷ 0 ∷ 0 ∷ a ∷ b ∷ c ∷ d ∷ [] in
      let k = below in
      let x : (P % 0x1_0000_0000) * 0x1_0000_0000 ≡ number_of l = omega (arith, k.0, k.1, k.2, k.3, k.4, k.5) in
      ap (bytes_of 8) x ∙ bytes_pad l 8 0 bytes refl ∙ append-nil l
    where
      bytes : (y : ℕ) → In y (0 ∷ 0 ∷ 0 ∷ 0 ∷ a ∷ b ∷ c ∷ d ∷ []) → y < 256
      bytes y (inl z) = omega (arith, z)
      bytes y (inr (inl z)) = omega (arith, z)
      bytes y (inr (inr (inl z))) = omega (arith, z)
      bytes y (inr (inr (inr (inl z)))) = omega (arith, z)
      bytes y (inr (inr (inr (inr (inl z))))) = omega (arith, z, below.0)
      bytes y (inr (inr (inr (inr (inr (inl z)))))) = omega (arith, z, below.1)
      bytes y (inr (inr (inr (inr (inr (inr (inl z))))))) = omega (arith, z, below.2)
      bytes y (inr (inr (inr (inr (inr (inr (inr (inl z)))))))) = omega (arith, z, below.3)
      bytes y (inr (inr (inr (inr (inr (inr (inr (inr z)))))))) = absurd z

  second_word : bytes_of 8 (P / 0x1_0000_0000 + low * 0x1_0000) ≡ e ∷ f ∷ bytes_of 6 low
  second_word =
      let k = below in
      let x : P / 0x1_0000_0000 + low * 0x1_0000 ≡ e + 256 * (f + 256 * low) =
      omega (arith, k.0, k.1, k.2, k.3, k.4, k.5) in
      let y : (e + 256 * (f + 256 * low)) % 256 ≡ e = omega (arith, k.4) in
      let z : (e + 256 * (f + 256 * low)) / 256 ≡ f + 256 * low = omega (arith, k.4) in
      let v : (f + 256 * low) % 256 ≡ f = omega (arith, k.5) in
      let w : (f + 256 * low) / 256 ≡ low = omega (arith, k.5) in
      ap (bytes_of 8) x ∙ ap₂ ◌∷◌ y (ap (bytes_of 7) z ∙ ap₂ ◌∷◌ v (ap (bytes_of 6) w))

-- the successors in two parts, of which the second has any only where the first has six
module _ (q r : List ℕ) (Q : Below 256 q) (R : Below 256 r) (qn : length q ≤ 6) (rn : length r ≤ 6)
    (full : length q < 6 → r ≡ []) where
  abbrev padded : List ℕ → List ℕ → List ℕ
  padded x y = x ++ (y ++ replicate 8 0)

  parts : padded (bytes_of 6 (number_of q)) (bytes_of 8 (number_of r))
      ≡ padded (q ++ replicate (6 - length q) 0) (r ++ replicate (8 - length r) 0)
  parts = ap₂ padded (bytes_pad q 6 (6 - length q) Q (omega arith)) (bytes_pad r 8 (8 - length r) R (omega arith))

  -- fewer than six
  few : length q < 6 → padded (q ++ replicate (6 - length q) 0) (r ++ replicate (8 - length r) 0)
      ≡ (q ++ r) ++ replicate (22 - length (q ++ r)) 0
  few lt =
      let n : (6 - length q) + 16 ≡ 22 - length (q ++ []) = omega (arith, length-append q []) in
      subst (λ y. padded (q ++ replicate (6 - length q) 0) (y ++ replicate (8 - length y) 0)
      ≡ (q ++ y) ++ replicate (22 - length (q ++ y)) 0) (sym (full lt))
      (append_assoc q (replicate (6 - length q) 0) (replicate 16 0)
      ∙ ap (λ z. q ++ z) (zeros (6 - length q) 16 ∙ ap zeroes n)
      ∙ ap (λ z. z ++ replicate (22 - length (q ++ [])) 0) (sym (append-nil q)))

  -- six, and the others
  six : length q ≡ 6 → padded (q ++ replicate (6 - length q) 0) (r ++ replicate (8 - length r) 0)
      ≡ (q ++ r) ++ replicate (22 - length (q ++ r)) 0
  six e =
      let n : (8 - length r) + 8 ≡ 22 - length (q ++ r) = omega (arith, length-append q r) in
      let z : 6 - length q ≡ 0 = omega arith in
      ap (λ k. padded (q ++ replicate k 0) (r ++ replicate (8 - length r) 0)) z
      ∙ ap (λ x. padded x (r ++ replicate (8 - length r) 0)) (append-nil q)
      ∙ ap (λ x. q ++ x) (append_assoc r (replicate (8 - length r) 0) (replicate 8 0)
      ∙ ap (λ x. r ++ x) (zeros (8 - length r) 8 ∙ ap zeroes n))
      ∙ sym (append_assoc q r (replicate (22 - length (q ++ r)) 0))

  successor_words : bytes_of 6 (number_of q) ++ (bytes_of 8 (number_of r) ++ bytes_of 8 0)
      ≡ (q ++ r) ++ replicate (22 - length (q ++ r)) 0
  successor_words = parts ∙ bool_case (ltb (length q) 6) (λ e. few (ltb-true (length q) 6 e))
      (λ e. let h = ltb-false (length q) 6 e in six (omega arith))

  -- with six pointers before them
  by_six : (l : List ℕ) → length l ≡ 6 → Below 256 l
      → shape_words (number_of l) (number_of q) (number_of r) ≡ shape_bytes (l ++ (q ++ r))
  by_six (a ∷ b ∷ c ∷ d ∷ e ∷ f ∷ []) h L =
      let k : 22 - length (q ++ r) ≡ 28 - length (a ∷ b ∷ c ∷ d ∷ e ∷ f ∷ (q ++ r)) = omega arith in
      ap₂ (λ (x y : List ℕ). x ++ (y ++ (bytes_of 8 (number_of r) ++ bytes_of 8 0)))
      (first_word a b c d e f (number_of q) L) (second_word a b c d e f (number_of q) L)
      ∙ ap (λ (x : List ℕ). 0 ∷ 0 ∷ 0 ∷ 0 ∷ a ∷ b ∷ c ∷ d ∷ e ∷ f ∷ x)
      (successor_words ∙ ap (λ i. (q ++ r) ++ replicate i 0) k)
  by_six [] h L = absurd (omega arith)
  by_six (a ∷ []) h L = absurd (omega arith)
  by_six (a ∷ b ∷ []) h L = absurd (omega arith)
  by_six (a ∷ b ∷ c ∷ []) h L = absurd (omega arith)
  by_six (a ∷ b ∷ c ∷ d ∷ []) h L = absurd (omega arith)
  by_six (a ∷ b ∷ c ∷ d ∷ e ∷ []) h L = absurd (omega arith)
  by_six (a ∷ b ∷ c ∷ d ∷ e ∷ f ∷ g ∷ l) h L = absurd (omega arith)

-- the values l of six pointers, and those of the list `last` by g, cut at six
pub words_are : (l last : List ℕ) (g : ℕ → ℕ) → length l ≡ 6 → length last ≤ 12 → Below 256 l
    → ((m : List ℕ) → Below 256 (map g m))
    → shape_words (number_of l) (number_of (map g (take (min (length last) 6) last)))
    (number_of (map g (drop (min (length last) 6) last))) ≡ shape_bytes (l ++ map g last)
words_are l last g six twelve L G =
    let n = min (length last) 6 in
    let a = take n last in
    let b = drop n last in
    let qa : length (map g a) ≡ n = length-map a g ∙ length-take-le n last (omega arith) in
    let ra : length (map g b) ≡ length last - n = length-map b g ∙ length-drop n last in
    by_six (map g a) (map g b) (G a) (G b) (omega arith) (omega arith)
    (λ lt. none b (omega (arith, length-map b g))) l six L
    ∙ ap (λ z. shape_bytes (l ++ z)) (sym (map-append g a b) ∙ ap (map g) (take-append-drop n last))
  where
    none : (b : List ℕ) → length b ≡ 0 → map g b ≡ []
    none [] h = refl
    none (x ∷ b) h = absurd (omega arith)

-- ---- words written one after the other

-- eight bytes more behind those that were written
pub put_next : (w x t : List ℕ) (a : ℕ) → length w ≡ a
    → take a (w ++ drop a t) ++ (x ++ drop (a + 8) (w ++ drop a t)) ≡ (w ++ x) ++ drop (a + 8) t
put_next w x t a n =
    let front : take a (w ++ drop a t) ≡ w = take_at w (drop a t) a n in
    let back : drop (a + 8) (w ++ drop a t) ≡ drop (a + 8) t =
    sym (drop-drop 8 a (w ++ drop a t)) ∙ ap (drop 8) (drop_at w (drop a t) a n) ∙ drop-drop 8 a t in
    ap₂ (λ y z. y ++ (x ++ z)) front back ∙ sym (append_assoc w x (drop (a + 8) t))

-- What updates make of ranges: values within the ranges give values within the moved ones, and each of these has a
-- source where no counter is added twice.
use Prim.Native.Nat.{◌%◌, ◌*◌, ◌+◌, ◌-◌, ◌/◌, ◌<◌, ◌≤◌, min, suc, zero, ℕ}
use mathlib.Core.Path.{◌∙◌, ◌≡◌, ap, ap₂, refl, sym}
use mathlib.Core.Logic.{inl, inr}
use mathlib.Core.Bool.{true}
use mathlib.Core.List.{List, [], ◌∷◌, map}
use native.Mathlib.Omega.{arith}
use lib.ListN.{get_or, length, length-map}
use Rattle.model.specs.Base.{sum}
use Rattle.model.specs.Layout.{added_once}
use Rattle.model.specs.Notions.{In}
use Rattle.model.specs.Ranges.{Box, Within, image_of}
use Rattle.model.specs.Runs.{added, applied}
use Rattle.model.proofs.lists.Lists.{get_or_in_lem, get_or_map, map_in, map_same}
use Rattle.model.proofs.records.Falls.{NoMore, added_mono, applied_mono}
use Rattle.model.proofs.runs.Boxes.{Full}
use Rattle.model.proofs.runs.Sums.{Once, bit, mask_of, once_masks}

-- ---- values within the moved ranges

-- a function that gives no more gives a list that is no more, place by place
map_mono : (f g : ℕ → ℕ) (us : List ℕ) → ((u : ℕ) → f u ≤ g u) → NoMore (map f us) (map g us)
map_mono f g [] h i = omega arith
map_mono f g (u ∷ us) h zero = h u
map_mono f g (u ∷ us) h (suc i) = map_mono f g us h i

-- what the updates give from values within the ranges is within the moved ranges
pub image_within : (us : List ℕ) (b : Box) (cs : List ℕ) → Within cs b → Within (map (applied cs) us) (image_of us b)
image_within us b cs W = record {
  one_each = length-map us (applied cs) ∙ sym (length-map us (applied b.lows));
  at_least = map_mono (applied b.lows) (applied cs) us (λ u. applied_mono u b.lows cs W.at_least);
  at_most = map_mono (applied cs) (applied b.highs) us (λ u. applied_mono u cs b.highs W.at_most);
}

-- and none of these is without a value
pub image_full : (us : List ℕ) (b : Box) → Full b → ((u : ℕ) → In u us → 1 ≤ applied b.lows u)
    → Full (image_of us b)
image_full us b F pos = record {
  alike = length-map us (applied b.highs) ∙ sym (length-map us (applied b.lows));
  ordered = map_mono (applied b.lows) (applied b.highs) us
      (λ u. applied_mono u b.lows b.highs F.ordered);
  positive = λ i lt.
      let k : i < length us = omega (arith, length-map us (applied b.lows)) in
      rw (get_or_map (applied b.lows) us i 0 0 k) (pos (get_or us i 0) (get_or_in_lem us 0 i k));
}

-- ---- one update: each value between those of the ends has a source

-- a number from l to h and a rest from r to s that come to v, where the number counts (b is 1) or does not (b is 0)
parted : (b l h r s v : ℕ) → b < 2 → l ≤ h → r ≤ s → b * l + r ≤ v → v ≤ b * h + s
    → (c w : ℕ) × (l ≤ c) × (c ≤ h) × (r ≤ w) × (w ≤ s) × (b * c + w ≡ v)
parted zero l h r s v t lh rs low high = (l, v, omega arith, lh, omega arith, omega arith, omega arith)
parted (suc zero) l h r s v t lh rs low high =
    let c = min h (v - r) in (c, v - c, omega arith, omega arith, omega arith, omega arith, omega arith)
parted (suc (suc b)) l h r s v t lh rs low high = absurd (omega arith)

-- one range more in front
within_more : (c l h : ℕ) (cs ls hs : List ℕ) → l ≤ c → c ≤ h → Within cs (record { lows = ls; highs = hs })
    → Within (c ∷ cs) (record { lows = l ∷ ls; highs = h ∷ hs })
within_more c l h cs ls hs p q W = record { one_each = ap suc W.one_each; at_least = least; at_most = most }
  where
    least : NoMore (l ∷ ls) (c ∷ cs)
    least zero = p
    least (suc i) = W.at_least i

    most : NoMore (c ∷ cs) (h ∷ hs)
    most zero = q
    most (suc i) = W.at_most i

-- one mask: some values within the ranges add up to v
one_source : (m : ℕ) (ls hs : List ℕ) → length hs ≡ length ls → NoMore ls hs → (v : ℕ) → added m ls ≤ v
    → v ≤ added m hs → (cs : List ℕ) × Within cs (record { lows = ls; highs = hs }) × (added m cs ≡ v)
one_source m [] [] n o v low high =
    ([], record { one_each = refl; at_least = λ i. omega arith; at_most = λ i. omega arith }, omega arith)
one_source m [] (h ∷ hs) n o v low high = absurd (omega arith)
one_source m (l ∷ ls) [] n o v low high = absurd (omega arith)
one_source m (l ∷ ls) (h ∷ hs) n o v low high =
    let k = m / 2 in
    let p = parted (m % 2) l h (added k ls) (added k hs) v (omega arith) (o 0)
    (added_mono k ls hs (λ i. o (suc i))) low high in
    let c = p.0 in
    let r = one_source k ls hs (omega arith) (λ i. o (suc i)) p.1 p.4 p.5 in
    (c ∷ r.0, within_more c l h r.0 ls hs p.2 p.3 r.1, ap (λ n. m % 2 * c + n) r.2 ∙ p.6)

-- the same of what an update gives, since nothing is cut off
applied_source : (u : ℕ) (b : Box) → Full b → 1 ≤ applied b.lows u → (v : ℕ) → applied b.lows u ≤ v
    → v ≤ applied b.highs u → (cs : List ℕ) × Within cs b × (applied cs u ≡ v)
applied_source u b F pos v low high =
    let k = u / 4096 % 4 in
    let r = one_source (mask_of u) b.lows b.highs F.alike F.ordered (v + 1 - k) (omega arith)
    (omega arith) in
    (r.0, r.1, omega (arith, r.2))

-- ---- two sources as one

abbrev pick : ℕ → ℕ → ℕ → ℕ
pick zero x y = y
pick (suc b) x y = x

-- where a bit of the mask is set the element of xs, else that of ys
abbrev mixed : ℕ → List ℕ → List ℕ → List ℕ
mixed m [] ys = []
mixed m (x ∷ xs) [] = []
mixed m (x ∷ xs) (y ∷ ys) = pick (m % 2) x y ∷ mixed (m / 2) xs ys

pick_either : (P : ℕ → Type 0) (b x y : ℕ) → P x → P y → P (pick b x y)
pick_either P zero x y p q = q
pick_either P (suc b) x y p q = p

mixed_either : (P : ℕ → Type 0) (m : ℕ) (xs ys : List ℕ) → length xs ≡ length ys → (i : ℕ) → P (get_or xs i 0)
    → P (get_or ys i 0) → P (get_or (mixed m xs ys) i 0)
mixed_either P m [] ys n i p q = p
mixed_either P m (x ∷ xs) [] n i p q = absurd (omega arith)
mixed_either P m (x ∷ xs) (y ∷ ys) n zero p q = pick_either P (m % 2) x y p q
mixed_either P m (x ∷ xs) (y ∷ ys) n (suc i) p q = mixed_either P (m / 2) xs ys (omega arith) i p q

mixed_length : (m : ℕ) (xs ys : List ℕ) → length xs ≡ length ys → length (mixed m xs ys) ≡ length xs
mixed_length m [] ys n = refl
mixed_length m (x ∷ xs) [] n = absurd (omega arith)
mixed_length m (x ∷ xs) (y ∷ ys) n = ap suc (mixed_length (m / 2) xs ys (omega arith))

mixed_within : (m : ℕ) (b : Box) (xs ys : List ℕ) → Within xs b → Within ys b → Within (mixed m xs ys) b
mixed_within m b xs ys X Y =
    let n = X.one_each ∙ sym Y.one_each in
    record {
      one_each = mixed_length m xs ys n ∙ X.one_each;
      at_least = λ i. mixed_either (λ c. get_or b.lows i 0 ≤ c) m xs ys n i (X.at_least i) (Y.at_least i);
      at_most = λ i. mixed_either (λ c. c ≤ get_or b.highs i 0) m xs ys n i (X.at_most i) (Y.at_most i);
    }

-- the mask itself adds what it adds of xs
pick_set : (b x y : ℕ) → b * pick b x y ≡ b * x
pick_set zero x y = omega arith
pick_set (suc b) x y = refl

mixed_set : (m : ℕ) (xs ys : List ℕ) → length xs ≡ length ys → added m (mixed m xs ys) ≡ added m xs
mixed_set m [] ys n = refl
mixed_set m (x ∷ xs) [] n = absurd (omega arith)
mixed_set m (x ∷ xs) (y ∷ ys) n = ap₂ ◌+◌ (pick_set (m % 2) x y) (mixed_set (m / 2) xs ys (omega arith))

-- and one that shares none of its first bits adds what it adds of ys
pick_clear : (b c x y : ℕ) → b + c ≤ 1 → c * pick b x y ≡ c * y
pick_clear zero c x y h = refl
pick_clear (suc b) zero x y h = omega arith
pick_clear (suc b) (suc c) x y h = absurd (omega arith)

mixed_clear : (m k : ℕ) (xs ys : List ℕ) → length xs ≡ length ys
    → ((i : ℕ) → i < length ys → bit i m + bit i k ≤ 1) → added k (mixed m xs ys) ≡ added k ys
mixed_clear m k [] [] n o = refl
mixed_clear m k [] (y ∷ ys) n o = absurd (omega arith)
mixed_clear m k (x ∷ xs) [] n o = absurd (omega arith)
mixed_clear m k (x ∷ xs) (y ∷ ys) n o = ap₂ ◌+◌ (pick_clear (m % 2) (k % 2) x y (o 0 (omega arith)))
    (mixed_clear (m / 2) (k / 2) xs ys (omega arith) (λ i lt. o (suc i) (omega arith)))

-- ---- all updates

-- a part of a sum is no more than it
sum_in : (f : ℕ → ℕ) (ms : List ℕ) (m : ℕ) → In m ms → f m ≤ sum f ms
sum_in f [] m h = absurd h
sum_in f (k ∷ ms) m (inl e) = omega (arith, ap f e)
sum_in f (k ∷ ms) m (inr h) = omega (arith, sum_in f ms m h)

-- one more update: it takes its counters from xs, and leaves those of the others as they are in ys
module _ (u : ℕ) (us : List ℕ) (b : Box) (o : Once (length b.lows) (map mask_of (u ∷ us))) (xs ys : List ℕ)
    (X : Within xs b) (Y : Within ys b) where
  alike : length xs ≡ length ys
  alike = X.one_each ∙ sym Y.one_each

  shares_none : (w : ℕ) → In w us → (i : ℕ) → i < length ys → bit i (mask_of u) + bit i (mask_of w) ≤ 1
  shares_none w h i lt =
      let p = o i (omega (arith, Y.one_each)) in
      let q = sum_in (bit i) (map mask_of us) (mask_of w) (map_in mask_of w us h) in
      omega arith

  first_source : applied (mixed (mask_of u) xs ys) u ≡ applied xs u
  first_source = ap (λ a. a + u / 4096 % 4 - 1) (mixed_set (mask_of u) xs ys alike)

  rest_source : map (applied (mixed (mask_of u) xs ys)) us ≡ map (applied ys) us
  rest_source = map_same (applied (mixed (mask_of u) xs ys)) (applied ys) us (λ w h.
      ap (λ a. a + w / 4096 % 4 - 1) (mixed_clear (mask_of u) (mask_of w) xs ys alike (shares_none w h)))

-- the ranges after the first
within_rest : (v : ℕ) (vs : List ℕ) (u : ℕ) (us : List ℕ) (b : Box) → Within (v ∷ vs) (image_of (u ∷ us) b)
    → Within vs (image_of us b)
within_rest v vs u us b W = record {
  one_each = omega (arith, W.one_each);
  at_least = λ i. W.at_least (suc i);
  at_most = λ i. W.at_most (suc i);
}

-- by induction: a source for the others, with the places of the first one's mask from a source for it alone
sources : (us : List ℕ) (b : Box) → Full b → Once (length b.lows) (map mask_of us)
    → ((u : ℕ) → In u us → 1 ≤ applied b.lows u) → (vs : List ℕ) → Within vs (image_of us b)
    → (cs : List ℕ) × Within cs b × (map (applied cs) us ≡ vs)
sources [] b F o pos [] W =
    (b.lows, record { one_each = refl; at_least = λ i. omega arith; at_most = F.ordered }, refl)
sources [] b F o pos (v ∷ vs) W = absurd (omega (arith, W.one_each))
sources (u ∷ us) b F o pos [] W = absurd (omega (arith, W.one_each))
sources (u ∷ us) b F o pos (v ∷ vs) W =
    let (xs, X, first) = applied_source u b F (pos u (inl refl)) v (W.at_least 0) (W.at_most 0) in
    let (ys, Y, rest) = sources us b F (λ i lt. omega (arith, o i lt)) (λ w i. pos w (inr i)) vs
    (within_rest v vs u us b W) in (
      mixed (mask_of u) xs ys,
      mixed_within (mask_of u) b xs ys X Y,
      ap₂ ◌∷◌ (first_source u us b o xs ys X Y ∙ first) (rest_source u us b o xs ys X Y ∙ rest),
    )

-- "the image of a box under updates that share no counter is a box, and every point of it has a source"
pub image_source : (us : List ℕ) (b : Box) → Full b → length b.lows ≤ 12 → added_once us ≡ true
    → ((u : ℕ) → In u us → 1 ≤ applied b.lows u) → (vs : List ℕ) → Within vs (image_of us b)
    → (cs : List ℕ) × Within cs b × (map (applied cs) us ≡ vs)
image_source us b F few once = sources us b F (λ i lt. once_masks us once i (omega arith))

-- Following a chain: what passes one test is looked for among the numbers that pass a wider one, from the highest back.
use Prim.Native.Nat.{ℕ, zero, suc, ◌+◌, ◌*◌, ◌≤◌, ◌<◌}
use mathlib.Core.Path.{◌≡◌, refl, sym, ap, ◌∙◌}
use mathlib.Core.Bool.{Bool, true, false, cond}
use mathlib.Core.List.{List, [], ◌∷◌, map}
use mathlib.Core.Option.{Option, none, some}
use native.Mathlib.Omega.{arith}
use lib.ListN.{get_or, length, length-map}
use borrow.Author.Tests.{eq-eqb, eqb-true}
use Rattle.model.specs.Records.{record_at}
use Rattle.model.specs.Search.{equal_at, highest_below}
use Rattle.model.proofs.lists.Highest.{TellsHighest, highest_tells}
use Rattle.model.proofs.lists.Lists.{get_or_map}
use Rattle.model.proofs.lists.Logic.{clash}
use Rattle.model.proofs.records.Bytes.{table_record}
use Rattle.model.proofs.shapes.Same.{bytes_same}
use Rattle.search.proofs.Found.{highest_next}
use Rattle.index.specs.Index.{FindReady, after, chain_of, has_hash, hash_of, head_of}

-- of three locations, the last two with one hash, the head is the newest and its chain the other, as it is computed
head_newest : head_of (5 ∷ 7 ∷ 7 ∷ []) 7 ≡ 3
head_newest = refl

chain_before : chain_of (5 ∷ 7 ∷ 7 ∷ []) 2 ≡ 2
chain_before = refl

module _ (p : ℕ → Bool) (n : ℕ) where
  most : (o : Option ℕ) → TellsHighest n p o → after o ≤ n
  most none h = omega arith
  most (some i) (lt, on, above) = omega arith

  pub after_most : after (highest_below n p) ≤ n
  after_most = most (highest_below n p) (highest_tells p n)

  passes : (o : Option ℕ) → TellsHighest n p o → (j : ℕ) → after o ≡ suc j → p j ≡ true
  passes none h j e = absurd (omega (arith, e))
  passes (some i) (lt, on, above) j e = let q : j ≡ i = omega (arith, e) in ap p q ∙ on

  pub after_passes : (j : ℕ) → after (highest_below n p) ≡ suc j → p j ≡ true
  after_passes = passes (highest_below n p) (highest_tells p n)

-- what passes q also passes p: the highest that passes q is none above the highest that passes p
module _ (p q : ℕ → Bool) where
  above : (n : ℕ) (b c : Bool) → p n ≡ b → q n ≡ c → (q n ≡ true → p n ≡ true)
      → highest_below n q ≡ highest_below (after (highest_below n p)) q
      → cond c (some n) (highest_below n q) ≡ highest_below (after (cond b (some n) (highest_below n p))) q
  above n true c e f h x = ap (λ z. cond z (some n) (highest_below n q)) (sym f)
  above n false true e f h x = clash (h f) e
  above n false false e f h x = x

  pub highest_through : (n : ℕ) → ((j : ℕ) → j < n → q j ≡ true → p j ≡ true)
      → highest_below n q ≡ highest_below (after (highest_below n p)) q
  highest_through zero h = refl
  highest_through (suc n) h =
      above n (p n) (q n) refl refl (h n (omega arith)) (highest_through n (λ j lt. h j (omega arith)))

-- the same is told of two tests that agree below n
pub highest_agree : (p q : ℕ → Bool) (n : ℕ) → ((j : ℕ) → j < n → p j ≡ q j) → highest_below n p ≡ highest_below n q
highest_agree p q zero h = refl
highest_agree p q (suc n) h =
    (λ i. cond (h n (omega arith) i) (some n) (highest_agree p q n (λ j lt. h j (omega arith)) i))

-- ---- a search

-- the record r is looked for by its hash h, and what is found is what is found below i; the location before i has the
-- hash
pub record Follows (ix : List ℕ) (h : ℕ) (t : List ℕ) (n : ℕ) (r : List ℕ) (i : ℕ) : Type 0 where
  pub ready : FindReady ix h t n r
  pub below : i ≤ n
  pub rest : highest_below n (equal_at t r) ≡ highest_below i (equal_at t r)
  pub hashed : (j : ℕ) → i ≡ suc j → has_hash (map hash_of ready.records) h j ≡ true

module _ (ix : List ℕ) (h : ℕ) (t : List ℕ) (n : ℕ) (r : List ℕ) (R : FindReady ix h t n r) where
  abbrev rs : List (List ℕ)
  rs = R.records

  abbrev hs : List ℕ
  hs = map hash_of rs

  count_is : length hs ≡ n
  count_is = length-map rs hash_of ∙ sym R.count

  pub low : h < 512
  low = omega (arith, R.hash)

  -- an equal record has the same hash
  equal_hash : (j : ℕ) → j < n → equal_at t r j ≡ true → has_hash hs h j ≡ true
  equal_hash j lt e =
      let I = R.index_of in
      let k : j < length rs = omega (arith, R.count) in
      let same : get_or rs j [] ≡ r =
      sym (ap (λ x. record_at x j) I.held ∙ table_record (length t) rs j I.wide k)
      ∙ bytes_same (record_at t j) r e in
      eq-eqb (get_or hs j 0) h (get_or_map hash_of rs j [] 0 k ∙ ap hash_of same ∙ sym R.hash)

  -- the last below m with the hash, as it stands in the index: from any number on, the search goes on there
  follow : (m i : ℕ) → m ≤ n → highest_below n (equal_at t r) ≡ highest_below m (equal_at t r)
      → i ≡ after (highest_below m (has_hash hs h)) → Follows ix h t n r i
  follow m i le f e = record {
    ready = R;
    below = let k = after_most (has_hash hs h) m in omega (arith, e);
    rest = f ∙ highest_through (has_hash hs h) (equal_at t r) m (λ j lt. equal_hash j (omega arith))
        ∙ ap (λ k. highest_below k (equal_at t r)) (sym e);
    hashed = λ j q. after_passes (has_hash hs h) m j (sym e ∙ q);
  }

  pub follow_head : Follows ix h t n r (get_or ix h 0)
  follow_head = follow n (get_or ix h 0) (omega arith) refl
      (R.index_of.indexed.heads h low ∙ ap (λ m. after (highest_below m (has_hash hs h))) count_is)

-- the record before i is another: its chain is followed
module _ (ix : List ℕ) (h : ℕ) (t : List ℕ) (n : ℕ) (r : List ℕ) (i : ℕ) (F : Follows ix h t n r i) (j : ℕ)
    (e : i ≡ suc j) where
  abbrev R : FindReady ix h t n r
  R = F.ready

  chain_is : get_or ix (512 + j) 0 ≡ after (highest_below j (has_hash (map hash_of R.records) h))
  chain_is =
      let g = map hash_of R.records in
      R.index_of.indexed.chains j (omega (arith, count_is ix h t n r R, F.below))
      ∙ ap (λ x. after (highest_below j (has_hash g x))) (eqb-true (get_or g j 0) h (F.hashed j e))

  pub chain_less : get_or ix (512 + j) 0 ≤ j
  chain_less = let k = after_most (has_hash (map hash_of R.records) h) j in omega (arith, chain_is)

  pub follow_chain : equal_at t r j ≡ false → Follows ix h t n r (get_or ix (512 + j) 0)
  follow_chain o =
      follow ix h t n r R j (get_or ix (512 + j) 0) (omega (arith, F.below))
      (F.rest ∙ highest_next (equal_at t r) i j e o) chain_is

  pub place_within : 32 * j + 32 ≤ length t
  place_within = omega (arith, F.below, R.count, R.index_of.fits)

  pub chain_within : 512 + j < length ix
  chain_within = omega (arith, F.below, R.count, R.few, R.index_of.indexed.size)

-- The index with one location more is that of the hashes with one more, and an index of zeros that of none.
use Prim.Native.Nat.{ℕ, ◌+◌, ◌≤◌, ◌<◌}
use mathlib.Core.Path.{◌≡◌, refl, sym, ap, subst, ◌∙◌}
use mathlib.Core.Bool.{Bool, true, false, cond}
use mathlib.Core.List.{List, [], ◌∷◌, ◌++◌, map, map-append}
use mathlib.Core.Option.{some}
use native.Mathlib.Omega.{arith}
use native.Mathlib.Numerals.{add-one}
use lib.Dec.{eqb, ltb}
use lib.ListN.{get_or-append, get_or, get_or-replicate, length, length-append, length-map, length-replicate, length-set, replicate, set, take}
use lib.Seq.{get_or-append_seam, get_or-set_other, get_or-set_same, length-take-le, take_all, take-suc}
use borrow.Author.Tests.{eq-eqb, eqb-false, ltb-false}
use Rattle.model.specs.Notions.{In}
use Rattle.model.specs.Records.{record_at}
use Rattle.model.specs.Search.{highest_below}
use Rattle.model.specs.Translate.{table_of}
use Rattle.model.proofs.lists.Logic.{eq-case}
use Rattle.model.proofs.records.Bytes.{table_record}
use Rattle.index.specs.Index.{Indexed, after, chain_of, entered, has_hash, hash_of, head_of, index_kept}
use Rattle.index.proofs.Chains.{highest_agree}

module _ (hs : List ℕ) (h : ℕ) where
  abbrev more : List ℕ
  more = hs ++ h ∷ []

  -- of the hashes before the new one, the last with the hash g below j
  same_below : (g j : ℕ) → j < length hs + 1 → highest_below j (has_hash hs g) ≡ highest_below j (has_hash more g)
  same_below g j lt =
      highest_agree (has_hash hs g) (has_hash more g) j (λ i k. ap (λ x. eqb x g)
      (sym (get_or-append hs (h ∷ []) 0 i (omega arith))))

  -- the hash of the new one
  newest : get_or more (length hs) 0 ≡ h
  newest = get_or-append_seam hs h [] 0

  longer : length more ≡ length hs + 1
  longer = length-append hs (h ∷ [])

  -- the new one is the head of its hash, and any other head stays
  head_case : (g : ℕ) (b : Bool) → eqb h g ≡ b
      → head_of more g ≡ cond b (length hs + 1) (head_of hs g)
  head_case g b e =
      let c : has_hash more g (length hs) ≡ b = ap (λ x. eqb x g) newest ∙ e in
      ap (λ n. after (highest_below n (has_hash more g))) (longer ∙ add-one (length hs))
      ∙ ap (λ x. after (cond x (some (length hs)) (highest_below (length hs) (has_hash more g)))) c
      ∙ told b
    where
      told : (b : Bool) → after (cond b (some (length hs)) (highest_below (length hs) (has_hash more g)))
          ≡ cond b (length hs + 1) (head_of hs g)
      told true = sym (add-one (length hs))
      told false = ap after (sym (same_below g (length hs) (omega arith)))

  -- the chain of any location but the new one stays
  chain_stays : (j : ℕ) → j < length hs → chain_of hs j ≡ chain_of more j
  chain_stays j lt =
      ap (λ g. after (highest_below j (has_hash hs g))) (sym (get_or-append hs (h ∷ []) 0 j lt))
      ∙ ap after (same_below (get_or more j 0) j (omega arith))

  -- the chain of the new one is the head of its hash before
  chain_new : head_of hs h ≡ chain_of more (length hs)
  chain_new =
      ap after (same_below h (length hs) (omega arith))
      ∙ ap (λ g. after (highest_below (length hs) (has_hash more g))) (sym newest)

  module _ (ix : List ℕ) (I : Indexed hs ix) (few : length hs < 1024) (low : h < 512) where
    abbrev chained : List ℕ
    chained = set ix (512 + length hs) (get_or ix h 0)

    wide : length chained ≡ 1536
    wide = length-set ix (512 + length hs) (get_or ix h 0) ∙ I.size

    heads : (g : ℕ) → g < 512 → get_or (entered ix (length hs) h) g 0 ≡ head_of more g
    heads g lt = eq-case h g
        (λ q. ap (λ x. get_or (entered ix (length hs) h) x 0) (sym q)
        ∙ get_or-set_same chained h (length hs + 1) 0 (omega (arith, wide))
        ∙ sym (head_case g true (eq-eqb h g q)))
        (λ e. let q = eqb-false h g e in
        get_or-set_other chained h g (length hs + 1) 0 (λ z. q (sym z))
        ∙ get_or-set_other ix (512 + length hs) g (get_or ix h 0) 0 (λ z. omega (arith, z))
        ∙ I.heads g lt ∙ sym (head_case g false e))

    chains : (j : ℕ) → j < length more → get_or (entered ix (length hs) h) (512 + j) 0 ≡ chain_of more j
    chains j lt =
        get_or-set_other chained h (512 + j) (length hs + 1) 0 (λ z. omega (arith, z))
        ∙ eq-case j (length hs)
        (λ q. ap (λ x. get_or chained (512 + x) 0) q
        ∙ get_or-set_same ix (512 + length hs) (get_or ix h 0) 0 (omega (arith, I.size))
        ∙ I.heads h low ∙ chain_new ∙ ap (chain_of more) (sym q))
        (λ e. let q = eqb-false j (length hs) e in
        let k : j < length hs = omega (arith, longer) in
        get_or-set_other ix (512 + length hs) (512 + j) (get_or ix h 0) 0 (λ z. q (omega (arith, z)))
        ∙ I.chains j k ∙ chain_stays j k)

    pub entered_indexed : Indexed more (entered ix (length hs) h)
    entered_indexed = record {
      size = length-set chained h (length hs + 1) ∙ wide;
      heads = heads;
      chains = chains;
    }

-- a location with number j of n is kept: it is known, or it is entered
module _ (hs : List ℕ) (ix : List ℕ) (I : Indexed hs ix) (n j h : ℕ) (count : n ≡ length hs) (few : j < 1024)
    (low : h < 512) where
  by_known : (b : Bool) → ltb j n ≡ b → Indexed (cond b hs (hs ++ h ∷ [])) (cond b ix (entered ix n h))
  by_known true e = I
  by_known false e =
      let le = ltb-false j n e in
      subst (λ k. Indexed (hs ++ h ∷ []) (entered ix k h)) (sym count) (entered_indexed hs h ix I (omega arith) low)

  pub kept_indexed : Indexed (cond (ltb j n) hs (hs ++ h ∷ [])) (index_kept ix n j h)
  kept_indexed = by_known (ltb j n) refl

-- no location is entered
pub none_indexed : Indexed [] (replicate 1536 0)
none_indexed = record {
  size = length-replicate {A = ℕ} 1536 0;
  heads = λ h lt. get_or-replicate 1536 h 0 0 (omega (arith, lt));
  chains = λ j lt. absurd (omega (arith, lt));
}

-- the first records of a table, entered one by one
module _ (t : List ℕ) (rs : List (List ℕ)) (held : t ≡ table_of (length t) rs)
    (wide : (r : List ℕ) → In r rs → length r ≡ 32) (few : length rs ≤ 1024) where
  -- the hashes of the first j records
  abbrev hashes : ℕ → List ℕ
  hashes j = map hash_of (take j rs)

  pub entered_next : (j : ℕ) (ix : List ℕ) → j < length rs → Indexed (hashes j) ix
      → Indexed (hashes (j + 1)) (entered ix j (hash_of (record_at t j)))
  entered_next j ix lt I =
      let h = hash_of (get_or rs j []) in
      let n : length (hashes j) ≡ j = length-map (take j rs) hash_of ∙ length-take-le j rs (omega arith) in
      let low : h < 512 = omega arith in
      let X : Indexed (hashes j ++ h ∷ []) (entered ix (length (hashes j)) h) =
      entered_indexed (hashes j) h ix I (omega arith) low in
      let e : hashes (j + 1) ≡ hashes j ++ h ∷ [] =
      ap (λ k. hashes k) (add-one j) ∙ ap (map hash_of) (take-suc rs j [] lt)
      ∙ map-append hash_of (take j rs) (get_or rs j [] ∷ []) in
      let r : record_at t j ≡ get_or rs j [] =
      ap (λ x. record_at x j) held ∙ table_record (length t) rs j wide lt in
      rw (e, r) (subst (λ k. Indexed (hashes j ++ h ∷ []) (entered ix k h)) n X)

  pub entered_all : (j : ℕ) (ix : List ℕ) → length rs ≤ j → Indexed (hashes j) ix → Indexed (map hash_of rs) ix
  entered_all j ix le I = subst (λ l. Indexed (map hash_of l) ix) (take_all j rs le) I

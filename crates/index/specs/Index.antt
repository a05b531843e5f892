-- The index of the locations known in one translation: for each hash the newest location with it (a head), and for each
-- location the newest one before it with the same hash (a chain). Following a chain from its head goes from the newest
-- back. A number stands in the index as the number after it, and 0 for none, so that an index of zeros is that of no
-- location. Assumes nothing.
use Rattle.std.specs.Prelude.{ℕ, suc, ◌+◌, ◌*◌, ◌/◌, ◌%◌, ◌<◌, ◌≤◌, ◌≡◌, Bool, cond, List, map, eqb, ltb, get_or, length, replicate, set}
use Rattle.std.proofs.Math.Option.{Option, none, some}
use Rattle.model.specs.Base.{most_locations, record_size}
use Rattle.model.specs.Notions.{In}
use Rattle.model.specs.Search.{highest_below}
use Rattle.model.specs.Translate.{table_of}
use Rattle.word.specs.Words.{four_at}

-- how many hashes there are, and how many places the index has: one for each hash, and one for each of 1,024 locations
abbrev pub hash_count : ℕ
hash_count = 512

abbrev pub index_size : ℕ
index_size = 1536

-- the hash of a record. Nothing is asked of it but that it is a function of the bytes; these numbers spread the
-- locations of large listings.
abbrev pub hash_sum : List ℕ → ℕ
hash_sum r =
    four_at r 0 * 0x1337_79b1 + four_at r 4 * 0x1c3a_f9d3 + four_at r 8 * 0x15a4_0e35 + four_at r 12 * 0x1b87_3593
    + four_at r 16 * 0xf4b_a5ed + four_at r 20 * 0x2b_a5ed

abbrev pub hash_of : List ℕ → ℕ
hash_of r = (hash_sum r / 0x4000_0000) % hash_count

-- a number as it stands in the index
abbrev pub after : Option ℕ → ℕ
after (some j) = suc j
after none = 0

-- of the hashes hs, number j is h
abbrev pub has_hash : List ℕ → ℕ → ℕ → Bool
has_hash hs h j = eqb (get_or hs j 0) h

-- the last number below the count with hash h
abbrev pub head_of : List ℕ → ℕ → ℕ
head_of hs h = after (highest_below (length hs) (has_hash hs h))

-- the last number below j with the hash of j
abbrev pub chain_of : List ℕ → ℕ → ℕ
chain_of hs j = after (highest_below j (has_hash hs (get_or hs j 0)))

-- ix is the index of locations with the hashes hs, by number
pub record Indexed (hs ix : List ℕ) : Type 0 where
  pub size : length ix ≡ index_size
  pub heads : (h : ℕ) → h < hash_count → get_or ix h 0 ≡ head_of hs h
  pub chains : (j : ℕ) → j < length hs → get_or ix (hash_count + j) 0 ≡ chain_of hs j

-- the index with one location more, number n with hash h: its chain is the head so far, and it is the head
abbrev pub entered : List ℕ → ℕ → ℕ → List ℕ
entered ix n h = set (set ix (hash_count + n) (get_or ix h 0)) h (n + 1)

-- the index once a location with number j of n is kept: it is entered where it is new
abbrev pub index_kept : List ℕ → ℕ → ℕ → ℕ → List ℕ
index_kept ix n j h = cond (ltb j n) ix (entered ix n h)

-- the table t holds the records rs, and ix is the index of these
pub record IndexOf (rs : List (List ℕ)) (t ix : List ℕ) : Type 0 where
  pub held : t ≡ table_of (length t) rs
  pub wide : (r : List ℕ) → In r rs → length r ≡ record_size
  pub fits : record_size * length rs ≤ length t
  pub indexed : Indexed (map hash_of rs) ix

-- a record r is looked for among the n records of the table t, by its hash h
pub record FindReady (ix : List ℕ) (h : ℕ) (t : List ℕ) (n : ℕ) (r : List ℕ) : Type 0 where
  pub records : List (List ℕ)
  pub index_of : IndexOf records t ix
  pub count : n ≡ length records
  pub few : n ≤ most_locations
  pub hash : h ≡ hash_of r
  pub whole : length r ≡ record_size

-- the first n records of the table t are to be entered into an index of zeros
pub record EnterAllReady (t : List ℕ) (n : ℕ) (ix : List ℕ) : Type 0 where
  pub blank : ix ≡ replicate index_size 0
  pub few : n ≤ most_locations
  pub fits : record_size * n ≤ length t

-- whichever records the table holds, ix is the index of these
abbrev pub EntersAll : List ℕ → ℕ → List ℕ → Type 0
EntersAll t n ix =
    (rs : List (List ℕ)) → t ≡ table_of (length t) rs → ((r : List ℕ) → In r rs → length r ≡ record_size)
    → n ≡ length rs → Indexed (map hash_of rs) ix

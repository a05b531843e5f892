-- The promises about tables of any lengths beside the full translator's (32,768 and 65,536 bytes), and about the
-- controller bench (4,096 and 8,192 bytes). Each is a type; its proof under it cites a law.
use Prim.Native.Nat.{ℕ}
use mathlib.Core.Path.{◌≡◌}
use mathlib.Core.List.{List}
use lib.ListN.{take}
use Rattle.model.specs.Bench.{AcceptsFitting, EqualsFull, FailsAsFull, RefusesUnplaced, bench_edges, bench_locations, ends_in, first_unplaced, translate_bench, translate_full}
use Rattle.model.specs.Records.{is_accepted}
use Rattle.model.specs.Translate.{places, translate}
use Rattle.model.proofs.listings.Small.{accepts_fitting, bench_bytes, bench_unplaced, equals_full, fails_as_full, full_accepted, refuses_unplaced}

-- ==== tables of any lengths

-- accepted exactly if the input passes every check and the full listing fits; told too from what the full translator
-- answers
abbrev pub SmallAccepts : Type 0
SmallAccepts = (s : List ℕ) (a b : ℕ) → AcceptsFitting a b (places 1024 a) (places 2048 b) s

pub small_accepts : SmallAccepts
small_accepts = accepts_fitting

-- the records and counts then equal those of the full translator, which accepts too
abbrev pub SmallEqualsFull : Type 0
SmallEqualsFull = (s : List ℕ) (a b : ℕ) → (translate s a b).verdict ≡ is_accepted
    → ((translate_full s).verdict ≡ is_accepted) × EqualsFull a b s

pub small_equals_full : SmallEqualsFull
small_equals_full s a b z = (full_accepted s a b z, equals_full s a b z)

-- a failed check gives the full translator's refusal
abbrev pub SmallFailsAsFull : Type 0
SmallFailsAsFull = (s : List ℕ) (a b : ℕ) → FailsAsFull a b s

pub small_fails_as_full : SmallFailsAsFull
small_fails_as_full = fails_as_full

-- else 11 or 12, by the same rule applied to its own places
abbrev pub SmallRefuses : Type 0
SmallRefuses = (s : List ℕ) (a b : ℕ) → RefusesUnplaced a b (places 1024 a) (places 2048 b) s

pub small_refuses : SmallRefuses
small_refuses = refuses_unplaced

-- ==== the controller bench

-- "The bench accepts exactly the inputs that pass every check of the input and whose full listing fits"
abbrev pub BenchAccepts : Type 0
BenchAccepts = (s : List ℕ) → AcceptsFitting 4096 8192 bench_locations bench_edges s

pub bench_accepts : BenchAccepts
bench_accepts s = accepts_fitting s 4096 8192

-- "its records and counts then equal those of the full translator": its tables are the first bytes of the full ones
abbrev pub BenchEqualsFull : Type 0
BenchEqualsFull = (s : List ℕ) → (translate_bench s).verdict ≡ is_accepted
    → ((translate_full s).verdict ≡ is_accepted) × EqualsFull 4096 8192 s
    × ((translate_bench s).tables.loc_bytes ≡ take 4096 (translate_full s).tables.loc_bytes)
    × ((translate_bench s).tables.edge_bytes ≡ take 8192 (translate_full s).tables.edge_bytes)

pub bench_equals_full : BenchEqualsFull
bench_equals_full s z = let B = bench_bytes s z in
    (full_accepted s 4096 8192 z, equals_full s 4096 8192 z, B.0, B.1)

-- "A failed check gives the full translator's refusal."
abbrev pub BenchFailsAsFull : Type 0
BenchFailsAsFull = (s : List ℕ) → FailsAsFull 4096 8192 s

pub bench_fails_as_full : BenchFailsAsFull
bench_fails_as_full s = fails_as_full s 4096 8192

-- "Where the full listing doesn't fit, the bench gets 11 or 12 by the same rule, applied to its own places."
abbrev pub BenchRefuses : Type 0
BenchRefuses = (s : List ℕ) → RefusesUnplaced 4096 8192 bench_locations bench_edges s

pub bench_refuses : BenchRefuses
bench_refuses s = refuses_unplaced s 4096 8192

-- The bench's whole verdict, told from the full translator's bytes: every starting shape has a place, and then the
-- first edge without one decides.
abbrev pub BenchVerdict : Type 0
BenchVerdict = (s : List ℕ) → (translate_full s).verdict ≡ is_accepted
    → (translate_bench s).verdict ≡ first_unplaced bench_locations bench_edges 0 (ends_in (translate_full s).tables)

pub bench_verdict : BenchVerdict
bench_verdict = bench_unplaced

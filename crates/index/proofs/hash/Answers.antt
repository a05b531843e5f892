-- `index::hash` meets its contract: the six numbers that were read are those of the definition.
use Prim.Native.Nat.{ℕ, ◌+◌, ◌*◌, ◌/◌, ◌%◌}
use mathlib.Core.Path.{◌≡◌}
use mathlib.Core.List.{List}
use native.Mathlib.Omega.{arith}
use Rattle.word.specs.Words.{four_at}
use Rattle.index.specs.Index.{hash_of}
use Rattle.index.proofs.hash.Goals as goal

-- the six numbers, each by itself
hash_by : (r : List ℕ) (a b c d e f : ℕ) → a ≡ four_at r 0 → b ≡ four_at r 4 → c ≡ four_at r 8 → d ≡ four_at r 12
    → e ≡ four_at r 16 → f ≡ four_at r 20
    → ((a * 0x1337_79b1 + b * 0x1c3a_f9d3 + c * 0x15a4_0e35 + d * 0x1b87_3593 + e * 0xf4b_a5ed + f * 0x2b_a5ed)
    / 0x4000_0000) % 512 ≡ hash_of r
hash_by r a b c d e f p q s t u v =
    (λ i. ((p i * 0x1337_79b1 + q i * 0x1c3a_f9d3 + s i * 0x15a4_0e35 + t i * 0x1b87_3593 + u i * 0xf4b_a5ed
    + v i * 0x2b_a5ed) / 0x4000_0000) % 512)

pub returns : goal.returns
returns c = (
  hash_by c.args.rec.now _ _ _ _ _ _
      c.four.ensures c.four-2.ensures
      c.four-3.ensures c.four-4.ensures c.four-5.ensures
      c.four-6.ensures,
  omega arith,
)

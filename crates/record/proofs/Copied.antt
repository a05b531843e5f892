-- What a copy leaves: the record of a location.
use Prim.Native.Nat.{ℕ, ◌≤◌}
use mathlib.Core.Path.{◌≡◌, ap, sym, ◌∙◌}
use mathlib.Core.List.{List, [], ◌∷◌, ◌++◌}
use native.Mathlib.Omega.{arith}
use lib.ListN.{length}
use Rattle.model.specs.Records.{byte}
use Rattle.record.specs.Written.{location_bytes}

-- an L record with its own statement and fault is itself
location_same : (r : List ℕ) → 3 ≤ length r → byte r 0 ≡ 0x4c → location_bytes (byte r 1) (byte r 2) r ≡ r
location_same [] h e = absurd (omega arith)
location_same (a ∷ []) h e = absurd (omega arith)
location_same (a ∷ b ∷ []) h e = absurd (omega arith)
location_same (a ∷ b ∷ c ∷ r) h e = ap (λ x. x ∷ b ∷ c ∷ r) (sym e)

pub location_whole : (r z m : List ℕ) → length r ≡ 32 → byte r 0 ≡ 0x4c → m ≡ location_bytes (byte r 1) (byte r 2) r
    ++ z → m ≡ r ++ z
location_whole r z m h e q = q ∙ ap (λ x. x ++ z) (location_same r (omega arith) e)

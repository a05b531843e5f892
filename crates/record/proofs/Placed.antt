-- A record put behind those of a table.
use Prim.Native.Nat.{ℕ, ◌+◌, ◌-◌, ◌*◌, ◌≤◌}
use mathlib.Core.Path.{◌≡◌, sym, ap, ◌∙◌}
use mathlib.Core.List.{List, [], ◌∷◌, ◌++◌, append_assoc, append-nil}
use native.Mathlib.Omega.{arith}
use lib.ListN.{length, take, drop, replicate, length-append}
use lib.Seq.{drop-append-add, take_at}
use Rattle.model.specs.Base.{joined}
use Rattle.model.specs.Translate.{table_of}
use Rattle.model.proofs.records.Bytes.{joined_length}
use Rattle.model.specs.Notions.{In}
use Rattle.model.proofs.lists.Lists.{joined_snoc}
use Rattle.record.specs.Written.{placed}
use Rattle.record.proofs.ListLaws.{drop_zeros}

-- The table of n bytes with records rs, with one more behind them.
pub placed_next : (n : ℕ) (rs : List (List ℕ)) (r : List ℕ) → ((x : List ℕ) → In x rs → length x ≡ 32)
    → 32 * length rs + 32 ≤ n
    → placed (table_of n rs) (length rs) r ≡ table_of n (rs ++ r ∷ [])
placed_next n rs r w h =
    let l = joined_length rs w in
    let z : List ℕ = replicate (n - 32 * length rs) 0 in
    let m : n - 32 * length (rs ++ r ∷ []) ≡ (n - 32 * length rs) - 32 = omega (arith, length-append rs (r ∷ [])) in
    let t : take (32 * length rs) (joined rs ++ z) ≡ joined rs = take_at (joined rs) z (32 * length rs) l in
    let d : drop (32 * length rs + 32) (joined rs ++ z) ≡ replicate ((n - 32 * length rs) - 32) 0 =
    ap (λ x. drop (x + 32) (joined rs ++ z)) (sym l) ∙ drop-append-add (joined rs) z 32
    ∙ ap (drop 32) (sym (append-nil z)) ∙ drop_zeros 32 (n - 32 * length rs) [] (omega arith) ∙ append-nil _ in
    rw (t, d, m, joined_snoc rs r) (sym (append_assoc (joined rs) r (replicate ((n - 32 * length rs) - 32) 0)))

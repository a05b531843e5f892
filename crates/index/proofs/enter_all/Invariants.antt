-- `index::enter_all` meets its contract: the first j records are entered.
use Prim.Native.Nat.{ℕ}
use mathlib.Core.Path.{◌≡◌}
use mathlib.Core.List.{List, map}
use lib.ListN.{length, take}
use Rattle.model.specs.Notions.{In}
use Rattle.model.specs.Translate.{table_of}
use Rattle.index.specs.Index.{Indexed, hash_of}
use Rattle.index.proofs.enter_all.Given as goal

abbrev pub invariant-loop-j : goal.invariant-loop-j
invariant-loop-j l =
    (rs : List (List ℕ)) → l.table ≡ table_of (length l.table) rs → ((r : List ℕ) → In r rs → length r ≡ 32)
    → l.n ≡ length rs → Indexed (map hash_of (take l.j rs)) l.index

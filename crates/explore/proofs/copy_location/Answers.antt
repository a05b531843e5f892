-- `copy_location` meets its contract: the record is whole, and no more is written.
use Prim.Native.Nat.{ℕ}
use mathlib.Core.Path.{ap, ◌∙◌}
use mathlib.Core.List.{List, ◌++◌}
use native.Mathlib.Omega.{arith}
use lib.ListN.{drop, take}
use Rattle.explore.proofs.Located.{copied, record_wide}
use Rattle.explore.proofs.copy_location.Goals as goal

pub copy_record-requires : goal.copy_record-requires
copy_record-requires c =
    let w = record_wide c.args.listing.now.locations.now c.args.i c.requires.0 in
    let e = c.record_at.ensures in
    rw e (omega arith, omega arith)

pub returns : goal.returns
returns c =
    let a = c.args in
    c.copy_record.ensures ∙ ap (λ (l : List ℕ). take 32 l ++ drop 32 a.rec.now) c.record_at.ensures
    ∙ copied a.listing.now.locations.now a.i a.rec.now c.requires.0 c.requires.1

-- `write_updates` meets its contract: the first updates are written.
use Prim.Native.Nat.{ℕ, ◌+◌, ◌*◌, ◌-◌, ◌<◌}
use mathlib.Core.Path.{◌≡◌, ap, ◌∙◌}
use mathlib.Core.List.{List}
use native.Mathlib.Omega.{arith}
use lib.ListN.{get_or}
use borrow.Author.Rules.{rules}
use borrow.Rule.Slice.PartMut.{put_mid}
use Rattle.model.specs.Records.{two_bytes}
use Rattle.record.proofs.Bytes.{low_high, updates_turn}
use Rattle.record.proofs.write_updates.Goals as goal

pub loop-j-preserved : goal.loop-j-preserved
loop-j-preserved c =
    let a = c.args in
    let us = a.updates.now in
    let l = c.loop-j in
    let n = 8 + 2 * l.j in
    let u : ℕ = get_or us l.j 0 in
    let small : u < 65536 = search rules in
    let bytes : c.copy_from_slice.new.self ≡ two_bytes u =
    c.copy_from_slice.ensures.after ∙ c.to_le_bytes.ensures ∙ low_high u small in
    ap (λ (x : List ℕ). put_mid n (10 + 2 * l.j - n) x c.copy_from_slice.new.self) l.invariant
    ∙ updates_turn a.part.now us _ l.j (omega arith) (omega arith) bytes

-- `relink_through` meets its contract: the byte that is read is stored.
use mathlib.Core.Path.{subst}
use lib.ListN.{get_or}
use Rattle.model.specs.Codes.{fault_in}
use Rattle.model.specs.Records.{val_of}
use Rattle.effect.specs.Effect.{HasEffect, stored}
use Rattle.effect.proofs.Bytes.{relink_cell}
use Rattle.effect.proofs.relink_through.Goals as goal

pub returns : goal.returns
returns c ps =
    let a = c.args in
    let cs = a.cells.now in
    let k = c.in_ok-c.ensures in
    let r = c.store_through in
    relink_cell ps cs a.at a.from _ ps _ k.1 k.2 c.requires.1
    (subst (λ i. HasEffect (stored (val_of a.at) (val_of (get_or cs i 0))) ps cs (fault_in r.result) ps r.new.cells) k.0
    (r.ensures ps))

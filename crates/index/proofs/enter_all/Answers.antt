-- `index::enter_all` meets its contract: the first j records are entered.
use Prim.Native.Nat.{◌*◌}
use mathlib.Core.Path.{sym, ap, subst, ◌∙◌}
use native.Mathlib.Omega.{arith}
use lib.ListN.{length}
use Rattle.word.proofs.Codes.{part_length}
use Rattle.index.specs.Index.{Indexed, entered, hash_of}
use Rattle.index.proofs.Entered.{entered_next, none_indexed}
use Rattle.index.proofs.enter_all.Goals as goal

pub loop-j-init : goal.loop-j-init
loop-j-init c = λ rs p w n. subst (Indexed _) (sym c.requires.blank) none_indexed

pub hash-requires : goal.hash-requires
hash-requires c =
    let t = c.args.table.now in
    let i = c.loop-j-test.true in
    ap length c.record_at.ensures ∙ part_length t (32 * c.loop-j.j) 32 (omega (arith, c.requires.few, c.requires.fits))

pub loop-j-preserved : goal.loop-j-preserved
loop-j-preserved c =
    let b = c in
    let l = b.loop-j in
    let t = b.args.table.now in
    let i = c.loop-j-test.true in
    let e = c.enter.ensures ∙ ap (entered l.index l.j) (c.hash.ensures.0 ∙ ap hash_of c.record_at.ensures) in
    λ rs q w n.
    let X = entered_next t rs q w (omega (arith, b.requires.few)) l.j l.index (omega arith) (l.invariant rs q w n) in
    subst (Indexed _) (sym e) X

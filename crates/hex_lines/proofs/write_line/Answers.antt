-- `write_line` meets its contract: the first i bytes are written.
use Prim.Native.Nat.{◌+◌, ◌*◌}
use mathlib.Core.Path.{◌≡◌, sym, ap₂, ◌∙◌}
use mathlib.Core.List.{[], ◌∷◌, ◌++◌, map}
use native.Mathlib.Omega.{arith}
use lib.ListN.{get_or, take, drop}
use lib.Seq.{set_split, take_all}
use Rattle.model.specs.Base.{joined}
use Rattle.model.proofs.lists.Slices.{joined_next, put_next}
use Rattle.hex_lines.specs.Lines.{byte_of}
use Rattle.hex_lines.proofs.write_line.Goals as goal

pub loop-i-preserved : goal.loop-i-preserved
loop-i-preserved c =
    let b = c in
    let l = b.loop-i in
    let a = b.args in
    let r = a.rec.now in
    let t = c.loop-i-test.true in
    let e : 2 * l.i + 2 ≡ 2 * (l.i + 1) = omega arith in
    c.write_byte.ensures
    ∙ put_next a.line.now l.line (joined (map byte_of (take l.i r))) (byte_of (get_or r l.i 0))
    (2 * l.i) 2 l.auto.line (omega arith) l.invariant
    ∙ ap₂ (λ w m. w ++ drop m a.line.now) (sym (joined_next byte_of r l.i (omega arith))) e

pub returns : goal.returns
returns c =
    let l = c.loop-i in
    let a = c.args in
    let r = a.rec.now in
    let e : l.i ≡ 32 = omega arith in
    let w = l.invariant
    ∙ ap₂ (λ x i. joined (map byte_of x) ++ drop (2 * i) a.line.now) (take_all l.i r (omega arith)) e in
    set_split l.line 64 10 (omega arith)
    ∙ put_next a.line.now l.line (joined (map byte_of r)) (10 ∷ []) 64 1 l.auto.line (omega arith) w

-- `write_strands` meets its contract: the strands of the nodes below n are written, and the others follow them.
use Prim.Native.Nat.{◌+◌}
use mathlib.Core.Path.{◌≡◌, sym, ap, ◌∙◌}
use mathlib.Core.List.{◌++◌, append-nil}
use native.Mathlib.Omega.{arith}
use lib.ListN.{get_or, take}
use Rattle.unfolding.specs.Bytes.{placed_byte, strand_bytes}
use Rattle.model.proofs.lists.Loops.{sum_step}
use Rattle.unfolding.proofs.Steps.{strands_end, strands_push}
use Rattle.unfolding.proofs.write_strands.Goals as goal

pub loop-n-preserved : goal.loop-n-preserved
loop-n-preserved c =
    let w = c.write_strand in
    let l = c.loop-n in
    let a = c.args in
    let t = a.counters.now in
    let h = c.loop-n-test.true in
    let f = c.requires.filled in
    let v = placed_byte a.firsts.now (get_or a.successors.now l.n 0) in
    let p : c.placed.result ≡ v = cc in
    let e : take (l.at + get_or t l.n 0) w.new.cells ≡ take l.at l.cells
    ++ strand_bytes l.at (get_or t l.n 0) v = cc in (
      omega (arith, sum_step t l.n (omega arith)),
      strands_push a.firsts.now a.successors.now t l.cells w.new.cells l.at l.n (omega arith)
          (omega arith) e ∙ l.invariant.1,
    )

pub returns-clause-bytes : goal.returns-clause-bytes
returns-clause-bytes c =
    let l = c.loop-n in
    let a = c.args in
    let t = a.counters.now in
    let h = c.loop-n-test.false in
    let f = c.requires.filled in
    let e = strands_end a.firsts.now a.successors.now t l.at l.n (omega arith) in
    sym (append-nil (take l.at l.cells)) ∙ ap (λ r. take l.at l.cells ++ r) (sym e) ∙ l.invariant.1

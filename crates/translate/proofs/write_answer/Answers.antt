-- `write_answer` meets its contract: the text of the outcome that the translator answers.
use Prim.Native.Nat.{◌≤◌}
use mathlib.Core.Path.{◌≡◌}
use native.Mathlib.Omega.{arith}
use lib.ListN.{length, take}
use lib.Seq.{length-take-le}
use borrow.Author.Rules.{rules}
use Rattle.io.proofs.Counting.{prefix_len_of_le}
use Rattle.translate.proofs.Answers.{counts_stand, text_printed}
use Rattle.translate.proofs.write_answer.Goals as goal

pub write_outcome-requires : goal.write_outcome-requires
write_outcome-requires c =
    let t = c.translate-outcome in
    (counts_stand _ _ _ t.result _ _ t.ensures.outcome t.auto.locations t.auto.edges, search rules)

pub returns : goal.returns
returns c =
    let a = c.args in
    let t = c.translate-outcome in
    let w = c.write_outcome in
    let h : w.result ≤ length w.new.text = omega arith in
    let n : length (take a.n a.input.now) ≤ 4096 = omega (arith, length-take-le a.n a.input.now (omega arith)) in
    let p : length c.zeros-locations.result ≡ 32768 = search rules in
    let q : length c.large_buffer-edges.result ≡ 65536 = search rules in
    record {
      prefix_len = prefix_len_of_le w.result _ h;
      text_after = text_printed (take a.n a.input.now) _ _ t.result _ _ t.ensures.outcome n p q w.ensures.1;
    }

-- `answer`: the text for what was read is the text for the whole input.
use Rattle.std.proofs.Common.{◌≡◌, rules, arith, length, take, sym, subst}
use Rattle.std.proofs.lemmas.Result.{on_ok_weaker}
use Rattle.std.specs.Io.KnownBytes.{Appends}
use Rattle.translate.proofs.Answers.{printed_whole}
use Rattle.translate.proofs.answer.Goals as goal

pub returns : goal.returns
returns g c =
    let k = c.in_ok-n in
    let s = take k.n c.read_full.new.buffer in
    let counted : length s ≡ k.n = sym k.ensures.prefix_len.1 in
    let room : length c.read_full.new.buffer ≡ 4096 = search rules in
    let text = c.write_answer-end.ensures.text_after in
    on_ok_weaker c.write_all.result
    (λ w. printed_whole s _ _ _ _ k.ensures.read (λ h. k.ensures.whole (omega arith)) (subst (Appends _ _) text w))
    c.write_all.ensures.bytes

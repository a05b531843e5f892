-- `write_lines` meets its contract: the first i records are written.
use Prim.Native.Nat.{◌+◌, ◌*◌, ◌-◌}
use mathlib.Core.Path.{◌≡◌, sym, ap, ◌∙◌}
use mathlib.Core.List.{◌++◌, append_assoc}
use native.Mathlib.Omega.{arith}
use lib.ListN.{length, take, drop, length-drop, length-take}
use borrow.Author.Rules.{rules}
use borrow.Rule.Slice.PartMut.{mid_of, put_mid}
use Rattle.model.specs.Records.{record_at}
use Rattle.hex_lines.specs.Lines.{line_of, lines_of}
use Rattle.hex_lines.proofs.Lines.{lines_next, part_written}
use Rattle.hex_lines.proofs.write_lines.Goals as goal

pub write_line-requires : goal.write_line-requires
write_line-requires c =
    let i = c.loop-i-test.true in (
      ap length c.record_at.ensures ∙ simp (length-take, length-drop) (omega arith),
      simp (length-take, length-drop) (omega (arith, c.loop-i.auto.text)),
    )

pub loop-i-preserved : goal.loop-i-preserved
loop-i-preserved c =
    let b = c in
    let l = b.loop-i in
    let a = b.args in
    let i = c.loop-i-test.true in
    let to = a.at + 65 * l.i in
    let r = line_of (record_at a.table.now l.i) in
    let e : to + 65 ≡ a.at + 65 * (l.i + 1) = omega arith in
    let u = put_mid to (length l.text - to) l.text c.write_line.new.line in
    let h : length u ≡ length l.text = search rules in
    let front = take a.at a.text.now in
    ap (λ n. take n u) (sym e)
    ∙ part_written l.text r c.write_line.new.line to 65 h (omega arith) (c.write_line.ensures
    ∙ ap (λ x. line_of x ++ drop 65 (mid_of to (length l.text - to) l.text)) c.record_at.ensures)
    ∙ ap (λ x. x ++ r) l.invariant
    ∙ append_assoc front (lines_of l.i a.table.now) r
    ∙ ap (λ x. front ++ x) (sym (lines_next l.i a.table.now))

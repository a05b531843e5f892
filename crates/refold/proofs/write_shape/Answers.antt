-- `refold::write_shape` meets its contract: the pointers, the first six successors and the others, each as a number.
use Prim.Native.Nat.{ℕ}
use mathlib.Core.Path.{ap, ◌∙◌}
use native.Mathlib.Omega.{arith}
use mathlib.Core.List.{map}
use lib.ListN.{drop, get_or, length-map, take}
use Rattle.word.specs.Words.{number_of}
use Rattle.folding.specs.Fold.{fold_byte}
use Rattle.refold.specs.Worded.{shape_words}
use Rattle.refold.proofs.Worded.{lasts_low, values_low, words_are}
use Rattle.refold.proofs.write_shape.Goals as goal

pub returns : goal.returns
returns c =
    let a = c.args in
    let p = c.requires in
    let e = c.min.ensures in
    let cut = c.split_at.ensures in
    let last = a.last.now in
    let m = a.node.now in
    let cs = a.cells.now in
    let g : ℕ → ℕ = λ x. fold_byte m (get_or cs x 0) in
    let bytes = c.type_inv.pointers in
    let held = c.type_inv.cells in
    let nodes = c.type_inv.node in
    let low = c.code_successors-low.ensures.0 ∙ ap (λ l. number_of (map g l)) (cut.front ∙ ap (λ k. take k last) e) in
    let high = c.code_successors-high.ensures.0 ∙ ap (λ l. number_of (map g l)) (cut.back ∙ ap (λ k. drop k last) e) in
    let v = c.code_values-p.ensures.0 in
    c.put_words.ensures ∙ (λ i. shape_words (v i) (low i) (high i))
    ∙ words_are (map (fold_byte m) a.pointers.now) last g (length-map a.pointers.now (fold_byte m) ∙ p.six)
    p.twelve (values_low m a.pointers.now (λ i. omega (arith, nodes i)) (λ i. omega (arith, bytes i)))
    (λ l. lasts_low m cs l (λ i. omega (arith, nodes i)) (λ i. omega (arith, held i)))

-- `segment::fold_shape` meets its contract: the pointers go over the front, and the successors over what follows.
use mathlib.Core.Path.{◌∙◌}
use lib.ListN.{length, length-map}
use Rattle.folding.proofs.ListLaws.{over_front}
use mathlib.Core.List.{map}
use Rattle.folding.specs.Fold.{fold_byte}
use Rattle.folding.proofs.fold_shape.Goals as goal

pub returns : goal.returns
returns c =
    let v = c in
    let s = v in
    let a = s.args in
    let w = c.fold_successors in
    over_front a.shape.now v.fold_values.new.to (map (fold_byte a.node.now) a.pointers.now) _
    w.new.to 6 (length a.last.now) (length-map a.pointers.now _ ∙ s.requires.six)
    (rw s.requires.six at v.fold_values.ensures) w.ensures

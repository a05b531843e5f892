-- `fold_heap` meets its contract: the record is that of the shape, folded in place, and the counters past it are zero.
use mathlib.Core.List.{[]}
use native.Mathlib.Omega.{arith}
use lib.ListN.{length-append}
use borrow.Author.Rules.{rules}
use Rattle.folding.proofs.ImageLaws.{count_lasts, cut_ready, few_nodes, fold_ready, shape_is_lem}
use Rattle.heap_operations.proofs.FoldLaws.{fold_is}
use Rattle.heap_operations.proofs.fold_heap.Goals as goal

pub cut_long-k-requires : goal.cut_long-k-requires
cut_long-k-requires c =
    let p = c.requires in
    cut_ready p _ p.few (omega arith) (omega arith)

pub slice_bounds-last-end : goal.slice_bounds-last-end
slice_bounds-last-end c =
    let k = c in
    let p = k.requires in
    let few = few_nodes p k.cut_long-k.ensures.cut in
    omega (arith, k.cut_long-k.auto.last)

pub slice_bounds-fold_shape-end : goal.slice_bounds-fold_shape-end
slice_bounds-fold_shape-end c =
    let k = c in
    count_lasts k.requires k.cut_long-k.ensures.cut

pub fold_shape-requires : goal.fold_shape-requires
fold_shape-requires c =
    let k = c in
    let p = k.requires in
    let few = p.few in
    fold_ready p k.cut_long-k.ensures.cut (omega (arith, k.cut_long-k.auto.node)) _ (omega arith)

pub slice_bounds-write_head-end : goal.slice_bounds-write_head-end
slice_bounds-write_head-end c =
    let s = c.fold_shape in
    omega (arith, length-append s.new.shape [], s.auto.shape)

pub write_head-requires : goal.write_head-requires
write_head-requires c =
    let k = c in
    let p = k.requires in
    (search rules, few_nodes p k.cut_long-k.ensures.cut)

pub returns : goal.returns
returns c =
    let w = c.write_head in
    let s = c in
    let k = s in
    let p = k.requires in
    fold_is p.six (shape_is_lem p k.cut_long-k.ensures.cut _ _ s.fold_shape.ensures) w.new.part w.ensures
    k.cut_long-k.ensures.past

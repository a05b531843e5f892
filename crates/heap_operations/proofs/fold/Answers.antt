-- `fold` meets its contract: a refusal, and the fold of an image that passes the checks.
use mathlib.Core.Path.{◌∙◌}
use native.Mathlib.Omega.{arith}
use Rattle.std.proofs.lemmas.Result.{err_from_is_err_and}
use Rattle.heap_operations.proofs.FoldLaws.{count_visited, few_visited, fold_passed, fold_ready, fold_refused}
use Rattle.heap_operations.proofs.fold.Goals as goal

pub returns-in_err-n : goal.returns-in_err-n
returns-in_err-n c =
    let p = err_from_is_err_and c.from_residual.result c.from_residual.ensures.1 in
    rw (p.1, p.2) (fold_refused c.in_err-n.field-0.0 c.in_err-n.ensures)

pub slice_bounds-order-end : goal.slice_bounds-order-end
slice_bounds-order-end c = omega (arith, few_visited c.in_ok-n.ensures, c.check_image.auto.order)

pub slice_bounds-fold_heap-end : goal.slice_bounds-fold_heap-end
slice_bounds-fold_heap-end c = count_visited c.in_ok-n.ensures c.check_image.auto.order

pub fold_heap-requires : goal.fold_heap-requires
fold_heap-requires c = fold_ready c.in_ok-n.ensures c.check_image.auto.seen

pub returns : goal.returns
returns c = c.fold_heap.ensures ∙ fold_passed c.in_ok-n.ensures

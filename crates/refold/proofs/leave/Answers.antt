-- `refold::leave` meets its contract: the order is cut, the image folded into the target, and the updates summed by the
-- nodes.
use Prim.Native.Nat.{◌+◌, ◌≤◌}
use mathlib.Core.Path.{◌≡◌, refl, subst, sym, ◌∙◌}
use native.Mathlib.Omega.{arith}
use lib.ListN.{length, take}
use borrow.Rule.Slice.PartMut.{mid_of}
use Rattle.folding.specs.Fold.{folded_bytes}
use Rattle.folding.proofs.ImageLaws.{count_lasts, cut_ready, few_nodes, fold_ready, shape_is_lem}
use Rattle.refold.specs.Refold.{IsLeft}
use Rattle.refold.proofs.Leaving.{blank, folded_length, is_left, over_blank, part_room, sum_ready}
use Rattle.refold.proofs.leave.Goals as goal

pub cut-m-requires : goal.cut-m-requires
cut-m-requires c =
    let p = c.requires in
    let few = p.few in
    let old = p.few_old in
    cut_ready p.image _ (omega arith) (omega arith) (omega arith)

pub slice_bounds-last-end : goal.slice_bounds-last-end
slice_bounds-last-end c =
    let k = c.cut-m in
    omega (
      arith,
      few_nodes c.requires.image k.ensures.cut,
      k.auto.last,
    )

pub slice_bounds-write_shape-end : goal.slice_bounds-write_shape-end
slice_bounds-write_shape-end c = count_lasts c.requires.image c.cut-m.ensures.cut

pub write_shape-requires : goal.write_shape-requires
write_shape-requires c =
    let p = c.requires in
    let k = c.cut-m in
    let few = p.few in
    let old = p.few_old in
    let F = fold_ready p.image k.ensures.cut (omega (arith, k.auto.node)) (mid_of 4 28 blank) part_room in
    record {
      six = F.six;
      pointers = F.pointers;
      lasts = F.lasts;
      twelve = omega (arith, few_nodes p.image k.ensures.cut, count_lasts p.image k.ensures.cut);
      wide = p.wide;
    }

pub sum_cells-requires : goal.sum_cells-requires
sum_cells-requires c =
    let p = c.requires in
    let k = c.cut-m in
    (p.short, sum_ready p (shape_is_lem p.image k.ensures.cut (mid_of 4 28 blank) _ refl) k.auto.node)

pub returns : goal.returns
returns c =
    let s = c in
    let p = s.requires in
    let a = s.args in
    let k = c.cut-m in
    let u = c.sum_cells in
    let last = take k.result k.new.last in
    let f = folded_bytes k.new.node a.pointers.now a.cells.now last in
    let n : length f ≡ 6 + length last = folded_length k.new.node a.pointers.now a.cells.now last p.image.six in
    let twelve : length last ≤ 12 = omega (
      arith,
      few_nodes p.image k.ensures.cut,
      count_lasts p.image k.ensures.cut,
    ) in
    subst (λ t. IsLeft a.pointers.now a.cells.now a.weights t u.new.updates k.result)
    (sym (c.write_shape.ensures ∙ over_blank f (length last)
    n twelve))
    (is_left p (shape_is_lem p.image k.ensures.cut (mid_of 4 28 blank) _ refl) u.new.updates
    u.auto.updates u.ensures)

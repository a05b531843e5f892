-- `cell_sum::sum_cells` meets its contract: the bases, each at most 4096, and what the cells add.
use Prim.Native.Nat.{◌+◌}
use mathlib.Core.Path.{◌≡◌, ap, ◌∙◌}
use native.Mathlib.Omega.{arith}
use lib.ListN.{get_or, length}
use Rattle.cell_sum.specs.Codes.{plus_in, sum_at}
use Rattle.cell_sum.proofs.Sums.{base_most, ready_same}
use Rattle.cell_sum.proofs.sum_cells.Goals as goal

pub write_bases-requires : goal.write_bases-requires
write_bases-requires c =
    let s = c in
    let r = s.requires.1 in
    λ n e. (r.tabled s.args.weights.nodes (r.has_tail n e), r.nodes s.args.weights.nodes (r.has_tail n e))

pub add_cells-requires : goal.add_cells-requires
add_cells-requires c =
    let s = c in
    let a = s.args in
    let w = c.write_bases in
    let same : length w.new.updates ≡ length a.updates.now = omega arith in record {
      ready = (
        s.requires.0,
        ready_same a.cells.now a.node.now a.weights (length a.updates.now)
            (length w.new.updates) same s.requires.1,
      );
      small = λ j lt. let e = w.ensures j (omega arith) in
          omega (arith, base_most a.weights.split (get_or a.node.now a.weights.nodes 0) j);
    }

pub returns : goal.returns
returns c j lt =
    let a = c.args in
    c.add_cells.ensures j (omega arith)
    ∙ ap (λ x. x + sum_at a.node.now (plus_in a.weights) j a.cells.now)
    (c.write_bases.ensures j lt)

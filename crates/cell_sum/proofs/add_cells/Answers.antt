-- `cell_sum::add_cells` meets its contract: after i cells each entry has grown by what those of its node add, and is at
-- most 4096 for each.
use Prim.Native.Nat.{◌+◌, ◌<◌}
use mathlib.Core.Path.{◌≡◌, ap, ◌∙◌}
use native.Mathlib.Omega.{arith}
use lib.ListN.{get_or, length, set}
use lib.Seq.{take_all}
use borrow.Author.Rules.{rules}
use Rattle.model.proofs.lists.Lists.{mem_at}
use Rattle.cell_sum.specs.Codes.{plus_in, sum_at}
use Rattle.cell_sum.proofs.Sums.{added_more, added_none}
use Rattle.cell_sum.proofs.add_cells.Goals as goal
use Rattle.cell_sum.proofs.add_cells.Goals.{After-node_of-n}

pub loop-c-init : goal.loop-c-init
loop-c-init c =
    let s = c in
    let a = s.args in
    added_none a.node.now (plus_in a.weights) a.cells.now a.updates.now s.requires.small

pub node_of-n-requires : goal.node_of-n-requires
node_of-n-requires c =
    let s = c in
    let i = c.loop-c.c-index in
    let cells = s.args.cells.now in
    s.requires.ready.1.tabled (get_or cells i 0) (mem_at cells i (search rules))

pub cell_plus-plus-requires : goal.cell_plus-plus-requires
cell_plus-plus-requires c =
    let s = c in
    let i = c.loop-c.c-index in
    let cells = s.args.cells.now in
    let r = s.requires.ready.1 in
    (r.below (get_or cells i 0) (mem_at cells i (search rules)), r.few_old, r.is_node)

-- the cell's node has an entry
node_below : (c : After-node_of-n)
    → c.node_of-n.result.0 < length c.loop-c.updates
node_below c =
    let s = c in
    let i = c.loop-c.c-index in
    let cells = s.args.cells.now in
    omega (arith, c.node_of-n.ensures, s.requires.ready.1.nodes (get_or cells i 0) (mem_at cells i (search rules)))

pub add_code-requires : goal.add_code-requires
add_code-requires c =
    let s = c in
    let l = c.loop-c in
    let n = c.node_of-n.result.0 in
    let lt : n < length s.args.updates.now =
    omega (arith, node_below (goal.at.add_code-requires c).After-node_of-n) in (
      node_below (goal.at.add_code-requires c).After-node_of-n,
      omega (arith, (l.invariant n lt).1, s.requires.ready.0, c.cell_plus-plus.ensures.1),
    )

pub loop-c-preserved : goal.loop-c-preserved
loop-c-preserved c =
    let a = c.args in
    let l = c.loop-c in
    let p = c.cell_plus-plus in
    let t = get_or a.node.now (get_or a.cells.now l.c-index 0) 0 in
    let lt : t < length l.updates = omega (
      arith,
      c.node_of-n.ensures,
      node_below (goal.at.loop-c-preserved c).After-node_of-n,
    ) in
    let e : c.add_code.new.updates ≡ set l.updates t (get_or l.updates t 0 + p.result) =
    c.add_code.ensures ∙ ap (λ x. set l.updates x (get_or l.updates x 0 + p.result))
    c.node_of-n.ensures in
    rw e (added_more a.node.now (plus_in a.weights) a.cells.now a.updates.now l.updates l.c-index p.result
    (omega arith) (omega arith) lt p.ensures.0 p.ensures.1 l.invariant)

pub returns : goal.returns
returns c j lt =
    let a = c.args in
    let l = c.loop-c in
    (l.invariant j lt).0
    ∙ ap (λ t. get_or a.updates.now j 0 + sum_at a.node.now (plus_in a.weights) j t)
    (take_all l.c-index a.cells.now (omega arith))

pub overflow_cast-c : goal.overflow_cast-c
overflow_cast-c c = omega (arith, c.type_inv.cells c.loop-c.c-index)

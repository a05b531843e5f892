-- `add_way` meets its contract: what the way leaves is its edge, as bytes.
use native.Mathlib.Omega.{arith}
use borrow.Author.Rules.{rules}
use Rattle.location_edges.proofs.add_way.Goals as goal

pub one_edge-made-requires : goal.one_edge-made-requires
one_edge-made-requires c =
    let p = c.requires in
    record {
      number = p.number;
      shape = p.shape;
      ready = p.is_edge.ready;
      wide = search rules;
      room = search rules;
    }

pub add_edge-requires : goal.add_edge-requires
add_edge-requires c =
    let o = c.one_edge-made in
    let p = c.requires in
    let E = o.ensures p.number p.shape p.is_edge.ready p.edge p.is_edge.made in
    record {
      list = p.list;
      held = p.held;
      edge = p.edge;
      good = p.is_edge.good;
      branch = p.is_edge.branch;
      guarded = p.is_edge.guarded;
      bytes = E;
      low = p.low;
      wide = search rules;
      room = omega (arith, E.few, o.auto.updates);
    }

pub returns-clause-added : goal.returns-clause-added
returns-clause-added c s h E t W H =
    let o = c.one_edge-made in
    c.add_edge.ensures.grown t E H W.good (o.ensures s h W.ready E W.made)

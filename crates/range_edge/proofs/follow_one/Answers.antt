-- `follow_one` meets its contract: the first guard cuts the ranges, then the second, and what is left is moved.
use mathlib.Core.Path.{refl, subst}
use mathlib.Core.Logic.{inl, inr}
use Rattle.model.specs.Notions.{In}
use Rattle.model.specs.Structs.{code_in}
use Rattle.range_edge.proofs.follow_one.Goals as goal

-- the guards are those of the record, whose nodes are within twelve
pub cut-requires : goal.cut-requires
cut-requires c =
    let first = code_in c.guards_of-guards.result.first in
    c.requires.guard_nodes first (subst (In first) c.guards_of-guards.ensures (inl refl))

pub cut-requires-2 : goal.cut-requires-2
cut-requires-2 c =
    let second = code_in c.guards_of-guards.result.second in
    c.requires.guard_nodes second (subst (In second) c.guards_of-guards.ensures (inr (inl refl)))

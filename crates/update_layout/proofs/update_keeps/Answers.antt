-- `update_keeps` meets its contract: first its constant and its counters, then what it gives.
use mathlib.Core.Path.{◌≡◌, ◌∙◌, ap, sym}
use mathlib.Core.Bool.{Bool, true, ◌&&◌, not}
use lib.Dec.{ltb}
use borrow.Author.Tests.{ltb-true}
use Rattle.model.specs.Layout.{constant_keeps, could_fall, counters_there}
use Rattle.model.proofs.lists.Logic.{and_both, and_l, and_r}
use Rattle.model.specs.Structs.{code_in}
use Rattle.update_layout.specs.Kept.{codes_in, update_keeps}
use Rattle.update_layout.proofs.Least.{falls_plain, sound, update_off, update_on}
use Rattle.update_layout.proofs.update_keeps.Goals as goal
use Rattle.update_layout.proofs.update_keeps.Goals.{Else-update-nodes}

pub returns-then-update-nodes : goal.returns-then-update-nodes
returns-then-update-nodes c =
    let a = c.args in
    update_off a.update a.nodes (not (could_fall a.nodes (codes_in a.guards) a.update)) c.if-update-nodes.true

-- the two tests before the guards
on : (c : Else-update-nodes) → (constant_keeps c.args.update ≡ true)
    × (counters_there c.args.nodes c.args.update ≡ true)
on c = update_on c.args.update c.args.nodes c.if-update-nodes.false

-- past them, what is left is whether it could fall
left : (c : Else-update-nodes) {b : Bool} → could_fall c.args.nodes (codes_in c.args.guards)
    c.args.update ≡ b → not b ≡ update_keeps c.args.nodes (codes_in c.args.guards)
    c.args.update
left c e =
    let s = c in
    let u = s.args.update in
    let k = s.args.nodes in
    ap not (sym e)
    ∙ sym (ap (λ b. b && not (could_fall k (codes_in s.args.guards) u))
    (and_both (constant_keeps u) (counters_there k u) (on c).0 (on c).1))

pub returns-then-update : goal.returns-then-update
returns-then-update c =
    let e = c in
    let s = e in
    let u = s.args.update in
    let k = s.args.nodes in
    let a = code_in s.args.guards.first in
    let b = code_in s.args.guards.second in
    let low = ltb-true 4096 u (and_l (ltb 4096 u) (ltb u 8192) c.if-update.true) in
    let high = ltb-true u 8192 (and_r (ltb 4096 u) (ltb u 8192) c.if-update.true) in
    left (goal.at.returns-then-update c).Else-update-nodes
    (falls_plain k u a b s.requires.0 (on (goal.at.returns-then-update c).Else-update-nodes).0
    (on (goal.at.returns-then-update c).Else-update-nodes).1 (sound k a s.requires.1.first)
    (sound k b s.requires.1.second) low high)

pub falls-requires : goal.falls-requires
falls-requires c = let e = c in let s = e in (
  s.requires.0,
  (on (goal.at.falls-requires c).Else-update-nodes).0,
  (on (goal.at.falls-requires c).Else-update-nodes).1,
  s.requires.1,
)

pub returns : goal.returns
returns c = left (goal.at.returns c).Else-update-nodes (sym c.falls.ensures)

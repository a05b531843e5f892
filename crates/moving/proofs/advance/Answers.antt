-- `advance` meets its contract: an edge that carries every counter leaves them, and another puts the new ones.
use Prim.Native.Nat.{◌≤◌}
use mathlib.Core.Path.{◌≡◌, ◌∙◌, ap, subst, sym}
use mathlib.Core.Bool.{true}
use mathlib.Core.List.{map}
use native.Mathlib.Omega.{arith}
use lib.ListN.{drop}
use Rattle.std.proofs.lemmas.Result.{err_from_is_err_and}
use Rattle.model.specs.Base.{all}
use Rattle.model.specs.Records.{byte, filled, is_zero, record_at, word}
use Rattle.model.specs.Runs.{applied, updates_of}
use Rattle.model.specs.Walking.{in_counters, stays_with}
use Rattle.moving.specs.Advanced.{Carries, standing}
use Rattle.moving.proofs.Advancing.{advanced_done, advanced_over, carried_filled, carried_fits}
use Rattle.moving.proofs.advance.Goals as goal
use Rattle.moving.proofs.advance.Goals.{After-nodes_at-nodes}

-- the node count that was read is the target's
nodes_are : (c : After-nodes_at-nodes) → let a = c.args in
    c.nodes_at-nodes.result ≡ byte (record_at a.locations.now (word a.rec.now 4)) 3
nodes_are c =
    let a = c.args in
    c.nodes_at-nodes.ensures ∙ ap (λ i. byte (record_at a.locations.now i) 3) c.two-to.ensures

few : (c : After-nodes_at-nodes) → c.nodes_at-nodes.result ≤ 12
few c = omega (arith, nodes_are c, c.requires.few)

pub nodes_at-nodes-requires : goal.nodes_at-nodes-requires
nodes_at-nodes-requires c = omega (arith, c.requires.target, c.two-to.ensures)

pub nodes_at-requires : goal.nodes_at-requires
nodes_at-requires c = c.requires.source

pub carries-requires : goal.carries-requires
carries-requires c = (c.requires.whole, few (goal.at.carries-requires c).After-nodes_at-nodes)

pub returns-then-carries : goal.returns-then-carries
returns-then-carries c =
    let d = c in
    let s = d in
    let a = s.args in
    let r = a.rec.now in
    let cs = a.counters.now in
    let k = byte (record_at a.locations.now (word r 4)) 3 in
    let h = c.carries.ensures c.if-carries.true in
    let C : Carries r k = subst (Carries r) (nodes_are (goal.at.returns-then-carries c).After-nodes_at-nodes) h.1 in
    let old : byte (record_at a.locations.now a.location) 3 ≡ k =
    sym c.nodes_at.ensures ∙ h.0 ∙ nodes_are (goal.at.returns-then-carries c).After-nodes_at-nodes in
    let z = subst (λ n. all is_zero (drop n cs) ≡ true) old s.requires.zeros in
    advanced_done r k (standing a.location cs) d.two-to.result cs d.two-to.ensures
    (carried_fits r cs k s.requires.few c.told-counters C c.fits-counters)
    (carried_filled r cs k s.requires.few c.told-counters C z)

pub replace_counters-requires : goal.replace_counters-requires
replace_counters-requires c = (c.requires.whole, few (goal.at.replace_counters-requires c).After-nodes_at-nodes)

-- the new counters are those of the target's nodes
vs_are : (c : After-nodes_at-nodes) → let a = c.args in
    map (applied a.counters.now) (updates_of c.nodes_at-nodes.result a.rec.now)
    ≡ map (applied a.counters.now) (updates_of (byte (record_at a.locations.now (word a.rec.now 4)) 3) a.rec.now)
vs_are c = ap (λ n. map (applied c.args.counters.now) (updates_of n c.args.rec.now)) (nodes_are c)

pub returns-in_err-replace_counters : goal.returns-in_err-replace_counters
returns-in_err-replace_counters c =
    let a = c.args in
    let e = c.in_err-replace_counters.ensures in
    let p = err_from_is_err_and c.from_residual.result c.from_residual.ensures.1 in
    rw (p.1, p.2, e.0) (ap (λ cs. stays_with 21 (standing a.location cs)) e.2
    ∙ advanced_over a.rec.now (byte (record_at a.locations.now (word a.rec.now 4)) 3)
    (standing a.location a.counters.now)
    (ap in_counters (sym (vs_are (goal.at.returns-in_err-replace_counters c).After-nodes_at-nodes)) ∙ e.1))

pub returns : goal.returns
returns c =
    let a = c.args in
    let e = c.in_ok-replace_counters.ensures in
    let v = vs_are (goal.at.returns c).After-nodes_at-nodes in
    advanced_done a.rec.now (byte (record_at a.locations.now (word a.rec.now 4)) 3) (standing a.location a.counters.now)
    c.two-to.result c.replace_counters.new.counters c.two-to.ensures (ap in_counters (sym v) ∙ e.0)
    (e.1 ∙ ap (filled 12) v)

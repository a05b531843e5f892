-- `leads` meets its contract: the location first, then both guards.
use mathlib.Core.Path.{◌∙◌, ap, ap₂, refl, subst, sym}
use mathlib.Core.Bool.{◌&&◌}
use mathlib.Core.Logic.{inl, inr}
use lib.Dec.{eqb}
use borrow.Author.Tests.{eq-eqb, ne_eqb}
use Rattle.model.specs.Notions.{In}
use Rattle.model.specs.Runs.{guards_hold, guards_of}
use Rattle.model.specs.Structs.{code_in}
use Rattle.moving.proofs.Along.{both_hold}
use Rattle.moving.proofs.leads.Goals as goal

pub returns-then-two-location : goal.returns-then-two-location
returns-then-two-location c =
    let a = c.args in
    let w = c.two.ensures in
    sym (ap (λ b. b && guards_hold a.counters.now (guards_of a.rec.now))
    (ap (λ n. eqb n a.location) (sym w) ∙ ne_eqb _ _ c.if-two-location.true))

pub holds-requires : goal.holds-requires
holds-requires c =
    let g = c.guards_of-guards in
    c.requires.1 (code_in g.result.first) (subst (In (code_in g.result.first)) g.ensures (inl refl))

pub holds-requires-2 : goal.holds-requires-2
holds-requires-2 c =
    let g = c.guards_of-guards in
    c.requires.1 (code_in g.result.second) (subst (In (code_in g.result.second)) g.ensures (inr (inl refl)))

pub returns : goal.returns
returns c =
    let e = c in
    let a = e.args in
    let g = c.guards_of-guards in
    let cs = a.counters.now in
    ap₂ ◌&&◌ c.holds.ensures c.holds-2.ensures
    ∙ both_hold cs (code_in g.result.first) (code_in g.result.second) g.ensures
    ∙ sym (ap (λ b. b && guards_hold cs (guards_of a.rec.now))
    (ap (λ n. eqb n a.location) (sym e.two.ensures) ∙ eq-eqb _ _ e.if-two-location.false))

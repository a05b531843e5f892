-- `search::same_eight` meets its contract: parts of eight bytes are the same exactly where their numbers are.
use mathlib.Core.Path.{sym, ap₂, ◌∙◌}
use native.Mathlib.Omega.{arith}
use lib.Dec.{eqb}
use Rattle.search.proofs.Keys.{eight_is}
use Rattle.search.proofs.same_eight.Goals as goal

pub returns : goal.returns
returns c =
    let s = c in
    let a = s.args in
    let t = c.type_inv.table in
    let r = c.type_inv.rec in
    ap₂ eqb c.eight.ensures c.eight-2.ensures
    ∙ sym (eight_is a.table.now a.at a.rec.now a.from s.requires.0 s.requires.1
    (λ i. omega (arith, t i)) (λ i. omega (arith, r i)))

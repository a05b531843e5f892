-- `put_number` meets its contract: the library's digits are the number's text.
use mathlib.Core.Path.{ap, ◌∙◌}
use mathlib.Core.List.{◌++◌}
use native.Mathlib.Omega.{arith}
use lib.ListN.{take}
use Rattle.text.proofs.Decimal.{decimal_is, decimal_short}
use Rattle.text.proofs.put_number.Goals as goal

pub put-requires : goal.put-requires
put-requires c =
    let d = c.decimal-k in
    let h = decimal_short _ d.result d.ensures.len (omega arith) in
    omega arith

pub returns : goal.returns
returns c =
    let a = c.args in
    let d = c.decimal-k in
    let h = decimal_short _ d.result d.ensures.len (omega arith) in
    let e = d.ensures.digits ∙ decimal_is a.n d.result d.ensures.len in
    (omega arith, c.put.ensures.1 ∙ ap (λ w. take a.at a.text.now ++ w) e)

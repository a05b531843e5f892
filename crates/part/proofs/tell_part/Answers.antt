-- `tell_part` meets its contract: where the record begins and its length, or zeros.
use mathlib.Core.Path.{◌≡◌, ◌∙◌, ap, sym}
use native.Mathlib.Omega.{arith}
use lib.ListN.{length}
use Rattle.model.specs.Answers.{refusal_of}
use Rattle.model.specs.Part.{record_part}
use Rattle.model.specs.Structs.{tables_lent}
use Rattle.model.proofs.listings.Parts.{part_empty, part_holds, part_low}
use Rattle.part.proofs.tell_part.Goals as goal

pub overflow_mul-number : goal.overflow_mul-number
overflow_mul-number c =
    let a = c.args in
    let t = tables_lent a.tables in
    let h = part_holds t a.mark a.number (sym c.in-Ok.ensures.ended) in
    record { fits = omega (arith, h.0, part_low t a.mark a.number) }

pub returns-in-Ok-clause-tells : goal.returns-in-Ok-clause-tells
returns-in-Ok-clause-tells c =
    let a = c.args in
    let t = tables_lent a.tables in
    let h = part_holds t a.mark a.number (sym c.in-Ok.ensures.ended) in
    let place : 0 ≡ (refusal_of (record_part t a.mark a.number).verdict).place =
    ap (λ v. (refusal_of v).place) c.in-Ok.ensures.ended in
    let size : length c.in-Ok.part.now ≡ (record_part t a.mark a.number).size =
    ap length c.in-Ok.ensures.part ∙ h.3 ∙ sym h.1 in
    cc

pub returns-in-Err-clause-tells : goal.returns-in-Err-clause-tells
returns-in-Err-clause-tells c =
    let a = c.args in
    let t = tables_lent a.tables in
    let h = part_empty t a.mark a.number _ (sym c.in-Err.ensures.ended) in
    let place : 0 ≡ (refusal_of (record_part t a.mark a.number).verdict).place =
    ap (λ v. (refusal_of v).place) c.in-Err.ensures.ended in
    let size : length c.in-Err.refusal.part.now ≡ (record_part t a.mark a.number).size =
    ap length (c.in-Err.ensures.part ∙ h.2) ∙ sym h.1 in
    cc

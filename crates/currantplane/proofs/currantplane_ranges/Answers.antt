-- `currantplane_ranges` meets its contract: a refusal is told by its number and its place.
use mathlib.Core.Path.{◌∙◌, ap, refl, sym}
use Rattle.model.specs.Ranges.{ranged_to, ranging}
use Rattle.answers.specs.Numbers.{told}
use Rattle.currantplane.proofs.currantplane_ranges.Goals as goal

pub returns-in-Err : goal.returns-in-Err
returns-in-Err c =
    let a = c.args in
    let e = c.in-Err.ensures.1
    ∙ ap (λ t. ranged_to (ranging t a.start a.ranges.now a.path.now)) c.lent-tables.ensures in
    rw (sym e) record {
      number = c.number.ensures;
      ranges = refl;
      tells = c.tell-in-Err.ensures ∙ ap (λ p. told a.answer.now p 0 0) c.place.ensures;
    }

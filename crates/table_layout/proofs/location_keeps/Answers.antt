-- `location_keeps` meets its contract: the head, then a shape or zeros.
use mathlib.Core.Path.{ap, ◌∙◌}
use Rattle.model.specs.Base.{all}
use Rattle.model.specs.Records.{is_zero}
use Rattle.model.proofs.lists.Slices.{part_from}
use Rattle.table_layout.proofs.Records.{head_off, location_fault, location_shape}
use Rattle.table_layout.proofs.location_keeps.Goals as goal

pub returns-then-rec : goal.returns-then-rec
returns-then-rec c = head_off c.args.rec.now c.if-rec.true

pub returns-then-rec-eq0 : goal.returns-then-rec-eq0
returns-then-rec-eq0 c =
    let e = c in
    let r = e.args.rec.now in
    c.shape_ok.ensures ∙ location_shape r e.if-rec.false c.if-rec-eq0.true

pub returns : goal.returns
returns c =
    let e = c in
    let r = e.args.rec.now in
    c.all_zero.ensures ∙ ap (all is_zero) (part_from r 3)
    ∙ location_fault r e.if-rec.false c.if-rec-eq0.false

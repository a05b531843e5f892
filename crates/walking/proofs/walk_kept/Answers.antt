-- `walk_kept` meets its contract: after as many moves the rest of the path decides, and the layout is kept.
use mathlib.Core.Path.{◌∙◌, ap, refl}
use borrow.Author.Rules.{rules}
use Rattle.model.specs.Codes.{move_refusal_number}
use Rattle.model.specs.Structs.{tables_lent}
use Rattle.model.specs.Walking.{walked_to}
use Rattle.moving.specs.Advanced.{standing}
use Rattle.walking.proofs.Paths.{moved_on, refused_same, refused_there, told_nonzero}
use Rattle.walking.proofs.walk_kept.Goals as goal

pub returns-in-Err : goal.returns-in-Err
returns-in-Err c =
    let a = c.args in
    let l = c.loop-made in
    let r = c.in-Err.refusal in
    let here = standing l.location l.counters in
    ap (λ cs. walked_to (move_refusal_number r) l.made (standing l.location cs))
    (refused_same (tables_lent a.tables) a.configuration a.path.now l.made here l.invariant (search rules)
    c.in-Err.ensures (told_nonzero r))
    ∙ refused_there (tables_lent a.tables) a.configuration a.path.now l.made here l.invariant (search rules)
    c.in-Err.ensures (told_nonzero r)

pub loop-made-preserved : goal.loop-made-preserved
loop-made-preserved c =
    let a = c.args in
    let l = c.loop-made in
    moved_on (tables_lent a.tables) a.configuration a.path.now l.made (standing l.location l.counters) l.invariant
    (search rules) c.in-Ok.ensures refl

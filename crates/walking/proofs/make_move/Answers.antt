-- `make_move` meets its contract: what breaks the layout is refused, and else the edge is taken.
use mathlib.Core.Path.{◌∙◌, sym}
use Rattle.std.proofs.lemmas.Result.{err_from_is_err_and}
use Rattle.model.specs.Structs.{tables_lent}
use Rattle.model.proofs.runs.OneMove.{moved_broken}
use Rattle.walking.proofs.Paths.{refused_is}
use Rattle.walking.proofs.make_move.Goals as goal

pub returns-then-not-keeps : goal.returns-then-not-keeps
returns-then-not-keeps c = sym (moved_broken (tables_lent c.args.tables) c.args.configuration c.args.number
    (sym c.keeps.ensures ∙ c.if-not-keeps.true))

pub returns-in_err-location : goal.returns-in_err-location
returns-in_err-location c =
    let p = err_from_is_err_and c.from_residual.result c.from_residual.ensures.1 in
    rw (p.1, p.2) (refused_is (tables_lent c.args.tables) c.args.configuration c.args.number c.in_err-location.field-0.0
    c.in_err-location.ensures)

-- `make_walk` meets its contract: a walk that is too long, then what breaks the layout, and else the moves one by one.
use mathlib.Core.Path.{◌∙◌, sym}
use Rattle.model.specs.Structs.{tables_lent}
use Rattle.model.proofs.runs.Along.{walk_broken, walk_kept, walk_long}
use Rattle.walking.proofs.make_walk.Goals as goal
use Rattle.walking.proofs.make_walk.Goals.{then-path-gt-MOST_MOVES-via-then-path-gt-MOST_MOVES, then-path-gt-MOST_MOVES-via-else-path-gt-MOST_MOVES+then-not-keeps}

pub returns-then-path-gt-MOST_MOVES : goal.returns-then-path-gt-MOST_MOVES
returns-then-path-gt-MOST_MOVES c =
    let a = c.args in
    elim c.then-path-gt-MOST_MOVES.branch [
      | then-path-gt-MOST_MOVES-via-then-path-gt-MOST_MOVES w ↦
          sym (walk_long (tables_lent a.tables) a.configuration a.path.now w.if-path-gt-MOST_MOVES.true)
      | then-path-gt-MOST_MOVES-via-else-path-gt-MOST_MOVES+then-not-keeps w ↦
          sym (walk_broken (tables_lent a.tables) a.configuration a.path.now
          (sym w.keeps.ensures ∙ w.if-not-keeps.true))
    ]

pub returns : goal.returns
returns c =
    let a = c.args in
    c.walk_kept.ensures
    ∙ sym (walk_kept (tables_lent a.tables) a.configuration a.path.now c.if-path-gt-MOST_MOVES.false
    (sym c.keeps.ensures ∙ c.if-not-keeps.false))

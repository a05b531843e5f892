-- `walk_kept` meets its contract: after as many moves the rest of the path decides, and the layout is kept.
use Rattle.model.specs.Structs.{tables_lent}
use Rattle.moving.specs.Advanced.{standing}
use Rattle.walking.proofs.Paths.{Standing}
use Rattle.walking.proofs.walk_kept.Given as goal

abbrev pub invariant-loop-made : goal.invariant-loop-made
invariant-loop-made l = Standing (tables_lent l.tables) (standing l.initial.location l.initial.counters) l.path l.made
    (standing l.location l.counters)

-- `range_checks::go_along` meets its contract: after as many edges the rest of the path decides.
use Rattle.model.specs.Structs.{tables_lent}
use Rattle.range_checks.proofs.Links.{Led}
use Rattle.range_checks.proofs.go_along.Given as goal

abbrev pub invariant-loop-position : goal.invariant-loop-position
invariant-loop-position l = Led (tables_lent l.tables) l.start l.path l.position l.location

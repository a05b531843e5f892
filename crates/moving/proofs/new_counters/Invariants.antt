-- `new_counters` meets its contract: the counters of the first j nodes are put.
use Rattle.moving.proofs.Advancing.{Put}
use Rattle.moving.proofs.new_counters.Given as goal

abbrev pub invariant-loop-j : goal.invariant-loop-j
invariant-loop-j l = Put l.rec l.counters l.nodes l.initial.next l.j l.next

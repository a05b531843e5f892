-- `index::find` meets its contract: the chain of the hash is followed from its head.
use Rattle.model.specs.Answers.{found_of}
use Rattle.index.specs.Index.{after}
use Rattle.index.proofs.Chains.{Follows}
use Rattle.index.proofs.find.Given as goal

abbrev pub invariant-loop-next : goal.invariant-loop-next
invariant-loop-next l = Follows l.index l.h l.table l.count l.rec (after (found_of l.next))

abbrev pub decreases-loop-next : goal.decreases-loop-next
decreases-loop-next l = after (found_of l.next)

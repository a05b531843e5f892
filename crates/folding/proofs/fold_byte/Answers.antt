-- `segment::fold_byte` meets its contract.
use Prim.Native.Nat.{◌<◌}
use borrow.Author.Rules.{rules}
use borrow.Author.Tests.{lt-ltb, le-ltb}
use Rattle.folding.proofs.fold_byte.Goals as goal

pub bounds-node-b : goal.bounds-node-b
bounds-node-b c = c.requires (search rules)

pub returns-then-b-lt-UNUSED : goal.returns-then-b-lt-UNUSED
returns-then-b-lt-UNUSED c = let h : c.args.b < 0xfd = search rules in rw (lt-ltb _ _ h)

pub returns-else-b-lt-UNUSED : goal.returns-else-b-lt-UNUSED
returns-else-b-lt-UNUSED c = simp (le-ltb _ _ c.if-b-lt-UNUSED.false)

-- `way::way_at` meets its contract: through one node, or two.
use Rattle.way.proofs.way_at.Goals as goal

pub returns-in-One : goal.returns-in-One
returns-in-One c = rw c.in-One.is c.single_way.ensures

pub returns-in-Two : goal.returns-in-Two
returns-in-Two c = rw c.in-Two.is c.double_way.ensures

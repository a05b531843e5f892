-- `is_askable` meets its contract: the tables are checked first, then the start and the length.
use mathlib.Core.Path.{ap}
use mathlib.Core.Bool.{◌&&◌}
use lib.Dec.{leb, ltb}
use lib.ListN.{length}
use Rattle.ranging.proofs.is_askable.Goals as goal

pub returns-then-tables_keep : goal.returns-then-tables_keep
returns-then-tables_keep c =
    let a = c.args in
    ap (λ b. b && ltb a.start a.tables.counts.locations && leb (length a.path.now) 4096) c.if-tables_keep.ensures

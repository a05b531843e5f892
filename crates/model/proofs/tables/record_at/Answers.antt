-- `record_at` meets its contract: the first chunk of what is left from the record on.
use mathlib.Core.Path.{ap, ◌∙◌}
use Prim.Native.Nat.{◌*◌}
use lib.ListN.{take}
use Rattle.std.proofs.lemmas.Option.{MatchOption-at_some}
use Rattle.model.specs.Base.{record_size}
use Rattle.model.proofs.lists.Slices.{part_from}
use Rattle.model.proofs.tables.record_at.Goals as goal

pub returns : goal.returns
returns c =
    let chunk = MatchOption-at_some _ _ _ c.unwrap.ensures c.first_chunk.ensures.cases in
    chunk.same ∙ ap (take record_size) (part_from c.args.table.now (record_size * c.args.n))

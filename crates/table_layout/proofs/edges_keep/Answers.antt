-- `edges_keep` meets its contract: each record is one of the table's.
use mathlib.Core.Path.{refl}
use borrow.Author.Rules.{rules}
use borrow.Author.Tests.{tests}
use native.Mathlib.Omega.{arith}
use Rattle.std.proofs.lemmas.Iterator.{serves_from_Range, YieldsList-from_range}
use Rattle.std.proofs.lemmas.Iterator.Search.{all_from_yields_List}
use Rattle.model.specs.Layout.{edge_keeps_in}
use Rattle.model.specs.Records.{record_at}
use Rattle.model.specs.Structs.{tables_lent}
use Rattle.edge_layout.proofs.Ranges.{all_range, record_whole}
use Rattle.table_layout.proofs.edges_keep.Goals as goal

pub all-requires-clause-callable : goal.all-requires-clause-callable
all-requires-clause-callable c = serves_from_Range (λ x q k. search rules) (λ x l h. search (rules, record_whole))

pub returns : goal.returns
returns c =
    let t = tables_lent c.args.tables in
    let p = λ (n : _). edge_keeps_in t (record_at t.edge_bytes n) in
    all_range p t.edge_count (all_from_yields_List p _ _ c.all.result c.all.ensures.ran
    (YieldsList-from_range 0 t.edge_count t.edge_count refl (omega arith)) (λ x b q k. search (rules, tests)))

-- `range_checks::is_linked` meets its contract: the edge is in the table, and the word is read in its record.
use mathlib.Core.Path.{◌∙◌, ap, sym}
use mathlib.Core.Bool.{◌&&◌}
use lib.Dec.{eqb}
use borrow.Author.Tests.{lt-ltb}
use Rattle.model.specs.Records.{record_at, word}
use Rattle.range_checks.proofs.is_linked.Goals as goal

pub returns-then-n-tables : goal.returns-then-n-tables
returns-then-n-tables c =
    let t = c.args.tables in
    ap (λ w. eqb w c.args.location) (c.two.ensures ∙ ap (λ r. word r 2) c.record_at.ensures)
    ∙ sym (ap (λ b. b && eqb (word (record_at t.edges.now c.args.n) 2) c.args.location)
    (lt-ltb c.args.n t.counts.edges c.if-n-tables.true))

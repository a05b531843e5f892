-- `write_outcome` meets its contract: the text of each case.
use mathlib.Core.Path.{ap, ◌∙◌}
use borrow.Author.Rules.{rules}
use Rattle.std.specs.Option.{unwrap_or}
use Rattle.text.proofs.Outcome.{listed_text, numbers_text}
use Rattle.text.proofs.write_outcome.Goals as goal

pub write_tables-requires : goal.write_tables-requires
write_tables-requires c = (rw c.in-Ok.is at c.requires.0, search rules)

pub returns-in-Ok : goal.returns-in-Ok
returns-in-Ok c =
    let w = c.write_tables in
    let a = c.args in
    (w.ensures.0, w.ensures.1 ∙ listed_text a.locations.now a.edges.now c.in-Ok.is)

pub returns-in-Err : goal.returns-in-Err
returns-in-Err c =
    let w = c.write_refusal in
    let a = c.args in
    let node = c.unwrap_or-node.ensures ∙ ap (λ o. unwrap_or o (record { 0 = 0 })) c.node.ensures in
    (search rules, w.ensures.1 ∙ numbers_text a.locations.now a.edges.now c.in-Err.is c.number.ensures node)

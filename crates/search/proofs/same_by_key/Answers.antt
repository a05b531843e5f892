-- `search::same_by_key` meets its contract: records with different keys are different.
use mathlib.Core.Path.{sym, ◌∙◌}
use Rattle.std.proofs.lemmas.Bool.{ne_eqb}
use Rattle.search.proofs.Keys.{key_differ}
use Rattle.search.proofs.same_by_key.Goals as goal

pub returns-else-key-k : goal.returns-else-key-k
returns-else-key-k c =
    let s = c in
    let a = s.args in
    ne_eqb c.key.result a.k c.if-key-k.false
    ∙ sym (key_differ a.table.now a.at a.rec.now s.requires.1 s.requires.0
    (λ e. c.if-key-k.false (c.key.ensures ∙ e ∙ sym s.requires.2)))

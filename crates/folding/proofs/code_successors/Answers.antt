-- `folding::code_successors` meets its contract: at a cell is found what it holds.
use Prim.Native.Nat.{ℕ}
use mathlib.Core.Path.{ap, ◌∙◌}
use mathlib.Core.List.{map, map-map}
use lib.ListN.{get_or}
use borrow.Author.Rules.{rules}
use Rattle.word.specs.Words.{number_of}
use Rattle.folding.specs.Fold.{fold_byte}
use Rattle.folding.proofs.Coded.{found_is}
use Rattle.folding.proofs.code_successors.Goals as goal

pub returns : goal.returns
returns c =
    let a = c.args in
    let f = c.code_each.ensures in
    let held : ℕ → ℕ = λ x. get_or a.cells.now x 0 in
    let e = found_is _ held a.last.now f.0 (λ i b h p. search rules) f.1 in
    (f.2 ∙ ap (λ l. number_of (map (fold_byte a.node.now) l)) e ∙ ap number_of (map-map _ _ _), f.3)

-- `edge::move_to` meets its contract: the location's record is copied; then its first word, with the statement.
use Prim.Native.Nat.{ℕ, ◌+◌, ◌*◌, ◌/◌, ◌%◌}
use mathlib.Core.Path.{ap₂, ◌∙◌}
use mathlib.Core.List.{List, ◌++◌}
use native.Mathlib.Omega.{arith}
use lib.ListN.{drop}
use borrow.Author.Rules.{rules}
use Rattle.word.specs.Words.{bytes_of}
use Rattle.word.proofs.Codes.{copied_all, second_put}
use Rattle.edge.proofs.move_to.Goals as goal

-- the list t with the word x at its front, whose second byte is replaced
abbrev with_second : ℕ → ℕ → List ℕ → List ℕ
with_second b x t = bytes_of 8 (x % 256 + 256 * b + 0x1_0000 * (x / 0x1_0000)) ++ drop 8 t

pub returns : goal.returns
returns c =
    let s = c in
    let a = s.args in
    let l = a.location.now in
    let g = c.type_inv.location in
    c.put_eight.ensures
    ∙ ap₂ (with_second a.to.0) c.eight-first.ensures
    (c.copy_record.ensures
    ∙ copied_all l a.target.now s.requires.0 s.requires.1)
    ∙ second_put l a.to.0 (omega (arith, s.requires.0)) (λ i. omega (arith, g i)) (search rules)

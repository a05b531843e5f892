-- `write_edge` meets its contract: a blank record, its first eight bytes, and its updates.
use Prim.Native.Nat.{ℕ, ◌+◌, ◌*◌}
use mathlib.Core.Path.{◌≡◌, ap, ap₂, ◌∙◌}
use mathlib.Core.List.{List, [], ◌∷◌, ◌++◌, map}
use native.Mathlib.Omega.{arith}
use lib.ListN.{drop, get_or, length, take}
use lib.Seq.{length-take-le, take-take}
use Rattle.model.specs.Base.{joined}
use Rattle.model.specs.Records.{two_bytes}
use Rattle.record.proofs.Bytes.{edge_head, edge_is, low_high, with_updates}
use Rattle.record.proofs.write_edge.Goals as goal

pub returns : goal.returns
returns c =
    let a = c.args in
    let e = a.fields in
    let us = a.updates.now in
    let g = e.guards.first in
    let from : c.to_le_bytes-from.result ≡ two_bytes e.from =
    c.to_le_bytes-from.ensures ∙ low_high e.from (omega arith) in
    let to : c.to_le_bytes-to.result ≡ two_bytes e.to = c.to_le_bytes-to.ensures ∙ low_high e.to (omega arith) in
    let head : c.copy_from_slice.new.self ≡ edge_head e =
    c.copy_from_slice.ensures.after
    ∙ (λ i. 0x45 ∷ c.branch_byte-head.ensures i ∷ get_or (from i) 0 0 ∷ get_or (from i) 1 0 ∷ get_or (to i) 0 0
    ∷ get_or (to i) 1 0 ∷ g.test ∷ g.node.0 ∷ []) in
    let short : length (take e.nodes us) ≡ e.nodes = length-take-le e.nodes us (omega arith) in
    c.write_updates.ensures
    ∙ ap₂ (λ (l : List ℕ) (k : ℕ). with_updates (l ++ drop 8 c.blank.new.part) (take e.nodes us) k) head short
    ∙ ap (λ w. take 8 (edge_head e ++ drop 8 c.blank.new.part)
    ++ (joined (map two_bytes w) ++ drop (8 + 2 * e.nodes) (edge_head e ++ drop 8 c.blank.new.part)))
    (take-take e.nodes e.nodes us (omega arith))
    ∙ ap (λ (l : List ℕ). with_updates (edge_head e ++ drop 8 l) us e.nodes) c.blank.ensures
    ∙ edge_is e us (drop 32 a.part.now) (omega arith) (omega arith)

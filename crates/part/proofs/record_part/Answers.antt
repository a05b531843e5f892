-- `record_part` meets its contract: an empty part where there is no such record, else the record of the meant table.
use Prim.Native.Nat.{ℕ}
use mathlib.Core.Path.{◌∙◌, sym}
use mathlib.Core.List.{List}
use Rattle.std.specs.Borrow.{Bor}
use Rattle.model.specs.Part.{meant}
use Rattle.model.specs.Structs.{tables_lent}
use Rattle.part.proofs.Handed.{accepted_is, begins_is, meant_read, none_begins, none_is, onward_none, part_is, refused_is}
use Rattle.part.proofs.record_part.Goals as goal

pub returns-then-not-answerable-clause-part : goal.returns-then-not-answerable-clause-part
returns-then-not-answerable-clause-part c =
    let a = c.args in
    none_is (tables_lent a.tables) a.mark a.number (sym c.answerable.ensures ∙ c.if-not-answerable.true)

pub returns-then-not-answerable-clause-stands : goal.returns-then-not-answerable-clause-stands
returns-then-not-answerable-clause-stands c =
    let a = c.args in
    let none = sym c.answerable.ensures ∙ c.if-not-answerable.true in
    let read = meant_read (λ (b : Bor (List ℕ)). b.ref_ptr) a.mark a.tables.locations a.tables.edges in
    let on = onward_none (meant a.mark a.tables.locations.ref_ptr a.tables.edges.ref_ptr) in
    let begins = none_begins (tables_lent a.tables) a.mark a.number none in
    cc

pub returns-then-not-answerable-clause-ended : goal.returns-then-not-answerable-clause-ended
returns-then-not-answerable-clause-ended c =
    let a = c.args in
    refused_is (tables_lent a.tables) a.mark a.number (sym c.answerable.ensures ∙ c.if-not-answerable.true)

pub returns-clause-part : goal.returns-clause-part
returns-clause-part c =
    let a = c.args in
    let there = sym c.answerable.ensures ∙ c.if-not-answerable.false in
    let read = meant_read (λ (b : Bor (List ℕ)). b.now) a.mark a.tables.locations a.tables.edges in
    let part = part_is (tables_lent a.tables) a.mark a.number there in
    cc

pub returns-clause-stands : goal.returns-clause-stands
returns-clause-stands c =
    let a = c.args in
    let there = sym c.answerable.ensures ∙ c.if-not-answerable.false in
    let read = meant_read (λ (b : Bor (List ℕ)). b.ref_ptr) a.mark a.tables.locations a.tables.edges in
    let begins = begins_is (tables_lent a.tables) a.mark a.number there in
    cc

pub returns-clause-ended : goal.returns-clause-ended
returns-clause-ended c =
    let a = c.args in
    accepted_is (tables_lent a.tables) a.mark a.number (sym c.answerable.ensures ∙ c.if-not-answerable.false)

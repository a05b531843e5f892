-- `explore_location` meets its contract: the location's record is read, then its statement's.
use mathlib.Core.Path.{◌≡◌, refl, ap, ◌∙◌}
use lib.ListN.{length}
use borrow.Author.Rules.{rules}
use Rattle.model.specs.Records.{byte}
use Rattle.model.specs.Structs.{decoded}
use Rattle.explore.proofs.Located.{fault_added, record_wide, shape_added, shape_given, statement_within, within}
use Rattle.explore.proofs.explore_location.Goals as goal

pub copy_location-requires : goal.copy_location-requires
copy_location-requires c = let R = c.requires.0 in (within R.list _ _ _ _ c.args.i R.held c.requires.1, refl)

pub returns-then-location-ne0-clause-explored : goal.returns-then-location-ne0-clause-explored
returns-then-location-ne0-clause-explored c sts t K H O =
    let a = c.args in
    let l = c.copy_location in
    let non : byte l.new.rec 2 ≡ 0 → ⊥ = search rules in
    fault_added t _ _ _ _ a.i H c.requires.1 a.n sts l.new.rec O l.ensures non

-- the statement's record stands in the input
pub record_at-requires : goal.record_at-requires
record_at-requires c =
    let a = c.args in
    let l = c.copy_location in
    statement_within a.input.now a.n _ _ _ _ a.i c.requires.0 c.requires.1 l.new.rec l.ensures c.if-location-ne0.false

pub decode-d-requires : goal.decode-d-requires
decode-d-requires c =
    let a = c.args in
    let l = c.copy_location in
    ap length c.record_at.ensures ∙ record_wide a.input.now (byte l.new.rec 1)
    (statement_within a.input.now a.n _ _ _ _ a.i c.requires.0 c.requires.1 l.new.rec l.ensures c.if-location-ne0.false)

pub add_edges-requires : goal.add_edges-requires
add_edges-requires c =
    let a = c.args in
    let l = c.copy_location in
    let R = c.requires.0 in
    shape_given R.list _ _ _ _ a.i R.held c.requires.1 a.input.now a.n R.statements _ _ (record {
      statements = R.readable;
      fine = R.fine;
      is_location = l.ensures;
      no_fault = c.if-location-ne0.false;
      is_statement = c.decode-d.ensures ∙ ap decoded c.record_at.ensures;
    })

pub returns-clause-explored : goal.returns-clause-explored
returns-clause-explored c sts t K H O =
    let a = c.args in
    let l = c.copy_location in
    let w = c.add_edges in
    shape_added t _ _ _ _ a.i H c.requires.1 a.input.now a.n sts l.new.rec _ (record {
      statements = K;
      fine = O;
      is_location = l.ensures;
      no_fault = c.if-location-ne0.false;
      is_statement = c.decode-d.ensures ∙ ap decoded c.record_at.ensures;
    }) _ _ _ _ w.result w.ensures.added

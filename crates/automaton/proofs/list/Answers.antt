-- `list` meets its contract: the starting shapes are entered, and the exploration ends or finds no place.
use mathlib.Core.Path.{refl, sym, ◌∙◌}
use borrow.Author.Rules.{rules}
use Rattle.automaton.proofs.Listed.{answered_err, answered_ok, index_ready, ready_to_explore}
use Rattle.automaton.proofs.list.Goals as goal

pub enter_all-requires : goal.enter_all-requires
enter_all-requires c =
    let a = c.args in
    let r = a.routine in
    let k = c.enter_starts in
    index_ready _ r.statements r.shapes a.locations.now _ _ c.requires k.ensures k.auto.locations _ refl

pub explore_all-listed-requires : goal.explore_all-listed-requires
explore_all-listed-requires c =
    let a = c.args in
    let r = a.routine in
    let k = c.enter_starts in
    ready_to_explore _ r.statements r.shapes a.locations.now _ _ c.requires k.ensures k.auto.locations
    _ c.enter_all.ensures

pub returns-then-is_err : goal.returns-then-is_err
returns-then-is_err c =
    let a = c.args in
    let r = a.routine in
    let k = c.enter_starts in
    let x = c.explore_all-listed in
    let w = x.ensures.same in
    answered_err _ r.statements r.shapes a.locations.now _ _ c.requires k.ensures k.auto.locations
    _ c.enter_all.ensures _ _ _ x.result x.ensures.explored w.locations_length w.edges_length _ _
    (sym c.is_err.ensures.value ∙ c.if-is_err.true) (search rules) (search rules)

pub returns-else-is_err : goal.returns-else-is_err
returns-else-is_err c =
    let a = c.args in
    let r = a.routine in
    let k = c.enter_starts in
    let x = c.explore_all-listed in
    let w = x.ensures.same in
    answered_ok _ r.statements r.shapes a.locations.now _ _ c.requires k.ensures k.auto.locations
    _ c.enter_all.ensures _ _ _ x.result x.ensures.explored w.locations_length w.edges_length _ _
    (sym c.is_err.ensures.value ∙ c.if-is_err.false) (search rules) (search rules)

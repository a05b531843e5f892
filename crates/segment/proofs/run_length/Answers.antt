-- `segment::run_length` meets its contract: the place of the first core cell, or how many cells there are.
use Prim.Native.Nat.{ℕ, ◌≤◌}
use mathlib.Core.Path.{◌≡◌, ◌∙◌, ap, refl, sym}
use mathlib.Core.Bool.{cond}
use native.Mathlib.Omega.{arith}
use lib.Dec.{ltb}
use lib.ListN.{length}
use borrow.Author.Rules.{rules}
use borrow.Author.Tests.{ltb-false, tests}
use Rattle.std.specs.List.{position_or_len}
use Rattle.std.specs.Prelude.{Some, None}
use Rattle.std.specs.Option.{unwrap_or}
use Rattle.std.proofs.lemmas.List.{get_or_default}
use Rattle.std.proofs.lemmas.Iterator.{YieldsList-from_slice}
use Rattle.std.proofs.lemmas.Iterator.Adapters.{serves_from_places}
use Rattle.std.proofs.lemmas.Iterator.Search.{position_from_yields_List}
use Rattle.model.proofs.lists.Logic.{bool_case}
use Rattle.segment.specs.Cut.{held_core}
use Rattle.segment.proofs.RunLaws.{inner_low, inner_place}
use Rattle.segment.proofs.run_length.Goals as goal

-- the place, or the end where there is none
unwrapped : (n m : ℕ) → n ≤ m → unwrap_or (cond (ltb n m) (Some n) None) m ≡ n
unwrapped n m h =
    bool_case (ltb n m) (λ t. rw t refl)
    (λ t. let e : m ≤ n = ltb-false n m t in rw t (omega arith))

pub position-requires-clause-callable : goal.position-requires-clause-callable
position-requires-clause-callable c =
    serves_from_places (YieldsList-from_slice c.args.cells.now cc) (λ x q k. search rules) (λ x k lt e _ _ _ _ _ _ _ _.
    omega (arith, e, c.requires k lt, get_or_default c.args.cells.now k x.now 0 lt))

pub returns : goal.returns
returns c =
    let e = position_from_yields_List (held_core c.args.held.now) _ _ c.position.result c.position.ensures.ran
    (YieldsList-from_slice c.args.cells.now cc) (λ x b q k. search (rules, tests)) in
    let held = c.args.held.now in
    let cells = c.args.cells.now in
    let place = inner_place held cells in
    let low = inner_low held cells in
    c.unwrap_or.ensures ∙ ap (λ o. unwrap_or o (length cells)) e
    ∙ unwrapped (position_or_len (held_core held) cells) (length cells) (omega arith) ∙ sym place

-- `closed_image::all_fine` meets its contract: what the tests gather is whether all pass. Assumes nothing.
use Prim.Native.Nat.{ℕ}
use mathlib.Core.Path.{◌∙◌}
use mathlib.Core.Bool.{Bool, false, true, ◌&&◌}
use lib.ListN.{get_or}
use borrow.Author.Rules.{rules}
use Rattle.std.proofs.lemmas.Iterator.{YieldsList-from_slice}
use Rattle.std.proofs.lemmas.Iterator.Consumers.{fold_from_yields_List}
use Rattle.closed_image.proofs.Fine.{all_gathered}
use Rattle.closed_image.proofs.all_fine.Goals as goal

pub returns : goal.returns
returns c =
    let p : ℕ → Bool = λ b. get_or c.args.fine.now b false in
    fold_from_yields_List _ (λ kept b. kept && p b) true _ c.fold.ensures.ran
    (YieldsList-from_slice c.args.cells.now cc) (λ a x b q k. search rules)
    ∙ all_gathered p true c.args.cells.now

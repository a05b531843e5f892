-- `closed_image::pointers_named` meets its contract: the chain tests the value of each pointer. Assumes nothing.
use Prim.Native.Nat.{ℕ}
use mathlib.Core.Path.{◌∙◌, refl, sym}
use mathlib.Core.Bool.{Bool}
use borrow.Author.Rules.{rules}
use Rattle.std.proofs.lemmas.Iterator.{YieldsList-from_slice}
use Rattle.std.proofs.lemmas.Iterator.Search.{all_from_yields_List}
use Rattle.model.specs.Heap.{named}
use Rattle.model.specs.Records.{val_of}
use Rattle.model.proofs.lists.Chains.{all_is}
use Rattle.visit.specs.Steps.{slot_at}
use Rattle.closed_image.proofs.Fine.{pass_read}
use Rattle.closed_image.proofs.pointers_named.Goals as goal

pub returns : goal.returns
returns c =
    let ps = c.args.pointers.now in
    let p : ℕ → Bool = λ v. named (slot_at c.args.cells.now) (val_of v) in
    all_from_yields_List p _ _ _ c.all.ensures.ran (YieldsList-from_slice ps cc) (λ x b q k. search rules)
    ∙ sym (all_is p ps) ∙ pass_read p (named (slot_at c.args.cells.now)) val_of (λ x. refl) ps

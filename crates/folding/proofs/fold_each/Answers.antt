-- `folding::fold_each` meets its contract: the first i bytes are what is found at the first i places, folded.
use Prim.Native.Nat.{◌<◌}
use mathlib.Core.Path.{◌≡◌, ◌∙◌, ap}
use mathlib.Core.List.{[], ◌∷◌, ◌++◌, map}
use native.Mathlib.Omega.{arith}
use lib.ListN.{drop, length}
use lib.Seq.{length-take-le}
use Rattle.std.proofs.lemmas.Slice.Zip.{AllZip-long}
use Rattle.folding.proofs.Coded.{found_behind, found_to, map_more}
use Rattle.folding.specs.Fold.{fold_byte}
use Rattle.folding.proofs.fold_each.Goals as goal

pub loop-i-preserved : goal.loop-i-preserved
loop-i-preserved g c =
    let a = c.args in
    let l = c.loop-i in
    let v : l.i < length a.places.now = omega arith in
    let t : l.i < length a.to.now = omega arith in
    let bs = l.invariant.0 in
    let n = AllZip-long _ _ _ l.invariant.1 ∙ length-take-le l.i a.places.now (omega arith) in (
      bs ++ c.byte.result ∷ [],
      found_behind _ a.places.now bs l.i c.byte.result v c.byte.ensures l.invariant.1,
      map_more (fold_byte a.node.now) bs a.to.now l.to l.i c.byte.result c.fold_byte.result n t l.invariant.2
          c.fold_byte.ensures,
    )

pub returns : goal.returns
returns g c =
    let l = c.loop-i in
    let a = c.args in
    let e : l.i ≡ length a.places.now = omega arith in (
      l.invariant.0,
      found_to _ a.places.now l.invariant.0 l.i e l.invariant.1,
      l.invariant.2 ∙ ap (λ k. map (fold_byte a.node.now) l.invariant.0 ++ drop k a.to.now) e,
    )

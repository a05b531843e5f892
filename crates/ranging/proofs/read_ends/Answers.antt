-- `read_ends` meets its contract: the ends of the first i ranges are put.
use Prim.Native.Nat.{◌<◌}
use mathlib.Core.Path.{◌≡◌, ◌∙◌, ap, sym}
use mathlib.Core.List.{◌++◌, map}
use native.Mathlib.Omega.{arith}
use lib.ListN.{drop, get_or, replicate, take}
use lib.Seq.{take_all}
use borrow.Author.Rules.{rules}
use Rattle.model.specs.Base.{numbers}
use Rattle.model.proofs.lists.Numbers.{at_number, length_numbers}
use Rattle.model.proofs.lists.Slices.{map_fill}
use Rattle.ranging.proofs.Starting.{put_filled}
use Rattle.ranging.proofs.read_ends.Invariants.{end}
use Rattle.ranging.proofs.read_ends.Goals as goal

pub loop-i-preserved : goal.loop-i-preserved
loop-i-preserved c =
    let a = c.args in
    let l = c.loop-i in
    let lt : l.i < a.k = search rules in
    let n : get_or (numbers 0 a.k) l.i 0 ≡ l.i = omega (arith, at_number 0 a.k l.i 0 lt) in
    map_fill (end a.ranges.now a.from) (numbers 0 a.k) (replicate 12 0) l.ends 0 l.i c.given.result
    (omega (arith, length_numbers 0 a.k)) (omega arith) l.invariant
    (c.given.ensures ∙ ap (end a.ranges.now a.from) (sym n))

pub returns : goal.returns
returns c =
    let a = c.args in
    let e : c.loop-i.i ≡ a.k = search rules in
    c.loop-i.invariant
    ∙ ap (λ i. map (end a.ranges.now a.from) (take i (numbers 0 a.k)) ++ drop i (replicate 12 0)) e
    ∙ ap (λ ns. map (end a.ranges.now a.from) ns ++ drop a.k (replicate 12 0))
    (take_all a.k (numbers 0 a.k) (omega (arith, length_numbers 0 a.k)))
    ∙ put_filled (end a.ranges.now a.from) a.k

-- `loss::stands_once` meets its contract: where one byte is counted, two places that hold it are one.
use Prim.Native.Nat.{ℕ, ◌+◌, ◌-◌, ◌≤◌, ◌<◌}
use mathlib.Core.Bool.{Bool}
use mathlib.Core.Path.{◌≡◌, ◌∙◌, ap, sym}
use native.Mathlib.Omega.{arith}
use lib.Dec.{eqb}
use lib.ListN.{drop, get_or, length, length-drop, take}
use lib.Seq.{get_or-drop, get_or-take, length-take-le, take_all}
use borrow.Author.Tests.{eq-eqb, eqb-true}
use Rattle.std.specs.List.{count_by}
use Rattle.model.specs.Records.{byte}
use Rattle.model.proofs.lists.Chains.{count_is}
use Rattle.loss.proofs.Once.{one_place}
use Rattle.loss.proofs.stands_once.Goals as goal

pub returns : goal.returns
returns c e i a b q =
    let l = c.args.location.now in
    let at = c.args.u.0 + 4 in
    let n = byte l 3 + 10 - 4 in
    let p : ℕ → Bool = λ x. eqb x (byte l at) in
    let places = take n (drop 4 l) in
    let counted : c.loop-b.count ≡ count_by p places =
    c.loop-b.invariant.1 ∙ ap (count_by p) (take_all c.loop-b.b-index places c.loop-b-test.false) in
    let long : length places ≡ n = length-take-le n (drop 4 l) (omega (arith, length-drop 4 l)) in
    let here : (j : ℕ) → 4 ≤ j → j < byte l 3 + 10 → get_or places (j - 4) 0 ≡ byte l j =
    λ j lo hi. get_or-take n (drop 4 l) (j - 4) 0 (omega arith) ∙ get_or-drop 4 l (j - 4) 0
    ∙ ap (byte l) (omega arith) in
    let same = one_place p places (i - 4) (at - 4) (omega arith) (omega arith)
    (eq-eqb _ _ (here i a b ∙ q)) (eq-eqb _ _ (here at (omega arith) (omega arith)))
    (count_is p places ∙ sym counted ∙ eqb-true _ _ e) in
    omega arith

-- `folding::code_each` meets its contract: the number so far is that of what is found at the places from i on.
use Prim.Native.Nat.{ℕ, ◌-◌, ◌^◌, ◌≤◌, ◌<◌}
use mathlib.Core.List.{List, [], ◌∷◌}
use native.Mathlib.Omega.{arith}
use lib.ListN.{drop, length, length-drop}
use borrow.Author.Rules.{rules}
use Rattle.std.specs.List.{AllZip}
use Rattle.std.proofs.lemmas.Slice.Zip.{AllZip-long}
use Rattle.folding.proofs.Coded.{Coded, coded_below, coded_next, coded_none, found_before, found_from, found_none}
use Rattle.folding.proofs.code_each.Goals as goal

pub loop-i-init : goal.loop-i-init
loop-i-init g c = ([], found_none _ c.args.places.now, coded_none _)

-- so small that one byte more fits
small : (code i : ℕ) (R : ℕ → ℕ → Type 0) (f : ℕ → ℕ) (l bs : List ℕ) → length l ≤ 6 → 0 < i → AllZip R (drop i l) bs
    → Coded f bs code → code < 256 ^ 5
small code i R f l bs six some z C =
    coded_below f bs code 5 C (omega (arith, AllZip-long R (drop i l) bs z, length-drop i l))

pub overflow_mul-code : goal.overflow_mul-code
overflow_mul-code g c =
    let l = c.loop-i in
    let v = l.invariant in
    let low = small l.code l.i _ _ c.args.places.now v.0 c.requires.few c.loop-i-test.true v.1 v.2 in
    record { fits = omega arith }

pub overflow_add-code : goal.overflow_add-code
overflow_add-code g c =
    let l = c.loop-i in
    let v = l.invariant in
    let low = small l.code l.i _ _ c.args.places.now v.0 c.requires.few c.loop-i-test.true v.1 v.2 in
    record { fits = omega arith }

pub loop-i-preserved : goal.loop-i-preserved
loop-i-preserved g c =
    let l = c.loop-i in
    let v = l.invariant in
    let h : l.i - 1 < length c.args.places.now = omega arith in (
      c.byte.result ∷ v.0,
      found_before _ c.args.places.now v.0 l.i (l.i - 1) c.byte.result (omega arith) h c.byte.ensures v.1,
      coded_next _ _ _ _ _ v.2 (search rules) c.fold_byte.ensures,
    )

pub returns : goal.returns
returns g c =
    let v = c.loop-i.invariant in
    let few : length v.0 ≤ 6 = omega (
      arith,
      AllZip-long _ _ _ v.1,
      length-drop c.loop-i.i c.args.places.now,
      c.requires.few,
    ) in (
      v.0,
      found_from _ c.args.places.now v.0 c.loop-i.i (omega arith) v.1,
      v.2.is_code,
      coded_below _ _ _ 6 v.2 few,
    )

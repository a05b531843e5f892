-- What a fold over bytes gathers.
use Prim.Native.Nat.{ℕ}
use mathlib.Core.Path.{◌≡◌, ◌∙◌, refl, sym, ap}
use mathlib.Core.Bool.{Bool, true, false, ◌&&◌}
use mathlib.Core.List.{List, [], ◌∷◌}
use native.Mathlib.Omega.{arith}
use lib.Bits.{and_le_l, and_le_r, bit_or, or_add_and}
use borrow.Author.Tests.{eq-eqb, eqb-true}
use Rattle.std.specs.List.{fold}
use Rattle.model.specs.Base.{all}
use Rattle.model.specs.Records.{is_zero}
use Rattle.model.proofs.lists.Logic.{and_both, and_l, and_r, and_true, bool_ext}

regroup : (a b c : Bool) → a && b && c ≡ a && (b && c)
regroup true b c = refl
regroup false b c = refl

-- gathered bits are none where neither has any
or_none : (a b : ℕ) → is_zero (bit_or a b) ≡ is_zero a && is_zero b
or_none a b = bool_ext (is_zero (bit_or a b)) (is_zero a && is_zero b)
    (λ h.
    let z = eqb-true (bit_or a b) 0 h in
    let s = or_add_and a b in
    let l = and_le_l a b in
    let r = and_le_r a b in
    and_both (is_zero a) (is_zero b) (eq-eqb a 0 (omega arith)) (eq-eqb b 0 (omega arith)))
    (λ h.
    let x = eqb-true a 0 (and_l (is_zero a) (is_zero b) h) in
    let y = eqb-true b 0 (and_r (is_zero a) (is_zero b) h) in
    let s = or_add_and a b in
    eq-eqb (bit_or a b) 0 (omega arith))

pub gathered : (m : ℕ) (bs : List ℕ) → is_zero (fold (λ met b. bit_or met b) m bs) ≡ is_zero m && all is_zero bs
gathered m [] = sym (and_true (is_zero m))
gathered m (b ∷ bs) = gathered (bit_or m b) bs ∙ ap (λ z. z && all is_zero bs) (or_none m b)
    ∙ regroup (is_zero m) (is_zero b) (all is_zero bs)

pub all_gathered : (p : ℕ → Bool) (a : Bool) (bs : List ℕ) → fold (λ good b. good && p b) a bs ≡ a && all p bs
all_gathered p a [] = sym (and_true a)
all_gathered p a (b ∷ bs) = all_gathered p (a && p b) bs ∙ regroup a (p b) (all p bs)

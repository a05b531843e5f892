-- Lists of digits as numbers: lists of one length, of digits below a base, are different numbers below a power of it.
use Prim.Native.Nat.{◌%◌, ◌*◌, ◌+◌, ◌/◌, ◌<◌, ◌^◌, ℕ}
use mathlib.Core.Path.{◌∙◌, ◌≡◌, ap, ap₂, refl, sym}
use mathlib.Core.Logic.{inl, inr}
use mathlib.Core.List.{List, [], ◌∷◌}
use native.Mathlib.Nat.{add-mul-div_left, add-mul-mod_self_left, div-eq_of_lt, mod-eq_of_lt, mul-le-mul_left, mul-suc, pow-succ', pow-zero}
use native.Mathlib.Omega.{arith}
use lib.ListN.{length}
use Rattle.model.specs.Notions.{In}

-- a list of digits in base c as one number, the first digit lowest
abbrev pub code_of : ℕ → List ℕ → ℕ
code_of c [] = 0
code_of c (x ∷ l) = x + c * code_of c l

-- the elements of a list are below c
abbrev pub Below : ℕ → List ℕ → Type 0
Below c l = (x : ℕ) → In x l → x < c

pub code_below : (c : ℕ) (l : List ℕ) → Below c l → code_of c l < c ^ length l
code_below c [] h = rw (pow-zero c) (omega arith)
code_below c (x ∷ l) h =
    let q = h x (inl refl) in
    let p = mul-le-mul_left c (code_below c l (λ z i. h z (inr i))) in
    rw (pow-succ' c (length l)) (omega (arith, mul-suc c (code_of c l)))

digits_same : (c x y p q : ℕ) → x < c → y < c → x + c * p ≡ y + c * q → (x ≡ y) × (p ≡ q)
digits_same c x y p q h k e =
    let d = add-mul-div_left x p {y = c} (omega arith) in
    let f = add-mul-div_left y q {y = c} (omega arith) in
    let z : x / c + p ≡ y / c + q = sym d ∙ ap (λ n. n / c) e ∙ f in (
      sym (add-mul-mod_self_left x c p ∙ mod-eq_of_lt h) ∙ ap (λ n. n % c) e ∙ add-mul-mod_self_left y c q
          ∙ mod-eq_of_lt k,
      omega (arith, z, div-eq_of_lt h, div-eq_of_lt k),
    )

-- different lists of equal length are different numbers
pub code_injective : (c : ℕ) (l m : List ℕ) → Below c l → Below c m → length l ≡ length m → code_of c l ≡ code_of c m
    → l ≡ m
code_injective c [] [] h k n e = refl
code_injective c [] (y ∷ m) h k n e = absurd (omega arith)
code_injective c (x ∷ l) [] h k n e = absurd (omega arith)
code_injective c (x ∷ l) (y ∷ m) h k n e =
    let r = digits_same c x y (code_of c l) (code_of c m) (h x (inl refl)) (k y (inl refl)) e in
    ap₂ ◌∷◌ r.0 (code_injective c l m (λ z i. h z (inr i)) (λ z i. k z (inr i)) (omega arith) r.1)

-- Booleans, membership of a number in a list, lists without repetition.
use Prim.Native.Nat.{◌+◌, suc, zero, ℕ}
use mathlib.Core.Path.{◌∙◌, ◌≡◌, refl, sym}
use mathlib.Core.Bool.{Bool, ◌&&◌, ◌||◌, false, not, or_assoc, or-false, true, true≢false}
use mathlib.Core.List.{List, [], ◌++◌, ◌∷◌}
use lib.Dec.{eqb}
use borrow.Author.Tests.{eq-eqb, eqb-false, eqb-true, ne_eqb}
use Rattle.model.specs.Base.{mem}

pub bool_case {ℓ} : {C : Type ℓ} (b : Bool) → (b ≡ true → C) → (b ≡ false → C) → C
bool_case true f g = f refl
bool_case false f g = g refl

pub eq-case {ℓ} : {C : Type ℓ} (a b : ℕ) → (a ≡ b → C) → (eqb a b ≡ false → C) → C
eq-case a b f g = bool_case (eqb a b) (λ t. f (eqb-true a b t)) g

pub bool_ext : (a b : Bool) → (a ≡ true → b ≡ true) → (b ≡ true → a ≡ true) → a ≡ b
bool_ext true b f g = sym (f refl)
bool_ext false true f g = g refl
bool_ext false false f g = refl

pub not-false : (b : Bool) → not b ≡ true → b ≡ false
not-false true e = sym e
not-false false e = refl

pub not-true : (b : Bool) → (b ≡ true → ⊥) → b ≡ false
not-true true f = absurd (f refl)
not-true false f = refl

pub clash {ℓ} : {C : Type ℓ} {b : Bool} → b ≡ true → b ≡ false → C
clash p q = absurd (true≢false (sym p ∙ q))

pub or_cases {ℓ} : {C : Type ℓ} (a b : Bool) → a || b ≡ true → (a ≡ true → C) → (b ≡ true → C) → C
or_cases true b h f g = f refl
or_cases false b h f g = g h

pub or_l : (a b : Bool) → a ≡ true → a || b ≡ true
or_l a b h = rw h

pub or_r : (a b : Bool) → b ≡ true → a || b ≡ true
or_r true b h = refl
or_r false b h = h

pub or_false_l : (a b : Bool) → a || b ≡ false → a ≡ false
or_false_l true b h = h
or_false_l false b h = refl

pub or_false_r : (a b : Bool) → a || b ≡ false → b ≡ false
or_false_r true b h = absurd (true≢false h)
or_false_r false b h = h

pub eqb_same : (a : ℕ) → eqb a a ≡ true
eqb_same a = eq-eqb a a refl

pub eqb_sym : (a b : ℕ) → eqb a b ≡ eqb b a
eqb_sym a b = eq-case a b (λ e. rw e) (λ n. n ∙ sym (ne_eqb b a (λ e. eqb-false a b n (sym e))))

pub mem_append : (c : ℕ) (s t : List ℕ) → mem c (s ++ t) ≡ mem c s || mem c t
mem_append c [] t = refl
mem_append c (x ∷ s) t = rw (mem_append c s t) (sym (or_assoc (eqb c x) (mem c s) (mem c t)))

pub mem_here : (c : ℕ) (l : List ℕ) → mem c (c ∷ l) ≡ true
mem_here c l = rw eqb_same

pub mem_there : (c x : ℕ) (l : List ℕ) → mem c l ≡ true → mem c (x ∷ l) ≡ true
mem_there c x l h = or_r (eqb c x) (mem c l) h

pub mem-cases {ℓ} : {C : Type ℓ} (c x : ℕ) (l : List ℕ) → mem c (x ∷ l) ≡ true → (c ≡ x → C) → (mem c l ≡ true → C) → C
mem-cases c x l h f g = or_cases (eqb c x) (mem c l) h (λ e. f (eqb-true c x e)) g

pub mem_append_l : (c : ℕ) (s t : List ℕ) → mem c s ≡ true → mem c (s ++ t) ≡ true
mem_append_l c s t h = mem_append c s t ∙ or_l (mem c s) (mem c t) h

pub mem_append_r : (c : ℕ) (s t : List ℕ) → mem c t ≡ true → mem c (s ++ t) ≡ true
mem_append_r c s t h = mem_append c s t ∙ or_r (mem c s) (mem c t) h

pub mem-append-cases {ℓ} : {C : Type ℓ} (c : ℕ) (s t : List ℕ) → mem c (s ++ t) ≡ true → (mem c s ≡ true → C)
    → (mem c t ≡ true → C) → C
mem-append-cases c s t h f g = or_cases (mem c s) (mem c t) (sym (mem_append c s t) ∙ h) f g

pub mem_one : (c d : ℕ) → mem c (d ∷ []) ≡ true → c ≡ d
mem_one c d h = eqb-true c d (sym (or-false (eqb c d)) ∙ h)

-- sums over the numbers below b
abbrev pub tsum : ℕ → (ℕ → ℕ) → ℕ
tsum zero t = 0
tsum (suc b) t = t b + tsum b t

pub and_l : (a b : Bool) → a && b ≡ true → a ≡ true
and_l true b h = refl
and_l false b h = h

pub and_r : (a b : Bool) → a && b ≡ true → b ≡ true
and_r true b h = h
and_r false b h = clash h refl

pub and_true : (a : Bool) → a && true ≡ a
and_true true = refl
and_true false = refl

pub and_both : (a b : Bool) → a ≡ true → b ≡ true → a && b ≡ true
and_both a b p q = rw (p, q)

pub and_five : (a b c d e : Bool) → a ≡ true → b ≡ true → c ≡ true → d ≡ true → e ≡ true → a && b && c && d && e ≡ true
and_five a b c d e p q r s t = rw (p, q, r, s, t)

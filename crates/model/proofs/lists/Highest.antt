-- The highest number below another that passes a test: what is told of it, and that nothing else is.
use Prim.Native.Nat.{ℕ, zero, suc, ◌<◌}
use mathlib.Core.Path.{◌≡◌, refl, sym, ap, subst, ◌∙◌}
use mathlib.Core.Bool.{Bool, true, false, cond}
use mathlib.Core.Option.{Option, none, some}
use native.Mathlib.Omega.{arith}
use borrow.Author.Tests.{eqb-false}
use Rattle.model.specs.Search.{highest_below}
use Rattle.model.proofs.lists.Logic.{eq-case}

-- of the numbers below n, the highest that passes the test, or that none does
abbrev pub TellsHighest : ℕ → (ℕ → Bool) → Option ℕ → Type 0
TellsHighest n p (some i) = (i < n) × (p i ≡ true) × ((j : ℕ) → i < j → j < n → p j ≡ false)
TellsHighest n p none = (j : ℕ) → j < n → p j ≡ false

-- of two that pass it is the higher, as it is computed
two_pass : highest_below 2 (λ i. true) ≡ some 1
two_pass = refl

module _ (p : ℕ → Bool) where
  -- the numbers below n, and n itself, which does not pass
  higher : (n : ℕ) → p n ≡ false → (o : Option ℕ) → TellsHighest n p o → TellsHighest (suc n) p o
  higher n e none h = λ j lt. eq-case j n (λ q. subst (λ k. p k ≡ false) (sym q) e)
      (λ q. let ne = eqb-false j n q in h j (omega arith))
  higher n e (some i) (lt, on, above) = (
    omega arith,
    on,
    λ j k l. eq-case j n (λ q. subst (λ m. p m ≡ false) (sym q) e)
        (λ q. let ne = eqb-false j n q in above j k (omega arith)),
  )

  -- n itself where it passes, else what is told of those below
  newest_first : (n : ℕ) (b : Bool) → p n ≡ b → (o : Option ℕ) → TellsHighest n p o
      → TellsHighest (suc n) p (cond b (some n) o)
  newest_first n true e o h = (omega arith, e, λ j k l. absurd (omega arith))
  newest_first n false e o h = higher n e o h

  pub highest_tells : (n : ℕ) → TellsHighest n p (highest_below n p)
  highest_tells zero = λ j lt. absurd (omega arith)
  highest_tells (suc n) = newest_first n (p n) refl (highest_below n p) (highest_tells n)

  pub highest_only : (n : ℕ) (o : Option ℕ) → TellsHighest n p o → highest_below n p ≡ o
  highest_only zero none h = refl
  highest_only zero (some i) (lt, on, above) = absurd (omega arith)
  highest_only (suc n) none h = rw (h n (omega arith)) (highest_only n none (λ j lt. h j (omega arith)))
  highest_only (suc n) (some i) (lt, on, above) = eq-case n i
      (λ q. rw (ap p q ∙ on) (ap some q))
      (λ q. let ne = eqb-false n i q in
      rw (above n (omega arith) (omega arith))
      (highest_only n (some i) (omega arith, on, λ j k l. above j k (omega arith))))

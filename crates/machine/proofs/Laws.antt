-- A run by its parts: the effect, and then what becomes of lost cells. Assumes nothing.
use Prim.Native.Nat.{ℕ, zero, suc}
use mathlib.Core.Path.{◌≡◌, refl, sym, ◌∙◌, ap}
use mathlib.Core.Bool.{Bool, true, false, cond}
use Rattle.model.specs.Heap.{Heap, kept}
use Rattle.model.specs.Machine.{Op, at_null, at_undef, collect, collects, done, effect, fault, kind, leak, settle, carry_out}
use Rattle.model.proofs.expansion.Collect.{settle_fault}
use Rattle.effect.specs.Effect.{effect_of}

number_settled : (b : Bool) (r : ℕ) (g : Heap) → (r ≡ 0 → ⊥) → settle b (effect_of r g) ≡ effect_of r g
number_settled b zero g n = absurd (n refl)
number_settled b (suc zero) g n = settle_fault b at_null
number_settled b (suc (suc zero)) g n = settle_fault b at_undef
number_settled b (suc (suc (suc r))) g n = settle_fault b leak

-- a fault of the effect is that of the run
pub run_fault : (op : Op) (n r : ℕ) (h g : Heap) → effect_of r g ≡ effect op n h → (r ≡ 0 → ⊥)
    → effect_of r g ≡ carry_out op n h
run_fault op n r h g e z =
    sym (number_settled (collects (kind op)) r g z) ∙ ap (settle (collects (kind op))) e

-- a finished effect, where lost cells are collected, and where they are a leak
module _ (op : Op) (n : ℕ) (h g : Heap) (d : effect op n h ≡ done g) where
  settled : (b : Bool) → collects (kind op) ≡ b → settle b (done g) ≡ carry_out op n h
  settled b c = ap (settle b) (sym d) ∙ ap (λ x. settle x (effect op n h)) (sym c)

  pub run_collects : collects (kind op) ≡ true → done (collect g) ≡ carry_out op n h
  run_collects = settled true

  pub run_keeps : collects (kind op) ≡ false → (k : Bool) → kept g ≡ k → cond k (done g) (fault leak) ≡ carry_out op n h
  run_keeps c k e = ap (λ b. cond b (done g) (fault leak)) (sym e) ∙ settled false c

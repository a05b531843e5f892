-- A statement run on an image that passed the checks. Assumes nothing.
use Rattle.std.specs.Prelude.{ℕ, ◌≡◌, true, List}
use Rattle.model.specs.Heap.{kept}
use Rattle.model.specs.Machine.{action, carry_out}
use Rattle.model.specs.Notions.{Room}
use Rattle.model.specs.Structs.{op_in}
use Rattle.model.specs.Image.{heap_of}
use Rattle.model.specs.declared.Decoded.{Decoded}
use Rattle.effect.specs.Effect.{EffectReady, effect_of}

-- a known op on an image that passed the checks, so that no cell is lost; at new, the cell x is one of the image that
-- is not in use
pub record StepReady (d : Decoded) (x : ℕ) (ps cs : List ℕ) : Type 0 where
  pub ready : EffectReady d x ps cs
  pub fresh : Room (action (op_in d)) (heap_of ps cs) x
  pub is_kept : kept (heap_of ps cs) ≡ true

-- the fault r and the image qs, ds afterwards are what the machine's run of the image ps, cs gives
pub record RunOn (d : Decoded) (x : ℕ) (ps cs : List ℕ) (r : ℕ) (qs ds : List ℕ) : Type 0 where
  pub outcome : effect_of r (heap_of qs ds) ≡ carry_out (op_in d) x (heap_of ps cs)

-- and a fault leaves the image
pub record Finished (d : Decoded) (x : ℕ) (ps cs : List ℕ) (r : ℕ) (qs ds : List ℕ) : Type 0 where
  pub ran : RunOn d x ps cs r qs ds
  pub stays : (r ≡ 0 → ⊥) → (qs ≡ ps) × (ds ≡ cs)

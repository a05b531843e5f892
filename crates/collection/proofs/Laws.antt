-- What is left by the marks of a visit is the collected heap, and the marks tell its core cells.
use Prim.Native.Nat.{ℕ, suc, ◌+◌, ◌<◌}
use native.Mathlib.Omega.{arith}
use mathlib.Core.Path.{◌≡◌, refl, sym, ap, ap₂, ◌∙◌}
use mathlib.Core.Bool.{Bool, not, not-not}
use mathlib.Core.List.{List, [], ◌∷◌, map}
use lib.Dec.{eqb}
use lib.ListN.{length, get_or}
use Rattle.model.specs.Base.{mem}
use Rattle.model.specs.Heap.{order}
use Rattle.model.specs.Image.{cell_slot, heap_of}
use Rattle.model.specs.Machine.{collect, keep_slots}
use Rattle.model.specs.Records.{val_of}
use Rattle.model.specs.Shape.{core}
use Rattle.model.proofs.lists.Logic.{bool_case}
use Rattle.visit.specs.Visit.{Held, Visited}
use Rattle.collection.specs.Left.{left_bytes}

pub left_length : (s : List ℕ) (i : ℕ) (cs : List ℕ) → length (left_bytes s i cs) ≡ length cs
left_length s i [] = refl
left_length s i (b ∷ cs) = ap suc (left_length s (suc i) cs)

-- marks that tell what passes the test
left_slots : (s : List ℕ) (p : ℕ → Bool) (i : ℕ) (cs : List ℕ)
    → ((c : ℕ) → c < i + length cs → not (eqb (get_or s c 0) 0) ≡ p c)
    → map cell_slot (left_bytes s i cs) ≡ keep_slots p i (map cell_slot cs)
left_slots s p i [] h = refl
left_slots s p i (b ∷ cs) h =
    let k = sym (h i (omega arith)) in
    ap₂ ◌∷◌ (bool_case (eqb (get_or s i 0) 0) (λ e. rw (e, k, e)) (λ e. rw (e, k, e)))
    (left_slots s p (suc i) cs (λ c k. h c (omega arith)))

module _ {ps cs o s : List ℕ} {n : ℕ} (v : Visited ps cs o s n) where
  pub left_heap : heap_of ps (left_bytes s 0 cs) ≡ collect (heap_of ps cs)
  left_heap =
      ap (λ ss. record { ptrs = map val_of ps; slots = ss })
      (left_slots s (λ c. mem c (order (heap_of ps cs))) 0 cs
      (λ c k. ap not (v.marked c (omega arith)) ∙ not-not (mem c (order (heap_of ps cs)))))

  pub left_held : Held ps (left_bytes s 0 cs) s
  left_held c k = v.held c (omega (arith, left_length s 0 cs)) ∙ ap (λ g. core g c) (sym left_heap)

-- The checks of an unfolding: what is known behind the lengths and the layout, and what a failure of the nodes says.
use Prim.Native.Nat.{ℕ, ◌≤◌}
use mathlib.Core.Path.{◌≡◌, sym, ◌∙◌}
use mathlib.Core.Bool.{Bool, true, ◌&&◌}
use mathlib.Core.List.{List, [], ◌∷◌, ◌++◌}
use lib.Dec.{eqb, leb}
use lib.ListN.{length}
use borrow.Author.Tests.{eq-eqb, eqb-true, le-leb}
use Rattle.model.specs.Image.{check_counters, checks_unfold}
use Rattle.model.specs.Records.{checks_nodes, layout_h, shape_of, unless}
use Rattle.model.specs.Structs.{Failed, Tells}
use Rattle.model.proofs.lists.Logic.{and_l, and_r}
use Rattle.model.proofs.records.Checks.{tells_before, tells_past}

-- the lengths np of the pointers and nc of the cells
pub record Sized (r vs : List ℕ) (np nc : ℕ) : Type 0 where
  pub six : np ≡ 6
  pub few : nc ≤ 240

-- the record's layout
pub record Laid (r vs : List ℕ) (np nc : ℕ) : Type 0 where
  pub sized : Sized r vs np nc
  pub wide : length r ≡ 32
  pub layout : layout_h r ≡ true

module _ {r vs : List ℕ} {np nc : ℕ} where
  good_lengths : Sized r vs np nc → eqb np 6 && leb nc 240 ≡ true
  good_lengths S = rw (eq-eqb np 6 S.six, le-leb nc 240 S.few)

  module _ (S : Sized r vs np nc) {b : Bool} (e : b ≡ eqb (length r) 32 && layout_h r) where
    pub laid : b ≡ true → Laid r vs np nc
    laid t = record {
      sized = S;
      wide = eqb-true (length r) 32 (and_l (eqb (length r) 32) (layout_h r) (sym e ∙ t));
      layout = and_r (eqb (length r) 32) (layout_h r) (sym e ∙ t);
    }

  -- what is told behind the lengths and the layout
  past_layout : Laid r vs np nc → {f : Failed} → Tells (checks_nodes (shape_of r) ++ check_counters r vs nc ∷ []) f
      → Tells (checks_unfold r vs np nc) f
  past_layout L t =
      let nodes = checks_nodes (shape_of r) ++ check_counters r vs nc ∷ [] in
      let layout = unless 8 (eqb (length r) 32 && layout_h r) in
      tells_past (unless 13 (eqb np 6 && leb nc 240)) (layout ∷ nodes) (good_lengths L.sized)
      (tells_past layout nodes (rw (eq-eqb (length r) 32 L.wide) L.layout) t)

  pub tells_nodes : Laid r vs np nc → {f : Failed} → Tells (checks_nodes (shape_of r)) f → (f.number ≡ 0 → ⊥)
      → Tells (checks_unfold r vs np nc) f
  tells_nodes L t z = past_layout L (tells_before (checks_nodes (shape_of r)) (check_counters r vs nc ∷ []) z t)

-- The checks of a heap image: each refusal, and what the visit gives where there is none.
use Prim.Native.Nat.{ℕ, ◌≤◌}
use native.Mathlib.Omega.{arith}
use mathlib.Core.Path.{◌≡◌, refl, sym, ap, ◌∙◌}
use mathlib.Core.Bool.{Bool, true, false, ◌&&◌, not}
use mathlib.Core.List.{List, map}
use mathlib.Core.Logic.{inl, inr}
use lib.Dec.{eqb, leb}
use lib.ListN.{length, get_or, replicate, get_or-replicate}
use borrow.Author.Tests.{leb-true}
use Rattle.model.specs.Heap.{closed, each_used, kept}
use Rattle.model.specs.Image.{cell_slot, heap_of, lengths, refusal_image, checks_image}
use Rattle.std.specs.Prelude.{Ok, Err}
use Rattle.model.specs.Structs.{failed_in, failing}
use Rattle.model.specs.declared.codes.Reason.{Reason}
use Rattle.model.specs.declared.codes.Reason.TheVariants.{LostCell}
use Rattle.model.proofs.lists.Logic.{and_l, and_r}
use Rattle.model.proofs.records.Checks.{given_failed, pass_none}
use Rattle.visit.proofs.Whole.{kept_held}
use Rattle.visit.proofs.Laws.{kept_marked}
use Rattle.visit.specs.Visit.{VisitReady, Visited}
use Rattle.image_checks.specs.Checked.{ImageChecked}

-- no order is given with a refusal
refused_with_lem : {ps cs o m : List ℕ} (r : Reason) → failed_in {A = ℕ} (Err r) ≡ failing (refusal_image ps cs) 0
    → ImageChecked ps cs o m (Err r)
refused_with_lem r e = record { refusal = e; visited = tt; few = tt; held = tt }

module _ (ps cs : List ℕ) {b : Bool} (e : b ≡ lengths ps cs) (t : b ≡ true) where
  pub lengths_few : length cs ≤ 240
  lengths_few = leb-true (length cs) 240 (and_r (eqb (length ps) 6) (leb (length cs) 240) (sym e ∙ t))

  pub values_good : {k : Bool} → k ≡ closed (heap_of ps cs) → k ≡ true → lengths ps cs && closed (heap_of ps cs) ≡ true
  values_good q u =
      let long : lengths ps cs ≡ true = sym e ∙ t in
      rw long (sym q ∙ u)

module _ {ps cs o m : List ℕ} where
  -- lengths and values are right
  module _ (good : lengths ps cs && closed (heap_of ps cs) ≡ true) where
    pub check_ready : length o ≡ 240 → m ≡ replicate 240 0 → VisitReady ps cs o m
    check_ready h z =
        let f = lengths_few ps cs refl (and_l (lengths ps cs) (closed (heap_of ps cs)) good) in
        record {
          is_closed = and_r (lengths ps cs) (closed (heap_of ps cs)) good;
          few = f;
          room = omega arith;
          marks = rw z f;
          clear = λ c l. rw z (get_or-replicate 240 c 0 0 (omega arith));
        }

    -- n cells are visited: o is their order, and m marks them
    module _ {n : ℕ} (d : Visited ps cs o m n) {x : Bool}
        (w : x ≡ each_used (λ c. not (eqb (get_or m c 0) 0)) 0 (map cell_slot cs)) where
      pub check_lost : x ≡ false → ImageChecked ps cs o m (Err LostCell)
      check_lost f =
          let lost = sym (kept_marked d) ∙ sym w ∙ f in
          let told = (given_failed (checks_image ps cs) 14 0 (inr (good, inl (refl, refl, lost)))).0 in
          refused_with_lem LostCell (ap (λ k. failing k 0) (sym told))

      pub check_done : x ≡ true → ImageChecked ps cs o m (Ok n)
      check_done f =
          let i : kept (heap_of ps cs) ≡ true = sym (kept_marked d) ∙ sym w ∙ f in
          let none = sym (pass_none (checks_image ps cs) (good, (i, tt))) in
          record { refusal = ap (λ k. failing k 0) none; visited = d.visited; few = d.few; held = kept_held d i }

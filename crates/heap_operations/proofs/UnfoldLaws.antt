-- An unfolding by its checks and the image that is written.
use Prim.Native.Nat.{ℕ}
use mathlib.Core.Path.{◌≡◌, sym, ◌∙◌}
use mathlib.Core.List.{List, map}
use lib.ListN.{length, take}
use Rattle.model.specs.Image.{cell_bytes_of, checks_unfold, unfold_heap, unfold_image}
use Rattle.std.specs.Prelude.{Err}
use Rattle.model.specs.Answers.{unfolding_of}
use Rattle.model.specs.Codes.{reason_number, refusal_for}
use Rattle.model.specs.Structs.{Tells, failed_in, failing}
use Rattle.model.specs.declared.codes.Reason.{Reason}
use Rattle.layout.proofs.Reasons.{no_zero}
use Rattle.model.specs.Records.{byte, shape_of, val_byte, is_accepted, is_refused, refusal_at}
use Rattle.model.proofs.images.Images.{number-case, unfold_accepted, unfold_suc, unfold_zero}
use Rattle.unfolding.specs.Ready.{UnfoldReady}

-- the answer to a refusal, which leaves the image
pub unfold_refused : (r vs ps cs : List ℕ) (x : Reason)
    → Tells (checks_unfold r vs (length ps) (length cs)) (failed_in {A = Unit {0}} (Err x))
    → unfolding_of (Err (refusal_for x 0)) ps cs ≡ unfold_image r vs ps cs
unfold_refused r vs ps cs x t = number-case (reason_number x) (λ q. absurd (no_zero x q))
    (λ m q. (λ i. record { verdict = is_refused (refusal_at (q i) 0 (t.node i)); ptr_bytes = ps; cell_bytes = cs })
    ∙ sym (unfold_suc r vs ps cs m (sym t.number ∙ q)))

module _ (r vs ps cs : List ℕ) (t : Tells (checks_unfold r vs (length ps) (length cs)) (failing 0 0)) where
  -- what unfolding the shape asks
  pub unfold_ready : UnfoldReady r vs ps cs
  unfold_ready =
      let A = (unfold_accepted r vs (length ps) (length cs)).0 (sym t.number) in
      record { wide = A.2; is_layout = A.3; fit = A.5; six = A.0; few = A.1 }

  pub unfold_done : {qs ds : List ℕ} → (qs ≡ map val_byte (unfold_heap (shape_of r) (take (byte r 3) vs)).ptrs)
      → (ds ≡ cell_bytes_of (length cs) (unfold_heap (shape_of r) (take (byte r 3) vs)))
      → record { verdict = is_accepted; ptr_bytes = qs; cell_bytes = ds } ≡ unfold_image r vs ps cs
  unfold_done a b =
      (λ i. record { verdict = is_accepted; ptr_bytes = a i; cell_bytes = b i })
      ∙ sym (unfold_zero r vs ps cs (sym t.number))

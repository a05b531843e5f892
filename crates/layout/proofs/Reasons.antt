-- Every reason has a number; the verdict for one is that of its number and its node.
use Prim.Native.Nat.{ℕ, zero, suc, ◌≤◌}
use mathlib.Core.Path.{◌≡◌, ◌∙◌, ap, refl}
use native.Mathlib.Omega.{arith}
use Rattle.std.specs.Prelude.{Err}
use Rattle.model.specs.Answers.{refusal_in}
use Rattle.model.specs.Codes.{reason_node, reason_number, refusal_for}
use Rattle.model.specs.Image.{verdict_by}
use Rattle.model.specs.Records.{is_refused, refusal_at}
use Rattle.model.specs.Structs.{Failed, failed_in, failing}
use Rattle.model.specs.declared.codes.Reason.{Reason}
use Rattle.model.specs.declared.codes.Reason.TheVariants as reason

pub reason_above : (r : Reason) → 1 ≤ reason_number r
reason_above reason.InputLength = omega arith
reason_above reason.StatementCount = omega arith
reason_above reason.ShapeCount = omega arith
reason_above reason.RecordKind = omega arith
reason_above reason.UnknownOp = omega arith
reason_above reason.StatementFields = omega arith
reason_above reason.Target = omega arith
reason_above reason.ShapeLayout = omega arith
reason_above (reason.UnreachableNode v) = omega arith
reason_above reason.RepeatedShape = omega arith
reason_above reason.LocationsFull = omega arith
reason_above reason.EdgesFull = omega arith
reason_above reason.Image = omega arith
reason_above reason.LostCell = omega arith
reason_above reason.Counters = omega arith
reason_above reason.Entry = omega arith
reason_above (reason.NodeNotCore v) = omega arith
reason_above (reason.NodeOrder v) = omega arith

pub no_zero : (r : Reason) → reason_number r ≡ 0 → ⊥
no_zero r e = let k = reason_above r in omega arith

-- a call that tells no place
pub verdict_told : (r : Reason) {n v : ℕ} → failed_in {A = ℕ} (Err r) ≡ failing n v
    → is_refused (refusal_in (refusal_for r 0)) ≡ verdict_by n v
verdict_told r e = positive (reason_number r) (reason_above r) ∙ ap (λ (f : Failed). verdict_by f.number f.node) e
  where
    positive : (n : ℕ) → 1 ≤ n → is_refused (refusal_at n 0 (reason_node r)) ≡ verdict_by n (reason_node r)
    positive zero k = absurd (omega arith)
    positive (suc n) k = refl

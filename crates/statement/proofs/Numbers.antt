-- Ops by their numbers, and a record decoded by them.
use Prim.Native.Nat.{ℕ, ◌<◌}
use mathlib.Core.Path.{◌≡◌, ap, refl, sym, ◌∙◌}
use mathlib.Core.List.{List, [], ◌∷◌}
use lib.ListN.{get_or-map}
use native.Mathlib.Nat.{zero-add}
use native.Mathlib.Omega.{arith}
use Rattle.model.specs.Codes.{op_at, op_number}
use Rattle.model.specs.Records.{byte, op_count, op_of, stmt_of}
use Rattle.model.specs.Structs.{decoded, stmt_in}
use Rattle.model.specs.declared.codes.Op.{Op}
use Rattle.model.specs.declared.codes.Op.TheVariants as op
use Rattle.model.proofs.lists.Numbers.{at_number}

abbrev ops : List Op
ops =
    op.Stop ∷ op.SetNull ∷ op.Copy ∷ op.Load ∷ op.Clear ∷ op.Store ∷ op.New ∷ op.Free ∷ op.IsNull ∷ op.Same ∷ op.Choose
    ∷ op.Skip ∷ op.Relink ∷ op.LetGo ∷ []

-- an op by its number has that number
pub numbered : (k : ℕ) → k < op_count → op_number (op_at k) ≡ k
numbered k h = sym (get_or-map op_number ops k op.Stop) ∙ at_number 0 op_count k 0 h ∙ zero-add k

-- number 0 is a stop's alone
pub number_stop : (o : Op) → op_number o ≡ 0 → o ≡ op.Stop
number_stop op.Stop e = refl
number_stop op.SetNull e = absurd (omega arith)
number_stop op.Copy e = absurd (omega arith)
number_stop op.Load e = absurd (omega arith)
number_stop op.Clear e = absurd (omega arith)
number_stop op.Store e = absurd (omega arith)
number_stop op.New e = absurd (omega arith)
number_stop op.Free e = absurd (omega arith)
number_stop op.IsNull e = absurd (omega arith)
number_stop op.Same e = absurd (omega arith)
number_stop op.Choose e = absurd (omega arith)
number_stop op.Skip e = absurd (omega arith)
number_stop op.Relink e = absurd (omega arith)
number_stop op.LetGo e = absurd (omega arith)

-- a record with a known op, decoded, is its statement
pub decoded_is : (r : List ℕ) → byte r 1 < op_count → stmt_in (decoded r) ≡ stmt_of r
decoded_is r lt =
    ap (λ k. record {
      op = op_of k (byte r 2) (byte r 3);
      first_target = byte r 4;
      second_target = byte r 5;
    }) (numbered (byte r 1) lt)

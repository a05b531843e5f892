-- What holds of each op, by its number: one equation of lists says it of all.
use Prim.Native.Nat.{◌<◌, ℕ}
use mathlib.Core.Bool.{false}
use mathlib.Core.Path.{◌∙◌, ◌≡◌, ap, refl, sym}
use mathlib.Core.List.{map}
use native.Mathlib.Nat.{zero-add}
use native.Mathlib.Omega.{arith}
use lib.ListN
use lib.ListN.{get_or}
use lib.Dec.{eqb}
use borrow.Author.Tests.{ne_eqb}
use Rattle.model.specs.Base.{numbers}
use Rattle.model.specs.Machine.{Op, collects, is_stop, kind, stop}
use Rattle.model.specs.Records.{is_zero, op_count, op_of, ops_by}
use Rattle.model.proofs.lists.Lists.{get_or_map}
use Rattle.model.proofs.lists.Numbers.{at_number, length_numbers}

pub each_op : {A : Type 0} (f : Op → A) (g : ℕ → A) (u w : ℕ) → map f (ops_by u w) ≡ map g (numbers 0 op_count)
    → (op : ℕ) → op < op_count
    → f (op_of op u w) ≡ g op
each_op f g u w e op h =
    sym (ListN.get_or-map f (ops_by u w) op stop) ∙ ap (λ l. get_or l op (f stop)) e
    ∙ get_or_map g (numbers 0 op_count) op 0 (f stop) (let l = length_numbers 0 op_count in omega arith)
    ∙ ap g (at_number 0 op_count op 0 h ∙ zero-add op)

-- op 0 alone stops
pub op_stops : (op u w : ℕ) → op < op_count → is_stop (kind (op_of op u w)) ≡ is_zero op
op_stops op u w = each_op (λ o. is_stop (kind o)) is_zero u w refl op

pub op_goes : (op u w : ℕ) → op < op_count → (op ≡ 0 → ⊥) → is_stop (kind (op_of op u w)) ≡ false
op_goes op u w h z = op_stops op u w h ∙ ne_eqb op 0 z

-- op 13 alone collects what it loses
pub op_collects : (op u w : ℕ) → op < op_count → collects (kind (op_of op u w)) ≡ eqb op 13
op_collects op u w = each_op (λ o. collects (kind o)) (λ n. eqb n 13) u w refl op

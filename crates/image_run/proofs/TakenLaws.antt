-- The value that a statement takes away: which it is, by the op's number; and where it stands, by bytes.
use Prim.Native.Nat.{ℕ, ◌<◌}
use mathlib.Core.Path.{◌≡◌, refl, subst, ◌∙◌}
use mathlib.Core.Bool.{cond, true}
use mathlib.Core.List.{List, map}
use lib.Dec.{eqb}
use borrow.Author.Tests.{eqb-true}
use Rattle.std.specs.List.{list_any}
use Rattle.model.specs.Heap.{Heap, null, ptr}
use Rattle.model.specs.Machine.{action}
use Rattle.model.specs.Records.{op_count, op_of, val_of}
use Rattle.model.specs.Structs.{cuts_at, keeps_at}
use Rattle.model.specs.Notions.{In}
use Rattle.model.proofs.lists.Chains.{any_is}
use Rattle.model.proofs.lists.Lists.{any_find, map_in}
use Rattle.model.proofs.records.Ops.{each_op}
use Rattle.image_run.specs.Taken.{Stands, next_at, takes}

pub takes_op : (op u w : ℕ) (h : Heap) → op < op_count → takes (action (op_of op u w)) h
    ≡ cond (keeps_at op) null (cond (cuts_at op) (next_at h.slots (ptr h u)) (ptr h u))
takes_op op u w h =
    each_op (λ o. takes (action o) h)
    (λ n. cond (keeps_at n) null (cond (cuts_at n) (next_at h.slots (ptr h u)) (ptr h u))) u w refl op

pub byte_stands : (v : ℕ) (ps : List ℕ) → list_any (λ y. eqb y v) ps ≡ true → Stands (val_of v) (map val_of ps)
byte_stands v ps m c e =
    let (x, i, q) = any_find (λ y. eqb y v) ps (any_is (λ y. eqb y v) ps ∙ m) in
    subst (λ y. In y (map val_of ps)) e
    (subst (λ y. In (val_of y) (map val_of ps)) (eqb-true x v q) (map_in val_of x ps i))

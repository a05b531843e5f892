-- What an action cuts, sets and reads, by the op's number.
use Prim.Native.Nat.{ℕ, ◌<◌}
use mathlib.Core.Bool.{true, false, ◌||◌, cond}
use mathlib.Core.Option.{Option, none, some}
use mathlib.Core.Path.{◌≡◌, ◌∙◌, refl}
use lib.Dec.{eqb}
use Rattle.model.specs.Machine.{Action, Source, action, follow, from, link, make, nil, point, release, compare, splice, stay}
use Rattle.model.specs.Records.{op_count, op_of}
use Rattle.model.proofs.records.Ops.{each_op}
use Rattle.model.specs.Structs.{cuts_at, keeps_at}

-- the pointer whose cell loses its next by the action
abbrev pub cuts : Action → Option ℕ
cuts stay = none
cuts (compare u s) = none
cuts (point u s) = none
cuts (follow u w) = none
cuts (link u s) = some u
cuts (splice u w) = some u
cuts (make u) = none
cuts (release u) = some u

pub cuts_op : (op u w : ℕ) → op < op_count → cuts_at op ≡ true → cuts (action (op_of op u w)) ≡ some u
cuts_op op u w lt c = each_op (λ o. cuts (action o)) (λ n. cond (cuts_at n) (some u) none) u w refl op lt ∙ rw c

-- the pointer that the action sets
abbrev pub sets : Action → Option ℕ
sets stay = none
sets (compare u s) = none
sets (point u s) = some u
sets (follow u w) = some u
sets (link u s) = none
sets (splice u w) = none
sets (make u) = some u
sets (release u) = none

pub sets_op : (op u w : ℕ) → op < op_count → cuts_at op ≡ false → keeps_at op ≡ false → sets (action (op_of op u w))
    ≡ some u
sets_op op u w lt c k =
    each_op (λ o. sets (action o)) (λ n. cond (cuts_at n || keeps_at n) none (some u)) u w refl op lt ∙ rw (c, k)

-- what it reads for that: the value of a pointer, or the next of the cell that a pointer holds
pub data Reads : Type 0 where
  neither : Reads
  copies : ℕ → Reads
  follows : ℕ → Reads

abbrev reads_from : Source → Reads
reads_from nil = neither
reads_from (from w) = copies w

abbrev pub reads : Action → Reads
reads stay = neither
reads (compare u s) = neither
reads (point u s) = reads_from s
reads (follow u w) = follows w
reads (link u s) = neither
reads (splice u w) = neither
reads (make u) = neither
reads (release u) = neither

-- ops that link read nothing that they put into a pointer
abbrev reads_at : ℕ → ℕ → Reads
reads_at w n = cond (eqb n 2) (copies w) (cond (eqb n 3) (follows w) neither)

pub reads_op : (op u w : ℕ) → op < op_count → reads (action (op_of op u w)) ≡ reads_at w op
reads_op op u w = each_op (λ o. reads (action o)) (reads_at w) u w refl op

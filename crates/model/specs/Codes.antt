-- The numbers of what the code has names for: ops, faults and refusals, and what the answers of the code say in these
-- numbers. Assumes nothing.
use Rattle.std.specs.Prelude.{ℕ, List, [], ◌∷◌, get_or, Option, Some, None, Result, Ok, Err}
use Rattle.model.specs.declared.Node.{Node}
use Rattle.model.specs.declared.codes.Fault.{Fault}
use Rattle.model.specs.declared.codes.Fault.TheVariants as fault
use Rattle.model.specs.declared.codes.MoveRefusal.{MoveRefusal}
use Rattle.model.specs.declared.codes.MoveRefusal.TheVariants as move
use Rattle.model.specs.declared.codes.Op.{Op}
use Rattle.model.specs.declared.codes.Op.TheVariants as op
use Rattle.model.specs.declared.codes.RangeRefusal.{RangeRefusal}
use Rattle.model.specs.declared.codes.RangeRefusal.TheVariants as range
use Rattle.model.specs.declared.codes.Reason.{Reason}
use Rattle.model.specs.declared.codes.Reason.TheVariants as reason
use Rattle.model.specs.declared.codes.Refusal.{Refusal}

-- ---- ops, by the number in a statement's record

abbrev pub op_number : Op → ℕ
op_number op.Stop = 0
op_number op.SetNull = 1
op_number op.Copy = 2
op_number op.Load = 3
op_number op.Clear = 4
op_number op.Store = 5
op_number op.New = 6
op_number op.Free = 7
op_number op.IsNull = 8
op_number op.Same = 9
op_number op.Choose = 10
op_number op.Skip = 11
op_number op.Relink = 12
op_number op.LetGo = 13

-- the op with a number; a stop where there is none, as in `op_of`
abbrev pub op_at : ℕ → Op
op_at n =
    get_or (op.Stop ∷ op.SetNull ∷ op.Copy ∷ op.Load ∷ op.Clear ∷ op.Store ∷ op.New ∷ op.Free ∷ op.IsNull ∷ op.Same
    ∷ op.Choose ∷ op.Skip ∷ op.Relink ∷ op.LetGo ∷ []) n op.Stop

-- ---- faults

abbrev pub fault_code : Fault → ℕ
fault_code fault.Null = 1
fault_code fault.Undefined = 2
fault_code fault.Leak = 3

-- the fault that a run tells, 0 for none
abbrev pub fault_in : {A : Type 0} → Result A Fault → ℕ
fault_in (Ok _) = 0
fault_in (Err f) = fault_code f

-- ---- refusals of calls on records and images

abbrev pub reason_number : Reason → ℕ
reason_number reason.InputLength = 1
reason_number reason.StatementCount = 2
reason_number reason.ShapeCount = 3
reason_number reason.RecordKind = 4
reason_number reason.UnknownOp = 5
reason_number reason.StatementFields = 6
reason_number reason.Target = 7
reason_number reason.ShapeLayout = 8
reason_number (reason.UnreachableNode _) = 9
reason_number reason.RepeatedShape = 10
reason_number reason.LocationsFull = 11
reason_number reason.EdgesFull = 12
reason_number reason.Image = 13
reason_number reason.LostCell = 14
reason_number reason.Counters = 15
reason_number reason.Entry = 16
reason_number (reason.NodeNotCore _) = 18
reason_number (reason.NodeOrder _) = 19

-- the node that is told with it
abbrev pub node_told : Reason → Option Node
node_told (reason.UnreachableNode v) = Some v
node_told (reason.NodeNotCore v) = Some v
node_told (reason.NodeOrder v) = Some v
node_told _ = None

-- in numbers: 0 where none is
abbrev pub reason_node : Reason → ℕ
reason_node r = elim (node_told r) [ Some v ↦ v.0 | None ↦ 0 ]

-- the reason at a place
abbrev pub refusal_for : Reason → ℕ → Refusal
refusal_for r p = record { reason = r; place = p }

-- the number of what a check tells, 0 for none
abbrev pub reason_in : {A : Type 0} → Result A Reason → ℕ
reason_in (Ok _) = 0
reason_in (Err r) = reason_number r

-- ---- the other calls

-- 17: there is no such record
abbrev pub no_record_number : ℕ
no_record_number = 17

abbrev pub move_refusal_number : MoveRefusal → ℕ
move_refusal_number move.NotMade = 20
move_refusal_number move.CounterTooLarge = 21

abbrev pub range_refusal_number : RangeRefusal → ℕ
range_refusal_number (range.Range _) = 22
range_refusal_number (range.Path _) = 23

abbrev pub range_refusal_place : RangeRefusal → ℕ
range_refusal_place (range.Range k) = k
range_refusal_place (range.Path i) = i

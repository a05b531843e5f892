-- The promises of demand 3. Each is a type; its proof under it cites a law.
use Prim.Native.Nat.{ℕ}
use mathlib.Core.Path.{◌≡◌}
use mathlib.Core.Option.{some}
use mathlib.Core.List.{List}
use lib.ListN.{get_elem?, length}
use Rattle.model.specs.Heap.{Heap}
use Rattle.model.specs.Image.{unfold_heap}
use Rattle.model.specs.Runs.{Demand3, Describes}
use Rattle.model.specs.Translate.{Routine, check, good}
use Rattle.model.proofs.records.Checked.{check_good}
use Rattle.model.proofs.runs.Demand.{demand_three}
use Rattle.model.specs.Notions.{Positive}
use Rattle.model.proofs.shapes.Same.{elem_in}
use Rattle.model.proofs.shapes.Unfold.{counters_unfold, shape_unfold, unfold_is_heap}

-- "Demand 3 is a single claim about the whole list, in either direction, and not one for each step."
pub automaton_is_routine : Demand3
automaton_is_routine = demand_three

-- It speaks of something: every starting shape of an accepted input, with any counters of 1 or more, describes a heap.
abbrev pub StartsDescribe : Type 0
StartsDescribe = (s : List ℕ) (r : Routine) → check s ≡ good r → (i : ℕ) (sh : Heap) → get_elem? r.starts i ≡ some sh
    → (cs : List ℕ) → length cs ≡ length sh.slots → Positive cs → (h : Heap) × Describes sh cs h

pub starts_describe : StartsDescribe
starts_describe s r e i sh g cs len pos =
    let C = ((check_good s r e).shapes sh (elem_in r.starts i sh g)).0 in (
      unfold_heap sh cs,
      record {
        is_heap = unfold_is_heap sh C cs len pos;
        shape_is = shape_unfold sh C cs len pos;
        counters_are = counters_unfold sh C cs len pos;
      },
    )

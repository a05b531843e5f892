-- What the checks of a heap image and of a step's entry give. Assumes nothing.
use Rattle.std.specs.Prelude.{ℕ, ◌≤◌, ◌≡◌, Bool, List, length, take, Result, IfOk, OnOk}
use Rattle.model.specs.Heap.{order}
use Rattle.model.specs.Image.{entry_fits, heap_of, refusal_image}
use Rattle.model.specs.Machine.{entry}
use Rattle.model.specs.Records.{op_of}
use Rattle.model.specs.Structs.{failed_in, failing}
use Rattle.model.specs.declared.codes.Reason.{Reason}
use Rattle.visit.specs.Visit.{Held}

-- the answer c to the image ps, cs: its refusal; without one the first numbers of o, so many as it tells, are the cells
-- in order of first visit, and the marks s tell the core cells
pub record ImageChecked (ps cs o s : List ℕ) (c : Result ℕ Reason) : Type 0 where
  pub refusal : failed_in c ≡ failing (refusal_image ps cs) 0
  pub visited : IfOk c (λ n. take n o ≡ order (heap_of ps cs))
  pub few : IfOk c (λ n. n ≤ length cs)
  pub held : OnOk c (Held ps cs s)

-- b is whether the pick p and the cell c may be entered at an op, whichever its pointers
abbrev pub EntryChecked : ℕ → ℕ → ℕ → List ℕ → Bool → Type 0
EntryChecked op p c cs b =
    (u w : ℕ) (ps : List ℕ) → b ≡ entry_fits (op_of op u w) (entry p c) (heap_of ps cs)

-- The bytes of a heap image as values that name cells in use.
use Prim.Native.Nat.{ℕ, ◌<◌, ◌≤◌}
use mathlib.Core.Path.{◌≡◌}
use mathlib.Core.Bool.{false, not}
use mathlib.Core.List.{List, map}
use lib.Dec.{eqb}
use lib.ListN.{length, get_or, length-map, get_or-eq_default}
use Rattle.model.specs.Heap.{unused, in_use, named}
use Rattle.model.specs.Image.{cell_slot}
use Rattle.model.specs.Records.{val_of}
use Rattle.model.proofs.lists.Logic.{bool_case}
use Rattle.visit.proofs.ByteLaws.{slot_at_lem}
use Rattle.visit.specs.Steps.{slot_at}

pub slot_past : (cs : List ℕ) (c : ℕ) → length cs ≤ c → slot_at cs c ≡ unused
slot_past cs c h = let l : length (map cell_slot cs) ≤ c = rw (length-map cs cell_slot) h in
    get_or-eq_default (map cell_slot cs) unused l

pub used_byte : (b : ℕ) → in_use (cell_slot b) ≡ not (eqb b 0xfd)
used_byte b = bool_case (eqb b 0xfd) (λ t. rw t) (λ f. rw f)

-- a value as a test of its byte
pub named_in : (cs : List ℕ) (v : ℕ) → eqb v 0xfe ≡ false → eqb v 0xff ≡ false → v < length cs
    → named (slot_at cs) (val_of v) ≡ not (eqb (get_or cs v 0) 0xfd)
named_in cs v n m h = rw (n, m, slot_at_lem cs v h) (used_byte (get_or cs v 0))

pub named_past : (cs : List ℕ) (v : ℕ) → eqb v 0xfe ≡ false → eqb v 0xff ≡ false → length cs ≤ v
    → named (slot_at cs) (val_of v) ≡ false
named_past cs v n m h = rw (n, m, slot_past cs v h)

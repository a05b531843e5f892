-- The bytes of a heap image as values and slots.
use Prim.Native.Nat.{ℕ, zero, suc, ◌<◌}
use native.Mathlib.Omega.{arith}
use mathlib.Core.Path.{◌≡◌, sym, ap, ◌∙◌}
use mathlib.Core.List.{List, [], ◌∷◌, map}
use lib.Dec.{eqb}
use lib.ListN.{length, get_or, length-map}
use borrow.Author.Tests.{ne_eqb}
use Rattle.model.specs.Heap.{Val, cell, Slot, unused, holds}
use Rattle.model.specs.Image.{cell_slot}
use Rattle.model.specs.Records.{val_byte, val_of}
use Rattle.model.specs.Shape.{holds_cell, is_cell}
use Rattle.model.proofs.records.Bytes.{byte_back}
use Rattle.model.proofs.lists.Lists.{get_or_map}
use Rattle.model.proofs.lists.Logic.{bool_case, eq-case}
use Rattle.model.proofs.visits.Order.{used_below}
use Rattle.model.specs.Notions.{AllClosed, Closed, Used}
use Rattle.model.proofs.expansion.Writes.{holds_inj, slot-clash}
use Rattle.visit.specs.Steps.{slot_at}

pub cell_val : (v c : ℕ) → val_of v ≡ cell c → v ≡ c
cell_val v c e = sym (byte_back v) ∙ ap val_byte e

pub slot_at_lem : (cs : List ℕ) (c : ℕ) → c < length cs → slot_at cs c ≡ cell_slot (get_or cs c 0)
slot_at_lem cs c h = get_or_map cell_slot cs c 0 unused h

pub used_few : (cs : List ℕ) (c : ℕ) → Used (slot_at cs) c → c < length cs
used_few cs c u = rw (length-map cs cell_slot) at (used_below (map cell_slot cs) c u)

-- what a cell in use holds is the value of its byte
pub slot_val : (cs : List ℕ) (c : ℕ) (v : Val) → slot_at cs c ≡ holds v → v ≡ val_of (get_or cs c 0)
slot_val cs c v e =
    let s = slot_at_lem cs c (used_few cs c (v, e)) in
    bool_case (eqb (get_or cs c 0) 0xfd) (λ t. slot-clash (s ∙ rw t) e) (λ f. holds_inj (sym e ∙ s ∙ rw f))

pub is_byte : (c v : ℕ) → c < 0xfe → is_cell c (val_of v) ≡ eqb c v
is_byte c v h =
    eq-case v 0xfe (λ e. rw (e, ne_eqb c 0xfe (λ q. omega arith)))
    (λ n. eq-case v 0xff (λ e. rw (e, ne_eqb c 0xff (λ q. omega arith))) (λ m. rw (n, m)))

pub holds_byte : (c v : ℕ) → c < 0xfd → holds_cell c (cell_slot v) ≡ eqb c v
holds_byte c v h = eq-case v 0xfd (λ e. rw (e, ne_eqb c 0xfd (λ q. omega arith)))
    (λ n. rw n (is_byte c v (omega arith)))

-- the value of each pointer of a closed image
pub pointer_closed : (nx : ℕ → Slot) (ps : List ℕ) (i : ℕ) → AllClosed nx (map val_of ps) → i < length ps
    → Closed nx (val_of (get_or ps i 0))
pointer_closed nx [] i k h = absurd (omega arith)
pointer_closed nx (p ∷ ps) zero k h = k.0
pointer_closed nx (p ∷ ps) (suc i) k h = pointer_closed nx ps i k.1 (omega arith)

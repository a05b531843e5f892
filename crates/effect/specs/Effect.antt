-- What the effect of a statement on a heap image needs and answers; ps are the pointers' bytes and cs the cells' bytes.
use Rattle.std.specs.Prelude.{ℕ, zero, suc, ◌≤◌, ◌<◌, ◌≡◌, true, false, cond, List, map, eqb, length, get_or, Result, Ok, Err}
use Rattle.model.specs.Base.{pointer_count, most_cells}
use Rattle.model.specs.Codes.{fault_code, op_number}
use Rattle.model.specs.Heap.{Val, Heap, holds, next, closed}
use Rattle.model.specs.Machine.{Effect, action, done, effect, fault, at_null, at_undef, leak, look, through, set_ptr, put_slot, held}
use Rattle.model.specs.Records.{op_count, val_of}
use Rattle.model.specs.Image.{heap_of, past_end}
use Rattle.model.specs.Structs.{DecodedOk, keeps_at, op_in}
use Rattle.model.specs.declared.Decoded.{Decoded}
use Rattle.model.specs.declared.codes.Fault.{Fault}

-- a known op on two of six pointers of a closed image; at new, the cell x is one of the image
pub record EffectReady (d : Decoded) (x : ℕ) (ps cs : List ℕ) : Type 0 where
  pub known : op_number d.op < op_count
  pub is_u : d.u.0 < pointer_count
  pub is_w : d.w.0 < pointer_count
  pub six : length ps ≡ pointer_count
  pub few : length cs ≤ most_cells
  pub is_closed : closed (heap_of ps cs) ≡ true
  pub room : past_end (action (op_in d)) x (length cs) ≡ false

-- the effect that a number answers, with the heap afterwards: 0 is done, else a fault's number
abbrev pub effect_of : ℕ → Heap → Effect
effect_of zero h = done h
effect_of (suc zero) h = fault at_null
effect_of (suc (suc zero)) h = fault at_undef
effect_of (suc (suc (suc n))) h = fault leak

-- the answer r and the image qs, ds afterwards are the effect f on the image ps, cs; a fault leaves the image
pub record HasEffect (f : Heap → Effect) (ps cs : List ℕ) (r : ℕ) (qs ds : List ℕ) : Type 0 where
  pub outcome : effect_of r (heap_of qs ds) ≡ f (heap_of ps cs)
  pub stays : (r ≡ 0 → ⊥) → (qs ≡ ps) × (ds ≡ cs)

-- the byte b, where it is neither null nor undefined, is that of a cell in use
abbrev pub Named : List ℕ → ℕ → Type 0
Named cs b = (b ≡ 0xfe → ⊥) → (b ≡ 0xff → ⊥) → (b < length cs) × (get_or cs b 0 ≡ 0xfd → ⊥)

-- r is the cell that is read or written through the byte v, or the fault of doing so
abbrev pub Access : ℕ → Result ℕ Fault → Type 0
Access v (Ok c) = (c ≡ v) × (v ≡ 0xfe → ⊥) × (v ≡ 0xff → ⊥)
Access v (Err f) = (h : Heap) (k : ℕ → Effect) → effect_of (fault_code f) h ≡ through (val_of v) k

-- r is the fault of comparing two values, 0 where there is none
abbrev pub Compares : Val → Val → ℕ → Type 0
Compares a b r = (h : Heap) → effect_of r h ≡ look a (look b (done h))

-- a statement that leaves the heap: a stop, a test, a choice or a skip, on two of six pointers
pub record TestReady (d : Decoded) (ps : List ℕ) : Type 0 where
  pub fields : DecodedOk d
  pub stays : keeps_at (op_number d.op) ≡ true
  pub six : length ps ≡ pointer_count

-- r is the fault of such a statement on each heap with these pointers, 0 where there is none
abbrev pub TestFault : Decoded → List ℕ → ℕ → Type 0
TestFault d ps r = (x : ℕ) (h : Heap) → h.ptrs ≡ map val_of ps → effect_of r h ≡ effect (op_in d) x h

-- pointer u becomes the next of the cell v
abbrev pub loaded : ℕ → Val → Heap → Effect
loaded u v h = through v (λ c. done (set_ptr u (held (next h c)) h))

-- the next of the cell a becomes v
abbrev pub stored : Val → Val → Heap → Effect
stored a v h = through a (λ c. done (put_slot c (holds v) h))

-- the next of the cell a becomes the next of the cell b, which is looked at first
abbrev pub relinked : Val → Val → Heap → Effect
relinked a b h = through b (λ d. stored a (held (next h d)) h)

-- a value's byte once cell c is freed
abbrev pub wipe_byte : ℕ → ℕ → ℕ
wipe_byte c b = cond (eqb b c) 0xff b

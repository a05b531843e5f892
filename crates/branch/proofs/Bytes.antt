-- A pointer's value by its byte. Values are equal where their bytes are. And the ops that take branch 0, by their
-- numbers.
use Prim.Native.Nat.{zero, suc, ℕ, ◌+◌, ◌≤◌, ◌<◌}
use mathlib.Core.Path.{◌∙◌, ◌≡◌, ap, refl, sym}
use mathlib.Core.Bool.{Bool, false, cond, ◌&&◌}
use mathlib.Core.List.{List, map}
use native.Mathlib.Omega.{arith}
use lib.Dec.{eqb, leb, ltb}
use lib.ListN.{get_or, length}
use borrow.Author.Tests.{eqb-true, eq-eqb, leb-true, ltb-true}
use Rattle.model.specs.Heap.{Heap, ptr, same_val, undef}
use Rattle.model.specs.Machine.{branch}
use Rattle.model.specs.Records.{op_count, op_of, val_byte, val_of}
use Rattle.model.specs.Image.{heap_of}
use Rattle.model.proofs.lists.Logic.{and_l, and_r, bool_ext, not-true}
use Rattle.model.proofs.lists.Lists.{get_or_map}
use Rattle.model.proofs.records.Bytes.{byte_back}
use Rattle.model.proofs.records.Ops.{each_op}
use Rattle.model.proofs.shapes.Same.{val_same, same_val_refl}

pub ptr_of : (ps : List ℕ) (u : ℕ) (h : Heap) → h.ptrs ≡ map val_of ps → u < length ps → ptr h u
    ≡ val_of (get_or ps u 0)
ptr_of ps u h e lt = ap (λ l. get_or l u undef) e ∙ get_or_map val_of ps u 0 undef lt

pub ptr_byte : (ps cs : List ℕ) (u : ℕ) → u < length ps → ptr (heap_of ps cs) u ≡ val_of (get_or ps u 0)
ptr_byte ps cs u = ptr_of ps u (heap_of ps cs) refl

pub same_bytes : (a b : ℕ) → same_val (val_of a) (val_of b) ≡ eqb a b
same_bytes a b =
    bool_ext (same_val (val_of a) (val_of b)) (eqb a b)
    (λ e. eq-eqb a b (sym (byte_back a) ∙ ap val_byte (val_same (val_of a) (val_of b) e) ∙ byte_back b))
    (λ e. ap (λ x. same_val (val_of x) (val_of b)) (eqb-true a b e) ∙ same_val_refl (val_of b))

-- ---- ops by their numbers

-- op is none of the k numbers from a on
abbrev pub Missed : ℕ → ℕ → ℕ → Type 0
Missed a zero op = Unit {0}
Missed a (suc k) op = Missed a k op × (op ≡ a + k → ⊥)

pub missed : (a k op : ℕ) → Missed a k op → a ≤ op → op < a + k → ⊥
missed a zero op m l h = omega arith
missed a (suc k) op m l h = let q = m.1 in missed a k op m.0 l (omega arith)

-- the test for those numbers
abbrev pub among : ℕ → ℕ → ℕ → Bool
among a k op = leb a op && ltb op (a + k)

pub not_among : (a k op : ℕ) → Missed a k op → among a k op ≡ false
not_among a k op m =
    not-true (among a k op) (λ t. missed a k op m (leb-true a op (and_l (leb a op) (ltb op (a + k)) t))
    (ltb-true op (a + k) (and_r (leb a op) (ltb op (a + k)) t)))

-- all but the tests and choose, 8 to 10, take branch 0
pub straight : (op u w p : ℕ) (h : Heap) → op < op_count → Missed 8 3 op → branch (op_of op u w) p h ≡ 0
straight op u w p h l m =
    let takes : ℕ → ℕ = λ k. branch (op_of k u w) p h in
    each_op (λ o. branch o p h) (λ k. cond (among 8 3 k) (takes k) 0) u w refl op l
    ∙ ap (λ t. cond t (takes op) 0) (not_among 8 3 op m)

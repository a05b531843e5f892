-- What a statement looks at, and its ways, by the op's number.
use Prim.Native.Nat.{ℕ, ◌<◌}
use mathlib.Core.Bool.{Bool, true, false, cond}
use mathlib.Core.List.{[]}
use mathlib.Core.Path.{◌≡◌, ◌∙◌, ap, refl}
use lib.Dec.{eqb}
use lib.ListN.{length, length-map}
use borrow.Author.Tests.{lt-leb}
use Rattle.model.specs.Edges.{View, no_node, picks_of, view, ways_of, whole}
use Rattle.model.specs.Heap.{Heap}
use Rattle.model.specs.Machine.{Action, Kind, action, follow, kind, link, make, makes, point, release, compare, splice, stay}
use Rattle.model.specs.Records.{is_zero, op_count, op_of}
use Rattle.model.proofs.lists.Logic.{bool_case, clash}
use Rattle.model.proofs.records.Ops.{each_op, op_goes, op_stops}
use Rattle.way.specs.Way.{looks_at, makes_at, way_number}
use Rattle.model.specs.Image.{past_end}
use Rattle.model.specs.Structs.{keeps_at}

-- ---- ops

abbrev looks : Action → Bool
looks stay = false
looks (compare u s) = false
looks (point u s) = false
looks (follow u w) = true
looks (link u s) = true
looks (splice u w) = true
looks (make u) = false
looks (release u) = true

looks_not : (a : Action) (h : Heap) → looks a ≡ false → no_node ≡ view a h
looks_not stay h e = refl
looks_not (compare u s) h e = refl
looks_not (point u s) h e = refl
looks_not (follow u w) h e = clash refl e
looks_not (link u s) h e = clash refl e
looks_not (splice u w) h e = clash refl e
looks_not (make u) h e = refl
looks_not (release u) h e = clash refl e

-- a statement that looks at no node
pub view_none : (op u w : ℕ) (h : Heap) → op < op_count → looks_at op ≡ false → no_node ≡ view (action (op_of op u w)) h
view_none op u w h lt e = looks_not (action (op_of op u w)) h (each_op (λ o. looks (action o)) looks_at u w refl op lt
    ∙ e)

-- an op that changes no heap looks at none
pub view_keeps : (op u w : ℕ) (h : Heap) → op < op_count → keeps_at op ≡ true → no_node ≡ view (action (op_of op u w)) h
view_keeps op u w h lt e =
    looks_not (action (op_of op u w)) h
    (each_op (λ o. looks (action o)) (λ n. cond (keeps_at n) false (looks_at n)) u w refl op lt
    ∙ ap (λ t. cond t false (looks_at op)) e)

pub end_makes : (a : Action) (c n : ℕ) → (makes a ≡ true → c < n) → past_end a c n ≡ false
end_makes a c n f = bool_case (makes a) (λ m. rw (m, lt-leb n c (f m))) (λ m. rw m)

-- op 6 alone takes a cell
pub makes_op : (op u w : ℕ) → op < op_count → makes (action (op_of op u w)) ≡ makes_at op
makes_op op u w = each_op (λ o. makes (action o)) makes_at u w refl op

-- op 10 alone has two picks
pub picks_op : (op u w : ℕ) → op < op_count → length (picks_of (kind (op_of op u w))) ≡ cond (eqb op 10) 2 1
picks_op op u w = each_op (λ o. length (picks_of (kind o))) (λ n. cond (eqb n 10) 2 1) u w refl op

-- ---- how many ways

-- a statement that is no stop
pub number_goes : (op u w : ℕ) (v : View) (h : Heap) → op < op_count → (op ≡ 0 → ⊥)
    → way_number (kind (op_of op u w)) v h ≡ length (ways_of (kind (op_of op u w)) v h)
number_goes op u w v h lt z = rw (op_goes op u w lt z)

pub number_stop : (op u w : ℕ) (v : View) (h : Heap) → op < op_count → op ≡ 0
    → way_number (kind (op_of op u w)) v h ≡ 0
number_stop op u w v h lt e = rw (op_stops op u w lt ∙ ap is_zero e)

pub plain_count : (k : Kind) (h : Heap) → length (ways_of k no_node h) ≡ length (picks_of k)
plain_count k h = length-map (picks_of k) (λ p. whole [] p h)

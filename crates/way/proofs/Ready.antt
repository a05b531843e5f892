-- What a ready way says of the bytes: the location's record holds the shape.
use Prim.Native.Nat.{ℕ, ◌+◌, ◌≤◌, ◌<◌}
use mathlib.Core.Path.{◌≡◌, refl, sym, ap, subst, ◌∙◌}
use mathlib.Core.Bool.{true}
use mathlib.Core.List.{List}
use native.Mathlib.Omega.{arith}
use lib.ListN.{drop, length, length-drop, take}
use lib.Seq.{length-take-le}
use Rattle.model.specs.Base.{all}
use Rattle.model.specs.Heap.{Heap, next}
use Rattle.model.specs.Records.{byte, shape_of, value_byte}
use Rattle.model.proofs.visits.Order.{used_below}
use Rattle.model.proofs.records.ReadBack.{canon_writable, location_length, location_shape}
use Rattle.model.specs.Notions.{Used}
use Rattle.model.proofs.ways.Views.{view_used}
use Rattle.model.specs.Listings.{Writable}
use Rattle.model.proofs.records.ShapeBack.{values_pass}
use Rattle.way.specs.Way.{OpenReady}
use Rattle.way.specs.Ready.{WayReady}
use Rattle.way.specs.declared.Way.{Way}
use Rattle.model.specs.declared.Decoded.{Decoded}
use Rattle.model.specs.declared.Node.{Node}
use Rattle.std.specs.Prelude.{Option, None, Some}
use Rattle.model.specs.Machine.{action}
use Rattle.model.specs.Structs.{op_in}

-- ---- a ready way

module _ {l : List ℕ} {d : Decoded} {s : ℕ} {h : Heap} {y : Way} (R : WayReady l d s h y) where
  writable : Writable h
  writable = canon_writable h R.is_shape R.six

  pub location_wide : length l ≡ 32
  location_wide = ap length R.is_record ∙ location_length s h writable

  pub pointers_six : length (take 6 (drop 4 l)) ≡ 6
  pointers_six = length-take-le 6 (drop 4 l) (omega (arith, location_wide, length-drop 4 l))

  pub statement_is_lem : byte l 1 ≡ s
  statement_is_lem = ap (λ x. byte x 1) R.is_record

  pub nodes_is : byte l 3 ≡ length h.slots
  nodes_is = ap (λ x. byte x 3) R.is_record

  pub shape_is_lem : shape_of l ≡ h
  shape_is_lem = ap shape_of R.is_record ∙ location_shape s h writable

  pub nodes_few : byte l 3 ≤ 12
  nodes_few = omega (arith, nodes_is, writable.few)

  -- a node that is split is one of the shape's, in use
  pub node_used : (n : Node) → y.split ≡ Some n → Used (next h) n.0
  node_used n t = view_used (action (op_in d)) h R.is_shape.closed.0 n.0 (R.is_node n t)

  pub node_below : (n : Node) → y.split ≡ Some n → n.0 < byte l 3
  node_below n t = omega (arith, used_below h.slots n.0 (node_used n t), nodes_is)

  pub open_ready : (ps cs : List ℕ) → length ps ≡ 6 → 13 ≤ length cs → OpenReady l ps cs y.split
  open_ready ps cs six room = record {
    wide = location_wide;
    few = nodes_few;
    values = subst (λ x. all (value_byte (byte x 3)) (take (6 + byte x 3) (drop 4 x)) ≡ true) (sym R.is_record)
        (values_pass h writable);
    six = six;
    room = room;
    is_node = node_below;
  }

-- whether a node is split
pub split-case {ℓ} : {C : Type ℓ} (sp : Option Node) → ((n : Node) → sp ≡ Some n → C) → (sp ≡ None → C) → C
split-case (Some n) f g = f n refl
split-case None f g = g refl

-- A location with a shape as bytes: what its statement looks at, and the number of its ways.
use Prim.Native.Nat.{ℕ, ◌+◌}
use mathlib.Core.Path.{◌≡◌, refl, ap, subst, sym, ◌∙◌}
use mathlib.Core.Bool.{true}
use mathlib.Core.List.{List}
use native.Mathlib.Omega.{arith}
use lib.ListN.{drop, length, replicate, take}
use Rattle.std.specs.Prelude.{None}
use Rattle.model.specs.Base.{all}
use Rattle.model.specs.Codes.{op_number}
use Rattle.model.specs.Edges.{view}
use Rattle.model.specs.Heap.{Heap}
use Rattle.model.specs.Image.{heap_of}
use Rattle.model.specs.Listings.{Writable}
use Rattle.model.specs.Machine.{action, kind}
use Rattle.model.specs.Records.{byte, op_of, shape_of, value_byte}
use Rattle.model.specs.Structs.{op_in}
use Rattle.model.specs.declared.Decoded.{Decoded}
use Rattle.model.proofs.records.ReadBack.{canon_writable, location_length, location_shape}
use Rattle.model.proofs.records.ShapeBack.{values_pass}
use Rattle.way.proofs.Opened.{ready_heap}
use Rattle.way.specs.Way.{OpenReady, view_in, way_number}
use Rattle.way.specs.declared.Looked.{Looked}
use Rattle.location_edges.specs.LocationEdges.{AtShape, Counted}

module _ {l : List ℕ} {d : Decoded} {n s : ℕ} {h : Heap} (A : AtShape l d n s h) where
  writable : Writable h
  writable = canon_writable h A.is_shape A.six

  pub location_wide : length l ≡ 32
  location_wide = ap length A.is_record ∙ location_length s h writable

  open_ready : OpenReady l (replicate 6 0) (replicate 13 0) None
  open_ready = record {
    wide = location_wide;
    few = let k = ap (λ x. byte x 3) A.is_record in omega (arith, writable.few);
    values = subst (λ x. all (value_byte (byte x 3)) (take (6 + byte x 3) (drop 4 x)) ≡ true) (sym A.is_record)
        (values_pass h writable);
    six = refl;
    room = omega arith;
    is_node = λ v t. cc;
  }

  -- the heap that its bytes are
  bytes_are : heap_of (take 6 (drop 4 l)) (take (byte l 3) (drop 10 l)) ≡ h
  bytes_are =
      ready_heap l (replicate 6 0) (replicate 13 0) 0 None open_ready
      ∙ ap shape_of A.is_record ∙ location_shape s h writable

  -- what the six pointers give, and the number of ways by it
  pub counted : (x : Looked) (k : ℕ)
      → ((cs : List ℕ) → view_in x ≡ view (action (op_in d)) (heap_of (take 6 (drop 4 l)) cs))
      → ((u v : ℕ) (g : Heap) → k ≡ way_number (kind (op_of (op_number d.op) u v)) (view_in x) g)
      → Counted d h x k
  counted x k f g =
      let looks : view_in x ≡ view (action (op_in d)) h =
      f (take (byte l 3) (drop 10 l)) ∙ ap (view (action (op_in d))) bytes_are in
      record {
        looks = looks;
        number = g d.u.0 d.w.0 h ∙ ap (λ v. way_number (kind (op_in d)) v h) looks;
      }

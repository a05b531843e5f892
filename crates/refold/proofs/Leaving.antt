-- What a run left is folded: from what each callee ensures to what the next asks, and to what the whole ensures.
use Prim.Native.Nat.{ℕ, ◌+◌, ◌-◌, ◌≤◌, ◌<◌}
use mathlib.Core.Path.{◌≡◌, refl, sym, ap, subst, ◌∙◌}
use mathlib.Core.Bool.{true}
use mathlib.Core.List.{List, [], ◌∷◌, ◌++◌, append-nil, map}
use native.Mathlib.Omega.{arith}
use lib.ListN.{drop, get_or, length, length-append, length-map, replicate, take}
use borrow.Rule.Slice.PartMut.{mid_of, put_mid}
use Rattle.std.specs.Prelude.{Some}
use Rattle.model.specs.Base.{mem}
use Rattle.model.specs.declared.Node.{Node}
use Rattle.model.specs.Heap.{next}
use Rattle.model.specs.Image.{cell_slot, heap_of}
use Rattle.model.specs.Notions.{NoDup, Used}
use Rattle.model.specs.Records.{val_of}
use Rattle.model.specs.Shape.{segments}
use Rattle.model.proofs.expansion.Facts.{heap_closed, heap_kept}
use Rattle.model.proofs.expansion.Start.{where_is}
use Rattle.model.proofs.shapes.Segments.{each_cell_once}
use Rattle.model.proofs.visits.Order.{Toured, toured, used_below}
use Rattle.record.proofs.Bytes.{headed_is}
use Rattle.record.proofs.ListLaws.{drop_zeros}
use Rattle.folding.specs.Fold.{fold_byte, folded_bytes}
use Rattle.folding.specs.Shape.{IsShape}
use Rattle.cell_sum.proofs.Updates.{Segmented, update_codes}
use Rattle.cell_sum.specs.Codes.{CellsReady, code_at}
use Rattle.cell_sum.specs.declared.Weights.{Weights}
use Rattle.refold.specs.Refold.{IsLeft, LeaveReady}
use Rattle.refold.specs.Worded.{shape_bytes}

-- a record of zeros
abbrev pub blank : List ℕ
blank = replicate 32 0

pub part_room : 18 ≤ length (mid_of 4 28 blank)
part_room = omega arith

-- the bytes f of a shape of n nodes, written over it
pub over_blank : (f : List ℕ) (n : ℕ) → length f ≡ 6 + n → n ≤ 12
    → shape_bytes f ≡ put_mid 4 28 blank (f ++ drop (6 + n) (mid_of 4 28 blank))
over_blank f n e h =
    let zero = drop_zeros (6 + n) 28 [] (omega arith) in
    let tail = ap (λ (l : List ℕ). f ++ l) (zero ∙ append-nil _ ∙ ap (λ k. replicate (28 - k) 0) (sym e)) in
    ap (λ (l : List ℕ). 0 ∷ 0 ∷ 0 ∷ 0 ∷ l) (sym (append-nil _ ∙ tail))

pub folded_length : (m ps cs last : List ℕ) → length ps ≡ 6 → length (folded_bytes m ps cs last) ≡ 6 + length last
folded_length m ps cs last six =
    omega (
      arith,
      length-append (map (fold_byte m) ps) (map (λ c. fold_byte m (get_or cs c 0)) last),
      length-map ps (fold_byte m),
      length-map last (λ c. fold_byte m (get_or cs c 0)),
    )

module _ {ps cs visit held : List ℕ} {w : Weights} {t us : List ℕ} (L : LeaveReady ps cs visit held w t us) where
  tour_facts : Toured (heap_of ps cs)
  tour_facts = toured (heap_of ps cs) (heap_closed (heap_of ps cs) L.image.is_heap)

  -- a visited cell is in use, and so one of the image
  cell_used : (c : ℕ) → mem c visit ≡ true → Used (next (heap_of ps cs)) c
  cell_used c q = tour_facts.used c (subst (λ l. mem c l ≡ true) L.image.visited q)

  cell_below : (c : ℕ) → mem c visit ≡ true → c ≤ w.nodes
  cell_below c q = omega (arith, used_below (heap_of ps cs).slots c (cell_used c q), length-map cs cell_slot, L.few)

  tail_visited : (n : Node) → w.split ≡ Some n → mem w.nodes visit ≡ true
  tail_visited n e =
      subst (λ l. mem w.nodes l ≡ true) (sym L.image.visited)
      (heap_kept (heap_of ps cs) L.image.is_heap w.nodes (L.has_tail n e))

  different : NoDup visit
  different = subst NoDup (sym L.image.visited) tour_facts.nodup

  -- the shape is written behind the first four bytes of a blank record: m nodes, nd has the node of each cell
  module _ {nd z q : List ℕ} {m : ℕ} (S : IsShape ps cs nd z (mid_of 4 28 blank) q m) where
    node_of : (c : ℕ) → mem c visit ≡ true → get_or nd c 0 < m
    node_of c i =
        let g = heap_of ps cs in
        let x = where_is g (heap_closed g L.image.is_heap) (heap_kept g L.image.is_heap) c (cell_used c i) in
        let below : x.0 < m = omega (arith, x.1, S.number) in
        omega (arith, S.nodes x.0 c below x.2)

    pub sum_ready : length nd ≡ 16 → CellsReady visit nd w (length us)
    sum_ready len =
        let old = L.few_old in
        let room = L.room in
        let twelve = S.twelve in
        record {
          few_old = old;
          below = cell_below;
          tabled = λ c i. omega (arith, cell_below c i);
          nodes = λ c i. omega (arith, node_of c i);
          is_node = L.is_node;
          has_tail = tail_visited;
        }

    segmented : Segmented visit nd w (segments (heap_of ps cs))
    segmented = record {
      is_flat = (each_cell_once (heap_of ps cs) L.image.is_heap).0 ∙ sym L.image.visited;
      different = different;
      tabled = λ j c i. S.nodes j c (omega (arith, S.number));
      below = cell_below;
      is_node = L.is_node;
      has_tail = tail_visited;
    }

    -- the updates are us'
    pub is_left : (us' : List ℕ) → length us' ≡ length us
        → ((j : ℕ) → j < length us → get_or us' j 0 ≡ code_at nd w visit j)
        → IsLeft ps cs w (put_mid 4 28 blank q) us' m
    is_left us' len codes =
        let g = heap_of ps cs in
        let number = S.number in
        let twelve = S.twelve in
        let room = L.room in
        record {
          target = λ s. headed_is 0x4c s m g blank q refl (length-map ps val_of ∙ L.image.six) number twelve S.bytes;
          number = number;
          few = twelve;
          updates = ap (λ i. take i us') number
              ∙ update_codes visit nd w (segments g) segmented us' (omega arith) (λ j i. codes j (omega arith));
        }

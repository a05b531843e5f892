-- The bytes that the writers leave are those of the definitions, and those are the records of the model.
use Prim.Native.Nat.{ℕ, suc, ◌+◌, ◌-◌, ◌*◌, ◌/◌, ◌%◌, ◌≤◌, ◌<◌}
use mathlib.Core.Path.{◌≡◌, refl, sym, ap, ap₂, ◌∙◌}
use mathlib.Core.List.{List, [], ◌∷◌, ◌++◌, append_assoc, append-nil, map, map-map}
use native.Mathlib.Omega.{arith}
use lib.ListN.{length, get_or, take, drop, replicate, length-append, length-drop, length-map}
use lib.Seq.{drop-drop, length-take-le}
use borrow.Rule.Slice.PartMut.{mid_of, put_mid}
use Rattle.model.specs.Base.{joined}
use Rattle.model.specs.Heap.{Heap}
use Rattle.model.specs.Edges.{Edge}
use Rattle.model.specs.Records.{branch_byte, edge_record, filled, shape_bytes, slot_byte, two_bytes, update_code, val_byte}
use Rattle.model.specs.Shape.{segments, shape}
use Rattle.model.proofs.lists.Slices.{joined_next, put_back, put_next}
use Rattle.model.specs.declared.EdgeFields.{EdgeFields}
use Rattle.record.specs.Written.{edge_bytes, update_bytes}
use Rattle.model.specs.Structs.{Coded, code_in}
use Rattle.record.proofs.ListLaws.{drop_zeros}

-- ---- shapes

-- a blank record b of whose part from byte 4 on the front was written with the shape of g, once its head is written too
pub headed_is : (tag s k : ℕ) (g : Heap) (b q : List ℕ) → b ≡ replicate 32 0 → length g.ptrs ≡ 6 → k
    ≡ length (segments g) → k ≤ 12
    → q ≡ (map val_byte (shape g).ptrs ++ map slot_byte (shape g).slots) ++ drop (6 + k) (mid_of 4 (length b - 4) b)
    → tag ∷ s ∷ 0 ∷ k ∷ drop 4 (put_mid 4 (length b - 4) b q) ≡ tag ∷ s ∷ 0 ∷ shape_bytes (shape g)
headed_is tag s k g b q e p n f w =
    let x = map val_byte (shape g).ptrs in
    let y = map slot_byte (shape g).slots in
    let six : length x ≡ 6 = simp length-map p in
    let nodes : k ≡ length (shape g).slots = simp length-map n in
    let few : length y ≡ k = simp length-map (sym n) in
    let at = 4 + (6 + k) in
    let m : 32 - at ≡ 28 - length (x ++ y) = omega (arith, length-append x y) in
    let z : drop {A = ℕ} at (replicate 32 0) ≡ replicate (28 - length (x ++ y)) 0 =
    drop_zeros at 32 [] (omega arith) ∙ append-nil _ ∙ ap (λ i. replicate i 0) m in
    ap (λ (l : List ℕ). tag ∷ s ∷ 0 ∷ k ∷ drop 4 l) (put_back b (x ++ y) q 4 (6 + k) w
    ∙ ap (λ l. take 4 l ++ ((x ++ y) ++ drop at l)) e)
    ∙ (λ i. tag ∷ s ∷ 0 ∷ nodes i ∷ ((x ++ y) ++ z i))

-- ---- edges

joined_length : (us : List ℕ) → length (joined (map two_bytes us)) ≡ 2 * length us
joined_length [] = refl
joined_length (x ∷ us) = omega (arith, joined_length us)

pub updates_length : (us : List ℕ) (k : ℕ) → k ≤ length us → length (update_bytes us k) ≡ 2 * k
updates_length us k h = joined_length (take k us) ∙ ap (λ n. 2 * n) (length-take-le k us h)

-- the list p with j updates written from byte 8 on
abbrev pub with_updates : List ℕ → List ℕ → ℕ → List ℕ
with_updates p us j = take 8 p ++ (update_bytes us j ++ drop (8 + 2 * j) p)

-- a number of two bytes, as the library writes it
pub low_high : (u : ℕ) → u < 65536 → u % 256 ∷ u / 256 % 256 ∷ [] ≡ two_bytes u
low_high u h = let e : u / 256 % 256 ≡ u / 256 = omega arith in ap (λ b. u % 256 ∷ b ∷ []) e

-- one update more
pub updates_turn : (p us b : List ℕ) (j : ℕ) → 8 + 2 * (j + 1) ≤ length p → j < length us
    → b ≡ two_bytes (get_or us j 0)
    → put_mid (8 + 2 * j) (10 + 2 * j - (8 + 2 * j)) (with_updates p us j) b ≡ with_updates p us (j + 1)
updates_turn p us b j h k e =
    let u = get_or us j 0 in
    let n = 8 + 2 * j in
    let pre = take 8 p ++ update_bytes us j in
    let lp : length pre ≡ n =
    length-append (take 8 p) (update_bytes us j) ∙ ap₂ ◌+◌ (length-take-le 8 p (omega arith))
    (updates_length us j (omega arith)) in
    let x = pre ++ drop n p in
    let lw : length x ≡ length p = omega (arith, length-append pre (drop n p), length-drop n p) in
    let two : 10 + 2 * j - n ≡ 2 = omega arith in
    let next : n + 2 ≡ 8 + 2 * (j + 1) = omega arith in
    let more : update_bytes us (j + 1) ≡ update_bytes us j ++ two_bytes u = joined_next two_bytes us j k in
    ap (λ (z : List ℕ). put_mid n (10 + 2 * j - n) z b) (sym (append_assoc (take 8 p) (update_bytes us j) (drop n p)))
    ∙ ap₂ (λ (m : ℕ) (y : List ℕ). put_mid n m x y) two e
    ∙ ap (λ z. take n x ++ (two_bytes u ++ z)) (drop-drop 2 n x)
    ∙ put_next p x pre (two_bytes u) n 2 lw (omega arith) refl
    ∙ ap (λ m. (pre ++ two_bytes u) ++ drop m p) next ∙ rw more (simp append_assoc)

-- the first eight bytes of an edge's record
abbrev pub edge_head : EdgeFields → List ℕ
edge_head e =
    let g = code_in e.guards.first in
    0x45 ∷ branch_byte e.branch (code_in e.guards.second)
    ∷ (two_bytes e.from ++ (two_bytes e.to ++ g.test ∷ g.node ∷ []))

-- the record of an edge, its first eight bytes and then its updates in a record of zeros
pub edge_is : (e : EdgeFields) (us z : List ℕ) → e.nodes ≤ 12 → e.nodes ≤ length us
    → with_updates (edge_head e ++ (replicate 24 0 ++ z)) us e.nodes ≡ edge_bytes e us ++ z
edge_is e us z p q =
    let k = e.nodes in
    let n : 8 + 2 * k ≡ suc (suc (suc (suc (suc (suc (suc (suc (2 * k)))))))) = omega arith in
    let m : 24 - length (update_bytes us k) ≡ 24 - 2 * k = ap (λ x. 24 - x) (updates_length us k q) in
    let x = edge_head e in
    let w = update_bytes us k in
    ap (λ i. x ++ (w ++ drop i (x ++ (replicate 24 0 ++ z)))) n
    ∙ ap (λ l. x ++ (w ++ l)) (drop_zeros (2 * k) 24 z (omega arith))
    ∙ ap (λ l. x ++ l) (sym (append_assoc w (replicate (24 - 2 * k) 0) z))
    ∙ ap (λ i. (x ++ (w ++ replicate i 0)) ++ z) (sym m)

-- what is written for an edge of the model
pub edge_record_lem : (f : EdgeFields) (us : List ℕ) (e : Edge) → f.branch ≡ e.branch_no
    → Coded e.guards f.guards → take f.nodes us ≡ map update_code e.updates
    → edge_bytes f us ≡ edge_record f.from f.to e
edge_record_lem f us e b p q =
    let u : update_bytes us f.nodes ≡ joined (map (λ x. two_bytes (update_code x)) e.updates) =
    ap (λ l. joined (map two_bytes l)) q ∙ ap joined (map-map two_bytes update_code e.updates) in
    λ i. 0x45 ∷ branch_byte (b i) (sym p.1 i)
    ∷ (two_bytes f.from ++ two_bytes f.to ++ (sym p.0 i).test ∷ (sym p.0 i).node ∷ filled 24 (u i))

-- The steps of the loops that write the image: the first cell of the next node, the next cell of a strand, the next
-- strand.
use Prim.Native.Nat.{ℕ, zero, suc, ◌+◌, ◌-◌, ◌≤◌, ◌<◌}
use mathlib.Core.Path.{◌≡◌, sym, ap, ap₂, ◌∙◌}
use mathlib.Core.List.{List, [], ◌∷◌, ◌++◌, append_assoc}
use native.Mathlib.Nat.{add_assoc, suc-add}
use native.Mathlib.Omega.{arith}
use lib.ListN.{length, drop, get_or, take, drop_of_length-le}
use Rattle.model.specs.Base.{sum}
use Rattle.model.specs.Image.{first_cell}
use Rattle.model.proofs.lists.Slices.{drop_step}
use Rattle.unfolding.specs.Bytes.{placed_byte, strand_bytes, strands_bytes}

pub first_next : (vs : List ℕ) (n : ℕ) → n < length vs → first_cell vs (n + 1) ≡ first_cell vs n + get_or vs n 0
first_next [] n h = absurd (omega arith)
first_next (v ∷ vs) zero h = omega arith
first_next (v ∷ vs) (suc n) h =
    let e = first_next vs n (omega arith) in
    rw (suc-add n 1, e) (sym (add_assoc v (first_cell vs n) (get_or vs n 0)))

pub first_most : (vs : List ℕ) (n : ℕ) → first_cell vs n ≤ sum (λ v. v) vs
first_most vs zero = omega arith
first_most [] (suc n) = omega arith
first_most (v ∷ vs) (suc n) = omega (arith, first_most vs n)

-- a cell before the last of a strand that ends before cell e
pub strand_step : (i e v : ℕ) → i + 1 < e → strand_bytes i (e - i) v ≡ (i + 1) ∷ strand_bytes (i + 1) (e - (i + 1)) v
unfolding strand_bytes
strand_step i e v h =
    let p : e - i ≡ suc (suc (e - (i + 2))) = omega arith in
    let q : e - (i + 1) ≡ suc (e - (i + 2)) = omega arith in
    rw (p, q)

pub strand_last : (i e v : ℕ) → i + 1 ≡ e → strand_bytes i (e - i) v ≡ v ∷ []
unfolding strand_bytes
strand_last i e v h = let p : e - i ≡ 1 = omega arith in rw p

-- the strand of node n, then the others
pub strands_step : (fs ss cs : List ℕ) (b n : ℕ) → n < length ss → length ss ≡ length cs
    → strands_bytes fs b (drop n ss) (drop n cs)
    ≡ strand_bytes b (get_or cs n 0) (placed_byte fs (get_or ss n 0)) ++ strands_bytes fs (b + get_or cs n 0)
    (drop (n + 1) ss)
    (drop (n + 1) cs)
unfolding strands_bytes
strands_step fs ss cs b n h l = ap₂ (strands_bytes fs b) (drop_step ss n h) (drop_step cs n (omega arith))

pub strands_end : (fs ss cs : List ℕ) (b n : ℕ) → length ss ≤ n → strands_bytes fs b (drop n ss) (drop n cs) ≡ []
unfolding strands_bytes
strands_end fs ss cs b n h = ap (λ l. strands_bytes fs b l (drop n cs)) (drop_of_length-le ss h)

-- cells l with the strand of node n written, as k: the other strands follow
pub strands_push : (fs ss cs l k : List ℕ) (b n : ℕ) → n < length ss → length ss ≡ length cs
    → take (b + get_or cs n 0) k ≡ take b l ++ strand_bytes b (get_or cs n 0) (placed_byte fs (get_or ss n 0))
    → take (b + get_or cs n 0) k ++ strands_bytes fs (b + get_or cs n 0) (drop (n + 1) ss) (drop (n + 1) cs) ≡ take b l
    ++ strands_bytes fs b (drop n ss) (drop n cs)
strands_push fs ss cs l k b n h e w =
    let rest = strands_bytes fs (b + get_or cs n 0) (drop (n + 1) ss) (drop (n + 1) cs) in
    let x = strand_bytes b (get_or cs n 0) (placed_byte fs (get_or ss n 0)) in
    ap (λ t. t ++ rest) w ∙ append_assoc (take b l) x rest
    ∙ ap (λ t. take b l ++ t) (sym (strands_step fs ss cs b n h e))

-- What `sum_cells` writes are the codes of an edge's updates, where the table has the segment of each cell.
use Prim.Native.Nat.{ℕ, zero, suc, ◌+◌, ◌≤◌, ◌<◌}
use mathlib.Core.Bool.{true, cond}
use mathlib.Core.List.{List, [], ◌∷◌, map}
use mathlib.Core.Path.{◌≡◌, refl, sym, ap, ap₂, subst, ◌∙◌}
use native.Mathlib.Omega.{arith}
use lib.Dec.{eqb}
use lib.ListN.{get_or, length, length-map, take}
use lib.Seq.{ext_get_or, get_or-take, length-take-le}
use borrow.Author.Tests.{eq-eqb, eqb-true, ne_eqb}
use Rattle.model.specs.Base.{mem, sum}
use Rattle.model.specs.Edges.{update_of}
use Rattle.model.specs.Records.{update_code}
use Rattle.model.specs.Shape.{Seg, cells}
use Rattle.model.proofs.expansion.Cuts.{flat_mem, flat_nodup, mem_flat}
use Rattle.model.proofs.lists.Lists.{get_or_map}
use Rattle.model.specs.Notions.{NoDup, flat, seg_at, seg}
use Rattle.model.proofs.lists.Logic.{bool_ext, mem_here, mem_there}
use Rattle.model.proofs.lists.Slices.{sum_append}
use Rattle.std.specs.Prelude.{Option, Some, None}
use Rattle.model.specs.declared.Node.{Node}
use Rattle.cell_sum.specs.declared.Weights.{Weights}
use Rattle.cell_sum.specs.Codes.{base_at, code_at, plus_in, sum_at, weight_in}
use Rattle.cell_sum.proofs.Codes.{rest_base, segment_update}

-- ---- sums over all cells

module _ (node : List ℕ) (f : ℕ → ℕ) where
  sum_in : (j : ℕ) (l : List ℕ) → ((c : ℕ) → mem c l ≡ true → get_or node c 0 ≡ j) → sum_at node f j l ≡ sum f l
  sum_in j [] h = refl
  sum_in j (c ∷ l) h = rw (eq-eqb (get_or node c 0) j (h c (mem_here c l)))
      (ap (λ n. f c + n) (sum_in j l (λ d q. h d (mem_there d c l q))))

  sum_out : (j : ℕ) (l : List ℕ) → ((c : ℕ) → mem c l ≡ true → get_or node c 0 ≡ j → ⊥) → sum_at node f j l ≡ 0
  sum_out j [] h = refl
  sum_out j (c ∷ l) h = rw (ne_eqb (get_or node c 0) j (h c (mem_here c l)))
      (omega (arith, sum_out j l (λ d q. h d (mem_there d c l q))))

  -- the table numbers these segments from b on
  abbrev From : ℕ → List Seg → Type 0
  From b ss = (i c : ℕ) → i < length ss → mem c (cells (seg_at ss i)) ≡ true → get_or node c 0 ≡ b + i

  from_rest : (b : ℕ) (s : Seg) (ss : List Seg) → From b (s ∷ ss) → From (suc b) ss
  from_rest b s ss h i c lt q = h (suc i) c (omega arith) q ∙ omega arith

  sum_past : (ss : List Seg) (b j : ℕ) → j < b → From b ss → sum_at node f j (flat ss) ≡ 0
  sum_past [] b j lt h = refl
  sum_past (s ∷ ss) b j lt h =
      sum_append (λ c. cond (eqb (get_or node c 0) j) (f c) 0) (cells s) (flat ss)
      ∙ omega (
        arith,
        sum_out j (cells s) (λ c q e. omega (arith, h 0 c (omega arith) q)),
        sum_past ss (suc b) j
            (omega arith) (from_rest b s ss h),
      )

  sum_flat : (ss : List Seg) (b i j : ℕ) → j ≡ b + i → i < length ss → From b ss → sum_at node f j (flat ss)
      ≡ sum f (cells (seg_at ss i))
  sum_flat [] b i j e lt h = absurd (omega arith)
  sum_flat (s ∷ ss) b zero j e lt h =
      sum_append (λ c. cond (eqb (get_or node c 0) j) (f c) 0) (cells s) (flat ss)
      ∙ omega (
        arith,
        sum_in j (cells s) (λ c q. omega (arith, h 0 c (omega arith) q)),
        sum_past ss (suc b) j
            (omega arith) (from_rest b s ss h),
      )
  sum_flat (s ∷ ss) b (suc i) j e lt h =
      sum_append (λ c. cond (eqb (get_or node c 0) j) (f c) 0) (cells s) (flat ss)
      ∙ omega (
        arith,
        sum_out j (cells s) (λ c q z. omega (arith, h 0 c (omega arith) q)),
        sum_flat ss (suc b) i j (omega arith) (omega arith) (from_rest b s ss h),
      )

-- ---- the codes

-- the cells l cut into the segments ss, with the segment of each cell in the table; at a split, at is an old node and
-- the tail is a cell of l
pub record Segmented (l node : List ℕ) (w : Weights) (ss : List Seg) : Type 0 where
  pub is_flat : flat ss ≡ l
  pub different : NoDup l
  pub tabled : (j c : ℕ) → j < length ss → mem c (cells (seg_at ss j)) ≡ true → get_or node c 0 ≡ j
  pub below : (c : ℕ) → mem c l ≡ true → c ≤ w.nodes
  pub is_node : (n : Node) → w.split ≡ Some n → n.0 < w.nodes
  pub has_tail : (n : Node) → w.split ≡ Some n → mem w.nodes l ≡ true

module _ (l node : List ℕ) (w : Weights) (ss : List Seg) (S : Segmented l node w ss) where
  abbrev k : ℕ
  k = w.nodes

  -- the tail's segment is the one that the table says
  tail_in : (j : ℕ) → j < length ss → (sp : Option Node) → w.split ≡ sp
      → base_at sp (get_or node k 0) j ≡ rest_base sp k (cells (seg_at ss j))
  tail_in j h None e = refl
  tail_in j h (Some v) e = ap (λ b. cond b 0 4096) (bool_ext (eqb (get_or node k 0) j) (mem k (cells (seg_at ss j)))
      (λ q.
      let r = flat_mem ss k (subst (λ m. mem k m ≡ true) (sym S.is_flat) (S.has_tail v e)) in
      let n = S.tabled r.0 k r.1 r.2 in
      let t = eqb-true (get_or node k 0) j q in
      subst (λ i. mem k (cells (seg_at ss i)) ≡ true) (sym n ∙ t) r.2)
      (λ q. eq-eqb (get_or node k 0) j (S.tabled j k h q)))

  pub update_code_lem : (j : ℕ) → j < length ss → code_at node w l j
      ≡ update_code (update_of k (weight_in w) (seg_at ss j))
  update_code_lem j h =
      ap₂ (λ b n. b + n) (tail_in j h w.split refl)
      (ap (sum_at node (plus_in w) j) (sym S.is_flat)
      ∙ sum_flat node (plus_in w) ss 0 j j (omega arith) h (λ i c lt q. S.tabled i c lt q ∙ omega arith))
      ∙ segment_update w.split k (seg_at ss j) S.is_node
      (flat_nodup ss j (subst NoDup (sym S.is_flat) S.different) h)
      (λ c q. S.below c (subst (λ m. mem c m ≡ true) S.is_flat (mem_flat ss j c h q)))

  -- so the first entries are the codes of the edge's updates, one for each segment
  pub update_codes : (us : List ℕ) → length ss ≤ length us
      → ((j : ℕ) → j < length ss → get_or us j 0 ≡ code_at node w l j)
      → take (length ss) us ≡ map (λ s. update_code (update_of k (weight_in w) s)) ss
  update_codes us h e =
      let code : Seg → ℕ = λ s. update_code (update_of k (weight_in w) s) in
      let len = length-take-le (length ss) us h in
      ext_get_or 0 (take (length ss) us) (map code ss) (len ∙ sym (length-map ss code))
      (λ j lt.
      let below : j < length ss = rw len at lt in
      get_or-take (length ss) us j 0 below ∙ e j below ∙ update_code_lem j below
      ∙ sym (get_or_map code ss j (seg 0 []) 0 below))

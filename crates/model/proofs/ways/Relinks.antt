-- Relinking: what it looks at where these are two nodes, and that it leaks where the first is more than one cell: the
-- cell after the first's head is then held by that head alone.
use Prim.Native.Nat.{◌≤◌, ℕ}
use mathlib.Core.Path.{◌∙◌, ◌≡◌, ap, refl, subst, sym}
use mathlib.Core.Logic.{inl, inr}
use mathlib.Core.Bool.{false, true}
use mathlib.Core.List.{List, [], ◌∷◌}
use native.Mathlib.Omega.{arith}
use lib.Dec.{eqb}
use lib.ListN.{get_or, length}
use borrow.Author.Tests.{eqb-false}
use Rattle.model.specs.Base.{mem}
use Rattle.model.specs.Edges.{no_node, split_heap, two_nodes, view, view_pair, view_val}
use Rattle.model.specs.Heap.{Heap, Val, cell, holds, next, null, ptr, undef}
use Rattle.model.specs.Machine.{Action, compare, fault, follow, keep, leak, link, make, perform, point, release, splice, stay}
use Rattle.model.specs.Notions.{Chain, ClosedHeap, Kept, Used, img, seg_at}
use Rattle.model.specs.Shape.{core, counters, segments, shape}
use Rattle.model.proofs.expansion.Cores.{core_inner, core_is, first_inj}
use Rattle.model.proofs.expansion.Effects.{first_used, ptr_img}
use Rattle.model.proofs.expansion.Folds.{chain_used}
use Rattle.model.proofs.expansion.Splits.{splice_does}
use Rattle.model.proofs.expansion.Start.{start}
use Rattle.model.proofs.expansion.Unheld.{Only, other_leaks, split_only, split_used}
use Rattle.model.proofs.lists.Logic.{bool_case, clash, eq-case, mem_here, mem_there}
use Rattle.model.proofs.ways.Ways.{size_at}
use Rattle.model.proofs.ways.Views.{ptr_used}

-- ---- two nodes are looked at

no-two {ℓ} : {C : Type ℓ} {n m : ℕ} → no_node ≡ two_nodes n m → C
no-two {n} {m} e = absurd (let z : ◌≡◌ {A = ℕ} 0 1 = cc in omega arith)

one-two {ℓ} : {C : Type ℓ} {n m : ℕ} (v : Val) → view_val v ≡ two_nodes n m → C
one-two {n} {m} (cell i) e = absurd (let z : ◌≡◌ {A = ℕ} 0 1 = cc in omega arith)
one-two null e = no-two e
one-two undef e = no-two e

-- only a relink does, through two pointers to different nodes
pub record IsSplice (a : Action) (h : Heap) (n m : ℕ) : Type 0 where
  pub u : ℕ
  pub w : ℕ
  pub action_is : a ≡ splice u w
  pub first_is : ptr h u ≡ cell n
  pub second_is : ptr h w ≡ cell m
  pub apart : m ≡ n → ⊥

pair_two : (v w : Val) (n m : ℕ) → view_pair v w ≡ two_nodes n m → (v ≡ cell n) × (w ≡ cell m) × (m ≡ n → ⊥)
pair_two (cell i) (cell j) n m e =
    bool_case (eqb i j) (λ q. no-two (rw q at e))
    (λ q. let z : two_nodes i j ≡ two_nodes n m = rw q at e in
    let a : i ≡ n = cc in let b : j ≡ m = cc in
    (ap cell a, ap cell b, λ p. eqb-false i j q (a ∙ sym p ∙ sym b)))
pair_two (cell i) null n m e = no-two e
pair_two (cell i) undef n m e = no-two e
pair_two null w n m e = no-two e
pair_two undef w n m e = no-two e

pub view_two : (a : Action) (h : Heap) (n m : ℕ) → view a h ≡ two_nodes n m → IsSplice a h n m
view_two stay h n m e = no-two e
view_two (compare u s) h n m e = no-two e
view_two (point u s) h n m e = no-two e
view_two (follow u w) h n m e = one-two (ptr h w) e
view_two (link u s) h n m e = one-two (ptr h u) e
view_two (splice u w) h n m e =
    let p = pair_two (ptr h u) (ptr h w) n m e in
    record { u = u; w = w; action_is = refl; first_is = p.0; second_is = p.1; apart = p.2 }
view_two (make u) h n m e = no-two e
view_two (release u) h n m e = one-two (ptr h u) e

-- ---- the leak

-- a cell that is not core and is held by the next of b is held by nothing else
only_holder : (h : Heap) (b c : ℕ) → Used (next h) c → core h c ≡ false → next h b ≡ holds (cell c) → Only h b c
only_holder h b c u k e = record {
  used = u;
  pointers = λ i. clash ((core_is h c).1 (inl i)) k;
  nexts = λ i q. eq-case i b (λ z. z) (λ z. clash ((core_is h c).1 (inr (i, b, eqb-false i b z, q, e))) k);
}

-- on the shape, the head of the first split off
pub split_leaks : (a : Action) (x n m : ℕ) (h : Heap) → ClosedHeap h → view a h ≡ two_nodes n m
    → keep (perform a x (split_heap n (length h.slots) h)) ≡ fault leak
split_leaks a x n m h cl v =
    let k = length h.slots in
    let S = view_two a h n m v in
    let W = split_heap n k h in
    let un = ptr_used h S.u n cl.0 S.first_is in
    let um = ptr_used h S.w m cl.0 S.second_is in
    ap (λ y. keep (perform y x W)) S.action_is
    ∙ ap keep (splice_does S.u S.w x n m W S.first_is S.second_is)
    ∙ other_leaks W n k m (split_only h cl n un) (split_used h n m un um) S.apart

-- on a heap, where the counter of the first is more than 1
module _ (H : Heap) (cl : ClosedHeap H) (kp : Kept H) where
  pub heap_leaks : (a : Action) (x n m : ℕ) → view a (shape H) ≡ two_nodes n m → 2 ≤ get_or (counters H) n 1
      → keep (perform a x H) ≡ fault leak
  heap_leaks a x n m v e = by_rest (seg_at (segments H) n).rest refl
    where
      by_rest : (l : List ℕ) → (seg_at (segments H) n).rest ≡ l → keep (perform a x H) ≡ fault leak
      by_rest [] q = absurd (omega (arith, size_at H cl kp n, ap length q))
      by_rest (t ∷ ts) q =
          let sg = seg_at (segments H) in
          let X = start H cl kp in
          let S = view_two a (shape H) n m v in
          let un = ptr_used (shape H) S.u n X.closed S.first_is in
          let um = ptr_used (shape H) S.w m X.closed S.second_is in
          let ch = subst (λ l. Chain (next H) (sg n).first l (img sg un.0)) q (X.body.chain n un.0 un.1) in
          let ut = chain_used (next H) (sg n).first (t ∷ ts) (img sg un.0) t ch (mem_there t (sg n).first (t ∷ ts)
          (mem_here t ts)) in
          let inner = core_inner (shape H) sg H X n t un (subst (λ l. mem t l ≡ true) (sym q) (mem_here t ts)) in
          ap (λ y. keep (perform y x H)) S.action_is
          ∙ ap keep (splice_does S.u S.w x (sg n).first (sg m).first H
          (ptr_img (shape H) sg H X S.u ∙ ap (img sg) S.first_is)
          (ptr_img (shape H) sg H X S.w ∙ ap (img sg) S.second_is))
          ∙ other_leaks H (sg n).first t (sg m).first (only_holder H (sg n).first t ut inner ch.0)
          (first_used (shape H) sg H X m um)
          (λ z. S.apart (first_inj (next (shape H)) sg (next H) X.body m n um un z))

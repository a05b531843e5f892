-- Sums over cells, for the loop that adds them up: one cell more, what an entry is after a turn, and how large it can
-- be.
use Prim.Native.Nat.{ℕ, ◌+◌, ◌*◌, ◌≤◌, ◌<◌}
use mathlib.Core.Bool.{cond}
use mathlib.Core.List.{List, [], ◌∷◌}
use mathlib.Core.Path.{◌≡◌, sym, ap, subst, ◌∙◌}
use native.Mathlib.Omega.{arith}
use lib.Dec.{eqb}
use lib.ListN.{get_or, get_or-replicate, length, length-replicate, replicate, set, take}
use lib.Seq.{get_or-set_other, get_or-set_same}
use borrow.Author.Tests.{eq-eqb, eqb-false}
use Rattle.model.proofs.lists.Logic.{eq-case}
use Rattle.model.proofs.lists.Slices.{sum_append, take_next}
use Rattle.std.specs.Prelude.{Option, Some, None}
use Rattle.model.specs.declared.Node.{Node}
use Rattle.cell_sum.specs.declared.Weights.{Weights}
use Rattle.cell_sum.specs.Codes.{CellsReady, base_at, sum_at}

sum_next : (node : List ℕ) (f : ℕ → ℕ) (j : ℕ) (l : List ℕ) (i : ℕ) → i < length l
    → sum_at node f j (take (i + 1) l) ≡ sum_at node f j (take i l) + cond (eqb (get_or node (get_or l i 0) 0) j)
    (f (get_or l i 0)) 0
sum_next node f j l i h =
    ap (sum_at node f j) (take_next l i h)
    ∙ sum_append (λ c. cond (eqb (get_or node c 0) j) (f c) 0) (take i l) (get_or l i 0 ∷ [])
    ∙ omega arith

-- the entries us after i cells of l, bs being those before
abbrev pub Added : List ℕ → (ℕ → ℕ) → List ℕ → List ℕ → List ℕ → ℕ → Type 0
Added node f l bs us i = (j : ℕ) → j < length bs → (get_or us j 0 ≡ get_or bs j 0 + sum_at node f j (take i l))
    × (get_or us j 0 ≤ 4096 * (i + 1))

pub added_none : (node : List ℕ) (f : ℕ → ℕ) (l bs : List ℕ) → ((j : ℕ) → j < length bs → get_or bs j 0 ≤ 4096)
    → Added node f l bs bs 0
added_none node f l bs h j lt = (omega arith, omega (arith, h j lt))

-- one cell more: its node's entry grows by what it adds
module _ (node : List ℕ) (f : ℕ → ℕ) (l bs us : List ℕ) (i v : ℕ) (h : i < length l) (same : length us ≡ length bs)
    (lt : get_or node (get_or l i 0) 0 < length us) (value : v ≡ f (get_or l i 0)) (most : v ≤ 4096)
    (A : Added node f l bs us i) where
  pub added_more : Added node f l bs
      (set us (get_or node (get_or l i 0) 0) (get_or us (get_or node (get_or l i 0) 0) 0 + v))
      (i + 1)
  added_more j below =
      let t = get_or node (get_or l i 0) 0 in
      let n = sum_next node f j l i h in
      let r = A j below in
      eq-case t j
      (λ e.
      let s = subst (λ x. get_or (set us t (get_or us t 0 + v)) x 0 ≡ get_or us x 0 + v) e
      (get_or-set_same us t (get_or us t 0 + v) 0 lt) in
      let p : sum_at node f j (take (i + 1) l) ≡ sum_at node f j (take i l) + f (get_or l i 0) =
      rw (eq-eqb t j e) at n in
      let a = r.0 in let b = r.1 in (omega arith, omega arith))
      (λ e.
      let s = get_or-set_other us t j (get_or us t 0 + v) 0 (λ q. eqb-false t j e (sym q)) in
      let p : sum_at node f j (take (i + 1) l) ≡ sum_at node f j (take i l) + 0 = rw e at n in
      let a = r.0 in let b = r.1 in (omega arith, omega arith))

-- each entry 4096, but 0 at place t
abbrev zeros : ℕ → List ℕ
zeros n = replicate n 4096

pub bases : (n t : ℕ) → t < n → (j : ℕ) → j < n → get_or (set (zeros n) t 0) j 0 ≡ cond (eqb t j) 0 4096
bases n t h j lt =
    eq-case t j
    (λ e.
    let inside : t < length (zeros n) = rw (length-replicate {A = ℕ} n 4096) h in
    rw (eq-eqb t j e) (subst (λ x. get_or (set (zeros n) t 0) x 0 ≡ 0) e (get_or-set_same (zeros n) t 0 0 inside)))
    (λ e. rw e (get_or-set_other (zeros n) t j 0 0 (λ q. eqb-false t j e (sym q)) ∙ get_or-replicate n j 4096 0 lt))

pub base_most : (sp : Option Node) (t j : ℕ) → base_at sp t j ≤ 4096
base_most (Some n) t j = eq-case t j (λ e. rw (eq-eqb t j e) (omega arith)) (λ e. rw e (omega arith))
base_most None t j = omega arith

-- what is asked of the cells, for a table of updates of the same length
pub ready_same : (l node : List ℕ) (w : Weights) (m n : ℕ) → n ≡ m → CellsReady l node w m → CellsReady l node w n
ready_same l node w m n e = subst (CellsReady l node w) (sym e)

-- Isomorphic heaps: a renaming of the cells of a heap gives a heap of the same shape with the same counters.
use Prim.Native.Nat.{ℕ}
use mathlib.Core.Path.{◌∙◌, ◌≡◌, ap, refl, subst, sym}
use mathlib.Core.Bool.{true}
use mathlib.Core.List.{List, [], ◌∷◌}
use native.Mathlib.Omega.{arith}
use lib.ListN.{length}
use Rattle.model.specs.Base.{mem}
use Rattle.model.specs.Heap.{Heap, IsHeap, Val, cell, holds, null, undef}
use Rattle.model.specs.Shape.{Seg, cells, counters, segments, shape, size}
use Rattle.model.proofs.expansion.Facts.{heap_closed, heap_kept, is_heap_lem}
use Rattle.model.proofs.expansion.Folds.{counters_grow, fold_same, kept_up, large_closed}
use Rattle.model.proofs.lists.Lists.{map_same}
use Rattle.model.proofs.lists.Logic.{mem_here, mem_one}
use Rattle.model.specs.Notions.{Expansion, Renames, img, rename_val, total, ClosedHeap, seg}

-- a renaming is an expansion by chains of one cell
abbrev alone : (ℕ → ℕ) → ℕ → Seg
alone f n = seg (f n) []

rename_img : (f : ℕ → ℕ) (v : Val) → rename_val f v ≡ img (alone f) v
rename_img f (cell n) = refl
rename_img f null = refl
rename_img f undef = refl

rename_expansion : (f : ℕ → ℕ) (a b : Heap) → ClosedHeap a → Renames f a b → Expansion a (alone f) b
rename_expansion f a b cl R = record {
  body = record {
    closed = cl.1;
    chain = λ n v e. R.nexts_are n v e ∙ ap holds (rename_img f v);
    cover = λ c v e. let r = R.onto c (v, e) in
        (r.0, r.1, subst (λ x. mem x (f r.0 ∷ []) ≡ true) r.2 (mem_here (f r.0) []));
    apart = λ n m c u w p q. R.one_to_one n m u w (sym (mem_one c (f n) p) ∙ mem_one c (f m) q);
    nodup = λ n u. (refl, tt);
  };
  closed = cl.0;
  ptrs = R.ptrs_are ∙ map_same (rename_val f) (img (alone f)) a.ptrs (λ v i. rename_img f v);
}

total_alone : (f : ℕ → ℕ) (l : List ℕ) → total (alone f) l ≡ length l
total_alone f [] = refl
total_alone f (n ∷ l) = omega (arith, total_alone f l)

-- a heap renamed is a heap, of the same shape, with the same counters
pub renamed_same : (f : ℕ → ℕ) (a b : Heap) → IsHeap a → Renames f a b → IsHeap b × (shape b ≡ shape a)
    × (counters b ≡ counters a)
renamed_same f a b i R =
    let X = rename_expansion f a b (heap_closed a i) R in (
      is_heap_lem b (large_closed a (alone f) b X) (kept_up a (alone f) b X (heap_kept a i)),
      fold_same a (alone f) b X,
      counters_grow a (alone f) b X ∙ map_same (λ (s : Seg). total (alone f) (cells s)) size (segments a)
          (λ s i. total_alone f (cells s)),
    )

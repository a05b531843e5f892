-- Unfolding a shape with counters, one at least for each node, gives a heap; folding it gives the shape and the
-- counters back.
use Prim.Native.Nat.{◌+◌, ◌-◌, ◌<◌, ◌≤◌, suc, zero, ℕ}
use mathlib.Core.Path.{◌∙◌, ◌≡◌, ap, ap₂, refl, sym}
use mathlib.Core.Bool.{true}
use mathlib.Core.List.{List, [], ◌∷◌, map}
use native.Mathlib.Nat.{zero-add}
use native.Mathlib.Omega.{arith}
use lib.Dec.{ltb}
use lib.ListN.{get_or-append, get_or, length, length-append}
use lib.Seq.{get_or-append-add}
use borrow.Author.Tests.{ltb-false, ltb-true}
use Rattle.model.specs.Base.{mem, numbers, sum}
use Rattle.model.specs.Heap.{Heap, IsHeap, Slot, Val, cell, holds, next, null, undef, unused}
use Rattle.model.specs.Image.{first_cell, spread, spread_slot, strand, strands, unfold_heap}
use Rattle.model.specs.Shape.{Seg, cells, counters, shape}
use Rattle.model.specs.Notions.{Canon, Chain, Expands, Expansion, Positive, img, total, Used, seg}
use Rattle.model.proofs.shapes.Canon.{canon_fold, canon_segments, single}
use Rattle.model.proofs.expansion.Facts.{is_heap_lem}
use Rattle.model.proofs.expansion.Folds.{counters_grow, fold_same, kept_up, large_closed}
use Rattle.model.proofs.lists.Lists.{map_same}
use Rattle.model.proofs.lists.Logic.{bool_case}
use Rattle.model.proofs.lists.Numbers.{length_numbers, mem_numbers, numbers_mem, numbers_nodup, read_all}
use Rattle.model.proofs.visits.Order.{toured, used_below}

-- the cells of node n: as many as its counter says, from its first cell on
abbrev pub laid : List ℕ → ℕ → Seg
laid cs n = seg (first_cell cs n) (numbers (suc (first_cell cs n)) (get_or cs n 1 - 1))

spread_img : (cs : List ℕ) (v : Val) → spread cs v ≡ img (laid cs) v
spread_img cs (cell n) = refl
spread_img cs null = refl
spread_img cs undef = refl

pub length_strand : (b c : ℕ) (s : Slot) → length (strand b c s) ≡ c
length_strand b zero s = refl
length_strand b (suc zero) s = refl
length_strand b (suc (suc c)) s = ap suc (length_strand (suc b) (suc c) s)

length_strands : (vs : List ℕ) (b : ℕ) (ss : List Slot) (cs : List ℕ) → length cs ≡ length ss
    → length (strands vs b ss cs) ≡ sum (λ c. c) cs
length_strands vs b [] [] l = refl
length_strands vs b [] (c ∷ cs) l = absurd (omega arith)
length_strands vs b (s ∷ ss) [] l = absurd (omega arith)
length_strands vs b (s ∷ ss) (c ∷ cs) l = omega (
  arith,
  length-append (strand b c (spread_slot vs s)) (strands vs (b + c) ss cs),
  length_strand b c (spread_slot vs s),
  length_strands vs (b + c) ss cs (omega arith),
)

-- an unfolded heap has as many cells as the counters say
pub unfold_length : (h : Heap) (cs : List ℕ) → length cs ≡ length h.slots → length (unfold_heap h cs).slots
    ≡ sum (λ c. c) cs
unfold_length h cs len = length_strands cs 0 h.slots cs len

-- a strand is a chain
strand_chain : (nx : ℕ → Slot) (b c : ℕ) (s : Slot) (v : Val) → s ≡ holds v
    → ((j : ℕ) → j < suc c → nx (b + j) ≡ get_or (strand b (suc c) s) j unused) → Chain nx b (numbers (suc b) c) v
strand_chain nx b zero s v e h = ap nx (omega arith) ∙ h 0 (omega arith) ∙ e
strand_chain nx b (suc c) s v e h = (
  ap nx (omega arith) ∙ h 0 (omega arith),
  strand_chain nx (suc b) c s v e (λ j q. ap nx (omega arith)
      ∙ h (suc j) (omega arith)),
)

-- where the cells of node n stand
strands_at : (vs : List ℕ) (b : ℕ) (ss : List Slot) (cs : List ℕ) (n j : ℕ) → length cs ≡ length ss → n < length ss
    → j < get_or cs n 1
    → get_or (strands vs b ss cs) (first_cell cs n + j) unused
    ≡ get_or (strand (b + first_cell cs n) (get_or cs n 1) (spread_slot vs (get_or ss n unused))) j unused
strands_at vs b [] cs n j l h k = absurd (omega arith)
strands_at vs b (s ∷ ss) [] n j l h k = absurd (omega arith)
strands_at vs b (s ∷ ss) (c ∷ cs) zero j l h k =
    ap (λ x. get_or (strands vs b (s ∷ ss) (c ∷ cs)) x unused) (zero-add j)
    ∙ get_or-append (strand b c (spread_slot vs s)) (strands vs (b + c) ss cs) unused j
    (omega (arith, length_strand b c (spread_slot vs s)))
    ∙ ap (λ x. get_or (strand x c (spread_slot vs s)) j unused) (omega arith)
strands_at vs b (s ∷ ss) (c ∷ cs) (suc n) j l h k =
    let z : (c + first_cell cs n) + j ≡ length (strand b c (spread_slot vs s)) + (first_cell cs n + j) =
    omega (arith, length_strand b c (spread_slot vs s)) in
    ap (λ x. get_or (strands vs b (s ∷ ss) (c ∷ cs)) x unused) z
    ∙ get_or-append-add (strand b c (spread_slot vs s)) (strands vs (b + c) ss cs) (first_cell cs n + j) unused
    ∙ strands_at vs (b + c) ss cs n j (omega arith) (omega arith) k
    ∙ ap (λ x. get_or (strand x (get_or cs n 1) (spread_slot vs (get_or ss n unused))) j unused) (omega arith)

-- the node of cell x
locate : (ss : List Slot) (cs : List ℕ) (x : ℕ) → length cs ≡ length ss → x < sum (λ c. c) cs
    → (n : ℕ) × (n < length ss) × (first_cell cs n ≤ x) × (x < first_cell cs n + get_or cs n 1)
locate ss [] x l h = absurd (omega arith)
locate [] (c ∷ cs) x l h = absurd (omega arith)
locate (s ∷ ss) (c ∷ cs) x l h = bool_case (ltb x c) (λ e. (0, omega arith, omega arith, omega (arith, ltb-true x c e)))
    (λ e. let g = ltb-false x c e in
    let r = locate ss cs (x - c) (omega arith) (omega arith) in
    (suc r.0, omega arith, omega (arith, r.2), omega (arith, r.3)))

first_step : (cs : List ℕ) (n m : ℕ) → n < m → m < length cs → first_cell cs n + get_or cs n 1 ≤ first_cell cs m
first_step [] n m h k = absurd (omega arith)
first_step (c ∷ cs) n zero h k = absurd (omega arith)
first_step (c ∷ cs) zero (suc m) h k = omega arith
first_step (c ∷ cs) (suc n) (suc m) h k = omega (arith, first_step cs n m (omega arith) (omega arith))

module _ (h : Heap) (C : Canon h) (cs : List ℕ) (len : length cs ≡ length h.slots) (pos : Positive cs) where
  all_used : (n : ℕ) → n < length h.slots → Used (next h) n
  all_used n q = (toured h C.closed).used n (rw C.numbered (mem_numbers 0 (length h.slots) n (omega arith)
      (omega arith)))

  inside : (n c : ℕ) → n < length h.slots → mem c (cells (laid cs n)) ≡ true → (first_cell cs n ≤ c)
      × (c < first_cell cs n + get_or cs n 1)
  inside n c q m = omega (arith, pos n (omega arith), numbers_mem (first_cell cs n) (suc (get_or cs n 1 - 1)) c m)

  apart_at : (n m c : ℕ) → n < length h.slots → m < length h.slots → mem c (cells (laid cs n)) ≡ true
      → mem c (cells (laid cs m)) ≡ true → n ≡ m
  apart_at n m c hn hm p q =
      let x = inside n c hn p in
      let y = inside m c hm q in
      bool_case (ltb n m) (λ e. absurd (omega (arith, first_step cs n m (ltb-true n m e) (omega arith))))
      (λ e. bool_case (ltb m n) (λ f. absurd (omega (arith, first_step cs m n (ltb-true m n f) (omega arith))))
      (λ f. omega (arith, ltb-false n m e, ltb-false m n f)))

  expands : Expands (next h) (laid cs) (next (unfold_heap h cs))
  expands = record {
    closed = C.closed.1;
    chain = λ n v e.
        let q = used_below h.slots n (v, e) in
        let p = pos n (omega arith) in
        let z : suc (get_or cs n 1 - 1) ≡ get_or cs n 1 = omega arith in
        let s = spread_slot cs (next h n) in
        strand_chain (next (unfold_heap h cs)) (first_cell cs n) (get_or cs n 1 - 1) s (img (laid cs) v)
        (ap (spread_slot cs) e ∙ ap holds (spread_img cs v))
        (λ j lt. strands_at cs 0 h.slots cs n j len q (omega arith) ∙ ap₂ (λ x y. get_or (strand x y s) j unused)
        (zero-add (first_cell cs n)) (sym z));
    cover = λ c v e.
        let r = locate h.slots cs c len (omega (
          arith,
          unfold_length h cs len,
          used_below (unfold_heap h cs).slots
              c (v, e),
        )) in (
          r.0,
          all_used r.0 r.1,
          mem_numbers (first_cell cs r.0) (suc (get_or cs r.0 1 - 1)) c r.2
              (omega (arith, r.3)),
        );
    apart = λ n m c u w p q. apart_at n m c (used_below h.slots n u) (used_below h.slots m w) p q;
    nodup = λ n u. numbers_nodup (first_cell cs n) (suc (get_or cs n 1 - 1));
  }

  -- the unfolded heap expands the shape by its strands
  pub unfolds : Expansion h (laid cs) (unfold_heap h cs)
  unfolds = record {
    body = expands;
    closed = C.closed.0;
    ptrs = map_same (spread cs) (img (laid cs)) h.ptrs (λ v i. spread_img cs v);
  }

  totals : (i n : ℕ) → i + n ≡ length cs → map (λ (s : Seg). total (laid cs) (cells s)) (map single (numbers i n))
      ≡ map (λ j. get_or cs j 1) (numbers i n)
  totals i zero e = refl
  totals i (suc n) e = ap₂ ◌∷◌ (omega (
    arith,
    pos i (omega arith),
    length_numbers (suc (first_cell cs i))
        (get_or cs i 1 - 1),
  )) (totals (suc i) n (omega arith))

  -- an unfolded shape is a heap
  pub unfold_is_heap : IsHeap (unfold_heap h cs)
  unfold_is_heap = is_heap_lem (unfold_heap h cs) (large_closed h (laid cs) (unfold_heap h cs) unfolds)
      (kept_up h (laid cs) (unfold_heap h cs) unfolds C.kept)

  -- folding gives back the shape
  pub shape_unfold : shape (unfold_heap h cs) ≡ h
  shape_unfold = fold_same h (laid cs) (unfold_heap h cs) unfolds ∙ canon_fold h C

  -- and the counters
  pub counters_unfold : counters (unfold_heap h cs) ≡ cs
  counters_unfold =
      counters_grow h (laid cs) (unfold_heap h cs) unfolds
      ∙ ap (map (λ (s : Seg). total (laid cs) (cells s))) (canon_segments h C
      ∙ ap (λ n. map single (numbers 0 n)) (sym len))
      ∙ totals 0 (length cs) (omega arith) ∙ read_all 1 cs

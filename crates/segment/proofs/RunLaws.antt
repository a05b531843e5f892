-- The cut by runs: a segment is its first cell and the cells after it up to the next core cell, entered all at once.
use Prim.Native.Nat.{ℕ, zero, suc, ◌+◌, ◌-◌, ◌<◌, ◌≤◌}
use mathlib.Core.Path.{◌≡◌, ◌∙◌, ap, refl, subst, sym}
use mathlib.Core.Bool.{true, false}
use mathlib.Core.List.{List, [], ◌∷◌, ◌++◌, append_assoc, append-nil, map-append}
use native.Mathlib.Numerals.{add-one}
use native.Mathlib.Omega.{arith}
use lib.Dec.{eqb}
use lib.ListN.{length, get_or, take, drop, set, drop_of_length-le, length-append, length-drop, length-set, get_or-append}
use lib.Seq.{drop-drop, drop-set-lt, get_or-append_seam, get_or-drop, get_or-set_other, get_or-set_same, get_or-take}
use lib.Seq.{length-take-le, take-suc-set}
use borrow.Author.Tests.{eqb-false}
use Rattle.std.specs.List.{position_or_len}
use Rattle.model.specs.Base.{mem}
use Rattle.model.specs.Shape.{Seg, cells, cut_from, last, last_from, size}
use Rattle.model.specs.Notions.{NoDup, flat, seg_at, seg}
use Rattle.model.proofs.expansion.Cuts.{flat_apart, flat_cut}
use Rattle.model.proofs.lists.Logic.{bool_case, clash, mem-cases, not-true, or_false_l, or_false_r}
use Rattle.model.proofs.lists.Slices.{drop_step}
use Rattle.segment.specs.Cut.{CutReady, IsCut, CutTables, Within, cut_tables, held_core, inner, named, segs}
use Rattle.segment.proofs.CutStep.{Alike}
use Rattle.segment.proofs.ListLaws.{length_snoc, snoc-place}

-- ---- the first segment of a cut

pub inner_low : (held l : List ℕ) → inner held l ≤ length l
inner_low held [] = omega arith
inner_low held (d ∷ l) =
    bool_case (held_core held d) (λ t. rw t (omega arith)) (λ t. rw t (omega (arith, inner_low held l)))

-- its end is the place of the first core cell, or that of the end
pub inner_place : (held l : List ℕ) → inner held l ≡ position_or_len (held_core held) l
inner_place held [] = refl
inner_place held (d ∷ l) =
    bool_case (held_core held d) (λ t. rw t) (λ t. rw t (ap suc (inner_place held l) ∙ omega arith))

-- the segment that begins with c, and the cut of what is left
run_from : (held : List ℕ) (c : ℕ) (cur l : List ℕ)
    → cut_from (held_core held) c cur l
    ≡ seg c (cur ++ take (inner held l) l) ∷ segs held (drop (inner held l) l)
run_from held c cur [] = ap (λ x. seg c x ∷ []) (sym (append-nil cur))
run_from held c cur (d ∷ l) =
    bool_case (held_core held d)
    (λ t. rw (t, cut_from) (ap (λ x. seg c x ∷ cut_from (held_core held) d [] l) (sym (append-nil cur))))
    (λ t. rw (t, cut_from) (run_from held c (cur ++ d ∷ []) l
    ∙ ap (λ x. seg c x ∷ segs held (drop (inner held l) l)) (append_assoc cur (d ∷ []) (take (inner held l) l))))

-- ---- the nodes of its cells

named_other : (l : List ℕ) (n : ℕ) (t : List ℕ) (x : ℕ) → mem x l ≡ false → get_or (named l n t) x 0 ≡ get_or t x 0
named_other [] n t x h = refl
named_other (c ∷ l) n t x h =
    named_other l n (set t c n) x (or_false_r (eqb x c) (mem x l) h)
    ∙ get_or-set_other t c x n 0 (eqb-false x c (or_false_l (eqb x c) (mem x l) h))

named_here : (l : List ℕ) (n : ℕ) (t : List ℕ) (x : ℕ) → Within l t → mem x l ≡ true → get_or (named l n t) x 0 ≡ n
named_here [] n t x low h = clash h refl
named_here (c ∷ l) n t x low h =
    bool_case (mem x l)
    (named_here l n (set t c n) x (λ i b. rw (length-set t c n) (low (suc i) (omega arith))))
    (λ out. named_other l n (set t c n) x out ∙ mem-cases x c l h
    (λ e. ap (λ y. get_or (set t c n) y 0) e ∙ get_or-set_same t c n 0 (low 0 (omega arith))) (λ q. clash q out))

-- ---- a segment more in the tables

enter : (ss : List Seg) (s : Seg) (k : ℕ) (t : CutTables) → IsCut ss t k → k < length t.last → k < length t.size
    → Within (cells s) t.node
    → ((j c : ℕ) → j < length ss → mem c (cells (seg_at ss j)) ≡ true → mem c (cells s) ≡ true → ⊥)
    → IsCut (ss ++ s ∷ [])
    (cut_tables (named (cells s) k t.node) (set t.last k (last s)) (set t.size k (size s))) (suc k)
enter ss s k t is hl hz low apart =
    let in_seg : ℕ → Seg → Type 0 = λ c y. mem c (cells y) ≡ true in
    record {
      number = ap suc is.number ∙ sym (length_snoc ss s);
      lasts = take-suc-set t.last k (last s) hl ∙ ap (λ xs. xs ++ last s ∷ []) is.lasts
          ∙ sym (map-append last ss (s ∷ []));
      sizes = take-suc-set t.size k (size s) hz ∙ ap (λ xs. xs ++ size s ∷ []) is.sizes
          ∙ sym (map-append size ss (s ∷ []));
      nodes = λ j c h q. snoc-place ss s j h
          (λ b. let r : in_seg c (seg_at ss j) = subst (in_seg c) (get_or-append ss (s ∷ []) (seg 0 []) j b) q in
          named_other (cells s) k t.node c (not-true _ (apart j c b r)) ∙ is.nodes j c b r)
          (λ b. let r : in_seg c s =
          subst (in_seg c) (ap (seg_at (ss ++ s ∷ [])) b ∙ get_or-append_seam ss s [] (seg 0 [])) q in
          named_here (cells s) k t.node c low r ∙ is.number ∙ sym b);
    }

-- ---- a turn: the cells before place i are cut, and the segment that begins there goes to place e

-- the tables have the segments before place i, and those from there on are still to come
pub record CutTo (o held : List ℕ) (t : CutTables) (k i : ℕ) : Type 0 where
  pub done : List Seg
  pub is : IsCut done t k
  pub rest : segs held o ≡ done ++ segs held (drop i o)

last_run : (c : ℕ) (l : List ℕ) (n : ℕ) → n ≤ length l → last_from c (take n l) ≡ get_or (c ∷ l) n 0
last_run c l zero h = refl
last_run c [] (suc n) h = absurd (omega arith)
last_run c (x ∷ l) (suc n) h = last_run x l n (omega arith)

module _ {o held : List ℕ} {t₀ : CutTables} (c : CutReady o held t₀) (i : ℕ) (b : i < length o)
    (t : CutTables) (a : Alike t t₀) (k : ℕ) (w : CutTo o held t k i)
    (e : ℕ) (r : e ≡ i + 1 + inner held (drop (i + 1) o)) where
  abbrev left : List ℕ
  left = drop (i + 1) o

  abbrev run : Seg
  run = seg (get_or o i 0) (take (inner held left) left)

  pub run_within : (i < e) × (e ≤ length o)
  run_within = (omega arith, omega (arith, inner_low held left, length-drop (i + 1) o))

  next_run : segs held o ≡ w.done ++ run ∷ segs held (drop e o)
  next_run =
      w.rest ∙ ap (λ ss. w.done ++ ss) (ap (segs held) (drop_step o i b) ∙ run_from held (get_or o i 0) [] left
      ∙ ap (λ l. run ∷ segs held l) (drop-drop (inner held left) (i + 1) o ∙ ap (λ j. drop j o) (sym r)))

  pub run_room : (k < length t.last) × (k < length t.size) × (k < 240)
  run_room =
      let n = ap length next_run ∙ length-append w.done (run ∷ segs held (drop e o)) in
      let lasts = c.lasts in
      let sizes = c.sizes in
      let few = c.few in
      let number = w.is.number in
      (omega arith, omega arith, omega arith)

  -- its cells in the order
  pub run_cells : take (e - i) (drop i o) ≡ cells run
  run_cells = let m : e - i ≡ suc (inner held left) = omega arith in rw (m, drop_step o i b)

  pub run_low : Within (take (e - i) (drop i o)) t.node
  run_low j h =
      let v = run_within in
      let n = length-take-le (e - i) (drop i o) (omega (arith, length-drop i o)) in
      let q : j < e - i = omega arith in
      rw (get_or-take (e - i) (drop i o) j 0 q, get_or-drop i o j 0, a.node) (c.low (i + j) (omega arith)).1

  apart : (j x : ℕ) → j < length w.done → mem x (cells (seg_at w.done j)) ≡ true → mem x (cells run) ≡ true → ⊥
  apart j x h p q =
      let all = w.done ++ run ∷ segs held (drop e o) in
      let in_seg : Seg → Type 0 = λ s. mem x (cells s) ≡ true in
      let n = length-append w.done (run ∷ segs held (drop e o)) in
      let once : NoDup (flat all) = subst NoDup (sym (flat_cut (held_core held) o) ∙ ap flat next_run) c.once in
      let same = flat_apart all j (length w.done) x once (omega arith) (omega arith)
      (subst in_seg (sym (get_or-append w.done (run ∷ segs held (drop e o)) (seg 0 []) j h)) p)
      (subst in_seg (sym (get_or-append_seam w.done run (segs held (drop e o)) (seg 0 []))) q) in
      omega arith

  -- its last cell stands before place e, and e - i cells are in it
  pub run_turn : (node : List ℕ) (p m : ℕ) → node ≡ named (take (e - i) (drop i o)) k t.node → suc p ≡ e → m + i ≡ e
      → CutTo o held (cut_tables node (set t.last k (get_or o p 0)) (set t.size k m)) (k + 1) e
  run_turn node p m hn hp hm =
      let n = inner held left in
      let d : get_or o p 0 ≡ last run =
      let j : p ≡ i + n = omega arith in
      ap (λ x. get_or o x 0) j ∙ sym (get_or-drop i o n 0) ∙ ap (λ l. get_or l n 0) (drop_step o i b)
      ∙ sym (last_run (get_or o i 0) left n (inner_low held left)) in
      let z : m ≡ size run = omega (arith, length-take-le n left (inner_low held left)) in
      let room = run_room in
      record {
        done = w.done ++ run ∷ [];
        is = rw (hn, run_cells, d, z, add-one k) (enter w.done run k t w.is room.0 room.1
            (subst (λ l. Within l t.node) run_cells run_low) apart);
        rest = next_run ∙ sym (append_assoc w.done (run ∷ []) (segs held (drop e o)));
      }

-- before the first turn, and after the last
pub cut_begins : (o held : List ℕ) (t : CutTables) → CutTo o held t 0 0
cut_begins o held t = record {
  done = [];
  is = record { number = refl; lasts = refl; sizes = refl; nodes = λ j c h. absurd (omega arith) };
  rest = refl;
}

pub cut_ends : (o held : List ℕ) (t : CutTables) (k i : ℕ) → length o ≤ i → CutTo o held t k i → IsCut (segs held o) t k
cut_ends o held t k i h w =
    let e : segs held o ≡ w.done = w.rest ∙ ap (λ l. w.done ++ segs held l) (drop_of_length-le o h)
    ∙ append-nil w.done in
    rw e w.is

-- sizes past k stay when place k is stored
pub past_next : (l l₀ : List ℕ) (k m : ℕ) → drop k l ≡ drop k l₀ → drop (k + 1) (set l k m) ≡ drop (k + 1) l₀
past_next l l₀ k m e =
    drop-set-lt (k + 1) l k m (omega arith) ∙ sym (drop-drop 1 k l) ∙ ap (drop 1) e ∙ drop-drop 1 k l₀

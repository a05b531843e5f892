-- One turn of the cut: from the tables of the segments of a list to those of the list with one cell behind.
use Prim.Native.Nat.{ℕ, suc, ◌+◌, ◌-◌, ◌<◌, ◌≤◌}
use mathlib.Core.Path.{◌≡◌, ◌∙◌, ap, ap₂, refl, subst, sym}
use mathlib.Core.Bool.{Bool, true, false}
use mathlib.Core.List.{List, [], ◌∷◌, ◌++◌, map, map-append}
use native.Mathlib.Numerals.{add-one}
use native.Mathlib.Omega.{arith}
use lib.Dec.{eqb}
use lib.ListN.{length, get_or, take, drop, set, length-map, length-set, get_or-append, take-append-drop}
use lib.Seq.{drop-drop, drop-set-lt, get_or_at, get_or-set_other, get_or-set_same, get_or-take, get_or-append_seam}
use lib.Seq.{length-take-le, take_at, take-suc-set, take-take}
use borrow.Author.Tests.{eqb-false, eqb-true}
use Rattle.model.specs.Base.{mem}
use Rattle.model.specs.Shape.{Seg, cells, last, size}
use Rattle.model.proofs.expansion.Cuts.{last_snoc, nodup_l}
use Rattle.model.specs.Notions.{NoDup, seg_at, seg}
use Rattle.model.proofs.lists.Logic.{bool_case, clash, eq-case, mem-append-cases, mem_append_r, mem_here, mem_one}
use Rattle.model.proofs.lists.Logic.{not-true}
use Rattle.model.proofs.lists.Slices.{take_next}
use Rattle.segment.specs.Cut.{CutReady, Entered, IsCut, Put, PutReady, CutTables, held_core, segs}
use Rattle.segment.proofs.ListLaws.{length_snoc, snoc-place}
use Rattle.segment.proofs.CutLaws.{behind, core_behind, cut_grows, cut_mem, ends}

-- the first of the segments, with what the tables say of them
record Known (front : List Seg) (d : ℕ) (t : CutTables) : Type 0 where
  lasts : take (length front) t.last ≡ map last front
  sizes : take (length front) t.size ≡ map size front
  nodes : (i c : ℕ) → i < length front → mem c (cells (seg_at front i)) ≡ true → (get_or t.node c 0 ≡ i) × (c ≡ d → ⊥)

-- a store at the place behind them
entered : (front : List Seg) (s : Seg) (d : ℕ) (t t' : CutTables) → Entered d (length front) (size s) t t'
    → Known front d t
    → last s ≡ d → length front < length t.last → length front < length t.size → d < length t.node
    → ((c : ℕ) → mem c (cells s) ≡ true → (c ≡ d → ⊥) → get_or t.node c 0 ≡ length front)
    → IsCut (front ++ s ∷ []) t' (suc (length front))
entered front s d t t' e k p hl hz hm old =
    let f = length front in
    let in_seg : ℕ → Seg → Type 0 = λ c y. mem c (cells y) ≡ true in
    record {
      number = sym (length_snoc front s);
      lasts = ap (take (suc f)) e.last ∙ take-suc-set t.last f d hl
          ∙ ap₂ (λ xs x. xs ++ x ∷ []) k.lasts (sym p) ∙ sym (map-append last front (s ∷ []));
      sizes = ap (take (suc f)) e.size ∙ take-suc-set t.size f (size s) hz
          ∙ ap (λ xs. xs ++ size s ∷ []) k.sizes ∙ sym (map-append size front (s ∷ []));
      nodes = λ i c h q. ap (λ xs. get_or xs c 0) e.node ∙ snoc-place front s i h
          (λ b. let r = k.nodes i c b (subst (in_seg c) (get_or-append front (s ∷ []) (seg 0 []) i b) q) in
          get_or-set_other t.node d c f 0 r.1 ∙ r.0)
          (λ b. let q' : mem c (cells s) ≡ true =
          subst (in_seg c) (ap (seg_at (front ++ s ∷ [])) b ∙ get_or-append_seam front s [] (seg 0 [])) q in
          eq-case c d (λ x. ap (λ y. get_or (set t.node d f) y 0) x ∙ get_or-set_same t.node d f 0 hm ∙ sym b)
          (λ x. let n = eqb-false c d x in get_or-set_other t.node d c f 0 n ∙ old c q' n ∙ sym b));
    }

-- a core cell begins a segment
begun : (ss : List Seg) (d k : ℕ) (t t' : CutTables) → IsCut ss t k → Entered d k 1 t t' → k < length t.last
    → k < length t.size → d < length t.node → ((i : ℕ) → i < length ss → mem d (cells (seg_at ss i)) ≡ true → ⊥)
    → IsCut (ss ++ seg d [] ∷ []) t' (suc k)
begun ss d k t t' is e hl hz hm out =
    let n = is.number in
    rw n (entered ss (seg d []) d t t' (subst (λ j. Entered d j 1 t t') n e) (record {
      lasts = rw n at is.lasts;
      sizes = rw n at is.sizes;
      nodes = λ i c b q. (is.nodes i c b q, λ x. out i b (subst (λ y. mem y (cells (seg_at ss i)) ≡ true) x q));
    }) refl (omega arith) (omega arith) hm (λ c q x. absurd (x (mem_one c d q))))

-- the size that the table has for the last segment
size_at : (front : List Seg) (s : Seg) (k : ℕ) (t : CutTables) → IsCut (front ++ s ∷ []) t k
    → get_or t.size (length front) 0 ≡ size s
size_at front s k t is =
    let f = length front in
    let n : k ≡ suc f = is.number ∙ length_snoc front s in
    sym (get_or-take k t.size f 0 (omega arith)) ∙ ap (λ xs. get_or xs f 0) (is.sizes ∙ map-append size front (s ∷ []))
    ∙ get_or_at (map size front) (size s) [] 0 f (length-map front size)

-- what a table says of the first segments, by what it says of one more
fewer : (g : Seg → ℕ) (front : List Seg) (s : Seg) (k : ℕ) (l : List ℕ) → k ≡ suc (length front)
    → take k l ≡ map g (front ++ s ∷ []) → take (length front) l ≡ map g front
fewer g front s k l n e =
    let f = length front in
    sym (take-take f k l (omega arith)) ∙ ap (take f) (e ∙ map-append g front (s ∷ []))
    ∙ take_at (map g front) (g s ∷ []) f (length-map front g)

-- any other cell goes behind the last one
moved : (front : List Seg) (s : Seg) (d k : ℕ) (t t' : CutTables) → IsCut (front ++ s ∷ []) t k
    → Entered d (k - 1) (get_or t.size (k - 1) 0 + 1) t t' → k ≤ length t.last → k ≤ length t.size
    → d < length t.node → ((i : ℕ) → i < k → mem d (cells (seg_at (front ++ s ∷ []) i)) ≡ true → ⊥)
    → IsCut (front ++ behind s d ∷ []) t' k
moved front s d k t t' is e hl hz hm out =
    let f = length front in
    let all = front ++ s ∷ [] in
    let in_seg : ℕ → Seg → Type 0 = λ c y. mem c (cells y) ≡ true in
    let n : k ≡ suc f = is.number ∙ length_snoc front s in
    let j : k - 1 ≡ f = omega arith in
    let old : (i : ℕ) → i < suc f → i < length all = λ i b. omega (arith, length_snoc front s) in
    let w : get_or t.size (k - 1) 0 + 1 ≡ size (behind s d) =
    rw j (omega (arith, size_at front s k t is, length_snoc s.rest d)) in
    let e' : Entered d f (size (behind s d)) t t' =
    subst (λ i. Entered d i (size (behind s d)) t t') j (subst (λ x. Entered d (k - 1) x t t') w e) in
    rw n (entered front (behind s d) d t t' e' (record {
      lasts = fewer last front s k t.last n is.lasts;
      sizes = fewer size front s k t.size n is.sizes;
      nodes = λ i c b q.
          let q' : mem c (cells (seg_at all i)) ≡ true =
          subst (in_seg c) (sym (get_or-append front (s ∷ []) (seg 0 []) i b)) q in
          (is.nodes i c (old i (omega arith)) q', λ x. out i (omega arith) (subst (λ y. in_seg y (seg_at all i)) x q'));
    }) (last_snoc s.first s.rest d) (omega arith) (omega arith) hm
    (λ c q x. mem-append-cases c (cells s) (d ∷ []) q
    (λ r. is.nodes f c (old f (omega arith)) (subst (in_seg c) (sym (get_or-append_seam front s [] (seg 0 []))) r))
    (λ r. absurd (x (mem_one c d r)))))

-- the cell behind the order is in no segment yet
absent : (held o : List ℕ) (d : ℕ) → mem d o ≡ false → (i : ℕ) → i < length (segs held o)
    → mem d (cells (seg_at (segs held o) i)) ≡ true → ⊥
absent held o d new i b q = clash (cut_mem (held_core held) o i d b q) new

inner : (held o : List ℕ) (d k : ℕ) (t t' : CutTables) → IsCut (segs held o) t k → PutReady d k held t
    → held_core held d ≡ false → Entered d (k - 1) (get_or t.size (k - 1) 0 + 1) t t' → mem d o ≡ false
    → IsCut (segs held (o ++ d ∷ [])) t' k
inner held [] d k t t' is ok f e new = absurd (omega (arith, is.number, (ok.more f).0))
inner held (c ∷ o) d k t t' is ok f e new =
    let s = ends (held_core held) d c o in
    let r = ok.more f in
    let out : (i : ℕ) → i < k → mem d (cells (seg_at (segs held (c ∷ o)) i)) ≡ true → ⊥ =
    λ i b. absent held (c ∷ o) d new i (omega (arith, is.number)) in
    rw (s.after f) (moved s.front s.end d k t t' (rw s.before at is) e r.1 r.2 ok.low.1
    (rw s.before at out))

-- a turn
turn : (held o : List ℕ) (d k : ℕ) (t t' : CutTables) (r : ℕ) → IsCut (segs held o) t k → PutReady d k held t
    → Put (held_core held d) d k t t' r → mem d o ≡ false → IsCut (segs held (o ++ d ∷ [])) t' r
turn held o d k t t' r is ok pt new =
    bool_case (held_core held d)
    (λ b. let h = ok.fresh b in
    rw (core_behind (held_core held) o d b, pt.number, b, add-one)
    (begun (segs held o) d k t t' is (rw b at pt.entered) h.0 h.1 ok.low.1 (absent held o d new)))
    (λ b. rw (pt.number, b) (inner held o d k t t' is ok b (rw b at pt.entered) new))

-- once a segment has begun its size is at most the number of cells so far
size_low : (held o : List ℕ) (d k : ℕ) (t : CutTables) → IsCut (segs held o) t k → (o ≡ [] → ⊥)
    → (0 < k) × (get_or t.size (k - 1) 0 ≤ length o)
size_low held [] d k t is full = absurd (full refl)
size_low held (c ∷ o) d k t is full =
    let s = ends (held_core held) d c o in
    let f = length s.front in
    let n : k ≡ suc f = is.number ∙ ap length s.before ∙ length_snoc s.front s.end in
    let j : k - 1 ≡ f = omega arith in
    let at : get_or t.size f 0 ≡ size s.end = size_at s.front s.end k t (rw s.before at is) in
    (omega arith, rw j (omega (arith, s.few)))

-- what a turn asks, where the tables have room for the segments of the whole order: o, the cell d and the rest
ready : (held o rest : List ℕ) (d k : ℕ) (t : CutTables) → IsCut (segs held o) t k → d < length held
    → d < length t.node
    → (o ≡ [] → held_core held d ≡ true) → length o < 240 → length (segs held ((o ++ d ∷ []) ++ rest)) ≤ length t.last
    → length (segs held ((o ++ d ∷ []) ++ rest)) ≤ length t.size
    → length (segs held ((o ++ d ∷ []) ++ rest)) ≤ 240 → PutReady d k held t
ready held o rest d k t is dh dm first few rl rz r =
    let a = cut_grows (held_core held) (o ++ d ∷ []) rest in
    let b = cut_grows (held_core held) o (d ∷ []) in
    let number = is.number in
    record {
      low = (dh, dm);
      few = omega arith;
      fresh = λ e.
          let n = ap length (core_behind (held_core held) o d e) ∙ length_snoc (segs held o) (seg d []) in
          (omega arith, omega arith);
      more = λ e.
          let s = size_low held o d k t is (λ q. clash (first q) e) in
          (s.0, omega arith, omega arith, omega arith);
    }

-- ---- a turn at place i of the order

nodup_new : (s : List ℕ) (d : ℕ) → NoDup (s ++ d ∷ []) → mem d s ≡ false
nodup_new [] d nd = refl
nodup_new (x ∷ s) d nd =
    let e : eqb d x ≡ false = not-true (eqb d x) (λ t. clash (mem_append_r x s (d ∷ [])
    (subst (λ y. mem x (y ∷ []) ≡ true) (sym (eqb-true d x t)) (mem_here x []))) nd.0) in
    rw (e, nodup_new s d nd.1)

order_at : (o : List ℕ) (i : ℕ) → i < length o → o ≡ (take i o ++ get_or o i 0 ∷ []) ++ drop (i + 1) o
order_at o i h = sym (take-append-drop (i + 1) o) ∙ ap (λ l. l ++ drop (i + 1) o) (take_next o i h)

-- tables as long as others
pub record Alike (t t₀ : CutTables) : Type 0 where
  pub node : length t.node ≡ length t₀.node
  pub last : length t.last ≡ length t₀.last
  pub size : length t.size ≡ length t₀.size

pub enter_alike : {c j w : ℕ} {t t' t₀ : CutTables} → Entered c j w t t' → Alike t t₀ → Alike t' t₀
enter_alike {c} {j} {w} {t} e a = record {
  node = ap length e.node ∙ length-set t.node c j ∙ a.node;
  last = ap length e.last ∙ length-set t.last j c ∙ a.last;
  size = ap length e.size ∙ length-set t.size j w ∙ a.size;
}

module _ {o held : List ℕ} {t₀ : CutTables} (c : CutReady o held t₀) (i : ℕ) (b : i < length o)
    (t : CutTables) (a : Alike t t₀) (k : ℕ) (is : IsCut (segs held (take i o)) t k) where
  pub ready_at : PutReady (get_or o i 0) k held t
  ready_at =
      let s = ap (λ x. length (segs held x)) (order_at o i b) in
      let len = length-take-le i o (omega arith) in
      let short = c.short in
      let lasts = c.lasts in
      let sizes = c.sizes in
      let few = c.few in
      ready held (take i o) (drop (i + 1) o) (get_or o i 0) k t is (c.low i b).0 (rw a.node (c.low i b).1)
      (λ q. let z : i ≡ 0 = omega (arith, ap length q) in rw z (c.begins (omega arith)))
      (omega arith) (omega arith) (omega arith) (omega arith)

  pub turn_at : (t' : CutTables) (r : ℕ) → Put (held_core held (get_or o i 0)) (get_or o i 0) k t t' r
      → IsCut (segs held (take (i + 1) o)) t' r
  turn_at t' r pt =
      rw (take_next o i b) (turn held (take i o) (get_or o i 0) k t t' r is ready_at pt
      (nodup_new (take i o) (get_or o i 0)
      (nodup_l (take i o ++ get_or o i 0 ∷ []) (drop (i + 1) o) (subst NoDup (order_at o i b) c.once))))

-- sizes past the segments that have begun stay: a cell that begins none goes behind one that has
pub size_past : (b : Bool) (c k : ℕ) (t t' : CutTables) (r : ℕ) → Put b c k t t' r → (size₀ : List ℕ)
    → (b ≡ false → 0 < k)
    → drop k t.size ≡ drop k size₀ → drop r t'.size ≡ drop r size₀
size_past true c k t t' r P size₀ h e =
    ap₂ drop P.number P.entered.size ∙ drop-set-lt (k + 1) t.size k 1 (omega arith)
    ∙ sym (drop-drop 1 k t.size) ∙ ap (drop 1) e ∙ drop-drop 1 k size₀ ∙ ap (λ i. drop i size₀) (sym P.number)
size_past false c k t t' r P size₀ h e =
    ap₂ drop P.number P.entered.size
    ∙ drop-set-lt k t.size (k - 1) (get_or t.size (k - 1) 0 + 1) (omega (arith, h refl))
    ∙ e ∙ ap (λ i. drop i size₀) (sym P.number)

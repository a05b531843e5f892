-- The marks as counts of holders, turn by turn: a holder under way is one that its cell's mark has yet to count. At
-- the end they tell what `core` says.
use Prim.Native.Nat.{ℕ, ◌+◌, ◌<◌, ◌≤◌}
use native.Mathlib.Nat.{zero-add}
use native.Mathlib.Omega.{arith}
use mathlib.Core.Path.{◌≡◌, sym, ap, subst, ◌∙◌}
use mathlib.Core.Logic.{inl, inr}
use mathlib.Core.Bool.{true, ◌||◌, cond}
use mathlib.Core.List.{List, [], ◌∷◌, ◌++◌, map}
use lib.Dec.{eqb, leb}
use lib.ListN.{length, get_or, set, drop, drop_of_length-le, length-map}
use lib.Seq.{get_or-set_same, get_or-set_other}
use borrow.Author.Tests.{eqb-false, le-leb, leb-true, ne_eqb}
use Rattle.model.specs.Base.{any, mem, sum}
use Rattle.model.specs.Heap.{Slot, Val, cell, holds, order, unused}
use Rattle.model.specs.Image.{heap_of}
use Rattle.model.specs.Machine.{collect}
use Rattle.model.specs.Records.{val_of}
use Rattle.model.specs.Shape.{core, is_cell}
use Rattle.model.proofs.expansion.Collect.{collect_back, visited_stays}
use Rattle.model.proofs.expansion.Cores.{of_two, two_of}
use Rattle.model.proofs.lists.Lists.{get_or_map, in_get_or_lem, mem_at, mem_in}
use Rattle.model.specs.Notions.{NoDup}
use Rattle.model.proofs.lists.Logic.{bool_case, bool_ext, eq-case, eqb_same}
use Rattle.model.proofs.visits.Order.{used_below}
use Rattle.model.proofs.lists.Slices.{drop_step}
use Rattle.model.proofs.visits.Walks.{holders}
use Rattle.visit.proofs.ByteLaws.{holds_byte, is_byte, slot_at_lem}
use Rattle.visit.proofs.ListLaws.{nodup_at}
use Rattle.visit.specs.Steps.{Alike, held_by, slot_at}

-- ---- one cell

alike_more : {a b : ℕ} (x : ℕ) → Alike a b → Alike (a + x) (b + x)
alike_more x (inl e) = inl (ap (λ n. n + x) e)
alike_more x (inr h) = inr (omega arith, omega arith)

held_more : (cs l : List ℕ) (v c : ℕ) → v < length cs → c < 0xfd → held_by cs c (l ++ v ∷ [])
    ≡ held_by cs c l + cond (eqb c (get_or cs v 0)) 1 0
held_more cs [] v c h f = rw (slot_at_lem cs v h, holds_byte c (get_or cs v 0) f) (omega arith)
held_more cs (d ∷ l) v c h f = omega (arith, held_more cs l v c h f)

-- the holder under way is counted in the mark of a cell that had none; what that cell holds is then under way
pub count_new : (cs s l : List ℕ) (v m c k b : ℕ) → length cs ≤ 240 → length cs ≤ length s → v < length cs
    → c < length cs → get_or s v 0 ≡ 0
    → Alike (get_or s c 0 + (cond (eqb c v) m 0 + k)) (b + held_by cs c l)
    → Alike (get_or (set s v m) c 0 + (cond (eqb c (get_or cs v 0)) 1 0 + k)) (b + held_by cs c (l ++ v ∷ []))
count_new cs s l v m c k b f w p q z y =
    let x : ℕ = cond (eqb c (get_or cs v 0)) 1 0 in
    let e : get_or (set s v m) c 0 ≡ get_or s c 0 + cond (eqb c v) m 0 = eq-case c v
    (λ i. let h : v < length s = omega arith in rw (i, eqb_same v, get_or-set_same s v m 0 h) (omega arith))
    (λ n. rw (n, get_or-set_other s v c m 0 (eqb-false c v n)) (omega arith)) in
    let d : (get_or s c 0 + (cond (eqb c v) m 0 + k)) + x ≡ get_or (set s v m) c 0 + (x + k) = omega arith in
    let g : (b + held_by cs c l) + x ≡ b + held_by cs c (l ++ v ∷ []) =
    omega (arith, held_more cs l v c p (omega arith)) in
    subst (λ n. Alike n (b + held_by cs c (l ++ v ∷ []))) d (subst (Alike _) g (alike_more x y))

-- with the holder under way a cell that has a mark has two
pub count_again : (s : List ℕ) (v m c k b : ℕ) → v < length s → (get_or s v 0 ≡ 0 → ⊥) → 1 ≤ m
    → Alike (get_or s c 0 + (cond (eqb c v) m 0 + k)) b → Alike (get_or (set s v 2) c 0 + k) b
count_again s v m c k b h z p y =
    eq-case c v
    (λ e. let u : 2 ≤ get_or s v 0 + (m + k) = omega (arith, z) in
    rw (e, get_or-set_same s v 2 0 h) (inr (omega arith, two_or_more (rw (e, eqb_same v) at y) u)))
    (λ n. rw (get_or-set_other s v c 2 0 (eqb-false c v n)) (rw (n, zero-add k) at y))
  where
    two_or_more : {a d : ℕ} → Alike a d → 2 ≤ a → 2 ≤ d
    two_or_more (inl e) u = omega arith
    two_or_more (inr w) u = w.1

-- past the last cell nothing is under way
pub count_past : (v m c k a b : ℕ) → c < v → Alike (a + (cond (eqb c v) m 0 + k)) b → Alike (a + k) b
count_past v m c k a b h y = rw (ne_eqb c v (λ e. omega arith), zero-add k) at y

-- ---- all pointers

-- the pointers' share of the count
abbrev pub pointing : ℕ → List ℕ → ℕ
pointing c ps = sum (λ p. cond (eqb c p) 2 0) ps

pub pointing_step : (c : ℕ) (ps : List ℕ) (i : ℕ) → i < length ps → pointing c (drop i ps)
    ≡ cond (eqb c (get_or ps i 0)) 2 0 + pointing c (drop (i + 1) ps)
pointing_step c ps i h = ap (pointing c) (drop_step ps i h)

pub pointing_end : (c : ℕ) (ps : List ℕ) (i : ℕ) → length ps ≤ i → pointing c (drop i ps) ≡ 0
pointing_end c ps i h = rw (drop_of_length-le ps h)

pointing_two : (c n : ℕ) (ps : List ℕ) → c < 0xfe → leb 2 (pointing c ps + n)
    ≡ any (is_cell c) (map val_of ps) || leb 2 n
pointing_two c n [] h = ap (leb 2) (zero-add n)
pointing_two c n (p ∷ ps) h =
    rw (is_byte c p h) (bool_case (eqb c p) (λ t. rw t (le-leb 2 ((2 + pointing c ps) + n) (omega arith)))
    (λ f. rw f (let e : (0 + pointing c ps) + n ≡ pointing c ps + n = omega arith in
    ap (leb 2) e ∙ pointing_two c n ps h)))

-- ---- the visited cells, each once, and the slots that are left of them

module _ (cs l : List ℕ) (nd : NoDup l) (left : List Slot)
    (stays : (d : ℕ) → mem d l ≡ true → get_or left d unused ≡ slot_at cs d)
    (back : (d : ℕ) (v : Val) → get_or left d unused ≡ holds v → (mem d l ≡ true) × (slot_at cs d ≡ holds v)) where
  -- two of them hold c exactly where two slots do
  both_two : (c : ℕ) → leb 2 (held_by cs c l) ≡ leb 2 (holders c left)
  both_two c =
      bool_ext (leb 2 (held_by cs c l)) (leb 2 (holders c left))
      (λ e. let t = two_of c (map (slot_at cs) l) (leb-true 2 _ e) in
      let i = at t.0 t.3 in
      let j = at t.1 t.4 in
      le-leb 2 _ (of_two c left (get_or l t.0 0) (get_or l t.1 0)
      (λ q. t.2 (nodup_at l t.0 t.1 nd i.0 j.0 q)) i.1 j.1))
      (λ e. let t = two_of c left (leb-true 2 _ e) in
      let i = place t.0 t.3 in
      let j = place t.1 t.4 in
      le-leb 2 _ (of_two c (map (slot_at cs) l) i.0 j.0 (λ q. t.2 (sym i.1 ∙ ap (λ n. get_or l n 0) q ∙ j.1))
      i.2 j.2))
    where
      at : (i : ℕ) → get_or (map (slot_at cs) l) i unused ≡ holds (cell c) → (i < length l)
          × (get_or left (get_or l i 0) unused ≡ holds (cell c))
      at i e =
          let h : i < length l = omega (
            arith,
            length-map l (slot_at cs),
            used_below (map (slot_at cs) l) i
                (cell c, e),
          ) in (
            h,
            stays (get_or l i 0) (mem_at l i h) ∙ sym (get_or_map (slot_at cs) l i 0 unused h) ∙ e,
          )

      place : (d : ℕ) → get_or left d unused ≡ holds (cell c) → (i : ℕ) × (get_or l i 0 ≡ d)
          × (get_or (map (slot_at cs) l) i unused ≡ holds (cell c))
      place d e =
          let b = back d (cell c) e in
          let r = in_get_or_lem l 0 d (mem_in d l b.0) in
          (r.0, r.2, get_or_map (slot_at cs) l r.0 0 unused r.1 ∙ ap (slot_at cs) r.2 ∙ b.1)

alike_two : {a b : ℕ} → Alike a b → leb 2 a ≡ leb 2 b
alike_two (inl e) = ap (leb 2) e
alike_two (inr h) = le-leb 2 _ h.0 ∙ sym (le-leb 2 _ h.1)

pub held_core_lem : (ps cs l : List ℕ) (m c : ℕ) → c < 0xfe → NoDup l → l ≡ order (heap_of ps cs)
    → Alike m (pointing c ps + held_by cs c l) → leb 2 m ≡ core (collect (heap_of ps cs)) c
held_core_lem ps cs l m c f nd e y =
    let h = heap_of ps cs in
    alike_two y ∙ pointing_two c (held_by cs c l) ps f ∙ ap (λ b. any (is_cell c) (map val_of ps) || b)
    (both_two cs l nd (collect h).slots (λ d i. visited_stays h d (rw e at i)) (λ d v q. rw e (collect_back h d v q))
    c)

-- The walks of the code against the relation `Walks`: where a walk ends, one cell more, and the whole tour.
use Prim.Native.Nat.{ℕ, ◌+◌, ◌<◌, ◌≤◌}
use native.Mathlib.Numerals.{add-one}
use native.Mathlib.Omega.{arith}
use mathlib.Core.Path.{◌≡◌, refl, ap, subst, ◌∙◌}
use mathlib.Core.Bool.{true, false, not, or-false}
use mathlib.Core.List.{List, [], ◌∷◌, ◌++◌, map}
use lib.Dec.{eqb}
use lib.ListN.{length, get_or, set, take, drop, length-append, length-set}
use lib.Seq.{get_or-set_same, get_or-set_other, length-take-le, take-suc-set}
use borrow.Author.Tests.{eq-eqb, eqb-false, eqb-true, ne_eqb}
use Rattle.model.specs.Base.{mem}
use Rattle.model.specs.Heap.{Val, cell, null, undef, Slot, holds, closed, order}
use Rattle.model.specs.Image.{heap_of}
use Rattle.model.specs.Records.{val_of}
use Rattle.model.proofs.records.Bytes.{val_cell}
use Rattle.model.proofs.expansion.Facts.{test_closed}
use Rattle.model.proofs.lists.Logic.{bool_case, clash, eq-case, mem_append, mem_append_r, mem_here, not-true}
use Rattle.model.proofs.visits.Order.{nodup_snoc, pigeon, tours_same, toured, used_snoc}
use Rattle.model.proofs.lists.Slices.{map_end, map_step}
use Rattle.model.specs.Notions.{Closed, Tours, Used, Walks, ends_at_null, at_seen, ends_at_undef, go, tour_done, tour_more}
use Rattle.visit.proofs.ByteLaws.{cell_val, slot_val, used_few}
use Rattle.visit.specs.Steps.{Alike, Visiting, Walked, held_by, slot_at}
use Rattle.visit.specs.Visit.{VisitReady, Visited}
use Rattle.visit.proofs.Counting.{held_core_lem, pointing}

-- ---- where a walk ends

walk_none : (nx : ℕ → Slot) (l : List ℕ) (w : Val) → ((c : ℕ) → w ≡ cell c → ⊥) → Walks nx l w l
walk_none nx l null h = ends_at_null
walk_none nx l undef h = ends_at_undef
walk_none nx l (cell c) h = absurd (h c refl)

-- a value past the last cell is null or undefined
pub walk_past : (cs l : List ℕ) (v : ℕ) → Closed (slot_at cs) (val_of v) → length cs ≤ v
    → Walks (slot_at cs) l (val_of v) l
walk_past cs l v k h = walk_none (slot_at cs) l (val_of v) (λ c e. let q = used_few cs c (rw e at k) in let p =
    cell_val v c e in omega arith)

pub walk_seen : (cs l : List ℕ) (v : ℕ) → v < 0xfe → mem v l ≡ true → Walks (slot_at cs) l (val_of v) l
walk_seen cs l v h m = rw (val_cell v (λ e. omega arith) (λ e. omega arith)) (at_seen m)

-- ---- one cell more

module _ {cs o s : List ℕ} {n : ℕ} (x : Visiting cs o s n) (v : ℕ) (k : Closed (slot_at cs) (val_of v))
    (h : v < length cs) where
  small : v < 0xfe
  small = let f = x.few in omega arith

  is_cell_lem : val_of v ≡ cell v
  is_cell_lem = let z = small in val_cell v (λ e. omega arith) (λ e. omega arith)

  in_use : Used (slot_at cs) v
  in_use = rw is_cell_lem at k

  -- the mark tells whether the cell was seen
  pub marked_seen : (get_or s v 0 ≡ 0 → ⊥) → mem v (take n o) ≡ true
  marked_seen e = bool_case (mem v (take n o)) (λ t. t) (λ f. absurd (e (eqb-true _ _ (x.marked v h ∙ rw f))))

  pub marked_new : get_or s v 0 ≡ 0 → mem v (take n o) ≡ false
  marked_new e = not-true _ (λ t. clash (eq-eqb _ _ e) (x.marked v h ∙ rw t))

  pub walk_stop : (get_or s v 0 ≡ 0 → ⊥) → Walks (slot_at cs) (take n o) (val_of v) (take n o)
  walk_stop e = walk_seen cs (take n o) v small (marked_seen e)

  -- a new cell finds a place
  pub place_left : get_or s v 0 ≡ 0 → n < length cs
  place_left e =
      let r = x.room in
      let q = x.counted in
      omega (
        arith,
        length-append (take n o) (v ∷ []),
        length-take-le n o (omega arith),
        pigeon (length cs) (take n o ++ v ∷ []) (nodup_snoc (take n o) v x.nodup (marked_new e))
            (λ m i. used_few cs m (used_snoc (slot_at cs) (take n o) v x.used in_use m i)),
      )

  next_val : in_use.0 ≡ val_of (get_or cs v 0)
  next_val = slot_val cs v in_use.0 in_use.1

  pub next_closed : Closed (slot_at cs) (val_of (get_or cs v 0))
  next_closed = subst (Closed (slot_at cs)) next_val (x.nexts v in_use.0 in_use.1)

  pub put_behind : get_or s v 0 ≡ 0 → take (n + 1) (set o n v) ≡ take n o ++ v ∷ []
  put_behind e = let p = place_left e in let r = x.room in let q : n < length o = omega arith in
      rw add-one (take-suc-set o n v q)

  pub walk_go : get_or s v 0 ≡ 0 → (t : List ℕ)
      → Walks (slot_at cs) (take (n + 1) (set o n v)) (val_of (get_or cs v 0)) t
      → Walks (slot_at cs) (take n o) (val_of v) t
  walk_go e t w = rw is_cell_lem (go (marked_new e) (in_use.1 ∙ ap holds next_val) (rw (put_behind e) at w))

  module _ (m : ℕ) (p : 1 ≤ m) where
    marks_more : (c : ℕ) → c < length cs → eqb (get_or (set s v m) c 0) 0 ≡ not (mem c (take n o ++ v ∷ []))
    marks_more c i =
        let q = x.marks in
        eq-case c v
        (λ e. let b : v < length s = omega arith in
        rw (e, get_or-set_same s v m 0 b, mem_append_r v (take n o) (v ∷ []) (mem_here v []))
        (ne_eqb m 0 (λ z. omega arith)))
        (λ f. rw (
          get_or-set_other s v c m 0 (eqb-false c v f),
          mem_append c (take n o) (v ∷ []),
          f,
          or-false
              (mem c (take n o)),
        ) (x.marked c i))

    pub visiting_more : get_or s v 0 ≡ 0 → Visiting cs (set o n v) (set s v m) (n + 1)
    visiting_more e = let q = place_left e in let b = put_behind e in record {
      few = x.few;
      room = rw (length-set o n v) x.room;
      marks = rw (length-set s v m) x.marks;
      counted = omega arith;
      nexts = x.nexts;
      nodup = rw b (nodup_snoc (take n o) v x.nodup (marked_new e));
      used = rw b (used_snoc (slot_at cs) (take n o) v x.used in_use);
      marked = λ c i. rw b (marks_more c i);
    }

    -- another mark for a cell that has one
    pub visiting_again : (get_or s v 0 ≡ 0 → ⊥) → Visiting cs o (set s v m) n
    visiting_again e = record {
      few = x.few;
      room = x.room;
      marks = rw (length-set s v m) x.marks;
      counted = x.counted;
      nexts = x.nexts;
      nodup = x.nodup;
      used = x.used;
      marked = λ c i. let q = x.marks in eq-case c v
          (λ y. let b : v < length s = omega arith in
          rw (y, get_or-set_same s v m 0 b, marked_seen e) (ne_eqb m 0 (λ z. omega arith)))
          (λ f. rw (get_or-set_other s v c m 0 (eqb-false c v f)) (x.marked c i));
    }

-- ---- the whole tour

pub visiting_none : {ps cs o s : List ℕ} → VisitReady ps cs o s → Visiting cs o s 0
visiting_none {ps = ps} {cs = cs} r = record {
  few = r.few;
  room = r.room;
  marks = r.marks;
  counted = omega arith;
  nexts = (test_closed (heap_of ps cs) r.is_closed).1;
  nodup = tt;
  used = λ n q. clash q refl;
  marked = λ c h. rw (r.clear c h);
}

-- one pointer more
pub tour_step : (ps cs l m : List ℕ) (i : ℕ) (o s : List ℕ) (n : ℕ) → i < length ps
    → Walked cs l m (get_or ps i 0) o s n
    → (t : List ℕ) → Tours (slot_at cs) (take n o) (map val_of (drop (i + 1) ps)) t
    → Tours (slot_at cs) l (map val_of (drop i ps)) t
tour_step ps cs l m i o s n h w t ts = rw (map_step val_of ps i h) (tour_more w.walks ts)

pub tour_end : (ps cs l : List ℕ) (i : ℕ) → length ps ≤ i → Tours (slot_at cs) l (map val_of (drop i ps)) l
tour_end ps cs l i h = rw (map_end val_of ps i h) tour_done

pub visited_of : (ps cs o s : List ℕ) (n : ℕ) → closed (heap_of ps cs) ≡ true → Visiting cs o s n
    → Tours (slot_at cs) [] (map val_of ps) (take n o)
    → ((c : ℕ) → c < length cs → Alike (get_or s c 0) (pointing c ps + held_by cs c (take n o))) → Visited ps cs o s n
visited_of ps cs o s n cl x t y =
    let e : take n o ≡ order (heap_of ps cs) = tours_same (slot_at cs) t
    (toured (heap_of ps cs) (test_closed (heap_of ps cs) cl)).tours in
    record {
      visited = e;
      few = x.counted;
      marked = λ c h. x.marked c h ∙ ap (λ l. not (mem c l)) e;
      held = λ c h. let f = x.few in held_core_lem ps cs (take n o) (get_or s c 0) c (omega arith) x.nodup e (y c h);
    }

-- Every effect carries over: on a heap and on its expansion both fault alike, or both finish in an expansion.
use Prim.Native.Nat.{◌<◌, suc, zero, ℕ}
use mathlib.Core.Path.{◌∙◌, ◌≡◌, ap, fun_ext, refl, subst, subst₂, sym}
use mathlib.Core.Logic.{inl, inr}
use mathlib.Core.Bool.{cond}
use mathlib.Core.List.{List, [], ◌∷◌, map, map-map}
use native.Mathlib.Omega.{arith}
use lib.Dec.{eqb, eqb-suc-suc, eqb-suc-zero, eqb-zero-suc}
use lib.ListN.{get_or-map, get_or, length, set}
use borrow.Author.Tests.{eqb-true}
use Rattle.model.specs.Heap.{Heap, Slot, Val, cell, holds, next, null, ptr, undef, unused}
use Rattle.model.specs.Shape.{Seg, last_from}
use Rattle.model.proofs.expansion.Changes.{expands_free, expands_split, f_closed, f_img, freed, s_closed, s_img}
use Rattle.model.proofs.expansion.Cores.{chain_last}
use Rattle.model.proofs.expansion.Folds.{chain_used}
use Rattle.model.proofs.lists.Lists.{map_set}
use Rattle.model.proofs.lists.Logic.{bool_case, eqb_same, mem_here}
use Rattle.model.specs.Notions.{Alike, Expands, Expansion, Room, both_bad, both_ok, img, sg_after, upd, AllClosed, ClosedHeap, Closed, Used, seg, Alone}
use Rattle.model.proofs.visits.Order.{used_below}
use Rattle.model.proofs.visits.Walks.{closed_map, closed_up, map_closed}
use Rattle.model.proofs.expansion.Writes.{expands_new, expands_write, n_closed, n_img, upd-at, w_closed}
use Rattle.model.specs.Machine.{put, put_slot, free_cell, set_ptr, Source, Action, Effect, compare, look, wipe_slot, wipe, value_of, through, free_val, perform, held, from, point, follow, link, make, release, nil, splice, stay, done}
use Rattle.model.specs.Edges.{split_heap, two_nodes, view_val, view_pair, view}

get_or_put_lem : (l : List Slot) (c : ℕ) (s : Slot) (i : ℕ) → get_or (put l c s) i unused
    ≡ cond (eqb i c) s (get_or l i unused)
get_or_put_lem [] zero s zero = refl
get_or_put_lem [] zero s (suc i) = rw (eqb-suc-zero i)
get_or_put_lem [] (suc c) s zero = rw (eqb-zero-suc c)
get_or_put_lem [] (suc c) s (suc i) = rw (eqb-suc-suc i c) (get_or_put_lem [] c s i)
get_or_put_lem (x ∷ l) zero s zero = refl
get_or_put_lem (x ∷ l) zero s (suc i) = rw (eqb-suc-zero i)
get_or_put_lem (x ∷ l) (suc c) s zero = rw (eqb-zero-suc c)
get_or_put_lem (x ∷ l) (suc c) s (suc i) = rw (eqb-suc-suc i c) (get_or_put_lem l c s i)

pub next_put : (h : Heap) (c : ℕ) (s : Slot) → next (put_slot c s h) ≡ upd (next h) c s
next_put h c s = fun_ext (λ i. get_or_put_lem h.slots c s i)

-- a slot that is put again as it was
put_again : (l : List Slot) (c : ℕ) → c < length l → put l c (get_or l c unused) ≡ l
put_again [] c q = absurd (omega arith)
put_again (x ∷ l) zero q = refl
put_again (x ∷ l) (suc c) q = ap (λ r. x ∷ r) (put_again l c (omega arith))

pub put_same : (h : Heap) (c : ℕ) → Used (next h) c → put_slot c (holds (held (next h c))) h ≡ h
put_same h c u =
    ap (λ s. put_slot c s h) (ap (λ s. holds (held s)) u.1 ∙ sym u.1)
    ∙ (λ i. record { ptrs = h.ptrs; slots = put_again h.slots c (used_below h.slots c u) i })

pub next_free : (h : Heap) (c : ℕ) → next (free_cell c h) ≡ freed (next h) c
next_free h c =
    fun_ext (λ i. get_or_put_lem (map (wipe_slot c) h.slots) c unused i
    ∙ ap (λ s. cond (eqb i c) unused s) (get_or-map (wipe_slot c) h.slots i unused))

pub closed_ptr : (nx : ℕ → Slot) (vs : List Val) (u : ℕ) → AllClosed nx vs → Closed nx (get_or vs u undef)
closed_ptr nx [] u k = tt
closed_ptr nx (v ∷ vs) zero k = k.0
closed_ptr nx (v ∷ vs) (suc u) k = closed_ptr nx vs u k.1

closed_set : (nx : ℕ → Slot) (vs : List Val) (u : ℕ) (v : Val) → AllClosed nx vs → Closed nx v
    → AllClosed nx (set vs u v)
closed_set nx [] u v k q = tt
closed_set nx (x ∷ vs) zero v k q = (q, k.1)
closed_set nx (x ∷ vs) (suc u) v k q = (k.0, closed_set nx vs u v k.1 q)

pub set_closed : (h : Heap) (u : ℕ) (v : Val) → ClosedHeap h → Closed (next h) v → ClosedHeap (set_ptr u v h)
set_closed h u v cl q = (closed_set (next h) h.ptrs u v cl.0 q, cl.1)

module _ (W : Heap) (sg : ℕ → Seg) (H : Heap) (X : Expansion W sg H) where
  pub ptr_img : (u : ℕ) → ptr H u ≡ img sg (ptr W u)
  ptr_img u = rw X.ptrs (get_or-map (img sg) W.ptrs u undef)

  pub ptr_closed : (u : ℕ) → Closed (next W) (ptr W u)
  ptr_closed u = closed_ptr (next W) W.ptrs u X.closed

  exp_ptr : (u : ℕ) (v : Val) → Closed (next W) v → Expansion (set_ptr u v W) sg (set_ptr u (img sg v) H)
  exp_ptr u v k = record {
    body = X.body;
    closed = closed_set (next W) W.ptrs u v X.closed k;
    ptrs = rw X.ptrs (sym (map_set (img sg) W.ptrs u v));
  }

  exp_write : (n h : ℕ) (v : Val) → sg n ≡ seg h [] → Used (next W) n → Closed (next W) v
      → Expansion (put_slot n (holds v) W) sg (put_slot h (holds (img sg v)) H)
  exp_write n h v single u k = record {
    body = subst₂ (λ a b. Expands a sg b) (sym (next_put W n (holds v))) (sym (next_put H h (holds (img sg v))))
        (expands_write (next W) sg (next H) X.body n h single u v k);
    closed = subst (λ a. AllClosed a W.ptrs) (sym (next_put W n (holds v)))
        (closed_up (next W) (upd (next W) n (holds v)) W.ptrs (w_closed (next W) sg (next H) X.body n h single u
        v k) X.closed);
    ptrs = X.ptrs;
  }

  exp_new : (n h : ℕ) → next W n ≡ unused → next H h ≡ unused → Expansion (put_slot n (holds undef) W)
      (upd sg n (seg h [])) (put_slot h (holds undef) H)
  exp_new n h fw fh = record {
    body = subst₂ (λ a b. Expands a (upd sg n (seg h [])) b) (sym (next_put W n (holds undef)))
        (sym (next_put H h (holds undef)))
        (expands_new (next W) sg (next H) X.body n h fw fh);
    closed = subst (λ a. AllClosed a W.ptrs) (sym (next_put W n (holds undef)))
        (closed_up (next W) (upd (next W) n (holds undef)) W.ptrs (n_closed (next W) sg (next H) X.body n h fw
        fh) X.closed);
    ptrs = X.ptrs ∙ sym (map_closed (next W) (img (upd sg n (seg h []))) (img sg) W.ptrs
        (n_img (next W) sg (next H) X.body n h fw fh) X.closed);
  }

  exp_free : (n h : ℕ) → sg n ≡ seg h [] → Used (next W) n → Expansion (free_cell n W) sg (free_cell h H)
  exp_free n h single u = record {
    body = subst₂ (λ a b. Expands a sg b) (sym (next_free W n)) (sym (next_free H h))
        (expands_free (next W) sg (next H) X.body n h single u);
    closed = subst (λ a. AllClosed a (map (wipe n) W.ptrs)) (sym (next_free W n))
        (closed_map (next W) (freed (next W) n) (wipe n) W.ptrs (f_closed (next W) sg (next H) X.body n h single
        u) X.closed);
    ptrs = ap (map (wipe h)) X.ptrs ∙ map-map (wipe h) (img sg) W.ptrs
        ∙ sym (map-map (img sg) (wipe n) W.ptrs
        ∙ map_closed (next W) (λ x. img sg (wipe n x)) (λ x. wipe h (img sg x)) W.ptrs
        (f_img (next W) sg (next H) X.body n h single u) X.closed);
  }

  pub exp_split : (n k h t : ℕ) (ts : List ℕ) → sg n ≡ seg h (t ∷ ts) → Used (next W) n → next W k ≡ unused
      → Expansion (split_heap n k W) (upd (upd sg k (seg t ts)) n (seg h [])) H
  exp_split n k h t ts longer u fw =
      let e : next (split_heap n k W) ≡ upd (upd (next W) k (next W n)) n (holds (cell k)) =
      next_put (put_slot k (next W n) W) n (holds (cell k))
      ∙ ap (λ f. upd f n (holds (cell k))) (next_put W k (next W n)) in
      record {
        body = subst (λ a. Expands a (upd (upd sg k (seg t ts)) n (seg h [])) (next H)) (sym e)
            (expands_split (next W) sg (next H) X.body n k h t ts longer u fw);
        closed = subst (λ a. AllClosed a W.ptrs) (sym e)
            (closed_up (next W) (upd (upd (next W) k (next W n)) n (holds (cell k))) W.ptrs
            (s_closed (next W) sg (next H) X.body n k h t ts longer u fw) X.closed);
        ptrs = X.ptrs ∙ sym (map_closed (next W) (img (upd (upd sg k (seg t ts)) n (seg h []))) (img sg) W.ptrs
            (s_img (next W) sg (next H) X.body n k h t ts longer u fw) X.closed);
      }

module _ (W : Heap) (sg : ℕ → Seg) (H : Heap) (X : Expansion W sg H) where
  one_cell : (n : ℕ) → (sg n).rest ≡ [] → sg n ≡ seg (sg n).first []
  one_cell n e = λ i. record { first = (sg n).first; rest = e i }

  -- what the first cell of a node holds, where the node is one cell
  next_one : (n : ℕ) (v : Val) → next W n ≡ holds v → (sg n).rest ≡ [] → next H (sg n).first ≡ holds (img sg v)
  next_one n v e o =
      subst (λ l. next H (last_from (sg n).first l) ≡ holds (img sg v)) o
      (chain_last (next H) (sg n).first (sg n).rest (img sg v) (X.body.chain n v e))

  pub first_used : (n : ℕ) → Used (next W) n → Used (next H) (sg n).first
  first_used n u = chain_used (next H) (sg n).first (sg n).rest (img sg u.0) (sg n).first
      (X.body.chain n u.0 u.1) (mem_here (sg n).first (sg n).rest)

  pub value_img : (s : Source) → value_of s H ≡ img sg (value_of s W)
  value_img nil = refl
  value_img (from w) = ptr_img W sg H X w

  pub value_closed : (s : Source) → Closed (next W) (value_of s W)
  value_closed nil = tt
  value_closed (from w) = ptr_closed W sg H X w

  link_alike : (v w : Val) → w ≡ img sg v → Closed (next W) v → Alone (view_val v) sg → (x : Val) → Closed (next W) x
      → Alike sg (through v (λ d. done (put_slot d (holds x) W)))
      (through w (λ d. done (put_slot d (holds (img sg x)) H)))
  link_alike null w e k o x q = rw e both_bad
  link_alike undef w e k o x q = rw e both_bad
  link_alike (cell n) w e k o x q = rw e (both_ok (exp_write W sg H X n (sg n).first x (one_cell n (o n refl)) k q))

  follow_alike : (u : ℕ) (v w : Val) → w ≡ img sg v → Closed (next W) v → Alone (view_val v) sg
      → Alike sg (through v (λ d. done (set_ptr u (held (next W d)) W)))
      (through w (λ d. done (set_ptr u (held (next H d)) H)))
  follow_alike u null w e k o = rw e both_bad
  follow_alike u undef w e k o = rw e both_bad
  follow_alike u (cell n) w e k o =
      rw (e, k.1, next_one n k.0 k.1 (o n refl))
      (both_ok (exp_ptr W sg H X u k.0 (X.body.closed n k.0 k.1)))

  release_alike : (v w : Val) → w ≡ img sg v → Closed (next W) v → Alone (view_val v) sg
      → Alike sg (free_val v W) (free_val w H)
  release_alike null w e k o = rw e (both_ok X)
  release_alike undef w e k o = rw e both_bad
  release_alike (cell n) w e k o = rw e (both_ok (exp_free W sg H X n (sg n).first (one_cell n (o n refl)) k))

  -- a next that is written by what it holds, or by what the one cell of another node holds
  splice_cells : (n m : ℕ) → Used (next W) n → Used (next W) m → Alone (view_pair (cell n) (cell m)) sg
      → Expansion (put_slot n (holds (held (next W m))) W) sg
      (put_slot (sg n).first (holds (held (next H (sg m).first))) H)
  splice_cells n m k q o = bool_case (eqb n m)
      (λ e. let z = eqb-true n m e in
      subst₂ (λ a b. Expansion a sg b)
      (sym (ap (λ i. put_slot n (holds (held (next W i))) W) (sym z) ∙ put_same W n k))
      (sym (ap (λ i. put_slot (sg n).first (holds (held (next H (sg i).first))) H) (sym z)
      ∙ put_same H (sg n).first (first_used n k))) X)
      (λ e. let a : Alone (two_nodes n m) sg = rw e at o in
      rw (q.1, next_one m q.0 q.1 (a m (inr refl)))
      (exp_write W sg H X n (sg n).first q.0 (one_cell n (a n (inl refl))) k (X.body.closed m q.0 q.1)))

  splice_alike : (v x w y : Val) → w ≡ img sg v → y ≡ img sg x → Closed (next W) v → Closed (next W) x
      → Alone (view_pair v x) sg
      → Alike sg (through x (λ d. through v (λ c. done (put_slot c (holds (held (next W d))) W))))
      (through y (λ d. through w (λ c. done (put_slot c (holds (held (next H d))) H))))
  splice_alike v null w y e f k q o = rw f both_bad
  splice_alike v undef w y e f k q o = rw f both_bad
  splice_alike null (cell m) w y e f k q o = rw (f, e) both_bad
  splice_alike undef (cell m) w y e f k q o = rw (f, e) both_bad
  splice_alike (cell n) (cell m) w y e f k q o = rw (f, e) (both_ok (splice_cells n m k q o))

  -- a value is undefined where what it stands for is
  look_alike : (v w : Val) → w ≡ img sg v → {a b : Effect} → Alike sg a b → Alike sg (look v a) (look w b)
  look_alike null w e x = rw e x
  look_alike undef w e x = rw e both_bad
  look_alike (cell n) w e x = rw e x

  -- each kind of action does the same to a heap and to its expansion
  pub effect_alike : (a : Action) (k c : ℕ) → Alone (view a W) sg → Room a W k → Room a H c
      → Alike (sg_after a k c sg) (perform a k W) (perform a c H)
  effect_alike stay k c o fw fh = both_ok X
  effect_alike (compare u s) k c o fw fh =
      look_alike (ptr W u) (ptr H u) (ptr_img W sg H X u)
      (look_alike (value_of s W) (value_of s H) (value_img s) (both_ok X))
  effect_alike (point u s) k c o fw fh = rw (value_img s) (both_ok (exp_ptr W sg H X u (value_of s W) (value_closed s)))
  effect_alike (follow u w) k c o fw fh = follow_alike u (ptr W w) (ptr H w) (ptr_img W sg H X w)
      (ptr_closed W sg H X w) o
  effect_alike (link u s) k c o fw fh =
      rw (value_img s)
      (link_alike (ptr W u) (ptr H u) (ptr_img W sg H X u) (ptr_closed W sg H X u) o (value_of s W) (value_closed s))
  effect_alike (splice u w) k c o fw fh =
      splice_alike (ptr W u) (ptr W w) (ptr H u) (ptr H w) (ptr_img W sg H X u) (ptr_img W sg H X w)
      (ptr_closed W sg H X u) (ptr_closed W sg H X w) o
  effect_alike (make u) k c o fw fh =
      let N = exp_new W sg H X k c (fw refl) (fh refl) in
      let W' = put_slot k (holds undef) W in
      let H' = put_slot c (holds undef) H in
      let sg' = upd sg k (seg c []) in
      both_ok (subst (λ v. Expansion (set_ptr u (cell k) W') sg' (set_ptr u v H'))
      (ap (λ (s : Seg). cell s.first) (upd-at sg k (seg c []) k refl))
      (exp_ptr W' sg' H' N u (cell k) (undef, get_or_put_lem W.slots k (holds undef) k ∙ rw (eqb_same k))))
  effect_alike (release u) k c o fw fh = release_alike (ptr W u) (ptr H u) (ptr_img W sg H X u)
      (ptr_closed W sg H X u) o

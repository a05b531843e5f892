-- One heap as the expansion of another: the walk carries over, along the chains.
use Prim.Native.Nat.{ℕ}
use mathlib.Core.Path.{◌∙◌, ◌≡◌, ap, refl, subst, sym}
use mathlib.Core.Bool.{false, or-false, true}
use mathlib.Core.List.{List, [], ◌++◌, ◌∷◌, append_assoc, append-nil, map}
use lib.Dec.{eqb}
use borrow.Author.Tests.{ne_eqb}
use Rattle.model.specs.Base.{mem}
use Rattle.model.specs.Heap.{Slot, Val, cell}
use Rattle.model.specs.Shape.{Seg, cells}
use Rattle.model.specs.Notions.{NoDup, Chain, Expands, cat, img, AllClosed, AllUsed, Closed, Tours, Used, Walks, ends_at_null, at_seen, ends_at_undef, go, tour_done, tour_more}
use Rattle.model.proofs.lists.Logic.{clash, mem_append, mem-append-cases, mem_append_l, mem_append_r, mem-cases, mem_here, mem_one, mem_there, not-true}

pub cat_append : (sg : ℕ → Seg) (s t : List ℕ) → cat sg (s ++ t) ≡ cat sg s ++ cat sg t
cat_append sg [] t = refl
cat_append sg (n ∷ s) t = rw (cat_append sg s t) (sym (append_assoc (cells (sg n)) (cat sg s) (cat sg t)))

pub cat_snoc : (sg : ℕ → Seg) (s : List ℕ) (n : ℕ) → cat sg (s ++ n ∷ []) ≡ cat sg s ++ cells (sg n)
cat_snoc sg s n = rw (cat_append sg s (n ∷ []), append-nil (cells (sg n)))

-- a cell of a chain is in the expansion of each list that has its node, and of no other
pub mem_cat : (sg : ℕ → Seg) (c n : ℕ) (l : List ℕ) → mem n l ≡ true → mem c (cells (sg n)) ≡ true → mem c (cat sg l)
    ≡ true
mem_cat sg c n [] h k = clash h refl
mem_cat sg c n (m ∷ l) h k =
    mem-cases n m l h (λ e. mem_append_l c (cells (sg m)) (cat sg l) (subst (λ x. mem c (cells (sg x)) ≡ true) e k))
    (λ h'. mem_append_r c (cells (sg m)) (cat sg l) (mem_cat sg c n l h' k))

pub mem_of_cat : (sg : ℕ → Seg) (c : ℕ) (l : List ℕ) → mem c (cat sg l) ≡ true → (n : ℕ) × (mem n l ≡ true)
    × (mem c (cells (sg n)) ≡ true)
mem_of_cat sg c [] h = clash h refl
mem_of_cat sg c (m ∷ l) h =
    mem-append-cases c (cells (sg m)) (cat sg l) h (λ k. (m, mem_here m l, k))
    (λ k. let r = mem_of_cat sg c l k in (r.0, mem_there r.0 m l r.1, r.2))

-- to walk along a chain of new cells
walk_chain : (nx : ℕ → Slot) (c : ℕ) (l : List ℕ) (v : Val) (s t : List ℕ) → Chain nx c l v
    → ((d : ℕ) → mem d (c ∷ l) ≡ true → mem d s ≡ false)
    → NoDup (c ∷ l) → Walks nx (s ++ c ∷ l) v t → Walks nx s (cell c) t
walk_chain nx c [] v s t ch f nd w = go (f c (mem_here c [])) ch w
walk_chain nx c (d ∷ l) v s t ch f nd w =
    go (f c (mem_here c (d ∷ l))) ch.0
    (walk_chain nx d l v (s ++ c ∷ []) t ch.1 fresh nd.1 (rw (append_assoc s (c ∷ []) (d ∷ l)) w))
  where
    fresh : (e : ℕ) → mem e (d ∷ l) ≡ true → mem e (s ++ c ∷ []) ≡ false
    fresh e h = rw (mem_append e s (c ∷ []), f e (mem_there e c (d ∷ l) h), or-false (eqb e c))
        (ne_eqb e c (λ q. clash (subst (λ x. mem x (d ∷ l) ≡ true) q h) nd.0))

module _ (nw : ℕ → Slot) (sg : ℕ → Seg) (nh : ℕ → Slot) (E : Expands nw sg nh) where
  not_in_cat : (n c : ℕ) (s : List ℕ) → Used nw n → AllUsed nw s → mem n s ≡ false → mem c (cells (sg n)) ≡ true
      → mem c (cat sg s) ≡ false
  not_in_cat n c s u us h k = not-true _ λ q.
      let r = mem_of_cat sg c s q in
      clash (subst (λ x. mem x s ≡ true) (sym (E.apart n r.0 c u (us r.0 r.1) k r.2)) r.1) h

  pub lift_walk : {s t : List ℕ} {v : Val} → AllUsed nw s → Closed nw v → Walks nw s v t
      → Walks nh (cat sg s) (img sg v) (cat sg t) × AllUsed nw t
  lift_walk us cl ends_at_null = (ends_at_null, us)
  lift_walk us cl ends_at_undef = (ends_at_undef, us)
  lift_walk {s} us cl (at_seen {c = n} h) = (
    at_seen
        (mem_cat sg (sg n).first n s h (mem_here (sg n).first (sg n).rest)),
    us,
  )
  lift_walk {s} us cl (go {t = t} {c = n} {v = v} h e w) =
      let r = lift_walk {s = s ++ n ∷ []} {t = t} {v = v} us' (E.closed n v e) w in (
        walk_chain nh (sg n).first (sg n).rest (img sg v) (cat sg s) (cat sg t) (E.chain n v e)
            (λ d k. not_in_cat n d s (v, e) us h k) (E.nodup n (v, e))
            (subst (λ x. Walks nh x (img sg v) (cat sg t)) (cat_snoc sg s n) r.0),
        r.1,
      )
    where
      us' : AllUsed nw (s ++ n ∷ [])
      us' m k = mem-append-cases m s (n ∷ []) k (us m) (λ q. (v, ap nw (mem_one m n q) ∙ e))

  pub lift_tour : {s t : List ℕ} {vs : List Val} → AllUsed nw s → AllClosed nw vs → Tours nw s vs t
      → Tours nh (cat sg s) (map (img sg) vs) (cat sg t) × AllUsed nw t
  lift_tour us cl tour_done = (tour_done, us)
  lift_tour us cl (tour_more w ws) =
      let r = lift_walk us cl.0 w in
      let q = lift_tour r.1 cl.1 ws in
      (tour_more r.0 q.0, q.1)

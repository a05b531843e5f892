-- A list of cells cut before each core cell: each piece is a chain, together they are the list, and each cell stands
-- in one of them.
use Prim.Native.Nat.{◌<◌, suc, zero, ℕ}
use mathlib.Core.Path.{◌∙◌, ◌≡◌, ap, refl, subst, sym}
use mathlib.Core.Logic.{inl, inr}
use mathlib.Core.Bool.{Bool, false, true}
use mathlib.Core.List.{List, [], ◌++◌, ◌∷◌, append_assoc}
use native.Mathlib.Omega.{arith}
use lib.Dec.{eqb}
use lib.ListN.{length}
use borrow.Author.Tests.{eqb-false, eqb-true}
use Rattle.model.specs.Base.{mem}
use Rattle.model.specs.Heap.{Heap, Slot, Val, cell, holds, next, null, undef}
use Rattle.model.specs.Shape.{Seg, cells, core, cut, cut_from, is_cell, last_from, node}
use Rattle.model.proofs.expansion.Cores.{mem_last}
use Rattle.model.proofs.expansion.Folds.{Alls}
use Rattle.model.specs.Notions.{In, NoDup, Chain, flat, seg_at, Tours, Walks, ends_at_null, at_seen, ends_at_undef, go, seg, tour_done, tour_more}
use Rattle.model.proofs.lists.Lists.{get_or_in_lem}
use Rattle.model.proofs.lists.Logic.{bool_case, clash, eqb_same, mem_append, mem-append-cases, mem_append_l, mem_append_r, mem-cases, mem_here, mem_one, mem_there, or_false_l, or_r}
use Rattle.model.proofs.visits.Walks.{pointed}

pub last_snoc : (c : ℕ) (l : List ℕ) (d : ℕ) → last_from c (l ++ d ∷ []) ≡ d
last_snoc c [] d = refl
last_snoc c (x ∷ l) d = last_snoc x l d

-- a list in which each cell that is not core follows the one that holds it
module _ (nx : ℕ → Slot) (p : ℕ → Bool) where
  abbrev pub Trail : ℕ → List ℕ → Type 0
  Trail c [] = Unit {0}
  Trail c (d ∷ l) = (p d ≡ false → nx c ≡ holds (cell d)) × Trail d l

  abbrev pub Trails : List ℕ → Type 0
  Trails [] = Unit {0}
  Trails (c ∷ l) = Trail c l

  abbrev pub Ok : List ℕ → ℕ → Type 0
  Ok [] d = Unit {0}
  Ok (c ∷ l) d = p d ≡ false → nx (last_from c l) ≡ holds (cell d)

  abbrev pub OkV : List ℕ → Val → Type 0
  OkV s null = Unit {0}
  OkV s undef = Unit {0}
  OkV s (cell c) = Ok s c

  abbrev pub Linked : ℕ → List ℕ → Type 0
  Linked c [] = Unit {0}
  Linked c (d ∷ l) = (nx c ≡ holds (cell d)) × Linked d l

  trail_snoc : (c : ℕ) (l : List ℕ) (d : ℕ) → Trail c l → Ok (c ∷ l) d → Trail c (l ++ d ∷ [])
  trail_snoc c [] d t o = (o, tt)
  trail_snoc c (x ∷ l) d t o = (t.0, trail_snoc x l d t.1 o)

  trails_snoc : (s : List ℕ) (d : ℕ) → Trails s → Ok s d → Trails (s ++ d ∷ [])
  trails_snoc [] d t o = tt
  trails_snoc (c ∷ s) d t o = trail_snoc c s d t o

  ok_snoc : (s : List ℕ) (d e : ℕ) → nx d ≡ holds (cell e) → Ok (s ++ d ∷ []) e
  ok_snoc [] d e h = λ _. h
  ok_snoc (c ∷ s) d e h = λ _. ap nx (last_snoc c s d) ∙ h

  okv_snoc : (s : List ℕ) (d : ℕ) (v : Val) → nx d ≡ holds v → OkV (s ++ d ∷ []) v
  okv_snoc s d null h = tt
  okv_snoc s d undef h = tt
  okv_snoc s d (cell e) h = ok_snoc s d e h

  walks_trail : {s t : List ℕ} {v : Val} → Walks nx s v t → Trails s → OkV s v → Trails t
  walks_trail ends_at_null ts o = ts
  walks_trail ends_at_undef ts o = ts
  walks_trail (at_seen h) ts o = ts
  walks_trail (go {s = s} {c = c} {v = v} h e w) ts o = walks_trail w (trails_snoc s c ts o) (okv_snoc s c v e)

  abbrev pub AllCore : List Val → Type 0
  AllCore [] = Unit {0}
  AllCore (v ∷ vs) = ((c : ℕ) → v ≡ cell c → p c ≡ true) × AllCore vs

  ok_core : (s : List ℕ) (v : Val) → ((c : ℕ) → v ≡ cell c → p c ≡ true) → OkV s v
  ok_core s null h = tt
  ok_core s undef h = tt
  ok_core [] (cell c) h = tt
  ok_core (x ∷ s) (cell c) h = λ q. clash (h c refl) q

  pub tours_trail : {s t : List ℕ} {vs : List Val} → Tours nx s vs t → Trails s → AllCore vs → Trails t
  tours_trail tour_done ts k = ts
  tours_trail (tour_more {s = s} {v = v} w ws) ts k = tours_trail ws (walks_trail w ts (ok_core s v k.0)) k.1

  linked_snoc : (c : ℕ) (l : List ℕ) (d : ℕ) → Linked c l → nx (last_from c l) ≡ holds (cell d) → Linked c (l ++ d ∷ [])
  linked_snoc c [] d k e = (e, tt)
  linked_snoc c (x ∷ l) d k e = (k.0, linked_snoc x l d k.1 e)

  -- what the cut makes of a trail
  abbrev pub Cuts : Seg → Type 0
  Cuts s = Linked s.first s.rest × ((d : ℕ) → mem d s.rest ≡ true → p d ≡ false)

  cut_trail : (c : ℕ) (cur l : List ℕ) → Cuts (seg c cur) → Trail (last_from c cur) l → Alls Cuts (cut_from p c cur l)
  cut_trail c cur [] k t = (k, tt)
  cut_trail c cur (d ∷ l) k t =
      bool_case (p d) (λ e. rw (e, cut_from) (k, cut_trail d [] l (tt, λ x h. clash h refl) t.1))
      (λ e. rw (e, cut_from) (cut_trail c (cur ++ d ∷ []) l (
        linked_snoc c cur d k.0 (t.0 e),
        λ x h. mem-append-cases x cur (d ∷ []) h (k.1 x)
            (λ q. ap p (mem_one x d q) ∙ e),
      )
      (rw (last_snoc c cur d) t.1)))

  pub cuts_trail : (l : List ℕ) → Trails l → Alls Cuts (cut p l)
  cuts_trail [] t = tt
  cuts_trail (c ∷ l) t = cut_trail c [] l (tt, λ x h. clash h refl) t

  pub linked_chain : (c : ℕ) (l : List ℕ) (v : Val) → Linked c l → nx (last_from c l) ≡ holds v → Chain nx c l v
  linked_chain c [] v k e = e
  linked_chain c (d ∷ l) v k e = (k.0, linked_chain d l v k.1 e)

  -- an inner cell follows a cell that is not the last
  pub inner_has : (c : ℕ) (l : List ℕ) (d : ℕ) → Linked c l → NoDup (c ∷ l) → mem d l ≡ true
      → (b : ℕ) × (mem b (c ∷ l) ≡ true) × (nx b ≡ holds (cell d)) × (b ≡ last_from c l → ⊥)
  inner_has c [] d k nd h = clash h refl
  inner_has c (x ∷ l) d k nd h = mem-cases d x l h
      (λ e. (
        c,
        mem_here c (x ∷ l),
        rw e k.0,
        λ q. clash (subst (λ b. mem b (x ∷ l) ≡ true) (sym q) (mem_last x l)) nd.0,
      ))
      (λ h'. let r = inner_has x l d k.1 nd.1 h' in (r.0, mem_there r.0 c (x ∷ l) r.1, r.2, r.3))

flat_cut_from : (p : ℕ → Bool) (c : ℕ) (cur l : List ℕ) → flat (cut_from p c cur l) ≡ c ∷ (cur ++ l)
flat_cut_from p c cur [] = refl
flat_cut_from p c cur (d ∷ l) =
    bool_case (p d) (λ e. rw (e, cut_from) (ap (λ z. c ∷ (cur ++ z)) (flat_cut_from p d [] l)))
    (λ e. rw (e, cut_from) (flat_cut_from p c (cur ++ d ∷ []) l ∙ ap (λ z. c ∷ z) (append_assoc cur (d ∷ []) l)))

pub flat_cut : (p : ℕ → Bool) (l : List ℕ) → flat (cut p l) ≡ l
flat_cut p [] = refl
flat_cut p (c ∷ l) = flat_cut_from p c [] l

pub alls_at : (P : Seg → Type 0) (ss : List Seg) → Alls P ss → (n : ℕ) → n < length ss → P (seg_at ss n)
alls_at P [] k n h = absurd (omega arith)
alls_at P (s ∷ ss) k zero h = k.0
alls_at P (s ∷ ss) k (suc n) h = alls_at P ss k.1 n (omega arith)

pub nodup_l : (s t : List ℕ) → NoDup (s ++ t) → NoDup s
nodup_l [] t nd = tt
nodup_l (x ∷ s) t nd = (or_false_l (mem x s) (mem x t) (sym (mem_append x s t) ∙ nd.0), nodup_l s t nd.1)

pub nodup_r : (s t : List ℕ) → NoDup (s ++ t) → NoDup t
nodup_r [] t nd = nd
nodup_r (x ∷ s) t nd = nodup_r s t nd.1

pub nodup_apart : (s t : List ℕ) (c : ℕ) → NoDup (s ++ t) → mem c s ≡ true → mem c t ≡ true → ⊥
nodup_apart [] t c nd h k = clash h refl
nodup_apart (x ∷ s) t c nd h k =
    mem-cases c x s h (λ e. clash (mem_append_r x s t (subst (λ z. mem z t ≡ true) e k)) nd.0)
    (λ h'. nodup_apart s t c nd.1 h' k)

pub mem_flat_in : (ss : List Seg) (s : Seg) (c : ℕ) → In s ss → mem c (cells s) ≡ true → mem c (flat ss) ≡ true
mem_flat_in [] s c i k = absurd i
mem_flat_in (t ∷ ss) s c (inl e) k = mem_append_l c (cells t) (flat ss)
    (subst (λ (x : Seg). mem c (cells x) ≡ true) e k)
mem_flat_in (t ∷ ss) s c (inr i) k = mem_append_r c (cells t) (flat ss) (mem_flat_in ss s c i k)

pub mem_flat : (ss : List Seg) (n c : ℕ) → n < length ss → mem c (cells (seg_at ss n)) ≡ true → mem c (flat ss) ≡ true
mem_flat ss n c h k = mem_flat_in ss (seg_at ss n) c (get_or_in_lem ss (seg 0 []) n h) k

pub flat_mem : (ss : List Seg) (c : ℕ) → mem c (flat ss) ≡ true → (n : ℕ) × (n < length ss)
    × (mem c (cells (seg_at ss n)) ≡ true)
flat_mem [] c h = clash h refl
flat_mem (s ∷ ss) c h = mem-append-cases c (cells s) (flat ss) h (λ k. (0, omega arith, k)) (λ k. let r =
    flat_mem ss c k in (suc r.0, omega arith, r.2))

pub flat_nodup : (ss : List Seg) (n : ℕ) → NoDup (flat ss) → n < length ss → NoDup (cells (seg_at ss n))
flat_nodup [] n nd h = absurd (omega arith)
flat_nodup (s ∷ ss) zero nd h = nodup_l (cells s) (flat ss) nd
flat_nodup (s ∷ ss) (suc n) nd h = flat_nodup ss n (nodup_r (cells s) (flat ss) nd) (omega arith)

pub flat_apart : (ss : List Seg) (n m c : ℕ) → NoDup (flat ss) → n < length ss → m < length ss
    → mem c (cells (seg_at ss n)) ≡ true
    → mem c (cells (seg_at ss m)) ≡ true → n ≡ m
flat_apart [] n m c nd hn hm k l = absurd (omega arith)
flat_apart (s ∷ ss) zero zero c nd hn hm k l = refl
flat_apart (s ∷ ss) zero (suc m) c nd hn hm k l =
    absurd (nodup_apart (cells s) (flat ss) c nd k (mem_flat ss m c (omega arith) l))
flat_apart (s ∷ ss) (suc n) zero c nd hn hm k l =
    absurd (nodup_apart (cells s) (flat ss) c nd l (mem_flat ss n c (omega arith) k))
flat_apart (s ∷ ss) (suc n) (suc m) c nd hn hm k l =
    ap suc (flat_apart ss n m c (nodup_r (cells s) (flat ss) nd) (omega arith) (omega arith) k l)

abbrev pub Head : List Seg → ℕ → Type 0
Head ss c = (m : ℕ) × (m < length ss) × ((seg_at ss m).first ≡ c)

pub node_head : (ss : List Seg) (c : ℕ) → Head ss c → (node ss c < length ss) × ((seg_at ss (node ss c)).first ≡ c)
node_head [] c h = absurd (omega arith)
node_head (s ∷ ss) c h =
    bool_case (eqb c s.first) (λ e. rw e (omega arith, sym (eqb-true c s.first e)))
    (λ e. let r = node_head ss c (rest h.0 h.1 h.2 e) in rw e (omega arith, r.1))
  where
    rest : (m : ℕ) → m < suc (length ss) → (seg_at (s ∷ ss) m).first ≡ c → eqb c s.first ≡ false → Head ss c
    rest zero k q e = absurd (eqb-false c s.first e (sym q))
    rest (suc m) k q e = (m, omega arith, q)

pub core_of_pointed : (h : Heap) (vs : List Val) → ((c : ℕ) → pointed c vs ≡ true → core h c ≡ true)
    → AllCore (next h) (core h) vs
core_of_pointed h [] k = tt
core_of_pointed h (v ∷ vs) k = (
  (λ c e. k c (rw (e, eqb_same c))),
  core_of_pointed h vs
      (λ c q. k c (or_r (is_cell c v) (pointed c vs) q)),
)

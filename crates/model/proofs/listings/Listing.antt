-- The exploration with as many places as it wants, as a function of how many locations have been explored; the listing
-- is where it ends.
use Prim.Native.Nat.{◌+◌, ◌<◌, ◌≤◌, suc, zero, ℕ}
use mathlib.Core.Path.{◌∙◌, ◌≡◌, ap, refl, subst, sym}
use mathlib.Core.Logic.{inl, inr, ⊎_elim}
use mathlib.Core.Bool.{cond, true}
use mathlib.Core.List.{List, [], ◌++◌, ◌∷◌}
use native.Mathlib.Omega.{arith}
use lib.Dec.{ltb}
use lib.ListN.{get_or-eq_default, length, length-append, length-map}
use borrow.Author.Tests.{eqb-false, ltb-false, ltb-true}
use Rattle.model.specs.Base.{any, place_of}
use Rattle.model.specs.Edges.{Edge, Loc, at, edges_of, failed, same_loc}
use Rattle.model.specs.Heap.{Heap}
use Rattle.model.specs.Machine.{Stmt, leak}
use Rattle.model.specs.Records.{Refusal}
use Rattle.model.specs.Translate.{Explored, Listing, Routine, add_edges, explore, full, listed, listing}
use Rattle.model.specs.Listings.{Placed, add_edge, add_loc, explored, extend, loc_at}
use Rattle.model.specs.Notions.{Distinct, In}
use Rattle.model.proofs.lists.Lists.{any_find, any_in, in-append-cases, in_append_r}
use Rattle.model.proofs.lists.Logic.{bool_case, clash, eq-case}
use Rattle.model.proofs.shapes.Same.{Prefix, distinct_snoc, elem_none, elem_some, loc_same, place_found, place_none, place_passes, place_snoc, place_test, prefix_in, prefix_length, prefix_refl, prefix_trans, same_loc_refl}

-- ---- the exploration without bounds

pub edge_locs : (i : ℕ) (t : Listing) (e : Edge) → (add_edge i t e).locs ≡ add_loc t.locs e.to
edge_locs i t e = ap (λ b. cond b t.locs (t.locs ++ e.to ∷ [])) (place_test (same_loc e.to) t.locs)

pub add_prefix : (ls : List Loc) (l : Loc) → Prefix ls (add_loc ls l)
add_prefix ls l = bool_case (any (same_loc l) ls) (λ e. rw e (prefix_refl ls)) (λ e. rw e (l ∷ [], refl))

-- the place of a location, once it is added, is the place it had or the next
pub add_place : (ls : List Loc) (l : Loc) → place_of (same_loc l) (add_loc ls l) ≡ place_of (same_loc l) ls
add_place ls l = bool_case (any (same_loc l) ls) (λ e. rw e)
    (λ e. rw e (place_snoc (same_loc l) ls l e (same_loc_refl l) ∙ sym (place_none (same_loc l) ls e)))

pub add_found : (ls : List Loc) (l : Loc) → place_of (same_loc l) ls < length (add_loc ls l)
add_found ls l = bool_case (any (same_loc l) ls) (λ e. rw e (place_found (same_loc l) ls e))
    (λ e. let k = place_none (same_loc l) ls e in rw (e, length-append ls (l ∷ [])) (omega arith))

pub edge_prefix : (i : ℕ) (t : Listing) (e : Edge) → Prefix t.locs (add_edge i t e).locs
edge_prefix i t e = rw (edge_locs i t e) (add_prefix t.locs e.to)

pub extend_prefix : (i : ℕ) (es : List Edge) (t : Listing) → Prefix t.locs (extend i es t).locs
extend_prefix i [] t = prefix_refl t.locs
extend_prefix i (e ∷ es) t =
    prefix_trans t.locs (add_edge i t e).locs (extend i (e ∷ es) t).locs (edge_prefix i t e)
    (extend_prefix i es (add_edge i t e))

pub extend_front : (i : ℕ) (es : List Edge) (t : Listing) → Prefix t.links (extend i es t).links
extend_front i [] t = prefix_refl t.links
extend_front i (e ∷ es) t = prefix_trans t.links (add_edge i t e).links (extend i (e ∷ es) t).links (_, refl)
    (extend_front i es (add_edge i t e))

pub extend_links : (i : ℕ) (es : List Edge) (t : Listing) → length (extend i es t).links
    ≡ length t.links + length es
extend_links i [] t = omega arith
extend_links i (e ∷ es) t = extend_links i es (add_edge i t e) ∙ rw (length-append t.links) (omega arith)

-- ---- the locations that edges add

pub any_loc : (ls : List Loc) (l : Loc) → any (same_loc l) ls ≡ true → In l ls
any_loc ls l h = let r = any_find (same_loc l) ls h in subst (λ m. In m ls) (sym (loc_same l r.0 r.2)) r.1

pub in_loc : (ls : List Loc) (l : Loc) → In l ls → any (same_loc l) ls ≡ true
in_loc ls l h = any_in (same_loc l) ls l h (same_loc_refl l)

-- the number of a location that stands in the list
pub loc_place : (ls : List Loc) (l : Loc) → In l ls → (place_of (same_loc l) ls < length ls)
    × (loc_at ls (place_of (same_loc l) ls) ≡ l)
loc_place ls l h =
    let k = place_found (same_loc l) ls (in_loc ls l h) in
    (k, sym (loc_same l (loc_at ls (place_of (same_loc l) ls)) (place_passes (same_loc l) ls (failed 0 leak) k)))

pub add-in {ℓ} : {C : Type ℓ} (ls : List Loc) (m l : Loc) → In l (add_loc ls m) → (In l ls → C) → (l ≡ m → C) → C
add-in ls m l h f g = bool_case (any (same_loc m) ls) (λ e. f (rw e at h))
    (λ e. in-append-cases l ls (m ∷ []) (rw e at h) f (λ w. ⊎_elim g (λ (b : ⊥). absurd b) w))

pub add_has : (ls : List Loc) (l : Loc) → In l (add_loc ls l)
add_has ls l = bool_case (any (same_loc l) ls) (λ e. rw e (any_loc ls l e))
    (λ e. rw e (in_append_r l ls (l ∷ []) (inl refl)))

pub add_distinct : (ls : List Loc) (l : Loc) → Distinct ls → Distinct (add_loc ls l)
add_distinct ls l k = bool_case (any (same_loc l) ls) (λ e. rw e k)
    (λ e. rw e (distinct_snoc ls l k (λ h. clash (in_loc ls l h) e)))

pub extend_has : (i : ℕ) (es : List Edge) (t : Listing) (e : Edge) → In e es → In e.to (extend i es t).locs
extend_has i [] t e h = absurd h
extend_has i (d ∷ es) t e (inl q) = prefix_in (add_edge i t d).locs (extend i (d ∷ es) t).locs e.to
    (extend_prefix i es (add_edge i t d))
    (rw (edge_locs i t d, q) (add_has t.locs d.to))
extend_has i (d ∷ es) t e (inr h) = extend_has i es (add_edge i t d) e h

pub extend_distinct : (i : ℕ) (es : List Edge) (t : Listing) → Distinct t.locs → Distinct (extend i es t).locs
extend_distinct i [] t k = k
extend_distinct i (e ∷ es) t k = extend_distinct i es (add_edge i t e)
    (rw (edge_locs i t e) (add_distinct t.locs e.to k))

pub extend_all : (P : Loc → Type 0) (i : ℕ) (es : List Edge) (t : Listing) → ((l : Loc) → In l t.locs → P l)
    → ((e : Edge) → In e es → P e.to)
    → (l : Loc) → In l (extend i es t).locs → P l
extend_all P i [] t h k l q = h l q
extend_all P i (e ∷ es) t h k l q = extend_all P i es (add_edge i t e)
    (λ m z. add-in t.locs e.to m (rw (edge_locs i t e) at z) (h m) (λ w. subst P (sym w) (k e (inl refl))))
    (λ d z. k d (inr z)) l q

-- ---- with bounds

pub placed_edge : (cl ce i : ℕ) (t : Listing) (e : Edge) → Placed cl ce t → place_of (same_loc e.to) t.locs < cl
    → length t.links < ce
    → Placed cl ce (add_edge i t e)
placed_edge cl ce i t e h p q = (
  rw (edge_locs i t e) (bool_case (any (same_loc e.to) t.locs) (λ k. rw k h.0)
      (λ k. let n = place_none (same_loc e.to) t.locs k in rw (k, length-append t.locs) (omega arith))),
  rw (length-append t.links) (omega arith),
)

-- a refusal is no listing
pub full-listed {ℓ} : {C : Type ℓ} {x : Refusal} {t : Listing} → full x ≡ listed t → C
full-listed {x} {t} e = absurd (let z : ◌≡◌ {A = ℕ} 0 1 = cc in omega arith)

-- edges that have been added are all added, and have places
pub add_listed : (cl ce i : ℕ) (es : List Edge) (t u : Listing) → Placed cl ce t → add_edges cl ce i es t ≡ listed u
    → (u ≡ extend i es t) × Placed cl ce u
add_listed cl ce i [] t u h p = let e : t ≡ u = cc in (sym e, subst (Placed cl ce) e h)
add_listed cl ce i (e ∷ es) t u h p =
    let j = place_of (same_loc e.to) t.locs in
    bool_case (ltb j cl)
    (λ a. let p1 = rw (a, add_edges) at p in bool_case (ltb (length t.links) ce)
    (λ b. add_listed cl ce i es (add_edge i t e) u
    (placed_edge cl ce i t e h (ltb-true j cl a) (ltb-true (length t.links) ce b)) (rw (b, add_edges) at p1))
    (λ b. let p2 = rw (b, add_edges) at p1 in full-listed p2))
    (λ a. let p1 = rw (a, add_edges) at p in full-listed p1)

-- ---- the whole exploration

pub outcome-case {ℓ} : {C : Type ℓ} (o : Explored) → ((x : Refusal) → o ≡ full x → C)
    → ((u : Listing) → o ≡ listed u → C) → C
outcome-case (full x) f g = f x refl
outcome-case (listed u) f g = g u refl

-- one location explored
pub explore_end : (sts : List Stmt) (cl ce f i : ℕ) (t : Listing) → length t.locs ≤ i
    → explore sts cl ce (suc f) i t ≡ listed t
explore_end sts cl ce f i t h = rw (elem_none t.locs i h, explore)

pub explore_full : (sts : List Stmt) (cl ce f i : ℕ) (t : Listing) (x : Refusal) → i < length t.locs
    → add_edges cl ce i (edges_of sts (loc_at t.locs i)) t ≡ full x → explore sts cl ce (suc f) i t ≡ full x
explore_full sts cl ce f i t x h p = rw (elem_some t.locs i (failed 0 leak) h, explore) (rw (p, explore))

pub explore_next : (sts : List Stmt) (cl ce f i : ℕ) (t u : Listing) → i < length t.locs
    → add_edges cl ce i (edges_of sts (loc_at t.locs i)) t ≡ listed u → explore sts cl ce (suc f) i t
    ≡ explore sts cl ce f (suc i) u
explore_next sts cl ce f i t u h p = rw (elem_some t.locs i (failed 0 leak) h, explore) (rw (p, explore))

module _ (sts : List Stmt) (hs : List Heap) where
  -- what the edges of a location keep, further exploration keeps
  explored_on : (R : Listing → Listing → Type 0) → ((t : Listing) → R t t)
      → ((t u v : Listing) → R t u → R u v → R t v) → ((i : ℕ) (es : List Edge) (t : Listing) → R t (extend i es t))
      → (i n : ℕ) → i ≤ n → R (explored sts hs i) (explored sts hs n)
  explored_on R same then more i zero h =
      let e : zero ≡ i = omega arith in
      subst (λ k. R (explored sts hs k) (explored sts hs zero)) e (same (explored sts hs zero))
  explored_on R same then more i (suc n) h =
      eq-case i (suc n)
      (λ e. subst (λ k. R (explored sts hs k) (explored sts hs (suc n))) (sym e) (same (explored sts hs (suc n))))
      (λ e. let ne = eqb-false i (suc n) e in
      then (explored sts hs i) (explored sts hs n) (explored sts hs (suc n))
      (explored_on R same then more i n (omega arith))
      (more n (edges_of sts (loc_at (explored sts hs n).locs n)) (explored sts hs n)))

  pub explored_prefix : (i n : ℕ) → i ≤ n → Prefix (explored sts hs i).locs (explored sts hs n).locs
  explored_prefix = explored_on (λ t u. Prefix t.locs u.locs) (λ t. prefix_refl t.locs)
      (λ t u v. prefix_trans t.locs u.locs v.locs) extend_prefix

  pub explored_front : (i n : ℕ) → i ≤ n → Prefix (explored sts hs i).links (explored sts hs n).links
  explored_front = explored_on (λ t u. Prefix t.links u.links) (λ t. prefix_refl t.links)
      (λ t u v. prefix_trans t.links u.links v.links) extend_front

  -- past the last location nothing is added
  past_last : (n : ℕ) → length (explored sts hs n).locs ≤ n → explored sts hs (suc n) ≡ explored sts hs n
  past_last n h = rw (get_or-eq_default (explored sts hs n).locs (failed 0 leak) h)

  pub explored_end : (i n : ℕ) → length (explored sts hs i).locs ≤ i → i ≤ n → explored sts hs n ≡ explored sts hs i
  explored_end i zero h k = let e : zero ≡ i = omega arith in ap (explored sts hs) e
  explored_end i (suc n) h k =
      eq-case i (suc n) (λ e. ap (explored sts hs) (sym e))
      (λ e. let ne = eqb-false i (suc n) e in
      let r = explored_end i n h (omega arith) in
      past_last n (rw r (omega arith)) ∙ r)

  module _ (cl ce : ℕ) where
    explore_listed : (f i : ℕ) (u : Listing) → Placed cl ce (explored sts hs i) → i ≤ length (explored sts hs i).locs
        → cl ≤ i + f
        → explore sts cl ce f i (explored sts hs i) ≡ listed u → (u ≡ explored sts hs (length u.locs))
        × Placed cl ce u
    explore_listed zero i u h k m p =
        let e : explored sts hs i ≡ u = cc in
        let n : i ≡ length (explored sts hs i).locs = omega arith in
        subst (λ (w : Listing). (w ≡ explored sts hs (length w.locs)) × Placed cl ce w) e (ap (explored sts hs) n, h)
    explore_listed (suc f) i u h k m p =
        let t = explored sts hs i in
        bool_case (ltb i (length t.locs))
        (λ q. let lt = ltb-true i (length t.locs) q in
        outcome-case (add_edges cl ce i (edges_of sts (loc_at t.locs i)) t)
        (λ x a. full-listed (sym (explore_full sts cl ce f i t x lt a) ∙ p))
        (λ w a. let r = add_listed cl ce i (edges_of sts (loc_at t.locs i)) t w h a in
        let g = prefix_length t.locs (explored sts hs (suc i)).locs
        (extend_prefix i (edges_of sts (loc_at t.locs i)) t) in
        explore_listed f (suc i) u (subst (Placed cl ce) r.0 r.1) (omega arith) (omega arith)
        (ap (explore sts cl ce f (suc i)) (sym r.0) ∙ sym (explore_next sts cl ce f i t w lt a) ∙ p)))
        (λ q. let le = ltb-false i (length t.locs) q in
        let p1 = explore_end sts cl ce f i t le in
        let e : t ≡ u = cc in
        let n : i ≡ length t.locs = omega arith in
        subst (λ (w : Listing). (w ≡ explored sts hs (length w.locs)) × Placed cl ce w) e
        (ap (explored sts hs) n, h))

-- A listing is the exploration that has come to its last location, and it has places.
pub listing_whole : (r : Routine) (cl ce : ℕ) (t : Listing) → listing r cl ce ≡ listed t
    → (t ≡ explored r.stmts r.starts (length t.locs)) × Placed cl ce t
unfolding listing
listing_whole r cl ce t p =
    bool_case (ltb cl (length r.starts))
    (λ q. let p1 = rw (q, listing) at p in full-listed p1)
    (λ q. let le = ltb-false cl (length r.starts) q in
    explore_listed r.stmts r.starts cl ce cl 0 t (rw (length-map r.starts (at 0)) le, omega arith)
    (omega arith) (omega arith) (rw (q, listing) at p))

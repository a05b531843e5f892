-- What a listing holds: the starting shapes first, every reachable location once and no other, every edge of each
-- location in order, and each new target takes the next number.
use Prim.Native.Nat.{◌<◌, ◌≤◌, suc, zero, ℕ}
use mathlib.Core.Path.{◌∙◌, ◌≡◌, ap, refl, subst, sym}
use mathlib.Core.Logic.{inl, inr, ⊎_elim}
use mathlib.Core.List.{List, [], ◌++◌, ◌∷◌, append_assoc, append-nil, map, map-append}
use native.Mathlib.Omega.{arith}
use lib.Dec.{ltb}
use lib.ListN.{get_or-eq_default, length, length-map, take}
use lib.Seq.{take_at}
use borrow.Author.Tests.{ltb-false, ltb-true}
use Rattle.model.specs.Base.{any, joined, numbers, place_of}
use Rattle.model.specs.Edges.{Edge, Loc, at, edges_of, failed, same_loc}
use Rattle.model.specs.Heap.{Heap}
use Rattle.model.specs.Machine.{Stmt, leak}
use Rattle.model.specs.Translate.{Link, Listing, Routine, listed, listing}
use Rattle.model.proofs.listings.Listing.{add_found, add_place, any_loc, edge_locs, explored_end, explored_prefix, extend_all, extend_distinct, extend_has, extend_prefix, listing_whole, loc_place}
use Rattle.model.specs.Listings.{Exact, IsFull, Reached, add_edge, add_loc, add_locs, by_edge, explored, extend, from_start, link_of, link_target, links_from, loc_at}
use Rattle.model.specs.Notions.{Distinct, In}
use Rattle.model.proofs.lists.Lists.{get_or_in_lem, in-append-cases, in_get_or_lem, in_joined, in_map, joined_in, joined_snoc, map_in}
use Rattle.model.proofs.lists.Logic.{bool_case, not-true}
use Rattle.model.proofs.lists.Numbers.{numbers_in, numbers_snoc}
use Rattle.model.proofs.shapes.Same.{Prefix, distinct_map, prefix_get_or_lem, prefix_in, prefix_place, prefix_trans}

-- ---- lists

joined_numbers : {A : Type 0} (f : ℕ → List A) (n : ℕ) → joined (map f (numbers 0 (suc n)))
    ≡ joined (map f (numbers 0 n)) ++ f n
joined_numbers f n =
    ap (λ z. joined (map f z)) (numbers_snoc 0 n ∙ ap (λ z. numbers 0 n ++ z ∷ []) (omega arith))
    ∙ ap joined (map-append f (numbers 0 n) (n ∷ [])) ∙ joined_snoc (map f (numbers 0 n)) (f n)

-- ---- the links

-- an edge's target keeps its number in every longer list
edge_number_lem : (i : ℕ) (t : Listing) (e : Edge) (ls : List Loc) → Prefix (add_edge i t e).locs ls
    → place_of (same_loc e.to) t.locs ≡ place_of (same_loc e.to) ls
edge_number_lem i t e ls q =
    let a = add_place t.locs e.to in
    let b = edge_locs i t e in
    let c : place_of (same_loc e.to) (add_edge i t e).locs ≡ place_of (same_loc e.to) t.locs =
    ap (place_of (same_loc e.to)) b ∙ a in
    let d : place_of (same_loc e.to) (add_edge i t e).locs < length (add_edge i t e).locs =
    rw (c, b) (add_found t.locs e.to) in
    sym c ∙ sym (prefix_place (same_loc e.to) (add_edge i t e).locs ls q d)

extend_linked : (i : ℕ) (es : List Edge) (t : Listing) (ls : List Loc) → Prefix (extend i es t).locs ls
    → (extend i es t).links ≡ t.links ++ map (link_of i ls) es
extend_linked i [] t ls q = sym (append-nil t.links)
extend_linked i (e ∷ es) t ls q =
    extend_linked i es (add_edge i t e) ls q
    ∙ append_assoc t.links (record { from = i; dest = place_of (same_loc e.to) t.locs; edge = e } ∷ [])
    (map (link_of i ls) es)
    ∙ ap (λ j. t.links ++ record { from = i; dest = j; edge = e } ∷ map (link_of i ls) es)
    (edge_number_lem i t e ls (prefix_trans (add_edge i t e).locs (extend i (e ∷ es) t).locs ls
    (extend_prefix i es (add_edge i t e)) q))

-- ---- the order of the locations

adds_append : (ls ms ns : List Loc) → add_locs ls (ms ++ ns) ≡ add_locs (add_locs ls ms) ns
adds_append ls [] ns = refl
adds_append ls (m ∷ ms) ns = adds_append (add_loc ls m) ms ns

adds_distinct : (ls ms : List Loc) → Distinct ms → ((l : Loc) → In l ms → In l ls → ⊥) → add_locs ls ms ≡ ls ++ ms
adds_distinct ls [] k h = sym (append-nil ls)
adds_distinct ls (m ∷ ms) k h =
    let e = not-true (any (same_loc m) ls) (λ q. h m (inl refl) (any_loc ls m q)) in
    rw e (adds_distinct (ls ++ m ∷ []) ms k.1
    (λ l a b. in-append-cases l ls (m ∷ []) b (h l (inr a))
    (λ w. ⊎_elim (λ (q : l ≡ m). k.0 (subst (λ z. In z ms) q a)) (λ (z : ⊥). z) w))
    ∙ append_assoc ls (m ∷ []) ms)

extend_order : (i : ℕ) (es : List Edge) (t : Listing) → (extend i es t).locs
    ≡ add_locs t.locs (map (λ (e : Edge). e.to) es)
extend_order i [] t = refl
extend_order i (e ∷ es) t = extend_order i es (add_edge i t e) ∙ ap (λ z. add_locs z (map (λ (d : Edge). d.to) es))
    (edge_locs i t e)

extend_targets : (i : ℕ) (es : List Edge) (t : Listing) → map link_target (extend i es t).links
    ≡ map link_target t.links ++ map (λ (e : Edge). e.to) es
extend_targets i [] t = sym (append-nil (map link_target t.links))
extend_targets i (e ∷ es) t = extend_targets i es (add_edge i t e)
    ∙ ap (λ z. z ++ map (λ (d : Edge). d.to) es)
    (map-append link_target t.links (record { from = i; dest = place_of (same_loc e.to) t.locs; edge = e } ∷ []))
    ∙ append_assoc (map link_target t.links) (e.to ∷ []) (map (λ (d : Edge). d.to) es)

-- ---- the laws

-- only a location of the list has edges
pub edge_below : (sts : List Stmt) (ls : List Loc) (i : ℕ) (e : Edge) → In e (edges_of sts (loc_at ls i))
    → i < length ls
edge_below sts ls i e h = bool_case (ltb i (length ls)) (λ q. ltb-true i (length ls) q)
    (λ q. absurd (subst (λ l. In e (edges_of sts l))
    (get_or-eq_default ls (failed 0 leak) (ltb-false i (length ls) q)) h))

pub starts_distinct : (hs : List Heap) → Distinct hs → Distinct (map (at 0) hs)
starts_distinct hs = distinct_map (at 0) hs (λ x y i j e. cc)

module _ (sts : List Stmt) (hs : List Heap) where
  explored_sound : (i : ℕ) (l : Loc) → In l (explored sts hs i).locs → Reached sts hs l
  explored_sound zero l h = let r = in_map (at 0) l hs h in subst (Reached sts hs) (sym r.2) (from_start r.1)
  explored_sound (suc i) l h =
      let ls = (explored sts hs i).locs in
      extend_all (Reached sts hs) i (edges_of sts (loc_at ls i)) (explored sts hs i) (explored_sound i)
      (λ e k. by_edge e (explored_sound i (loc_at ls i)
      (get_or_in_lem ls (failed 0 leak) i (edge_below sts ls i e k))) k) l h

  pub explored_distinct : Distinct hs → (i : ℕ) → Distinct (explored sts hs i).locs
  explored_distinct k zero = starts_distinct hs k
  explored_distinct k (suc i) = extend_distinct i (edges_of sts (loc_at (explored sts hs i).locs i))
      (explored sts hs i) (explored_distinct k i)

  explored_order : (i : ℕ) → (explored sts hs i).locs
      ≡ add_locs (map (at 0) hs) (map link_target (explored sts hs i).links)
  explored_order zero = refl
  explored_order (suc i) =
      let t = explored sts hs i in
      let es = edges_of sts (loc_at t.locs i) in
      extend_order i es t ∙ ap (λ z. add_locs z (map (λ (e : Edge). e.to) es)) (explored_order i)
      ∙ sym (adds_append (map (at 0) hs) (map link_target t.links) (map (λ (e : Edge). e.to) es))
      ∙ ap (add_locs (map (at 0) hs)) (sym (extend_targets i es t))

  loc_later : (i n : ℕ) → i ≤ n → loc_at (explored sts hs n).locs i ≡ loc_at (explored sts hs i).locs i
  loc_later i n h =
      let ls = (explored sts hs i).locs in
      bool_case (ltb i (length ls))
      (λ q. prefix_get_or_lem ls (explored sts hs n).locs (failed 0 leak) i (explored_prefix sts hs i n h)
      (ltb-true i (length ls) q))
      (λ q. ap (λ (t : Listing). loc_at t.locs i) (explored_end sts hs i n (ltb-false i (length ls) q) h))

  explored_linked : (n i : ℕ) → i ≤ n → (explored sts hs i).links
      ≡ joined (map (links_from sts (explored sts hs n).locs) (numbers 0 i))
  explored_linked n zero h = refl
  explored_linked n (suc i) h =
      let t = explored sts hs i in
      let ls = (explored sts hs n).locs in
      extend_linked i (edges_of sts (loc_at t.locs i)) t ls (explored_prefix sts hs (suc i) n h)
      ∙ ap (λ l. t.links ++ map (link_of i ls) (edges_of sts l)) (sym (loc_later i n (omega arith)))
      ∙ ap (λ z. z ++ links_from sts ls i) (explored_linked n i (omega arith))
      ∙ sym (joined_numbers (links_from sts ls) i)

  explored_complete : (n : ℕ) → n ≡ length (explored sts hs n).locs → (l : Loc) → Reached sts hs l
      → In l (explored sts hs n).locs
  explored_complete n c l (from_start {h = h} k) =
      prefix_in (map (at 0) hs) (explored sts hs n).locs (at 0 h) (explored_prefix sts hs 0 n (omega arith))
      (map_in (at 0) h hs k)
  explored_complete n c l (by_edge {l = m} e r k) =
      let q = in_get_or_lem (explored sts hs n).locs (failed 0 leak) m (explored_complete n c m r) in
      let i = q.0 in
      let z : m ≡ loc_at (explored sts hs i).locs i = sym q.2 ∙ loc_later i n (omega arith) in
      prefix_in (explored sts hs (suc i)).locs (explored sts hs n).locs e.to
      (explored_prefix sts hs (suc i) n (omega arith))
      (extend_has i (edges_of sts (loc_at (explored sts hs i).locs i)) (explored sts hs i) e
      (subst (λ x. In e (edges_of sts x)) z k))

explored_exact : (r : Routine) (n : ℕ) → Distinct r.starts → n ≡ length (explored r.stmts r.starts n).locs
    → Exact r (explored r.stmts r.starts n)
explored_exact r n k e =
    let sts = r.stmts in
    let hs = r.starts in
    let p = explored_prefix sts hs 0 n (omega arith) in
    record {
      starts = ap (take (length hs)) p.1 ∙ take_at (map (at 0) hs) p.0 (length hs) (length-map hs (at 0));
      distinct = explored_distinct sts hs k n;
      sound = explored_sound sts hs n;
      complete = explored_complete sts hs n e;
      links = explored_linked sts hs n n (omega arith)
          ∙ ap (λ z. joined (map (links_from sts (explored sts hs n).locs) (numbers 0 z))) e;
      order =
          explored_order sts hs n
          ∙ ap (λ z. add_locs z (map link_target (explored sts hs n).links))
          (sym (adds_distinct [] (map (at 0) hs) (starts_distinct hs k) (λ l a b. b)))
          ∙ sym (adds_append [] (map (at 0) hs) (map link_target (explored sts hs n).links));
    }

-- The full listing holds exactly the reachable locations and all their edges, in the order of the exploration,
pub full_exact : (r : Routine) (t : Listing) → Distinct r.starts → IsFull r t → Exact r t
full_exact r t k f =
    subst (Exact r) (sym f) (explored_exact r (length t.locs) k (ap (λ (u : Listing). length u.locs) f))

-- and a listing that has places is the full one.
pub listing_exact : (r : Routine) (cl ce : ℕ) (t : Listing) → Distinct r.starts → listing r cl ce ≡ listed t
    → Exact r t
listing_exact r cl ce t k p = full_exact r t k (listing_whole r cl ce t p).0

-- ---- each link

-- a link's ends are numbers of locations, its second end is its edge's target, and its edge is one of its first end's
pub record LinkGood (sts : List Stmt) (t : Listing) (k : Link) : Type 0 where
  pub from_below : k.from < length t.locs
  pub dest_below : k.dest < length t.locs
  pub dest_is : loc_at t.locs k.dest ≡ k.edge.to
  pub edge_of : In k.edge (edges_of sts (loc_at t.locs k.from))

pub link_good : (r : Routine) (t : Listing) → Exact r t → (k : Link) → In k t.links → LinkGood r.stmts t k
link_good r t x k h =
    let sts = r.stmts in
    let ls = t.locs in
    let a = in_joined k (map (links_from sts ls) (numbers 0 (length ls))) (rw x.links at h) in
    let b = in_map (links_from sts ls) a.0 (numbers 0 (length ls)) a.1 in
    let i = b.0 in
    let c = in_map (link_of i ls) k (edges_of sts (loc_at ls i)) (subst (In k) b.2 a.2) in
    let e = c.0 in
    let lt = edge_below sts ls i e c.1 in
    let d = loc_place ls e.to (x.complete e.to
    (by_edge e (x.sound (loc_at ls i) (get_or_in_lem ls (failed 0 leak) i lt)) c.1)) in
    subst (LinkGood sts t) (sym c.2) (record { from_below = lt; dest_below = d.0; dest_is = d.1; edge_of = c.1 })

-- each edge of each location has a link
pub edge_listed : (r : Routine) (t : Listing) → Exact r t → (i : ℕ) (e : Edge)
    → In e (edges_of r.stmts (loc_at t.locs i))
    → In (link_of i t.locs e) t.links
edge_listed r t x i e h =
    let ls = t.locs in
    let lt = edge_below r.stmts ls i e h in
    subst (In (link_of i ls e)) (sym x.links)
    (joined_in (link_of i ls e) (links_from r.stmts ls i) (map (links_from r.stmts ls) (numbers 0 (length ls)))
    (map_in (links_from r.stmts ls) i (numbers 0 (length ls))
    (numbers_in 0 (length ls) i (omega arith) (omega arith)))
    (map_in (link_of i ls) e (edges_of r.stmts (loc_at ls i)) h))

-- The rule of 11 and 12 told from the full listing: its edges stand in the order in which the exploration finds them,
-- so the first edge without a place is the one at which an exploration with fewer places stops.
use Prim.Native.Nat.{◌+◌, ◌<◌, ◌≤◌, suc, zero, ℕ}
use mathlib.Core.Path.{◌∙◌, ◌≡◌, ap, refl, subst, sym}
use mathlib.Core.Logic.{inl, inr, ⊎_elim}
use mathlib.Core.List.{List, [], ◌++◌, ◌∷◌, append_assoc, append-nil, map, map-append}
use native.Mathlib.Omega.{arith}
use lib.Dec.{ltb}
use lib.ListN.{length, length-map}
use borrow.Author.Tests.{le-ltb, lt-ltb, ltb-false, ltb-true}
use Rattle.model.specs.Base.{any, place_of}
use Rattle.model.specs.Bench.{Ends, ends_of, first_unplaced, unplaced}
use Rattle.model.specs.Edges.{Edge, edges_of, same_loc}
use Rattle.model.specs.Heap.{Heap}
use Rattle.model.specs.Machine.{Stmt}
use Rattle.model.specs.Records.{Refusal, is_accepted, is_refused, refusal}
use Rattle.model.specs.Translate.{Link, Listing, Outcome, Routine, check, full, good, listed, listing, places, translate}
use Rattle.model.specs.Listings.{IsFull, Placed, Refused, Why, add_edge, explored, extend, loc_at, no_edge, no_location}
use Rattle.model.specs.Notions.{In}
use Rattle.model.proofs.listings.Listing.{add_found, any_loc, edge_locs, edge_prefix, explored_end, explored_front, extend_front, listing_whole, loc_place, outcome-case}
use Rattle.model.proofs.listings.Outcomes.{full_one, good_translate}
use Rattle.model.proofs.listings.Places.{full_says}
use Rattle.model.proofs.lists.Lists.{in-append-cases, in_map, in_single}
use Rattle.model.proofs.lists.Logic.{bool_case}
use Rattle.model.proofs.shapes.Same.{Prefix, place_le, place_none, prefix_length, prefix_trans}

-- edges that have places are passed over
placed_front : (cl ce n : ℕ) (es fs : List Ends) → ((e : Ends) → In e es → e.leads < cl) → n + length es ≤ ce
    → first_unplaced cl ce n (es ++ fs) ≡ first_unplaced cl ce (n + length es) fs
placed_front cl ce n [] fs h k = let e : n ≡ n + 0 = omega arith in ap (λ m. first_unplaced cl ce m fs) e
placed_front cl ce n (e ∷ es) fs h k =
    let q : suc n + length es ≡ n + length (e ∷ es) = omega arith in
    rw (lt-ltb e.leads cl (h e (inl refl)), first_unplaced) (rw (lt-ltb n ce (omega arith), first_unplaced)
    (placed_front cl ce (suc n) es fs (λ d i. h d (inr i)) (omega arith) ∙ ap (λ m. first_unplaced cl ce m fs) q))

-- ---- the edges of an exploration

-- each leads to a location of the listing
abbrev LinksBelow : Listing → Type 0
LinksBelow t = (l : Link) → In l t.links → l.dest < length t.locs

added_below : (i : ℕ) (t : Listing) (e : Edge) → LinksBelow t → LinksBelow (add_edge i t e)
added_below i t e h l k = in-append-cases l t.links _ k
    (λ j. let b = prefix_length t.locs (add_edge i t e).locs (edge_prefix i t e) in omega (arith, h l j))
    (λ j. subst (λ (m : Link). m.dest < length (add_edge i t e).locs) (sym (in_single l _ j))
    (rw (edge_locs i t e) (add_found t.locs e.to)))

extend_below : (i : ℕ) (es : List Edge) (t : Listing) → LinksBelow t → LinksBelow (extend i es t)
extend_below i [] t h = h
extend_below i (e ∷ es) t h = extend_below i es (add_edge i t e) (added_below i t e h)

extend_append : (i : ℕ) (es fs : List Edge) (t : Listing) → extend i (es ++ fs) t ≡ extend i fs (extend i es t)
extend_append i [] fs t = refl
extend_append i (e ∷ es) fs t = extend_append i es fs (add_edge i t e)

module _ (sts : List Stmt) (hs : List Heap) where
  explored_below : (i : ℕ) → LinksBelow (explored sts hs i)
  explored_below zero l k = absurd k
  explored_below (suc i) l k = extend_below i (edges_of sts (loc_at (explored sts hs i).locs i)) (explored sts hs i)
      (explored_below i) l k

-- ---- the first without a place

-- where all have places, none is found
none_unplaced : (cl ce : ℕ) (t : Listing) (fs : List Ends) → LinksBelow t → Placed cl ce t
    → first_unplaced cl ce 0 (map ends_of t.links ++ fs) ≡ first_unplaced cl ce (length t.links) fs
none_unplaced cl ce t fs h P =
    let n : 0 + length (map ends_of t.links) ≡ length t.links = omega (arith, length-map t.links ends_of) in
    placed_front cl ce 0 (map ends_of t.links) fs
    (λ e i. let m = in_map ends_of e t.links i in
    let b = P.0 in
    subst (λ (d : Ends). d.leads < cl) (sym m.2) (omega (arith, h m.0 m.1)))
    (let b = P.1 in omega arith)
    ∙ ap (λ k. first_unplaced cl ce k fs) n

-- the edge that a refusal is about, with the edges after it
stuck_unplaced : (cl ce i : ℕ) (e : Edge) (u : Listing) (x : Refusal) (fs : List Ends) → Placed cl ce u
    → Why cl ce i e u x
    → first_unplaced cl ce (length u.links)
    (record { leaves = i; leads = place_of (same_loc e.to) u.locs } ∷ fs) ≡ is_refused x
stuck_unplaced cl ce i e u x fs P (no_location q a b) =
    let j = place_of (same_loc e.to) u.locs in
    bool_case (any (same_loc e.to) u.locs) (λ k. absurd (a (any_loc u.locs e.to k)))
    (λ k. let n = place_none (same_loc e.to) u.locs k in
    rw (le-ltb j cl (omega arith), first_unplaced) (ap is_refused (sym q)))
stuck_unplaced cl ce i e u x fs P (no_edge q a b) =
    let j = place_of (same_loc e.to) u.locs in
    let f = P.0 in
    let lt : j < cl = ⊎_elim (λ (k : In e.to u.locs). omega (arith, (loc_place u.locs e.to k).0))
    (λ (k : length u.locs < cl). omega (arith, place_le (same_loc e.to) u.locs)) a in
    rw (lt-ltb j cl lt, first_unplaced) (rw (le-ltb (length u.links) ce (omega arith), first_unplaced)
    (ap is_refused (sym q)))

-- the location that a refusal names has been listed
refused_below : (r : Routine) (t : Listing) (i : ℕ) → IsFull r t → i < length (explored r.stmts r.starts i).locs
    → i < length t.locs
refused_below r t i f h =
    let n = length t.locs in
    bool_case (ltb i n) (λ q. ltb-true i n q)
    (λ q. let le = ltb-false i n q in
    let l = ap (λ (w : Listing). length w.locs) f in
    let e = ap (λ (w : Listing). length w.locs) (explored_end r.stmts r.starts n i (omega arith) le) in
    absurd (omega arith))

-- a refusal by the exploration is that of the first edge without a place
refused_unplaced : (r : Routine) (cl ce : ℕ) (t : Listing) (x : Refusal) → IsFull r t
    → Refused r.stmts r.starts cl ce x → first_unplaced cl ce 0 (map ends_of t.links) ≡ is_refused x
refused_unplaced r cl ce t x f R =
    let i = x.place in
    let E = explored r.stmts r.starts in
    let N = R.no_place in
    let u = extend i N.earlier (E i) in
    let w = add_edge i u N.stuck in
    let here : Prefix w.links (E (suc i)).links =
    subst (λ es. Prefix w.links (extend i es (E i)).links) (sym N.edges)
    (subst (λ (v : Listing). Prefix w.links v.links)
    (sym (extend_append i N.earlier (N.stuck ∷ N.later) (E i))) (extend_front i N.later w)) in
    let there : Prefix (E (suc i)).links t.links =
    subst (λ (v : Listing). Prefix (E (suc i)).links v.links) (sym f)
    (explored_front r.stmts r.starts (suc i) (length t.locs) (refused_below r t i f R.below)) in
    let F = prefix_trans w.links (E (suc i)).links t.links here there in
    let l : Ends = record { leaves = i; leads = place_of (same_loc N.stuck.to) u.locs } in
    let e : map ends_of t.links ≡ map ends_of u.links ++ l ∷ map ends_of F.0 =
    ap (map ends_of) (F.1 ∙ append_assoc u.links _ F.0) ∙ map-append ends_of u.links _ in
    ap (first_unplaced cl ce 0) e
    ∙ none_unplaced cl ce u (l ∷ map ends_of F.0)
    (extend_below i N.earlier (E i) (explored_below r.stmts r.starts i)) N.fit
    ∙ stuck_unplaced cl ce i N.stuck u x (map ends_of F.0) N.fit N.why

-- a full listing that has its places
full_placed : (r : Routine) (cl ce : ℕ) (t : Listing) → IsFull r t → Placed cl ce t
    → first_unplaced cl ce 0 (map ends_of t.links) ≡ is_accepted
full_placed r cl ce t f P =
    ap (first_unplaced cl ce 0) (sym (append-nil (map ends_of t.links)))
    ∙ none_unplaced cl ce t [] (subst LinksBelow (sym f) (explored_below r.stmts r.starts (length t.locs))) P

-- The verdict with any places, told from the full listing.
pub unplaced_says : (s : List ℕ) (a b : ℕ) (r : Routine) (t : Listing) → check s ≡ good r → IsFull r t
    → (translate s a b).verdict
    ≡ unplaced (places 1024 a) (places 2048 b) (length r.starts) (map ends_of t.links)
unfolding listing
unplaced_says s a b r t e f =
    let cl = places 1024 a in
    let ce = places 2048 b in
    let m = length r.starts in
    bool_case (ltb cl m)
    (λ q. let p : listing r cl ce ≡ full (refusal 11 cl) = rw (q, listing) in
    ap (λ (o : Outcome). o.verdict) (good_translate s a b r (full (refusal 11 cl)) e p) ∙ rw q refl)
    (λ q. let le = ltb-false cl m q in
    outcome-case (listing r cl ce)
    (λ x p. ap (λ (o : Outcome). o.verdict) (good_translate s a b r (full x) e p)
    ∙ rw q (⊎_elim (λ k. let lt = k.0 in absurd (omega arith)) (λ k. sym (refused_unplaced r cl ce t x f k))
    (full_says r cl ce x p)))
    (λ v p. let W = listing_whole r cl ce v p in
    ap (λ (o : Outcome). o.verdict) (good_translate s a b r (listed v) e p)
    ∙ rw q (sym (full_placed r cl ce t f (subst (Placed cl ce) (full_one r v t W.0 f) W.1)))))

-- The listing does not depend on the number of places as long as it fits; refusals 11 and 12 are given exactly where
-- it does not fit.
use Prim.Native.Nat.{◌+◌, ◌<◌, ◌≤◌, suc, zero, ℕ}
use mathlib.Core.Path.{◌∙◌, ◌≡◌, ap, refl, subst, sym}
use mathlib.Core.Logic.{◌⊎◌, inl, inr, ⊎_elim}
use mathlib.Core.List.{List, [], ◌∷◌, map}
use native.Mathlib.Omega.{arith}
use lib.Dec.{ltb}
use lib.ListN.{length, length-map}
use borrow.Author.Tests.{le-ltb, lt-ltb, ltb-false, ltb-true}
use Rattle.model.specs.Base.{any, place_of}
use Rattle.model.specs.Edges.{Edge, Loc, at, edges_of, same_loc}
use Rattle.model.specs.Heap.{Heap}
use Rattle.model.specs.Machine.{Stmt}
use Rattle.model.specs.Records.{Refusal, refusal}
use Rattle.model.specs.Translate.{Listing, Routine, add_edges, explore, full, listed, listing}
use Rattle.model.proofs.listings.Listing.{add_found, add_listed, any_loc, edge_locs, explore_end, explore_full, explore_next, explored_end, explored_front, explored_prefix, extend_links, extend_prefix, full-listed, listing_whole, loc_place, outcome-case, placed_edge}
use Rattle.model.specs.Listings.{NoPlace, Placed, Refused, Why, add_edge, explored, extend, loc_at, no_edge, no_location}
use Rattle.model.specs.Notions.{In}
use Rattle.model.proofs.lists.Logic.{bool_case}
use Rattle.model.proofs.shapes.Same.{place_le, place_none, prefix_length}

-- edges that have places are added
pub add_fits : (cl ce i : ℕ) (es : List Edge) (t : Listing) → Placed cl ce (extend i es t) → add_edges cl ce i es t
    ≡ listed (extend i es t)
add_fits cl ce i [] t h = refl
add_fits cl ce i (e ∷ es) t h =
    let j = place_of (same_loc e.to) t.locs in
    let a : j < length (add_edge i t e).locs = rw (edge_locs i t e) (add_found t.locs e.to) in
    let b = prefix_length (add_edge i t e).locs (extend i (e ∷ es) t).locs (extend_prefix i es (add_edge i t e)) in
    let c = extend_links i (e ∷ es) t in
    rw (lt-ltb j cl (omega arith), add_edges) (rw (lt-ltb (length t.links) ce (omega arith), add_edges)
    (add_fits cl ce i es (add_edge i t e) h))

module _ (sts : List Stmt) (hs : List Heap) where
  module _ (cl ce : ℕ) where
    -- with fuel f from location i on, where there are places, the locations below i + f are explored
    explore_reach : (f i n : ℕ) → n ≡ i + f → Placed cl ce (explored sts hs n)
        → explore sts cl ce f i (explored sts hs i) ≡ listed (explored sts hs n)
    explore_reach zero i n e h = let q : i ≡ n = omega arith in ap (λ z. listed (explored sts hs z)) q
    explore_reach (suc f) i n e h =
        let t = explored sts hs i in
        bool_case (ltb i (length t.locs))
        (λ q. let lt = ltb-true i (length t.locs) q in
        let a = prefix_length (explored sts hs (suc i)).locs (explored sts hs n).locs
        (explored_prefix sts hs (suc i) n (omega arith)) in
        let b = prefix_length (explored sts hs (suc i)).links (explored sts hs n).links
        (explored_front sts hs (suc i) n (omega arith)) in
        explore_next sts cl ce f i t (explored sts hs (suc i)) lt (add_fits cl ce i (edges_of sts (loc_at t.locs i))
        t (omega arith, omega arith))
        ∙ explore_reach f (suc i) n (omega arith) h)
        (λ q. let le = ltb-false i (length t.locs) q in
        explore_end sts cl ce f i t le ∙ ap listed (sym (explored_end sts hs i n le (omega arith))))

-- An exploration that has come to its last location is the listing wherever it has places.
pub whole_listing : (r : Routine) (cl ce : ℕ) (t : Listing) → t ≡ explored r.stmts r.starts (length t.locs)
    → Placed cl ce t
    → listing r cl ce ≡ listed t
unfolding listing
whole_listing r cl ce t e h =
    let sts = r.stmts in
    let hs = r.starts in
    let n = length t.locs in
    let s = ap (λ (w : Listing). length w.locs) e in
    let g = prefix_length (map (at 0) hs) (explored sts hs n).locs (explored_prefix sts hs 0 n (omega arith)) in
    let le : length hs ≤ cl = omega (arith, length-map hs (at 0)) in
    let q : explored sts hs cl ≡ t = explored_end sts hs n cl (omega arith) h.0 ∙ sym e in
    rw (le-ltb cl (length hs) le, listing) (explore_reach sts hs cl ce cl 0 cl (omega arith)
    (subst (Placed cl ce) (sym q) h) ∙ ap listed q)

-- A listing has its places,
pub fits : (r : Routine) (cl ce : ℕ) (t : Listing) → listing r cl ce ≡ listed t → (length t.locs ≤ cl)
    × (length t.links ≤ ce)
fits r cl ce t p = (listing_whole r cl ce t p).1

-- and it is the listing for any numbers of places that it fits in.
pub any_places : (r : Routine) (cl ce : ℕ) (t : Listing) → listing r cl ce ≡ listed t → (cl' ce' : ℕ)
    → length t.locs ≤ cl' → length t.links ≤ ce'
    → listing r cl' ce' ≡ listed t
any_places r cl ce t p cl' ce' h k = whole_listing r cl' ce' t (listing_whole r cl ce t p).0 (h, k)

-- there is one listing, whatever the numbers of places
pub one_listing : (r : Routine) (cl ce cl' ce' : ℕ) (t u : Listing) → listing r cl ce ≡ listed t → listing r cl' ce'
    ≡ listed u → t ≡ u
one_listing r cl ce cl' ce' t u p q =
    let a = fits r cl ce t p in
    let b = fits r cl' ce' u q in
    let c = any_places r cl ce t p (cl + cl') (ce + ce') (omega arith) (omega arith) in
    let d = any_places r cl' ce' u q (cl + cl') (ce + ce') (omega arith) (omega arith) in
    cc

-- ---- what a refusal says

place_or_room : (cl : ℕ) (ls : List Loc) (l : Loc) → place_of (same_loc l) ls < cl → In l ls ⊎ (length ls < cl)
place_or_room cl ls l h = bool_case (any (same_loc l) ls) (λ e. inl (any_loc ls l e))
    (λ e. inr (let k = place_none (same_loc l) ls e in omega arith))

-- the first edge itself has no place
stuck_first : {cl ce i : ℕ} {e : Edge} (es : List Edge) {t : Listing} {x : Refusal} → Placed cl ce t
    → Why cl ce i e t x → NoPlace cl ce i (e ∷ es) t x
stuck_first {e = e} es h w =
    record { earlier = []; stuck = e; later = es; edges = refl; added = refl; fit = h; why = w }

-- edges that are refused: those before the first without a place have been added
pub add_full : (cl ce i : ℕ) (es : List Edge) (t : Listing) (x : Refusal) → Placed cl ce t → add_edges cl ce i es t
    ≡ full x → NoPlace cl ce i es t x
add_full cl ce i [] t x h p = full-listed (sym p)
add_full cl ce i (e ∷ es) t x h p =
    let j = place_of (same_loc e.to) t.locs in
    bool_case (ltb j cl)
    (λ a. let lt = ltb-true j cl a in
    let p1 = rw (a, add_edges) at p in
    bool_case (ltb (length t.links) ce)
    (λ b. let f = placed_edge cl ce i t e h lt (ltb-true (length t.links) ce b) in
    let r = add_full cl ce i es (add_edge i t e) x f (rw (b, add_edges) at p1) in
    record {
      earlier = e ∷ r.earlier;
      stuck = r.stuck;
      later = r.later;
      edges = ap (λ z. e ∷ z) r.edges;
      added = rw (a, add_edges) (rw (b, add_edges) r.added);
      fit = r.fit;
      why = r.why;
    })
    (λ b. let p2 = rw (b, add_edges) at p1 in
    let ge = ltb-false (length t.links) ce b in
    stuck_first es h (no_edge (cc) (place_or_room cl t.locs e.to lt) (omega arith))))
    (λ a. let p1 = rw (a, add_edges) at p in
    let ge = ltb-false j cl a in
    let le = place_le (same_loc e.to) t.locs in
    stuck_first es h
    (no_location (cc) (λ k. let lt = (loc_place t.locs e.to k).0 in omega arith) (omega arith)))

pub why_place : (cl ce i : ℕ) (e : Edge) (u : Listing) (x : Refusal) → Why cl ce i e u x → x.place ≡ i
why_place cl ce i e u x (no_location q a b) = ap (λ (y : Refusal). y.place) q
why_place cl ce i e u x (no_edge q a b) = ap (λ (y : Refusal). y.place) q

module _ (sts : List Stmt) (hs : List Heap) (cl ce : ℕ) (x : Refusal) where
  refused_here : (i : ℕ) → Placed cl ce (explored sts hs i) → i < length (explored sts hs i).locs
      → add_edges cl ce i (edges_of sts (loc_at (explored sts hs i).locs i)) (explored sts hs i) ≡ full x → x.place ≡ i
      → Refused sts hs cl ce x
  refused_here i h lt p e =
      let g = subst (λ k. Placed cl ce (explored sts hs k)) (sym e) h in
      let q = subst (λ k. add_edges cl ce k (edges_of sts (loc_at (explored sts hs k).locs k)) (explored sts hs k)
      ≡ full x) (sym e) p in
      record {
        reached = explore_reach sts hs cl ce x.place 0 x.place (omega arith) g;
        below = subst (λ k. k < length (explored sts hs k).locs) (sym e) lt;
        adding = q;
        no_place = add_full cl ce x.place (edges_of sts (loc_at (explored sts hs x.place).locs x.place))
            (explored sts hs x.place) x g q;
      }

  explore_refused : (f i : ℕ) → Placed cl ce (explored sts hs i) → explore sts cl ce f i (explored sts hs i) ≡ full x
      → Refused sts hs cl ce x
  explore_refused zero i h p = full-listed (sym p)
  explore_refused (suc f) i h p =
      let t = explored sts hs i in
      let es = edges_of sts (loc_at t.locs i) in
      bool_case (ltb i (length t.locs))
      (λ q. let lt = ltb-true i (length t.locs) q in
      outcome-case (add_edges cl ce i es t)
      (λ y a. let p1 = explore_full sts cl ce f i t y lt a in
      let e : y ≡ x = cc in
      let a1 = a ∙ ap full e in
      let n = add_full cl ce i es t x h a1 in
      refused_here i h lt a1 (why_place cl ce i n.stuck (extend i n.earlier t) x n.why))
      (λ w a. let r = add_listed cl ce i es t w h a in
      explore_refused f (suc i) (subst (Placed cl ce) r.0 r.1)
      (ap (explore sts cl ce f (suc i)) (sym r.0) ∙ sym (explore_next sts cl ce f i t w lt a) ∙ p)))
      (λ q. full-listed (sym p ∙ explore_end sts cl ce f i t (ltb-false i (length t.locs) q)))

-- A refusal by the listing: too many starting shapes, or an edge that has no place.
pub full_says : (r : Routine) (cl ce : ℕ) (x : Refusal) → listing r cl ce ≡ full x
    → ((cl < length r.starts) × (x ≡ refusal 11 cl)) ⊎ Refused r.stmts r.starts cl ce x
unfolding listing
full_says r cl ce x p =
    bool_case (ltb cl (length r.starts))
    (λ q. let p1 = rw (q, listing) at p in inl (ltb-true cl (length r.starts) q, cc))
    (λ q. let le = ltb-false cl (length r.starts) q in
    inr (explore_refused r.stmts r.starts cl ce x cl 0 (rw (length-map r.starts (at 0)) le, omega arith)
    (rw (q, listing) at p)))

-- its number is 11 or 12, and it is about no node
pub full_is : (r : Routine) (cl ce : ℕ) (x : Refusal) → listing r cl ce ≡ full x
    → (i : ℕ) × ((x ≡ refusal 11 i) ⊎ (x ≡ refusal 12 i))
full_is r cl ce x e = ⊎_elim
    (λ (p : (cl < length r.starts) × (x ≡ refusal 11 cl)). (cl, inl p.1))
    (λ (p : Refused r.stmts r.starts cl ce x). by_why p.no_place.why) (full_says r cl ce x e)
  where
    by_why : {i : ℕ} {d : Edge} {u : Listing} → Why cl ce i d u x → (j : ℕ) × ((x ≡ refusal 11 j) ⊎ (x ≡ refusal 12 j))
    by_why {i} (no_location p q l) = (i, inl p)
    by_why {i} (no_edge p q l) = (i, inr p)

pub full_number : (r : Routine) (cl ce : ℕ) (x : Refusal) → listing r cl ce ≡ full x
    → (x.number ≡ 11) ⊎ (x.number ≡ 12)
full_number r cl ce x e =
    let p = full_is r cl ce x e in
    ⊎_elim (λ (q : x ≡ refusal 11 p.0). inl (ap (λ (y : Refusal). y.number) q))
    (λ (q : x ≡ refusal 12 p.0). inr (ap (λ (y : Refusal). y.number) q)) p.1

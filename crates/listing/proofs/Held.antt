-- A listing held in the two tables after one edge more, and the two refusals: from what the code has found and written.
use Prim.Native.Nat.{ℕ, ◌+◌, ◌≤◌, ◌<◌}
use mathlib.Core.Path.{◌≡◌, refl, sym, ap, ◌∙◌, subst}
use mathlib.Core.Bool.{Bool, true, false, cond}
use mathlib.Core.List.{List, [], ◌∷◌, ◌++◌, map, map-append}
use native.Mathlib.Omega.{arith}
use lib.Dec.{ltb}
use lib.ListN.{length, length-map}
use borrow.Author.Tests.{le-ltb, lt-ltb, ltb-false}
use Rattle.model.specs.Base.{most_edges, most_locations, place_of}
use Rattle.model.specs.Edges.{Loc, Edge, same_loc, at, failed}
use Rattle.model.specs.Notions.{Distinct, SmallGuards}
use Rattle.model.specs.Records.{GuardCode, loc_record, byte}
use Rattle.model.specs.Translate.{Link, Listing, link_record, places, grown}
use Rattle.model.proofs.listings.Listing.{extend_distinct}
use Rattle.model.proofs.records.Bytes.{records_wide}
use Rattle.model.proofs.records.EdgeBack.{code_low, edge_length_lem}
use Rattle.model.specs.Listings.{WritableLoc}
use Rattle.model.proofs.records.ReadBack.{record_length}
use Rattle.record.specs.Written.{BranchFits, edge_bytes, placed}
use Rattle.record.proofs.Bytes.{edge_record_lem}
use Rattle.index.specs.Index.{IndexOf, Indexed, hash_of, index_kept}
use Rattle.index.proofs.Entered.{kept_indexed}
use Rattle.search.specs.Search.{found_at}
use Rattle.search.proofs.Found.{found_location}
use Rattle.std.specs.Prelude.{Ok, Err}
use Rattle.model.specs.declared.codes.Reason.TheVariants.{LocationsFull, EdgesFull}
use Rattle.listing.specs.Grow.{Holds, GrownTo}
use Rattle.model.specs.Structs.{IsEdge}
use Rattle.model.specs.declared.Counts.{Counts}
use Rattle.model.specs.declared.EdgeFields.{EdgeFields}
use Rattle.model.specs.declared.EdgeMade.{EdgeMade}
use Rattle.location_table.specs.Target.{count_kept, target_kept}
use Rattle.listing.specs.Fields.{fields_to}
use Rattle.listing.proofs.Kept.{Kept, kept_next}

-- the location table, and the edge table
abbrev LocsKept : ℕ → List Loc → List ℕ → ℕ → Type 0
LocsKept = Kept loc_record WritableLoc most_locations

abbrev FewUpdates : Link → Type 0
FewUpdates k = length k.edge.updates ≤ 12

abbrev LinksKept : ℕ → List Link → List ℕ → ℕ → Type 0
LinksKept = Kept link_record FewUpdates most_edges

locs_kept : (t : Listing) (ls es ix : List ℕ) (c : Counts) → Holds t ls es ix c
    → LocsKept (length ls) t.locs ls c.locations
locs_kept t ls es ix c H = record {
  same = refl;
  held = H.locs;
  number = H.loc_number;
  fits = H.locs_fit;
  good = H.good_locs;
}

links_kept : (t : Listing) (ls es ix : List ℕ) (c : Counts) → Holds t ls es ix c
    → LinksKept (length es) t.links es c.edges
links_kept t ls es ix c H = record {
  same = refl;
  held = H.edges;
  number = H.edge_number;
  fits = H.edges_fit;
  good = H.good_links;
}

-- the location table once the target is kept, where b says that it is known
target_case : (b : Bool) (ls : List Loc) (l : Loc) (tab r : List ℕ) (size nl j : ℕ) → ltb j nl ≡ b
    → LocsKept size ls tab nl → WritableLoc l → r ≡ loc_record l → j < places most_locations size
    → LocsKept size (cond b ls (ls ++ l ∷ [])) (cond b tab (placed tab nl r)) (cond b nl (nl + 1))
target_case true ls l tab r size nl j e K W p h = K
target_case false ls l tab r size nl j e K W p h =
    kept_next loc_record WritableLoc record_length most_locations size ls tab r nl l K W p
    (omega (arith, ltb-false j nl e))

holds_both : (t : Listing) (ls es ix : List ℕ) (a b : ℕ) (c : Counts) → LocsKept a t.locs ls c.locations
    → LinksKept b t.links es c.edges → Indexed (map hash_of (map loc_record t.locs)) ix
    → Distinct t.locs → Holds t ls es ix c
holds_both t ls es ix a b c K L I once =
    let p = K.same in
    let q = L.same in
    record {
      locs = rw p K.held;
      edges = rw q L.held;
      loc_number = K.number;
      edge_number = L.number;
      locs_fit = rw p K.fits;
      edges_fit = rw q L.fits;
      indexed = I;
      distinct = once;
      good_locs = K.good;
      good_links = L.good;
    }

-- the hashes of the locations' records, and those once a location is kept
abbrev hashes : List Loc → List ℕ
hashes ls = map hash_of (map loc_record ls)

hashes_more : (b : Bool) (ls : List Loc) (l : Loc)
    → cond b (hashes ls) (hashes ls ++ hash_of (loc_record l) ∷ []) ≡ hashes (cond b ls (ls ++ l ∷ []))
hashes_more true ls l = refl
hashes_more false ls l =
    sym (ap (map hash_of) (map-append loc_record ls (l ∷ []))
    ∙ map-append hash_of (map loc_record ls) (loc_record l ∷ []))

-- the index that a search of the table goes by
pub index_of_lem : (t : Listing) (ls es ix : List ℕ) (c : Counts) → Holds t ls es ix c
    → IndexOf (map loc_record t.locs) ls ix
index_of_lem t ls es ix c H = record {
  held = H.locs;
  wide = records_wide loc_record t.locs (λ l q. record_length l (H.good_locs l q));
  fits = omega (arith, H.locs_fit, length-map t.locs loc_record);
  indexed = H.indexed;
}

-- the counts of n locations after one edge more
abbrev counts_after : Counts → ℕ → Counts
counts_after c n = record { locations = n; edges = c.edges + 1 }

-- the listing t is held, the edge e of location i is given as bytes, and j is where its target was found
module _ (t : Listing) (i : ℕ) (e : Edge) (ls es ix r us : List ℕ) (m : EdgeMade) (c : Counts)
    (H : Holds t ls es ix c)
    (W : WritableLoc e.to) (B : IsEdge e r us m) (j : ℕ) (found : j ≡ found_at ls r c.locations) where
  number_is : j ≡ place_of (same_loc e.to) t.locs
  number_is =
      found ∙ ap (found_at ls r) H.loc_number
      ∙ found_location t.locs e.to (length ls) ls r H.distinct H.good_locs W H.locs B.target

  -- a target that is new is added once
  still_distinct : Distinct (grown i j e t).locs
  still_distinct =
      subst (λ k. Distinct (grown i k e t).locs) (sym number_is) (extend_distinct i (e ∷ []) t H.distinct)

  -- no place for a new location
  pub full_locations : places most_locations (length ls) ≤ j → GrownTo t i e ls es ix c (Err LocationsFull)
  full_locations h = rw (← number_is) (le-ltb j (places most_locations (length ls)) h)

  -- no place for the edge
  pub full_edges : j < places most_locations (length ls) → places most_edges (length es) ≤ c.edges
      → GrownTo t i e ls es ix c (Err EdgesFull)
  full_edges h k =
      let n = H.edge_number in
      rw (← number_is) (
        lt-ltb j (places most_locations (length ls)) h,
        le-ltb (length t.links) (places most_edges (length es)) (omega arith),
      )

  links_next : c.edges < places most_edges (length es)
      → LinksKept (length es) (grown i j e t).links
      (placed es c.edges (edge_bytes (fields_to m i j) us)) (c.edges + 1)
  links_next k =
      let few : length e.updates ≤ 12 = omega (arith, B.number, B.few) in
      let link : Link = record { from = i; dest = j; edge = e } in
      let bytes : edge_bytes (fields_to m i j) us ≡ link_record link =
      edge_record_lem (fields_to m i j) us e B.branch B.guards B.updates in
      kept_next link_record FewUpdates (λ l h. edge_length_lem l.from l.dest l.edge h) most_edges (length es)
      t.links es (edge_bytes (fields_to m i j) us) c.edges link (links_kept t ls es ix c H) few bytes k

  locs_next : j < places most_locations (length ls)
      → LocsKept (length ls) (grown i j e t).locs (target_kept ls c.locations j r) (count_kept c.locations j)
  locs_next h =
      let nl = c.locations in
      let K =
      target_case (ltb j nl) t.locs e.to ls r (length ls) nl j refl (locs_kept t ls es ix c H) W B.target h in
      let locs : ℕ → List Loc = λ n. cond (ltb j n) t.locs (t.locs ++ e.to ∷ []) in
      subst (λ n. LocsKept (length ls) (locs n) (target_kept ls nl j r) (count_kept nl j)) H.loc_number K

  -- the index once the target is kept
  index_next : j < places most_locations (length ls) → (ix' : List ℕ) (g : ℕ) → g ≡ hash_of r
      → ix' ≡ index_kept ix c.locations j g → Indexed (map hash_of (map loc_record (grown i j e t).locs)) ix'
  index_next h ix' g z w =
      let nl = c.locations in
      let l = loc_record e.to in
      let count : nl ≡ length (hashes t.locs) =
      H.loc_number ∙ sym (length-map (map loc_record t.locs) hash_of ∙ length-map t.locs loc_record) in
      let same : g ≡ hash_of l = z ∙ ap hash_of B.target in
      let X : Indexed (cond (ltb j nl) (hashes t.locs) (hashes t.locs ++ g ∷ [])) (index_kept ix nl j g) =
      kept_indexed (hashes t.locs) ix H.indexed nl j g count (omega arith) (omega (arith, same)) in
      let a : cond (ltb j nl) (hashes t.locs) (hashes t.locs ++ g ∷ []) ≡ hashes (grown i j e t).locs =
      (λ k. cond (ltb j (H.loc_number k)) (hashes t.locs) (hashes t.locs ++ same k ∷ []))
      ∙ hashes_more (ltb j (length t.locs)) t.locs e.to in
      subst (Indexed (hashes (grown i j e t).locs)) (sym w) (subst (λ y. Indexed y (index_kept ix nl j g)) a X)

  -- one edge more: the target has its place, and the edge's record stands behind the others
  pub one_more : j < places most_locations (length ls) → c.edges < places most_edges (length es)
      → (ls' es' ix' : List ℕ) (n : ℕ) → n ≡ count_kept c.locations j → ls' ≡ target_kept ls c.locations j r
      → (f : EdgeFields) → f ≡ fields_to m i j → es' ≡ placed es c.edges (edge_bytes f us)
      → (h' : ℕ) → h' ≡ hash_of r → ix' ≡ index_kept ix c.locations j h'
      → GrownTo t i e ls' es' ix' (counts_after c n) (Ok tt)
  one_more h k ls' es' ix' n p q f x y g z w =
      let s : es' ≡ placed es c.edges (edge_bytes (fields_to m i j) us) =
      y ∙ ap (λ g. placed es c.edges (edge_bytes g us)) x in
      let K = locs_next h in
      let L = links_next k in
      let num = H.edge_number in
      let sl : length ls' ≡ length ls = ap length q ∙ K.same in
      let se : length es' ≡ length es = ap length s ∙ L.same in
      let X : Holds (grown i j e t) ls' es' ix' (counts_after c n) =
      rw (p, q, s) (holds_both (grown i j e t) (target_kept ls c.locations j r)
      (placed es c.edges (edge_bytes (fields_to m i j) us)) ix' (length ls) (length es)
      (counts_after c (count_kept c.locations j)) K L (index_next h ix' g z w) still_distinct) in
      let a : ltb j (places most_locations (length ls')) ≡ true =
      rw sl (lt-ltb j (places most_locations (length ls)) h) in
      let b : ltb (length t.links) (places most_edges (length es')) ≡ true =
      rw (se, ← num) (lt-ltb c.edges (places most_edges (length es)) k) in
      rw (← number_is) (a, b, X)

-- the record of an edge's target is that of a location
location_tag : (l : Loc) → byte (loc_record l) 0 ≡ 0x4c
location_tag (at s h) = refl
location_tag (failed s f) = refl

pub target_tag : {e : Edge} {r us : List ℕ} {m : EdgeMade} → IsEdge e r us m → byte r 0 ≡ 0x4c
target_tag {e} B = ap (λ x. byte x 0) B.target ∙ location_tag e.to

-- branch and second guard fit byte 1
pub branch_fits : {e : Edge} {r us : List ℕ} {m : EdgeMade} → IsEdge e r us m → e.branch_no ≤ 1
    → SmallGuards 12 e.guards → BranchFits m.branch m.guards.second
branch_fits {e} B b G =
    let l = code_low e.guards (λ g i. omega (arith, G.known g i)) 1 in
    let s = B.guards.1 in (
      omega (arith, B.branch),
      omega (arith, l.0, ap (λ (x : GuardCode). x.test) s),
      omega (arith, l.1, ap (λ (x : GuardCode). x.node) s),
    )

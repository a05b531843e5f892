-- The exploration location by location: what is left to do is the whole, and at the end nothing is left.
use Prim.Native.Nat.{ℕ, zero, suc, ◌+◌, ◌-◌, ◌≤◌, ◌<◌}
use mathlib.Core.Path.{◌≡◌, refl, ap, subst, sym, ◌∙◌}
use mathlib.Core.List.{List}
use native.Mathlib.Omega.{arith}
use native.Mathlib.Numerals.{add-one}
use lib.ListN.{length}
use Rattle.model.specs.Base.{most_edges, most_locations}
use Rattle.model.specs.Machine.{Stmt}
use Rattle.model.specs.Edges.{Edge, edges_of}
use Rattle.std.specs.Prelude.{Result, Ok, Err}
use Rattle.model.specs.Answers.{refusal_in}
use Rattle.model.specs.Codes.{refusal_for}
use Rattle.model.specs.declared.codes.Reason.{Reason}
use Rattle.model.specs.declared.codes.Refusal.{Refusal}
use Rattle.model.specs.Translate.{Explored, Listing, add_edges, explore, full, listed, places}
use Rattle.model.proofs.listings.Listing.{add_listed, explore_end, explore_full, explore_next, extend_prefix}
use Rattle.model.specs.Listings.{Placed, extend, loc_at}
use Rattle.model.proofs.shapes.Same.{prefix_length}
use Rattle.model.specs.declared.Counts.{Counts}
use Rattle.listing.specs.Grow.{Holds}
use Rattle.explore.specs.Explore.{AllExplored, ExploreReady, LocationExplored, StatementsOk, explored_in}
use Rattle.location_edges.specs.Added.{AddedTo, LocsOk}

-- The listing, of no fewer locations than m, stands in the tables ls and es, with its index; exploring it from
-- location i on gives o.
pub record Left (m n cl ce : ℕ) (sts : List Stmt) (o : Explored) (ls es ix : List ℕ) (c : Counts) (i : ℕ)
    : Type 0 where
  pub list : Listing
  pub held : Holds list ls es ix c
  pub fine : LocsOk n list
  pub grew : m ≤ c.locations
  pub rest : o ≡ explore sts cl ce (cl - i) i list

-- the outcome where an edge has no place, and where all have one
added_case : (n i : ℕ) (o : Explored) (ls es ix : List ℕ) (c : Counts) → AddedTo n i o ls es ix c (Ok tt)
    → (u : Listing) × (o ≡ listed u) × Holds u ls es ix c × LocsOk n u
added_case n i (listed u) ls es ix c A = (u, refl, A.0, A.1)
added_case n i (full x) ls es ix c A = absurd A

full_case : (n i : ℕ) (o : Explored) (ls es ix : List ℕ) (c : Counts) (r : Reason) → AddedTo n i o ls es ix c (Err r)
    → o ≡ full (refusal_in (refusal_for r i))
full_case n i (listed u) ls es ix c r A = absurd A
full_case n i (full x) ls es ix c r A = ap full A

-- what is answered of location i, with its place
abbrev pub placed_at : ℕ → Result (Unit {0}) Reason → Result (Unit {0}) Refusal
placed_at i (Ok u) = Ok u
placed_at i (Err r) = Err (refusal_for r i)

-- edges that are added leave the locations that were there
more_locations : (i : ℕ) (es : List Edge) (t u : Listing) → u ≡ extend i es t → length t.locs ≤ length u.locs
more_locations i es t u e = rw e (prefix_length t.locs (extend i es t).locs (extend_prefix i es t))

explore_done : (sts : List Stmt) (cl ce f i : ℕ) (t : Listing) → length t.locs ≤ i
    → explore sts cl ce f i t ≡ listed t
explore_done sts cl ce zero i t h = refl
explore_done sts cl ce (suc f) i t h = explore_end sts cl ce f i t h

-- there are at most 1,024 locations
pub most_locations_lem : (s : List ℕ) (n : ℕ) (ls es ix : List ℕ) (c : Counts) → ExploreReady s n ls es ix c
    → c.locations ≤ most_locations
most_locations_lem s n ls es ix c R = let H = R.held in omega (arith, H.loc_number, H.locs_fit)

module _ (s : List ℕ) (n : ℕ) (ls es ix : List ℕ) (c : Counts) where
  abbrev cl : ℕ
  cl = places most_locations (length ls)

  abbrev ce : ℕ
  ce = places most_edges (length es)

  -- whichever the statements and whichever listing was held at first, in ls and es
  abbrev pub Explores : List ℕ → List ℕ → List ℕ → Counts → ℕ → Type 0
  Explores ls' es' ix' c' i =
      (sts : List Stmt) (t : Listing) → StatementsOk s n sts → Holds t ls es ix c → LocsOk n t
      → Left c.locations n cl ce sts (explored_in ls es sts t) ls' es' ix' c' i

  pub explores_start : Explores ls es ix c 0
  explores_start sts t K H O =
      let e : cl ≡ cl - 0 = omega arith in
      record { list = t; held = H; fine = O; grew = omega arith; rest = ap (λ f. explore sts cl ce f 0 t) e }

  module _ (ls' es' ix' : List ℕ) (c' : Counts) (i : ℕ) (X : Explores ls' es' ix' c' i) where
    -- what is given to the next turn
    pub next_ready : ExploreReady s n ls es ix c → ExploreReady s n ls' es' ix' c'
    next_ready R =
        let L = X R.statements R.list R.readable R.held R.fine in
        record { statements = R.statements; readable = R.readable; list = L.list; held = L.held; fine = L.fine }

    -- no location is lost on the way
    pub grown_since : ExploreReady s n ls es ix c → c.locations ≤ c'.locations
    grown_since R = (X R.statements R.list R.readable R.held R.fine).grew

    module _ (p : length ls' ≡ length ls) (q : length es' ≡ length es) where
      fits : (t : Listing) → Holds t ls' es' ix' c' → Placed cl ce t
      fits t H = (rw p at H.locs_fit, rw q at H.edges_fit)

      fuel : (t : Listing) → Holds t ls' es' ix' c' → i < c'.locations → cl - i ≡ suc (cl - (i + 1))
      fuel t H lt = let few = (fits t H).0 in let num = H.loc_number in omega arith

      -- no location is left
      pub explores_end : c'.locations ≤ i → AllExplored s n ls es ix c ls' es' ix' (Ok c')
      explores_end h sts t K H O =
          let L = X sts t K H O in
          let num = L.held.loc_number in
          let o : explored_in ls es sts t ≡ listed L.list =
          L.rest ∙ explore_done sts cl ce (cl - i) i L.list (omega arith) in
          rw o (L.held, L.fine)

      module _ (lt : i < c'.locations) (ls'' es'' ix'' : List ℕ) (a : Counts) where
        -- the next location
        pub explores_next : LocationExplored s n ls' es' ix' c' i ls'' es'' ix'' a (Ok tt)
            → Explores ls'' es'' ix'' a (i + 1)
        explores_next T sts t K H O =
            let L = X sts t K H O in
            let u = L.list in
            let edges = edges_of sts (loc_at u.locs i) in
            let A : AddedTo n i (add_edges cl ce i edges u) ls'' es'' ix'' a (Ok tt) =
            rw (p, q) at (T sts u K L.held L.fine) in
            let y = added_case n i (add_edges cl ce i edges u) ls'' es'' ix'' a A in
            let num = L.held.loc_number in
            let longer = (add_listed cl ce i edges u y.0 (fits u L.held) y.1).0 in
            let more = more_locations i edges u y.0 longer in
            record {
              list = y.0;
              held = y.2;
              fine = y.3;
              grew = omega (arith, L.grew, y.2.loc_number);
              rest = L.rest ∙ ap (λ f. explore sts cl ce f i u) (fuel u L.held lt)
                  ∙ explore_next sts cl ce (cl - (i + 1)) i u y.0 (omega arith) y.1
                  ∙ ap (λ j. explore sts cl ce (cl - (i + 1)) j y.0) (sym (add-one i));
            }

        -- no place for an edge of this location
        pub explores_full : (r : Reason) → LocationExplored s n ls' es' ix' c' i ls'' es'' ix'' a (Err r)
            → AllExplored s n ls es ix c ls'' es'' ix'' (Err (refusal_for r i))
        explores_full r T sts t K H O =
            let L = X sts t K H O in
            let u = L.list in
            let edges = edges_of sts (loc_at u.locs i) in
            let A : AddedTo n i (add_edges cl ce i edges u) ls'' es'' ix'' a (Err r) =
            rw (p, q) at (T sts u K L.held L.fine) in
            let y = full_case n i (add_edges cl ce i edges u) ls'' es'' ix'' a r A in
            let num = L.held.loc_number in
            let x = refusal_in (refusal_for r i) in
            let o : explored_in ls es sts t ≡ full x =
            L.rest ∙ ap (λ f. explore sts cl ce f i u) (fuel u L.held lt)
            ∙ explore_full sts cl ce (cl - (i + 1)) i u x (omega arith) y in
            rw o refl

        -- the same by what is answered, where a reason gets the location's number as its place
        pub goes_on : (x : Result (Unit {0}) Reason) (u : Unit {0})
            → LocationExplored s n ls' es' ix' c' i ls'' es'' ix'' a x
            → placed_at i x ≡ Ok u → Explores ls'' es'' ix'' a (i + 1)
        goes_on (Ok v) u T e = explores_next T
        goes_on (Err r) u T e = absurd (cc)

        pub goes_no_further : (x : Result (Unit {0}) Reason) (y : Refusal)
            → LocationExplored s n ls' es' ix' c' i ls'' es'' ix'' a x → placed_at i x ≡ Err y
            → AllExplored s n ls es ix c ls'' es'' ix'' (Err y)
        goes_no_further (Ok v) y T e = absurd (cc)
        goes_no_further (Err r) y T e = let q : refusal_for r i ≡ y = cc in
            subst (λ z. AllExplored s n ls es ix c ls'' es'' ix'' (Err z)) q (explores_full r T)

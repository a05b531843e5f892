-- The outcome of a translation, from the check of its input and the exploration of its listing.
use Prim.Native.Nat.{ℕ, ◌-◌, ◌*◌, ◌<◌, ◌≤◌}
use native.Mathlib.Omega.{arith}
use mathlib.Core.Path.{◌≡◌, refl, sym, ap, subst, ◌∙◌}
use mathlib.Core.List.{List, [], map}
use lib.ListN.{length, replicate}
use borrow.Author.Tests.{lt-ltb, le-ltb}
use Rattle.std.specs.Prelude.{Result, Ok, Err}
use Rattle.model.specs.Base.{most_edges, most_locations}
use Rattle.model.specs.Answers.{outcome_of, refusal_in}
use Rattle.model.specs.Codes.{refusal_for}
use Rattle.model.specs.Edges.{at}
use Rattle.model.specs.Runs.{Demand3, IsRoutineOf}
use Rattle.model.specs.Records.{Refusal, is_accepted, refusal}
use Rattle.model.specs.Translate.{Explored, Listing, Routine, bad, check, explore, full, good, listed, listed_with, listing, places, refused_with, translate}
use Rattle.model.proofs.runs.Demand.{demand_three}
use Rattle.model.specs.declared.Counts.{Counts}
use Rattle.model.specs.declared.codes.Reason.TheVariants.{LocationsFull}
use Rattle.model.specs.declared.codes.Refusal as declared
use Rattle.listing.specs.Grow.{Holds}
use Rattle.explore.specs.Explore.{ExploredTo}

-- a refusal with cleared tables
refused_blank : (a b : ℕ) (y : declared.Refusal) (ls es : List ℕ) → ls ≡ replicate a 0 → es ≡ replicate b 0
    → outcome_of (Err y) ls es ≡ refused_with a b (refusal_in y)
refused_blank a b y ls es d e =
    let v : a - 32 * 0 ≡ a = omega arith in
    let w : b - 32 * 0 ≡ b = omega arith in
    rw (d, e, v, w)

-- a listing held in the tables
listed_held : (t : Listing) (ls es ix : List ℕ) (c : Counts) (a b : ℕ) → length ls ≡ a → length es ≡ b
    → Holds t ls es ix c
    → outcome_of (Ok c) ls es ≡ listed_with a b t
listed_held t ls es ix c a b p q H =
    (λ k. outcome_of (Ok (record { locations = H.loc_number k; edges = H.edge_number k })) (H.locs k) (H.edges k))
    ∙ (λ k. listed_with (p k) (q k) t)

-- the listing of a routine's starting shapes, and what comes of it in tables of a and b bytes
abbrev pub start_listing : Routine → Listing
start_listing r = record { locs = map (at 0) r.starts; links = [] }

abbrev explored_from : Routine → ℕ → ℕ → Explored
explored_from r a b =
    explore r.stmts (places most_locations a) (places most_edges b) (places most_locations a) 0 (start_listing r)

module _ (s : List ℕ) (a b : ℕ) where
  -- the input is refused
  pub outcome_bad : (y : declared.Refusal) (ls es : List ℕ) → bad (refusal_in y) ≡ check s
      → ls ≡ replicate a 0 → es ≡ replicate b 0 → outcome_of (Err y) ls es ≡ translate s a b
  unfolding translate
  outcome_bad y ls es c d e = refused_blank a b y ls es d e ∙ rw (← c, translate)

  module _ (r : Routine) (c : check s ≡ good r) where
    abbrev cl : ℕ
    cl = places most_locations a

    abbrev ce : ℕ
    ce = places most_edges b

    translate_full_lem : (x : Refusal) → listing r cl ce ≡ full x → refused_with a b x ≡ translate s a b
    unfolding translate
    translate_full_lem x e = rw (c, translate) (rw (e, translate))

    translate_listed : (t : Listing) → listing r cl ce ≡ listed t → listed_with a b t ≡ translate s a b
    unfolding translate
    translate_listed t e = rw (c, translate) (rw (e, translate))

    listing_few : cl < length r.starts → listing r cl ce ≡ full (refusal 11 cl)
    unfolding listing
    listing_few h = rw (lt-ltb cl (length r.starts) h, listing)

    listing_starts : length r.starts ≤ cl → listing r cl ce ≡ explored_from r a b
    unfolding listing
    listing_starts h = rw (le-ltb cl (length r.starts) h, listing)

    -- no place for a starting shape
    pub outcome_few : (ls es : List ℕ) → places most_locations a < length r.starts → ls ≡ replicate a 0
        → es ≡ replicate b 0
        → outcome_of (Err (refusal_for LocationsFull (places most_locations a))) ls es ≡ translate s a b
    outcome_few ls es h d e = refused_blank a b (refusal_for LocationsFull cl) ls es d e
        ∙ translate_full_lem (refusal 11 cl) (listing_few h)

    -- the exploration ends, or finds no place
    module _ (n : ℕ) (ls es ix : List ℕ) (room : length r.starts ≤ places most_locations a) where
      pub outcome_listed : (k : Counts) → length ls ≡ a → length es ≡ b
          → ExploredTo n (explored_from r a b) ls es ix (Ok k)
          → outcome_of (Ok k) ls es ≡ translate s a b
      outcome_listed k p q X = by_end (explored_from r a b) refl X
        where
          by_end : (o : Explored) → explored_from r a b ≡ o → ExploredTo n o ls es ix (Ok k)
              → outcome_of (Ok k) ls es ≡ translate s a b
          by_end (listed t) e Y = listed_held t ls es ix k a b p q Y.0
              ∙ translate_listed t (listing_starts room ∙ e)
          by_end (full x) e Y = absurd Y

      pub outcome_full : (y : declared.Refusal) (ls' es' : List ℕ) → ls' ≡ replicate a 0 → es' ≡ replicate b 0
          → ExploredTo n (explored_from r a b) ls es ix (Err y)
          → outcome_of (Err y) ls' es' ≡ translate s a b
      outcome_full y ls' es' d d' X = by_end (explored_from r a b) refl X
        where
          by_end : (o : Explored) → explored_from r a b ≡ o → ExploredTo n o ls es ix (Err y)
              → outcome_of (Err y) ls' es' ≡ translate s a b
          by_end (listed t) e Y = absurd Y
          by_end (full x) e Y =
              refused_blank a b y ls' es' d d'
              ∙ translate_full_lem (refusal_in y) (listing_starts room ∙ e ∙ ap full Y)

-- the automaton of an outcome is the routine
pub outcome_automaton : (s : List ℕ) (a b : ℕ) (o : Result Counts declared.Refusal) (ls es : List ℕ)
    → outcome_of o ls es ≡ translate s a b → (outcome_of o ls es).verdict ≡ is_accepted
    → IsRoutineOf s (outcome_of o ls es).tables
unfolding Demand3
outcome_automaton s a b o ls es e z =
    subst (λ x. IsRoutineOf s x.tables) (sym e) (demand_three s a b (sym (ap (λ x. x.verdict) e) ∙ z))

-- The listing of a checked input: from the starting shapes entered and what the exploration left to the outcome.
use Prim.Native.Nat.{ℕ, ◌≤◌}
use native.Mathlib.Omega.{arith}
use mathlib.Core.Path.{◌≡◌, refl, ap, sym, ◌∙◌}
use mathlib.Core.Bool.{true, false}
use mathlib.Core.List.{List, map}
use lib.ListN.{length, replicate}
use Rattle.model.specs.Base.{most_locations}
use Rattle.model.specs.Answers.{outcome_of}
use Rattle.model.specs.Records.{loc_record}
use Rattle.model.specs.Translate.{places, table_of, translate}
use Rattle.model.specs.declared.Counts.{Counts}
use Rattle.model.specs.declared.codes.Refusal.{Refusal}
use Rattle.std.specs.Prelude.{Result, Ok, Err}
use Rattle.std.specs.Result.{is_err}
use Rattle.input.specs.Input.{routine_in}
use Rattle.input.proofs.Facts.{starts_length}
use Rattle.index.specs.Index.{EnterAllReady, EntersAll, index_size}
use Rattle.explore.specs.Explore.{AllExplored, ExploredTo, ExploreReady, explored_in}
use Rattle.starts.specs.Starts.{start_locs}
use Rattle.automaton.specs.Ready.{ListReady}
use Rattle.automaton.proofs.Ready.{explore_ready, start_counts, starts_fine, starts_held, statements_ok}
use Rattle.automaton.proofs.Outcomes.{outcome_full, outcome_listed, start_listing}

-- ls is the location table as it was lent, and ks the same with the starting shapes entered
module _ (s : List ℕ) (n m : ℕ) (ls es ks : List ℕ) (R : ListReady s n m ls es)
    (entered : ks ≡ table_of (length ls) (map loc_record (start_locs n s))) (same : length ks ≡ length ls) where
  held_in : ks ≡ table_of (length ks) (map loc_record (start_locs n s))
  held_in = entered ∙ ap (λ k. table_of k (map loc_record (start_locs n s))) (sym same)

  room : m ≤ places most_locations (length ks)
  room = rw same R.starts.room

  few : length (routine_in n s).starts ≤ places most_locations (length ks)
  few = rw (starts_length s n m R.starts.accepted.whole) room

  -- the starting shapes can be entered into an index of zeros
  pub index_ready : (ix : List ℕ) → ix ≡ replicate index_size 0 → EnterAllReady ks m ix
  index_ready ix z = let h = room in record { blank = z; few = omega arith; fits = omega arith }

  -- ix is the index of the starting shapes
  module _ (ix : List ℕ) (indexed : EntersAll ks m ix) where
    pub ready_to_explore : ExploreReady s n ks es ix (start_counts m)
    ready_to_explore =
        explore_ready s n m R.starts.is_good R.starts.accepted ks es ix held_in R.blank room indexed

    module _ (ls' es' ix' : List ℕ) (o : Result Counts Refusal)
        (X : AllExplored s n ks es ix (start_counts m) ls' es' ix' o)
        (p : length ls' ≡ length ks) (q : length es' ≡ length es) where
      explored_to : ExploredTo n (explored_in ks es (routine_in n s).stmts (start_listing (routine_in n s))) ls' es'
          ix' o
      explored_to =
          let g = R.starts.is_good in
          let A = R.starts.accepted in
          X (routine_in n s).stmts (start_listing (routine_in n s)) (statements_ok s n m g A)
          (starts_held s n m g A ks es ix held_in R.blank room indexed) (starts_fine s n m g A)

      -- all is listed
      pub all_listed : (k : Counts) → o ≡ Ok k → outcome_of (Ok k) ls' es' ≡ translate s (length ls) (length es)
      all_listed k e =
          outcome_listed s (length ks) (length es) (routine_in n s) R.starts.is_good n ls' es' ix' few k p q
          (rw e at explored_to)
          ∙ ap (λ x. translate s x (length es)) same

      -- no place: both tables are cleared
      pub none_left : (ls'' es'' : List ℕ) (y : Refusal) → o ≡ Err y → ls'' ≡ replicate (length ls') 0
          → es'' ≡ replicate (length es') 0 → outcome_of (Err y) ls'' es'' ≡ translate s (length ls) (length es)
      none_left ls'' es'' y e d d' =
          outcome_full s (length ks) (length es) (routine_in n s) R.starts.is_good n ls' es' ix' few y ls'' es''
          (rw p at d) (rw q at d') (rw e at explored_to)
          ∙ ap (λ y. translate s y (length es)) same

      -- what is answered, whatever was refused being cleared
      pub answered_ok : (ls'' es'' : List ℕ) → is_err o ≡ false → ls'' ≡ ls' → es'' ≡ es'
          → outcome_of o ls'' es'' ≡ translate s (length ls) (length es)
      answered_ok ls'' es'' f d d' = by_answer o refl
        where
          by_answer : (x : Result Counts Refusal) → o ≡ x → outcome_of x ls'' es'' ≡ translate s (length ls) (length es)
          by_answer (Ok k) e = rw (d, d') (all_listed k e)
          by_answer (Err y) e = absurd (cc)

      pub answered_err : (ls'' es'' : List ℕ) → is_err o ≡ true → ls'' ≡ replicate (length ls') 0
          → es'' ≡ replicate (length es') 0 → outcome_of o ls'' es'' ≡ translate s (length ls) (length es)
      answered_err ls'' es'' f d d' = by_answer o refl
        where
          by_answer : (x : Result Counts Refusal) → o ≡ x → outcome_of x ls'' es'' ≡ translate s (length ls) (length es)
          by_answer (Ok k) e = absurd (cc)
          by_answer (Err y) e = none_left ls'' es'' y e d d'

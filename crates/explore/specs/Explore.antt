-- Exploring the locations of a listing held in the tables: what it asks and what it leaves. Assumes nothing.
use Rattle.std.specs.Prelude.{ℕ, ◌≤◌, ◌<◌, ◌*◌, true, ◌≡◌, List, length, Result, Ok, Err}
use Rattle.model.specs.Base.{most_edges, most_locations, most_statements, record_size}
use Rattle.model.specs.Edges.{edges_of, stmt_at}
use Rattle.model.specs.Machine.{Stmt}
use Rattle.model.specs.Records.{is_s, record_at, refusal_s, stmt_of}
use Rattle.model.specs.Translate.{Explored, Listing, explore, full, listed, places}
use Rattle.model.specs.Listings.{loc_at}
use Rattle.model.specs.Answers.{refusal_in}
use Rattle.model.specs.declared.Counts.{Counts}
use Rattle.model.specs.declared.codes.Reason.{Reason}
use Rattle.model.specs.declared.codes.Refusal.{Refusal}
use Rattle.listing.specs.Grow.{Holds}
use Rattle.location_edges.specs.Added.{LocsOk, AddedTo, added_in}

-- an accepted S record among n statements
pub record StatementOk (r : List ℕ) (n : ℕ) : Type 0 where
  pub wide : length r ≡ record_size
  pub is_statement : is_s r ≡ true
  pub accepted : refusal_s n r ≡ 0
  pub few : n ≤ most_statements

-- the first n records of the input are the statements sts
pub record StatementsOk (s : List ℕ) (n : ℕ) (sts : List Stmt) : Type 0 where
  pub number : length sts ≡ n
  pub room : record_size * n ≤ length s
  pub each : (i : ℕ) → i < n → StatementOk (record_at s i) n
  pub read : (i : ℕ) → i < n → stmt_at sts i ≡ stmt_of (record_at s i)

-- the tables hold what an exploration gives; or it found no place
abbrev pub ExploredTo : ℕ → Explored → List ℕ → List ℕ → List ℕ → Result Counts Refusal → Type 0
ExploredTo n (listed t) ls es ix (Ok c) = Holds t ls es ix c × LocsOk n t
ExploredTo n (listed t) ls es ix (Err y) = ⊥
ExploredTo n (full x) ls es ix (Ok c) = ⊥
ExploredTo n (full x) ls es ix (Err y) = x ≡ refusal_in y

-- some statements and some listing are given
pub record ExploreReady (s : List ℕ) (n : ℕ) (ls es ix : List ℕ) (c : Counts) : Type 0 where
  pub statements : List Stmt
  pub readable : StatementsOk s n statements
  pub list : Listing
  pub held : Holds list ls es ix c
  pub fine : LocsOk n list

-- the listing t explored, with the places of the tables ls and es
abbrev pub explored_in : List ℕ → List ℕ → List Stmt → Listing → Explored
explored_in ls es sts t =
    explore sts (places most_locations (length ls)) (places most_edges (length es))
    (places most_locations (length ls)) 0 t

-- whichever the statements and whichever listing was held, the edges of location i are added
abbrev pub LocationExplored : List ℕ → ℕ → List ℕ → List ℕ → List ℕ → Counts → ℕ → List ℕ → List ℕ → List ℕ → Counts
    → Result (Unit {0}) Reason → Type 0
LocationExplored s n ls es ix c i ls' es' ix' c' x =
    (sts : List Stmt) (t : Listing) → StatementsOk s n sts → Holds t ls es ix c → LocsOk n t
    → AddedTo n i (added_in ls es i (edges_of sts (loc_at t.locs i)) t) ls' es' ix' c' x

-- the same for all locations
abbrev pub AllExplored : List ℕ → ℕ → List ℕ → List ℕ → List ℕ → Counts → List ℕ → List ℕ → List ℕ
    → Result Counts Refusal → Type 0
AllExplored s n ls es ix c ls' es' ix' x =
    (sts : List Stmt) (t : Listing) → StatementsOk s n sts → Holds t ls es ix c → LocsOk n t
    → ExploredTo n (explored_in ls es sts t) ls' es' ix' x

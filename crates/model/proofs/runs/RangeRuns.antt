-- Ranges and runs of the routine: where some start follows a path there is a heap from which the routine runs along
-- it, and where none does the routine runs along it from no heap that the location describes.
use Prim.Native.Nat.{suc, zero, ℕ}
use mathlib.Core.Path.{◌∙◌, ◌≡◌, ap, refl, sym}
use mathlib.Core.Option.{Option, none, some}
use mathlib.Core.List.{List, [], ◌∷◌}
use native.Mathlib.Omega.{arith}
use lib.ListN.{length, take}
use Rattle.model.specs.Heap.{Heap}
use Rattle.model.specs.Machine.{Stmt}
use Rattle.model.specs.Notions.{Positive}
use Rattle.model.specs.Ranges.{Box, Reaches, RunsAlong, RunsNowhere, Within, ends_at, followed, follows, ranging, start_box, state_at}
use Rattle.model.specs.Records.{byte, is_accepted, record_at, shape_of}
use Rattle.model.specs.Runs.{Advance, Config, Describes, Forced, Matching, State, final, move_of, nodes_at, trace}
use Rattle.model.specs.Translate.{Routine, Tables, check, good, translate}
use Rattle.model.proofs.lists.Lists.{get_or_default, some_inj, some-none}
use Rattle.model.proofs.runs.Anywhere.{from_location}
use Rattle.model.proofs.runs.Boxes.{Full}
use Rattle.model.proofs.runs.Follows.{followed_none, followed_some}
use Rattle.model.proofs.runs.Ranged.{asked_start, ranging_told, start_full, start_length}

-- a path that is followed: each edge is taken, and they lead there
followed_trace : (t : Tables) (ns : List ℕ) (a c : Config) → followed t a ns ≡ some c
    → (length (trace (move_of t) a ns) ≡ length ns) × (final a (trace (move_of t) a ns) ≡ c)
followed_trace t [] a c e = (refl, some_inj e)
followed_trace t (n ∷ ns) a c e = by_move (move_of t a n) refl (λ b f. followed_trace t ns b c f)
  where
    by_move : (o : Option (Advance Config)) → move_of t a n ≡ o
        → ((b : Config) → followed t b ns ≡ some c
        → (length (trace (move_of t) b ns) ≡ length ns) × (final b (trace (move_of t) b ns) ≡ c))
        → (length (trace (move_of t) a (n ∷ ns)) ≡ length (n ∷ ns)) × (final a (trace (move_of t) a (n ∷ ns)) ≡ c)
    by_move none m rec = some-none (sym (followed_none t a n ns m) ∙ e)
    by_move (some y) m rec =
        let r = rec y.after (sym (followed_some t a n ns y m) ∙ e) in
        rw (m, trace) (ap suc r.0, r.1)

-- edges that are all taken are followed, and so are the first of them
forced_followed : (t : Tables) (k : ℕ) (ns : List ℕ) (a : Config) → Forced t a ns
    → (c : Config) × (followed t a (take k ns) ≡ some c)
forced_followed t zero ns a F = (a, refl)
forced_followed t (suc k) [] a F = (a, refl)
forced_followed t (suc k) (n ∷ ns) a F =
    let r = forced_followed t k ns F.0.after F.3 in
    (r.0, followed_some t a n (take k ns) F.0 F.1 ∙ r.1)

-- from where whole lists are matched
pub runs_along : (sts : List Stmt) (t : Tables) (q : State) (a : Config) → Matching sts t q a
    → (ns : List ℕ) (c : Config) → followed t a ns ≡ some c → RunsAlong sts t q a ns c
runs_along sts t q a M ns c e = let f = followed_trace t ns a c e in
    record { taken = f.0; leads = f.1; supply = M.supply ns; matches = M.to_routine ns }

pub runs_nowhere : (sts : List Stmt) (t : Tables) (q : State) (a : Config) → Matching sts t q a → (ns : List ℕ) (p : ℕ)
    → followed t a (take (suc p) ns) ≡ none → RunsNowhere sts t q a ns p
runs_nowhere sts t q a M ns p e es =
    let m = M.to_automaton es in (
      m.0,
      m.1,
      m.2,
      λ same. some-none (sym (ap (followed t a) same ∙ e) ∙ (forced_followed t (suc p) m.0 a m.1).1),
    )

-- values within full ranges are counters of 1 or more
within_positive : (b : Box) → Full b → (cs : List ℕ) → Within cs b → Positive cs
within_positive b F cs w n lt =
    omega (arith, get_or_default cs 1 0 n lt, w.at_least n, F.positive n (omega (arith, w.one_each)))

module _ (s : List ℕ) (a b : ℕ) (z : (translate s a b).verdict ≡ is_accepted) (r : Routine) (e : check s ≡ good r)
    (l : ℕ) (rs ns : List ℕ) where
  abbrev t : Tables
  t = (translate s a b).tables

  module _ (f : byte (record_at t.loc_bytes l) 2 ≡ 0) where
    -- a value within the final ranges: a start, a heap, and the run from it
    pub range_runs : (m : ℕ) (c : Box) → ranging t l rs ns ≡ follows m c → (vs : List ℕ) → Within vs c
        → (cs : List ℕ) × Within cs (start_box (nodes_at t l) rs) × (h : Heap)
        × Describes (shape_of (record_at t.loc_bytes l)) cs h
        × RunsAlong r.stmts t (state_at t l h) (record { loc = l; values = cs }) ns (record { loc = m; values = vs })
    range_runs m c o vs w =
        let W = ranging_told t l rs ns (follows m c) o in
        let R : Reaches t l (start_box (nodes_at t l) rs) ns m vs = (W.says.reached vs).0 w in
        let cs = R.0 in
        let F = from_location s a b z r e l (asked_start t l rs ns W.asked) f in
        let D = F.0 cs (R.1.one_each ∙ start_length (nodes_at t l) rs W.ranges)
        (within_positive (start_box (nodes_at t l) rs) (start_full (nodes_at t l) rs W.ranges) cs R.1) in (
          cs,
          R.1,
          D.0,
          D.1,
          runs_along r.stmts t (state_at t l D.0) (record { loc = l; values = cs }) (F.1 cs D.0 D.1) ns
              (record { loc = m; values = vs }) R.2,
        )

    -- where none goes on: from no heap with counters within the ranges
    pub range_ends : (p : ℕ) → ranging t l rs ns ≡ ends_at p → (cs : List ℕ) (h : Heap)
        → Within cs (start_box (nodes_at t l) rs) → Describes (shape_of (record_at t.loc_bytes l)) cs h
        → RunsNowhere r.stmts t (state_at t l h) (record { loc = l; values = cs }) ns p
    range_ends p o cs h w d =
        let W = ranging_told t l rs ns (ends_at p) o in
        let F = from_location s a b z r e l (asked_start t l rs ns W.asked) f in
        runs_nowhere r.stmts t (state_at t l h) (record { loc = l; values = cs }) (F.1 cs h d) ns p
        (W.says.further cs w)

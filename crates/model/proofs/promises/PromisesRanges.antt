-- The promises about counters known only within ranges (02, job 9). Each is a type; its proof under it cites a law.
use Prim.Native.Nat.{◌<◌, ℕ}
use mathlib.Core.Path.{◌≡◌}
use mathlib.Core.Logic.{◌↔◌}
use mathlib.Core.List.{List}
use native.Mathlib.Omega.{arith}
use lib.ListN.{get_or, length}
use Rattle.model.specs.Heap.{Heap}
use Rattle.model.specs.Ranges.{Box, Reaches, RunsAlong, RunsNowhere, Stuck, WhyRefused, Within, ends_at, follows, ranged_in, ranged_of, ranged_to, ranging, refused_at, start_box, state_at}
use Rattle.model.specs.Records.{byte, is_accepted, record_at, shape_of}
use Rattle.model.specs.Runs.{Describes, nodes_at}
use Rattle.model.specs.Translate.{Routine, Tables, check, good, translate}
use Rattle.model.proofs.runs.Follows.{lows_within}
use Rattle.model.proofs.runs.RangeRuns.{range_ends, range_runs}
use Rattle.model.proofs.runs.RangedNumbers.{numbers_said}
use Rattle.model.proofs.runs.Ranged.{ranging_small, ranging_told, why_refused}

-- "If so, give the ranges of the final counters: exactly the combinations of final values within them are reached by
-- starts": a combination of values is within the final ranges exactly if some start within the ranges follows the path
-- to it. There is one: the ranges are as many as the nodes of the location reached, none without a value.
abbrev pub RangesExact : Type 0
RangesExact = (t : Tables) (l : ℕ) (rs ns : List ℕ) (m : ℕ) (c : Box) → ranging t l rs ns ≡ follows m c
    → ((vs : List ℕ) → Within vs c ↔ Reaches t l (start_box (nodes_at t l) rs) ns m vs)
    × (length c.lows ≡ nodes_at t m) × (length c.highs ≡ nodes_at t m) × Within c.lows c

pub ranges_exact : RangesExact
ranges_exact t l rs ns m c e =
    let E = (ranging_told t l rs ns (follows m c) e).says in
    let R = E.ranges in
    let n = R.one_each in
    (E.reached, n, omega (arith, R.full.alike), lows_within c R.full)

-- "If not, give the first position in the path (from 0) where none can go on": some start within the ranges follows so
-- many edges, and none follows one more
abbrev pub RangesEnd : Type 0
RangesEnd = (t : Tables) (l : ℕ) (rs ns : List ℕ) (p : ℕ) → ranging t l rs ns ≡ ends_at p
    → Stuck t l (start_box (nodes_at t l) rs) ns p

pub ranges_end : RangesEnd
ranges_end t l rs ns p e = (ranging_told t l rs ns (ends_at p) e).says

-- "Refused: 22, for a range with an end outside 1 to 65,535 or its ends in the wrong order, with the first such counter
-- as place; 23, in this order, .. 23 is looked at before 22.": each with its place exactly for its cause
abbrev pub RangesRefused : Type 0
RangesRefused = (t : Tables) (l : ℕ) (rs ns : List ℕ) (x p : ℕ)
    → (ranging t l rs ns ≡ refused_at x p) ↔ WhyRefused t l rs ns x p

pub ranges_refused : RangesRefused
ranges_refused t l rs ns x p = (ranging_told t l rs ns (refused_at x p), why_refused t l rs ns x p)

-- no value passes 32 bits: the limits of the ranges and of the path leave none above twenty
abbrev pub RangesFit : Type 0
RangesFit = (t : Tables) (l : ℕ) (rs ns : List ℕ) (m : ℕ) (c : Box) → ranging t l rs ns ≡ follows m c → (i : ℕ)
    → get_or c.highs i 0 < 1048576

pub ranges_fit : RangesFit
ranges_fit t l rs ns m c e i = let h = ranging_small t l rs ns m c e i in omega arith

-- the code's answer, an enum, says in numbers what the outcome says
abbrev pub RangesNumbers : Type 0
RangesNumbers = (t : Tables) (l : ℕ) (rs ns : List ℕ)
    → ranged_in (ranged_of (ranging t l rs ns)) ≡ ranged_to (ranging t l rs ns)

pub ranges_numbers : RangesNumbers
ranges_numbers = numbers_said

-- ==== runs of the routine

-- On the tables of an accepted translation a "can" is a heap: for each combination of values within the final ranges
-- there is a start within the ranges and a heap that the location with these counters describes, from which the
-- routine, at the location's statement, runs along the path to that combination.
abbrev pub RangesRun : Type 0
RangesRun = (s : List ℕ) (a b : ℕ) → (translate s a b).verdict ≡ is_accepted → (r : Routine) → check s ≡ good r
    → (l : ℕ) (rs ns : List ℕ) (m : ℕ) (c : Box) → let t = (translate s a b).tables in
    byte (record_at t.loc_bytes l) 2 ≡ 0 → ranging t l rs ns ≡ follows m c → (vs : List ℕ) → Within vs c
    → (cs : List ℕ) × Within cs (start_box (nodes_at t l) rs) × (h : Heap)
    × Describes (shape_of (record_at t.loc_bytes l)) cs h
    × RunsAlong r.stmts t (state_at t l h) (record { loc = l; values = cs }) ns (record { loc = m; values = vs })

pub ranges_run : RangesRun
ranges_run s a b z r e l rs ns m c f o = range_runs s a b z r e l rs ns f m c o

-- and a "cannot" is all heaps: from none that the location with counters within the ranges describes does the routine
-- run along the path beyond the position
abbrev pub RangesNowhere : Type 0
RangesNowhere = (s : List ℕ) (a b : ℕ) → (translate s a b).verdict ≡ is_accepted → (r : Routine) → check s ≡ good r
    → (l : ℕ) (rs ns : List ℕ) (p : ℕ) → let t = (translate s a b).tables in
    byte (record_at t.loc_bytes l) 2 ≡ 0 → ranging t l rs ns ≡ ends_at p → (cs : List ℕ) (h : Heap)
    → Within cs (start_box (nodes_at t l) rs) → Describes (shape_of (record_at t.loc_bytes l)) cs h
    → RunsNowhere r.stmts t (state_at t l h) (record { loc = l; values = cs }) ns p

pub ranges_nowhere : RangesNowhere
ranges_nowhere s a b z r e l rs ns p f o = range_ends s a b z r e l rs ns f p o

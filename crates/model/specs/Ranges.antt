-- 02, job 9, "Counters known only within ranges": which starts follow a path, for all tables, locations, ranges and
-- paths. Assumes nothing.
use Rattle.std.specs.Prelude.{ℕ, suc, max, min, ◌+◌, ◌≤◌, ◌<◌, ◌≡◌, Bool, true, false, ◌&&◌, cond, not, List, [], ◌∷◌, ◌++◌, map, eqb, leb, ltb, get_or, length, replicate, set, take, Result, Ok, Err}
use Rattle.std.proofs.Math.Option.{Option, none, some}
use Rattle.model.specs.Base.{most_nodes, numbers, place_of}
use Rattle.model.specs.Heap.{Heap}
use Rattle.model.specs.Layout.{keeps_layout}
use Rattle.model.specs.Machine.{Entry, Stmt}
use Rattle.model.specs.Records.{GuardCode, byte, filled, record_at, word}
use Rattle.model.specs.Runs.{Config, Forced, Matched, State, Supply, applied, fed, final, guards_of, move_of, nodes_at, running, step_of, trace, updates_of}
use Rattle.model.specs.Translate.{Tables}
use Rattle.model.specs.Walking.{most_moves}
use Rattle.model.specs.Codes.{range_refusal_number, range_refusal_place}
use Rattle.model.specs.declared.Ranged as declared
use Rattle.model.specs.declared.Ranged.TheVariants as answer
use Rattle.model.specs.declared.codes.RangeRefusal.{RangeRefusal}
use Rattle.model.specs.declared.codes.RangeRefusal.TheVariants as refusal

-- "a lowest and highest value for each of its counters"
pub record Box : Type 0 where
  pub lows : List ℕ
  pub highs : List ℕ

-- ---- the ranges that are given: the lowest values of twelve counters, then the highest; what is not there is 0

abbrev pub low_given : List ℕ → ℕ → ℕ
low_given rs i = get_or rs i 0

abbrev pub high_given : List ℕ → ℕ → ℕ
high_given rs i = get_or rs (most_nodes + i) 0

-- "for each of its counters (1 to 65,535; entries past k not read)"
abbrev pub start_box : ℕ → List ℕ → Box
start_box k rs = record { lows = map (low_given rs) (numbers 0 k); highs = map (high_given rs) (numbers 0 k) }

abbrev pub most_value : ℕ
most_value = 65535

abbrev pub in_limits : ℕ → Bool
in_limits v = leb 1 v && leb v most_value

-- "22, for a range with an end outside 1 to 65,535 or its ends in the wrong order": it is none of these
abbrev pub range_keeps : List ℕ → ℕ → Bool
range_keeps rs i = in_limits (low_given rs i) && in_limits (high_given rs i) && leb (low_given rs i) (high_given rs i)

-- "with the first such counter as place"; k where there is none
abbrev pub first_wrong : ℕ → List ℕ → ℕ
first_wrong k rs = place_of (λ i. not (range_keeps rs i)) (numbers 0 k)

-- ---- the path, guards aside

-- not an "edge that isn't in the table or doesn't leave the location reached, guards aside"
abbrev pub linked : Tables → ℕ → ℕ → Bool
linked t l n = ltb n t.edge_count && eqb (word (record_at t.edge_bytes n) 2) l

-- where an edge leads
abbrev pub led_to : Tables → ℕ → ℕ
led_to t n = word (record_at t.edge_bytes n) 4

-- "at the first edge" that is one: its position, or the length of the path where there is none
abbrev pub linked_part : Tables → ℕ → List ℕ → ℕ
linked_part t l [] = 0
linked_part t l (n ∷ ns) = cond (linked t l n) (suc (linked_part t (led_to t n) ns)) 0

-- ---- one edge: its guards cut the ranges, and then its updates move them

-- a range with the values that pass a test (0 none, 1 for = 1, 2 for ≥ 2)
abbrev pub low_passed : ℕ → ℕ → ℕ
low_passed test v = cond (eqb test 2) (max v 2) v

abbrev pub high_passed : ℕ → ℕ → ℕ
high_passed test v = cond (eqb test 1) (min v 1) v

abbrev pub cut : GuardCode → Box → Box
cut g b = record {
  lows = set b.lows g.node (low_passed g.test (get_or b.lows g.node 0));
  highs = set b.highs g.node (high_passed g.test (get_or b.highs g.node 0));
}

-- values are left at the guard's node
abbrev pub left_at : GuardCode → Box → Bool
left_at g b = leb (get_or b.lows g.node 0) (get_or b.highs g.node 0)

-- the values that pass all guards, or none where there are none
abbrev pub cut_by : List GuardCode → Box → Option Box
cut_by [] b = some b
cut_by (g ∷ gs) b = cond (left_at g (cut g b)) (cut_by gs (cut g b)) none

-- the ends of each new range are what the updates give from the ends of the old ones
abbrev pub image_of : List ℕ → Box → Box
image_of us b = record { lows = map (applied b.lows) us; highs = map (applied b.highs) us }

abbrev pub moved_box : Tables → ℕ → Box → Box
moved_box t n = image_of (updates_of (nodes_at t (led_to t n)) (record_at t.edge_bytes n))

-- ---- the whole path, and the outcome

-- "tell whether some start within the ranges can follow the path. If so, give the ranges of the final counters .. If
-- not, give the first position in the path (from 0) where none can go on"; or a refusal's number and place
pub data Ranging : Type 0 where
  follows : ℕ → Box → Ranging
  ends_at : ℕ → Ranging
  refused_at : ℕ → ℕ → Ranging

-- from location l with these ranges, where i edges were followed before
abbrev pub along : Tables → ℕ → ℕ → Box → List ℕ → Ranging
along t i l b [] = follows l b
along t i l b (n ∷ ns) =
    elim (cut_by (guards_of (record_at t.edge_bytes n)) b) [
      | none ↦ ends_at i
      | some c ↦ along t (suc i) (led_to t n) (moved_box t n c) ns
    ]

-- "23, in this order, for tables that break the layout, a start not below the count or a path above 4,096 (place 0)":
-- none of these is so
abbrev pub askable : Tables → ℕ → List ℕ → Bool
askable t l ns = keeps_layout t && ltb l t.loc_count && leb (length ns) most_moves

-- "or at the first edge ..(its position). 23 is looked at before 22."
unfoldable pub ranging : Tables → ℕ → List ℕ → List ℕ → Ranging
ranging t l rs ns =
    cond (askable t l ns)
    (cond (ltb (linked_part t l ns) (length ns))
    (refused_at 23 (linked_part t l ns))
    (cond (ltb (first_wrong (nodes_at t l) rs) (nodes_at t l))
    (refused_at 22 (first_wrong (nodes_at t l) rs))
    (along t 0 l (start_box (nodes_at t l) rs) ns)))
    (refused_at 23 0)

-- the ranges in numbers, as they are given: 0 past the last counter
abbrev pub numbers_of : Box → List ℕ
numbers_of b = filled most_nodes b.lows ++ filled most_nodes b.highs

-- the outcome in numbers: the refusal's, 0 for none; its place, or the first position where none can go on; whether
-- some start follows the path, 1 or 0; the location reached and the ranges there
pub record Ranged : Type 0 where
  pub refusal : ℕ
  pub place : ℕ
  pub follows : ℕ
  pub location : ℕ
  pub ranges : List ℕ

-- The outcome in numbers. "A path to a fault has no final ranges": a fault has no nodes.
abbrev pub ranged_to : Ranging → Ranged
ranged_to (follows l b) =
    record { refusal = 0; place = 0; follows = 1; location = l; ranges = numbers_of b }
ranged_to (ends_at i) = record { refusal = 0; place = i; follows = 0; location = 0; ranges = replicate 24 0 }
ranged_to (refused_at x p) = record { refusal = x; place = p; follows = 0; location = 0; ranges = replicate 24 0 }

-- what the code answers: a refusal is 22 or 23
abbrev pub ranged_of : Ranging → Result declared.Ranged RangeRefusal
ranged_of (follows l b) = Ok (answer.Reached l (filled most_nodes b.lows) (filled most_nodes b.highs))
ranged_of (ends_at i) = Ok (answer.Stuck i)
ranged_of (refused_at x p) = Err (cond (eqb x 22) (refusal.Range p) (refusal.Path p))

-- the same answer in numbers
abbrev pub ranged_in : Result declared.Ranged RangeRefusal → Ranged
ranged_in (Ok (answer.Reached l lows highs)) =
    record { refusal = 0; place = 0; follows = 1; location = l; ranges = lows ++ highs }
ranged_in (Ok (answer.Stuck i)) =
    record { refusal = 0; place = i; follows = 0; location = 0; ranges = replicate 24 0 }
ranged_in (Err r) =
    record {
      refusal = range_refusal_number r;
      place = range_refusal_place r;
      follows = 0;
      location = 0;
      ranges = replicate 24 0;
    }

-- ---- the words of the promises

-- a combination of values is within the ranges: as many, each from its lowest to its highest
pub record Within (cs : List ℕ) (b : Box) : Type 0 where
  pub one_each : length cs ≡ length b.lows
  pub at_least : (i : ℕ) → get_or b.lows i 0 ≤ get_or cs i 0
  pub at_most : (i : ℕ) → get_or cs i 0 ≤ get_or b.highs i 0

-- the automaton follows a path, where each edge in turn is taken; where it leads
abbrev pub followed : Tables → Config → List ℕ → Option Config
followed t a [] = some a
followed t a (n ∷ ns) = elim (move_of t a n) [ none ↦ none | some y ↦ followed t y.after ns ]

-- some start within the ranges follows the path to these values at that location
abbrev pub Reaches : Tables → ℕ → Box → List ℕ → ℕ → List ℕ → Type 0
Reaches t l b ns m vs = (cs : List ℕ) × Within cs b
    × (followed t (record { loc = l; values = cs }) ns ≡ some (record { loc = m; values = vs }))

-- the first p edges of the path are followed by some start within the ranges, and the first p + 1 by none
pub record Stuck (t : Tables) (l : ℕ) (b : Box) (ns : List ℕ) (p : ℕ) : Type 0 where
  pub before : p < length ns
  pub sofar : (cs : List ℕ) × Within cs b × (a : Config)
      × (followed t (record { loc = l; values = cs }) (take p ns) ≡ some a)
  pub further : (cs : List ℕ) → Within cs b → followed t (record { loc = l; values = cs }) (take (suc p) ns) ≡ none

-- where a path leads, guards aside
abbrev pub reached : Tables → ℕ → List ℕ → ℕ
reached t l [] = l
reached t l (n ∷ ns) = reached t (led_to t n) ns

-- the edge at this position of the path is in the table and leaves the location reached, guards aside
abbrev pub linked_at : Tables → ℕ → List ℕ → ℕ → Bool
linked_at t l ns i = linked t (reached t l (take i ns)) (get_or ns i 0)

-- Why a refusal is given, each cause after those before it.
pub data WhyRefused (t : Tables) (l : ℕ) (rs ns : List ℕ) : ℕ → ℕ → Type 0 where
  tables_break : keeps_layout t ≡ false → WhyRefused t l rs ns 23 0
  no_start : keeps_layout t ≡ true → t.loc_count ≤ l → WhyRefused t l rs ns 23 0
  too_long : keeps_layout t ≡ true → l < t.loc_count → 4096 < length ns → WhyRefused t l rs ns 23 0
  not_linked : askable t l ns ≡ true → (p : ℕ) → p < length ns → linked_at t l ns p ≡ false
      → ((i : ℕ) → i < p → linked_at t l ns i ≡ true) → WhyRefused t l rs ns 23 p
  no_range : askable t l ns ≡ true → ((i : ℕ) → i < length ns → linked_at t l ns i ≡ true) → (p : ℕ) → p < nodes_at t l
      → range_keeps rs p ≡ false → ((i : ℕ) → i < p → range_keeps rs i ≡ true) → WhyRefused t l rs ns 22 p

-- ---- runs of the routine

-- the routine at a location's statement, on a heap
abbrev pub state_at : Tables → ℕ → Heap → State
state_at t l h = record { stmt = byte (record_at t.loc_bytes l) 1; status = running; heap = h }

-- From the state q, beside the configuration a, the routine runs along the path, to where the automaton is at c: each
-- edge of the path is taken, and these pair off with steps of the routine, on any cells that are not in use at their
-- turn, of which there are always enough.
pub record RunsAlong (sts : List Stmt) (t : Tables) (q : State) (a : Config) (ns : List ℕ) (c : Config) : Type 0 where
  pub taken : length (trace (move_of t) a ns) ≡ length ns
  pub leads : final a (trace (move_of t) a ns) ≡ c
  pub supply : (us : List ℕ) × Supply sts q (trace (move_of t) a ns) us
  pub matches : (us : List ℕ) → Supply sts q (trace (move_of t) a ns) us
      → Matched sts t q a (trace (step_of sts) q (fed (trace (move_of t) a ns) us)) (trace (move_of t) a ns)

-- No run of the routine from q goes along the first p + 1 edges of the path: whatever the entries, the edges that pair
-- off with its steps, one each, begin otherwise.
abbrev pub RunsNowhere : List Stmt → Tables → State → Config → List ℕ → ℕ → Type 0
RunsNowhere sts t q a ns p =
    (es : List Entry) → (ms : List ℕ) × Forced t a ms
    × Matched sts t q a (trace (step_of sts) q es) (trace (move_of t) a ms) × (take (suc p) ms ≡ take (suc p) ns → ⊥)

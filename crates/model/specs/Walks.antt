-- The words of the promises about moves and walks. Assumes nothing.
use Rattle.std.specs.Prelude.{ℕ, zero, suc, ◌+◌, ◌<◌, ◌≤◌, ◌≡◌, ◌↔◌, ◌⊎◌, Bool, true, false, List, leb, get_or, length, take}
use Rattle.std.proofs.Math.Option.{none, some}
use Rattle.model.specs.Base.{all}
use Rattle.model.specs.Machine.{Stmt}
use Rattle.model.specs.Records.{record_at, word}
use Rattle.model.specs.Runs.{Advance, Config, Matched, State, Supply, fed, final, guards_hold, guards_of, move_of, nodes_at, step_of, trace}
use Rattle.model.specs.Translate.{Tables}
use Rattle.model.specs.Walking.{Moved, Walked, configuration_of, in_automaton, in_counters, keeps, walked_to}
use Rattle.model.specs.declared.Configuration.{Configuration}

-- a location in use, and a counter of 1 or more for each of its nodes
pub record Stands (t : Tables) (a : Config) : Type 0 where
  pub is_location : a.loc < t.loc_count
  pub one_each : length a.values ≡ nodes_at t a.loc
  pub positive : all (leb 1) a.values ≡ true

-- ---- one move

-- the automaton makes a move whose counters are all below 2 ^ 32, or not; or it makes none
abbrev pub MakesOne : Bool → Tables → Configuration → ℕ → Type 0
MakesOne small t c n = (y : Advance Config) × (keeps t c ≡ true) × (move_of t (in_automaton t c) n ≡ some y)
    × (in_counters y.after.values ≡ small)

abbrev pub MakesNone : Tables → Configuration → ℕ → Type 0
MakesNone t c n = (keeps t c ≡ false) ⊎ (move_of t (in_automaton t c) n ≡ none)

-- the edge isn't in the table, doesn't leave the location or isn't enabled
abbrev pub NotEnabled : Tables → Config → ℕ → Type 0
NotEnabled t a n =
    let r = record_at t.edge_bytes n in
    (t.edge_count ≤ n) ⊎ ((word r 2 ≡ a.loc → ⊥) ⊎ (guards_hold a.values (guards_of r) ≡ false))

-- exactly what each answer says
pub record MoveTold (t : Tables) (c : Configuration) (n : ℕ) (m : Moved) : Type 0 where
  pub is_done : (m.refusal ≡ 0) ↔ MakesOne true t c n
  pub is_over : (m.refusal ≡ 21) ↔ MakesOne false t c n
  pub is_none : (m.refusal ≡ 20) ↔ MakesNone t c n
  pub one_of : (m.refusal ≡ 0) ⊎ (m.refusal ≡ 20) ⊎ (m.refusal ≡ 21)
  pub stays : (m.refusal ≡ 0 → ⊥) → m.configuration ≡ c

-- ---- walks

-- a walk before which m moves were made
abbrev pub made_before : ℕ → Walked → Walked
made_before m w = walked_to w.refusal (m + w.made) w.configuration

-- one walk after another: where the first is not refused the second goes on from its configuration
abbrev pub then_walk : Walked → (Configuration → Walked) → Walked
then_walk w f = elim w.refusal [ zero ↦ made_before w.made (f w.configuration) | suc x ↦ w ]

-- the edges taken along the first m of ns
abbrev pub edges_taken : Tables → Config → ℕ → List ℕ → List (Advance Config)
edges_taken t a m ns = trace (move_of t) a (take m ns)

-- The walk along ns from the automaton's configuration a, w, is a run of the routine from q: each move made is an edge
-- taken, and these pair off with steps of the routine, on any cells that are not in use at their turn, of which there
-- are always enough. It stops with 20 only where the automaton makes no move, and with 21 only where it makes one whose
-- counters pass 32 bits.
pub record WalkRun (sts : List Stmt) (t : Tables) (q : State) (a : Config) (ns : List ℕ) (w : Walked) : Type 0 where
  pub begins : keeps t (configuration_of a) ≡ true
  pub is_start : in_automaton t (configuration_of a) ≡ a
  pub taken : length (edges_taken t a w.made ns) ≡ w.made
  pub reaches : final a (edges_taken t a w.made ns) ≡ in_automaton t w.configuration
  pub supply : (us : List ℕ) × Supply sts q (edges_taken t a w.made ns) us
  pub matches : (us : List ℕ) → Supply sts q (edges_taken t a w.made ns) us
      → Matched sts t q a (trace (step_of sts) q (fed (edges_taken t a w.made ns) us)) (edges_taken t a w.made ns)
  pub whole : w.refusal ≡ 0 → w.made ≡ length ns
  pub stops_none : length ns ≤ 4096 → w.refusal ≡ 20 → (w.made < length ns)
      × (move_of t (in_automaton t w.configuration) (get_or ns w.made 0) ≡ none)
  pub stops_over : length ns ≤ 4096 → w.refusal ≡ 21 → (w.made < length ns)
      × MakesOne false t w.configuration (get_or ns w.made 0)

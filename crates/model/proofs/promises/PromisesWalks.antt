-- The promises about the layout of the tables, moves and walks (02, job 7). Each is a type; its proof under it cites a
-- law.
use Prim.Native.Nat.{◌<◌, ◌≤◌, ℕ}
use mathlib.Core.Path.{◌≡◌}
use mathlib.Core.Logic.{◌↔◌, ◌⊎◌}
use mathlib.Core.Option.{none, some}
use mathlib.Core.Bool.{cond, true}
use mathlib.Core.List.{List, [], ◌++◌}
use lib.ListN.{get_or, get_elem?, length, take}
use Rattle.model.specs.Heap.{Heap}
use Rattle.model.specs.Layout.{CouldFall, could_fall, keeps_layout}
use Rattle.model.specs.Records.{GuardCode, is_accepted}
use Rattle.model.specs.Runs.{Advance, Config, Describes, final, move_of, running}
use Rattle.model.specs.Translate.{Routine, Tables, check, good, translate}
use Rattle.model.specs.Walking.{configuration_of, in_automaton, in_counters, keeps, moved, moves_along, walked, walked_to}
use Rattle.model.specs.Walks.{MoveTold, NotEnabled, Stands, WalkRun, edges_taken, then_walk}
use Rattle.model.specs.declared.Configuration.{Configuration}
use Rattle.model.proofs.listings.Layouts.{translation_keeps}
use Rattle.model.proofs.records.Falls.{could_fall_is}
use Rattle.model.proofs.runs.Along.{walk_empty, walk_is_moves, walk_long}
use Rattle.model.proofs.runs.OneMove.{move_done, move_told}
use Rattle.model.proofs.runs.Stands.{keeps_back, keeps_stands, no_move_is, stands_back, stands_keeps, stands_length}
use Rattle.model.proofs.runs.Walks.{walk_before, walk_cut, walk_made, walk_went}
use Rattle.model.proofs.runs.WalkRuns.{walk_is_run}

-- ==== the layout

-- "a present node's update that could give less than 1 from counters of 1 or more under its guards": the test that is
-- computed says exactly that there are such counters
abbrev pub CouldFallIs : Type 0
CouldFallIs = (k : ℕ) (gs : List GuardCode) (u : ℕ) → (could_fall k gs u ≡ true) ↔ CouldFall k gs u

pub could_fall_exactly : CouldFallIs
could_fall_exactly = could_fall_is

-- the tables of an accepted translation never break the layout
abbrev pub LayoutOfTranslation : Type 0
LayoutOfTranslation = (s : List ℕ) (a b : ℕ) → (translate s a b).verdict ≡ is_accepted
    → keeps_layout (translate s a b).tables ≡ true

pub layout_of_translation : LayoutOfTranslation
layout_of_translation = translation_keeps

-- "it keeps a location and twelve counters of 32 bits": the configurations that keep the layout are, one to one, the
-- automaton's locations with a counter of 1 or more for each node; the twelve counters are 0 past these
abbrev pub ConfigurationsAre : Type 0
ConfigurationsAre = (t : Tables) → keeps_layout t ≡ true
    → ((c : Configuration) → length c.counters ≡ 12 → keeps t c ≡ true
    → Stands t (in_automaton t c) × (configuration_of (in_automaton t c) ≡ c))
    × ((a : Config) → Stands t a → (length (configuration_of a).counters ≡ 12) × (keeps t (configuration_of a) ≡ true)
    × (in_automaton t (configuration_of a) ≡ a))

pub configurations_are : ConfigurationsAre
configurations_are t k = (
  λ c l h. (keeps_stands t c h l, keeps_back t c h l),
  λ a s. (stands_length t k a s, stands_keeps t k a s, stands_back t k a s),
)

-- ==== one move

-- "Refused: 20, when the tables or the configuration break the layout .. or the edge isn't in the table, doesn't leave
-- the location or isn't enabled; 21, when a counter would pass 32 bits. 20 is looked at first, and a refused move
-- changes nothing.": each of 0, 20 and 21 exactly then, and no other number
abbrev pub MoveRefusals : Type 0
MoveRefusals = (t : Tables) (c : Configuration) (n : ℕ) → MoveTold t c n (moved t c n)

pub move_refusals : MoveRefusals
move_refusals = move_told

-- "the edge isn't in the table, doesn't leave the location or isn't enabled": exactly then the automaton makes no move
abbrev pub NoMoveIs : Type 0
NoMoveIs = (t : Tables) (a : Config) (n : ℕ) → (move_of t a n ≡ none) ↔ NotEnabled t a n

pub no_move_exactly : NoMoveIs
no_move_exactly = no_move_is

-- "names an edge, and moves": a done move is the automaton's move of demand 3
abbrev pub MoveIsAutomaton : Type 0
MoveIsAutomaton = (t : Tables) (c : Configuration) (n : ℕ) → length c.counters ≡ 12 → (moved t c n).refusal ≡ 0
    → (y : Advance Config) × (move_of t (in_automaton t c) n ≡ some y)
    × (in_automaton t (moved t c n).configuration ≡ y.after)
    × ((moved t c n).configuration ≡ configuration_of y.after)

pub move_is_automaton : MoveIsAutomaton
move_is_automaton t c n l z = let D = move_done t c n l z in (D.advance, D.moves, D.is_after, D.is_next)

-- a done move leaves a configuration that keeps the layout, with "twelve counters of 32 bits"
abbrev pub MoveKeeps : Type 0
MoveKeeps = (t : Tables) (c : Configuration) (n : ℕ) → length c.counters ≡ 12 → (moved t c n).refusal ≡ 0
    → let d = (moved t c n).configuration in
    (keeps t d ≡ true) × (length d.counters ≡ 12) × (in_counters d.counters ≡ true)

pub move_keeps_layout : MoveKeeps
move_keeps_layout t c n l z = let D = move_done t c n l z in (D.keeps_on, D.twelve, D.fits)

-- ==== walks

-- "A walk along up to 4,096 edge numbers in one call gives what the single moves give one after the other"; 20, when
-- the tables or the configuration break the layout, "in an empty walk too"; "the walk is longer than 4,096 (no move is
-- then made)"
abbrev pub WalkIsMoves : Type 0
WalkIsMoves = (t : Tables) (c : Configuration)
    → ((ns : List ℕ) → length ns ≤ 4096 → (ns ≡ [] → ⊥) → walked t c ns ≡ moves_along t 0 c ns)
    × (walked t c [] ≡ cond (keeps t c) (walked_to 0 0 c) (walked_to 20 0 c))
    × ((ns : List ℕ) → 4096 < length ns → walked t c ns ≡ walked_to 20 0 c)

pub walk_moves : WalkIsMoves
walk_moves t c = (walk_is_moves t c, walk_empty t c, walk_long t c)

-- a walk of a list cut in two is one walk after the other
abbrev pub WalkCut : Type 0
WalkCut = (t : Tables) (c : Configuration) → length c.counters ≡ 12 → (ns ms : List ℕ) → length (ns ++ ms) ≤ 4096
    → walked t c (ns ++ ms) ≡ then_walk (walked t c ns) (λ d. walked t d ms)

pub walk_cuts : WalkCut
walk_cuts = walk_cut

-- "at a refusal it stops with the moves before it done and tells how many": never more than asked for, and all where it
-- is not refused. From a configuration that keeps the layout a refused walk stops before its end, at the move that is
-- refused with that number; the moves before it, alone, are done and give the same configuration.
abbrev pub WalkTells : Type 0
WalkTells = (t : Tables) (c : Configuration) → length c.counters ≡ 12 → (ns : List ℕ) → let w = walked t c ns in
    ((w.refusal ≡ 0) ⊎ (w.refusal ≡ 20) ⊎ (w.refusal ≡ 21))
    × (w.made ≤ length ns) × (w.refusal ≡ 0 → w.made ≡ length ns)
    × (length ns ≤ 4096 → keeps t c ≡ true
    → (walked t c (take w.made ns) ≡ walked_to 0 w.made w.configuration)
    × ((w.refusal ≡ 0 → ⊥) → (w.made < length ns)
    × ((moved t w.configuration (get_or ns w.made 0)).refusal ≡ w.refusal)))

pub walk_tells : WalkTells
walk_tells t c l ns = let W = walk_made t c l ns in (
  W.one_of,
  W.most,
  λ e. (W.whole e).1,
  λ h k. (walk_before t c l ns h k, (walk_went t c l ns h k).stopped),
)

-- The moves that a walk made are edges that the automaton of demand 3 takes, each of them, and they lead to the
-- configuration that the walk gives, which keeps the layout.
abbrev pub WalkIsAutomaton : Type 0
WalkIsAutomaton = (t : Tables) (c : Configuration) → length c.counters ≡ 12 → keeps t c ≡ true → (ns : List ℕ)
    → let w = walked t c ns in let a = in_automaton t c in
    (length (edges_taken t a w.made ns) ≡ w.made)
    × (final a (edges_taken t a w.made ns) ≡ in_automaton t w.configuration)
    × (keeps t w.configuration ≡ true) × (length w.configuration.counters ≡ 12)
    × (in_counters c.counters ≡ true → in_counters w.configuration.counters ≡ true)

pub walk_is_automaton : WalkIsAutomaton
walk_is_automaton t c l k ns = let W = walk_made t c l ns in
    (W.traced k, W.reaches k, W.keeps_on k, W.twelve, W.fits)

-- Demand 3 of walks: from a starting shape of an accepted translation, with the counters of a heap that it describes,
-- any walk is the routine's run.
abbrev pub WalkIsRun : Type 0
WalkIsRun = (s : List ℕ) (a b : ℕ) → (translate s a b).verdict ≡ is_accepted → (r : Routine) → check s ≡ good r
    → (i : ℕ) (sh h : Heap) (cs : List ℕ) → get_elem? r.starts i ≡ some sh → Describes sh cs h → (ns : List ℕ)
    → let t = (translate s a b).tables in
    WalkRun r.stmts t (record { stmt = 0; status = running; heap = h }) (record { loc = i; values = cs }) ns
    (walked t (configuration_of (record { loc = i; values = cs })) ns)

pub walk_run : WalkIsRun
walk_run = walk_is_run

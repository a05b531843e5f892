-- 02, job 7, "Walking the automaton": one move and a walk, for all tables, counts, configurations and edge numbers.
-- Assumes nothing.
use Rattle.std.specs.Prelude.{ℕ, zero, suc, ◌^◌, Bool, true, false, ◌&&◌, List, [], ◌∷◌, leb, ltb, length, take, Option, Some, None, Result, Ok, Err}
use Rattle.std.proofs.Math.Option.{none, some}
use Rattle.model.specs.Base.{all, most_nodes}
use Rattle.model.specs.Image.{counters_of}
use Rattle.model.specs.Layout.{keeps_layout}
use Rattle.model.specs.Records.{filled}
use Rattle.model.specs.Runs.{Config, move_of, nodes_at}
use Rattle.model.specs.Translate.{Tables}
use Rattle.model.specs.declared.Configuration.{Configuration}
use Rattle.model.specs.Codes.{move_refusal_number}
use Rattle.model.specs.declared.Walked as declared
use Rattle.model.specs.declared.codes.MoveRefusal.{MoveRefusal}

-- "A configuration does when its location isn't below the count, or a counter is 0 below k or not 0 past it."
abbrev pub configuration_keeps : Tables → Configuration → Bool
configuration_keeps t c = ltb c.location t.loc_count && counters_of (nodes_at t c.location) c.counters

-- "when the tables or the configuration break the layout": neither does
abbrev pub keeps : Tables → Configuration → Bool
keeps t c = keeps_layout t && configuration_keeps t c

-- the automaton of demand 3 in a configuration: of the twelve counters it has those of the location's nodes
abbrev pub in_automaton : Tables → Configuration → Config
in_automaton t c = record { loc = c.location; values = take (nodes_at t c.location) c.counters }

-- a location of the automaton with its counters, 0 past the last node
abbrev pub configuration_of : Config → Configuration
configuration_of c = record { location = c.loc; counters = filled most_nodes c.values }

-- "21, when a counter would pass 32 bits": none does
abbrev pub in_counters : List ℕ → Bool
in_counters = all (λ v. ltb v (2 ^ 32))

-- what a move gives: the refusal's number, 0 for none, and the configuration
pub record Moved : Type 0 where
  pub refusal : ℕ
  pub configuration : Configuration

-- "a refused move changes nothing"
abbrev pub stays_with : ℕ → Configuration → Moved
stays_with x c = record { refusal = x; configuration = c }

-- What a move gives: 20 when the tables or the configuration break the layout, "or the edge isn't in the table, doesn't
-- leave the location or isn't enabled", where the automaton makes no move; then 21; else its move. "20 is looked at
-- first."
unfoldable pub moved : Tables → Configuration → ℕ → Moved
moved t c n =
    elim (keeps t c) [
      | false ↦ stays_with 20 c
      | true ↦ elim (move_of t (in_automaton t c) n) [
        | none ↦ stays_with 20 c
        | some y ↦ elim (in_counters y.after.values) [
          | false ↦ stays_with 21 c
          | true ↦ stays_with 0 (configuration_of y.after)
        ]
      ]
    ]

-- "up to 4,096 edge numbers"
abbrev pub most_moves : ℕ
most_moves = 4096

-- what a walk gives: the refusal's number, 0 for none, how many moves were made, and the configuration
pub record Walked : Type 0 where
  pub refusal : ℕ
  pub made : ℕ
  pub configuration : Configuration

abbrev pub walked_to : ℕ → ℕ → Configuration → Walked
walked_to x made c = record { refusal = x; made = made; configuration = c }

-- "what the single moves give one after the other; at a refusal it stops with the moves before it done and tells how
-- many"; so many were made before
abbrev pub moves_along : Tables → ℕ → Configuration → List ℕ → Walked
moves_along t made c [] = walked_to 0 made c
moves_along t made c (n ∷ ns) =
    elim (moved t c n).refusal [
      | zero ↦ moves_along t (suc made) (moved t c n).configuration ns
      | suc x ↦ walked_to (suc x) made c
    ]

-- "20, when the tables or the configuration break the layout (in an empty walk too), the walk is longer than 4,096 (no
-- move is then made)"
unfoldable pub walked : Tables → Configuration → List ℕ → Walked
walked t c ns =
    elim (leb (length ns) most_moves && keeps t c) [
      | false ↦ walked_to 20 0 c
      | true ↦ moves_along t 0 c ns
    ]

-- ---- what the code answers

-- of a move from c, which stays c where it is refused
abbrev pub moved_of : Configuration → Result Configuration MoveRefusal → Moved
moved_of c (Ok d) = stays_with 0 d
moved_of c (Err r) = stays_with (move_refusal_number r) c

abbrev pub refused_in : Option MoveRefusal → ℕ
refused_in None = 0
refused_in (Some r) = move_refusal_number r

abbrev pub walked_of : declared.Walked → Walked
walked_of w = walked_to (refused_in w.refused) w.made w.configuration

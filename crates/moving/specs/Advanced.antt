-- A move along an edge that leads on, of twelve counters as they are kept. Assumes nothing.
use Rattle.std.specs.Prelude.{ℕ, ◌+◌, ◌*◌, ◌^◌, ◌≤◌, ◌<◌, ◌≡◌, true, false, List, map, drop, length, Result, Ok, Err, MatchResult}
use Rattle.model.specs.Base.{all, most_nodes, record_size}
use Rattle.model.specs.Records.{byte, filled, is_zero, record_at, word}
use Rattle.model.specs.Runs.{applied, updates_of}
use Rattle.model.specs.Codes.{move_refusal_number}
use Rattle.model.specs.Walking.{Moved, in_counters, stays_with}
use Rattle.model.specs.declared.Configuration.{Configuration}
use Rattle.model.specs.declared.codes.MoveRefusal.{MoveRefusal}
use Rattle.model.specs.declared.codes.MoveRefusal.TheVariants.{CounterTooLarge}

abbrev pub standing : ℕ → List ℕ → Configuration
standing l cs = record { location = l; counters = cs }

-- what a move gives that begins at l, by its answer and the counters that it leaves
abbrev pub moved_by : ℕ → Result ℕ MoveRefusal → List ℕ → Moved
moved_by l (Ok to) cs = stays_with 0 (standing to cs)
moved_by l (Err r) cs = stays_with (move_refusal_number r) (standing l cs)

-- along record r, to a location of k nodes: 21, or the new counters and zeros past them
abbrev pub advanced : List ℕ → ℕ → Configuration → Moved
advanced r k c =
    let vs = map (applied c.counters) (updates_of k r) in
    elim (in_counters vs) [
      | false ↦ stays_with 21 c
      | true ↦ stays_with 0 (standing (word r 4) (filled most_nodes vs))
    ]

-- each of k counters is its own old counter
abbrev pub Carries : List ℕ → ℕ → Type 0
Carries r k = (j : ℕ) → j < k → word r (8 + 2 * j) ≡ 4096 + 2 ^ j

-- the new counters vs where before stood, or 21
abbrev pub Replaced : {A : Type 0} → List ℕ → Result A MoveRefusal → List ℕ → List ℕ → Type 0
Replaced vs r before after =
    MatchResult r (λ _. (in_counters vs ≡ true) × (after ≡ filled most_nodes vs))
    (λ e. (e ≡ CounterTooLarge) × (in_counters vs ≡ false) × (after ≡ before))

-- an edge's record r that leads on from a location with these counters
pub record Ready (r ls : List ℕ) (l : ℕ) (cs : List ℕ) : Type 0 where
  pub whole : length r ≡ record_size
  pub target : record_size * word r 4 + record_size ≤ length ls
  pub few : byte (record_at ls (word r 4)) 3 ≤ most_nodes
  pub source : record_size * l + record_size ≤ length ls
  pub zeros : all is_zero (drop (byte (record_at ls l) 3) cs) ≡ true

-- 02, job 7, "Walking the automaton": when the two tables keep the layout, clause by clause. Later requests cite it.
-- Assumes nothing.
use Rattle.std.specs.Prelude.{ℕ, ◌+◌, ◌*◌, ◌/◌, ◌%◌, ◌^◌, ◌<◌, ◌≡◌, Bool, true, ◌&&◌, ◌||◌, cond, not, List, map, eqb, leb, ltb, drop, length}
use Rattle.model.specs.Base.{all, any, count, most_nodes, most_statements, numbers}
use Rattle.model.specs.Part.{counts_in_places}
use Rattle.model.specs.Records.{GuardCode, byte, is_zero, record_at, shape_fields, word}
use Rattle.model.specs.Runs.{applied, guards_hold, guards_of, nodes_at, updates_of}
use Rattle.model.specs.Translate.{Tables}

-- ---- locations

-- "a byte that its kind doesn't allow (statements are below 64)", of a location's record: a fault is 0 to 3; "For a
-- fault, .. bytes 3 to 31 are zero", else they are those of a shape
abbrev pub location_keeps : List ℕ → Bool
location_keeps r =
    eqb (byte r 0) 0x4c && ltb (byte r 1) most_statements && leb (byte r 2) 3
    && cond (is_zero (byte r 2)) (shape_fields r) (all is_zero (drop 3 r))

-- ---- edges; ks and kt are the node counts of the source and of the target

-- "6 guard (0 none, 1 for = 1, 2 for ≥ 2), 7 its node (0 if none)", and the same of the second guard
abbrev pub guard_keeps : GuardCode → Bool
guard_keeps g = leb g.test 2 && (not (is_zero g.test) || is_zero g.node)

-- "bits 12 and 13 the constant (−1, 0 or 1) plus one, bits 14 and 15 zero"
abbrev pub constant_keeps : ℕ → Bool
constant_keeps u = ltb (u / 4096) 3

-- "a byte that its kind doesn't allow", of an edge's record: "bit 7 zero" in byte 1; "Entries for absent nodes are
-- zero, and so are all twelve on an edge to a fault", which has no nodes
abbrev pub bytes_keep : ℕ → List ℕ → Bool
bytes_keep kt r =
    eqb (byte r 0) 0x45 && ltb (byte r 1) 128 && all guard_keeps (guards_of r)
    && all constant_keeps (updates_of kt r) && all is_zero (drop (8 + 2 * kt) r)

-- "an end not below the location count"
abbrev pub ends_keep : ℕ → List ℕ → Bool
ends_keep n r = ltb (word r 2) n && ltb (word r 4) n

-- "a node that its shape lacks": a guard's node, and an old counter, which is a bit below 12, are nodes of the source
abbrev pub guard_there : ℕ → GuardCode → Bool
guard_there ks g = is_zero g.test || ltb g.node ks

abbrev pub counters_there : ℕ → ℕ → Bool
counters_there ks u = ltb (u % 4096) (2 ^ ks)

abbrev pub nodes_keep : ℕ → ℕ → List ℕ → Bool
nodes_keep ks kt r = all (guard_there ks) (guards_of r) && all (counters_there ks) (updates_of kt r)

-- an update adds old counter i
abbrev pub adds_old : ℕ → ℕ → Bool
adds_old i u = eqb (u / 2 ^ i % 2) 1

-- "an old counter added in two updates"
abbrev pub added_once : List ℕ → Bool
added_once us = all (λ i. leb (count (adds_old i) us) 1) (numbers 0 most_nodes)

-- "a present node's update that could give less than 1 from counters of 1 or more under its guards": there are such
-- counters of k nodes. What `applied` cuts off where subtraction stops at 0 is less than 1 as well.
abbrev pub CouldFall : ℕ → List GuardCode → ℕ → Type 0
CouldFall k gs u = (cs : List ℕ) × (length cs ≡ k) × (all (leb 1) cs ≡ true) × (guards_hold cs gs ≡ true)
    × (applied cs u < 1)

-- It is computed from the least counters that can pass the guards: 2 at a node guarded by ≥ 2, else 1. Where guards
-- exclude each other these do not pass, and no others do (`CouldFallIs`).
abbrev pub asks_more : List GuardCode → ℕ → Bool
asks_more gs i = any (λ (g : GuardCode). eqb g.test 2 && eqb g.node i) gs

abbrev pub least_counters : ℕ → List GuardCode → List ℕ
least_counters k gs = map (λ i. cond (asks_more gs i) 2 1) (numbers 0 k)

abbrev pub could_fall : ℕ → List GuardCode → ℕ → Bool
could_fall k gs u = let cs = least_counters k gs in guards_hold cs gs && ltb (applied cs u) 1

-- an edge's record among n locations: its bytes, its ends, its nodes, and its updates, of which one for each node of
-- the target is present
abbrev pub edge_keeps : ℕ → ℕ → ℕ → List ℕ → Bool
edge_keeps n ks kt r =
    ends_keep n r && bytes_keep kt r && nodes_keep ks kt r && added_once (updates_of kt r)
    && all (λ u. not (could_fall ks (guards_of r) u)) (updates_of kt r)

-- ---- the tables

abbrev pub edge_keeps_in : Tables → List ℕ → Bool
edge_keeps_in t r = edge_keeps t.loc_count (nodes_at t (word r 2)) (nodes_at t (word r 4)) r

-- "A table breaks the layout when its count exceeds its places, or a record in use .."; records past the counts are
-- not looked at
unfoldable pub keeps_layout : Tables → Bool
keeps_layout t =
    counts_in_places t
    && all (λ n. location_keeps (record_at t.loc_bytes n)) (numbers 0 t.loc_count)
    && all (λ n. edge_keeps_in t (record_at t.edge_bytes n)) (numbers 0 t.edge_count)

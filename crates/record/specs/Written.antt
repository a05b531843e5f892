-- The bytes that are written for a fault, a location and an edge, and a table with a record put at its place.
-- Assumes nothing.
use Rattle.std.specs.Prelude.{ℕ, ◌+◌, ◌*◌, ◌<◌, ◌≤◌, List, ◌∷◌, ◌++◌, map, length, take, drop, replicate}
use Rattle.model.specs.Base.{joined, most_nodes, record_size}
use Rattle.model.specs.Records.{branch_byte, filled, two_bytes}
use Rattle.model.specs.Structs.{code_in}
use Rattle.model.specs.declared.EdgeFields.{EdgeFields}
use Rattle.model.specs.declared.Guard.{Guard}

abbrev pub fault_bytes : ℕ → ℕ → List ℕ
fault_bytes s f = 0x4c ∷ s ∷ f ∷ replicate 29 0

-- an L record: the tag, a statement and a fault, and behind them what a record r of the shape has there
abbrev pub location_bytes : ℕ → ℕ → List ℕ → List ℕ
location_bytes s f r = 0x4c ∷ s ∷ f ∷ drop 3 r

-- the first k updates, two bytes each
abbrev pub update_bytes : List ℕ → ℕ → List ℕ
update_bytes us k = joined (map two_bytes (take k us))

-- an E record: its fields e and its updates us
abbrev pub edge_bytes : EdgeFields → List ℕ → List ℕ
edge_bytes e us =
    let updates = filled 24 (update_bytes us e.nodes) in
    let g = code_in e.guards.first in
    0x45 ∷ branch_byte e.branch (code_in e.guards.second)
    ∷ (two_bytes e.from ++ (two_bytes e.to ++ g.test ∷ g.node ∷ updates))

-- a branch and a second guard fit one byte
abbrev pub BranchFits : ℕ → Guard → Type 0
BranchFits b g = (b ≤ 1) × (g.test ≤ 3) × (g.node.0 ≤ 15)

-- the fields fit an E record, and there is an update for each new node
abbrev pub EdgeFits : EdgeFields → List ℕ → Type 0
EdgeFits e us = (e.from < 65536) × (e.to < 65536) × (e.nodes ≤ most_nodes) × (e.nodes ≤ length us)
    × BranchFits e.branch e.guards.second

-- the table t with the record r at place n
abbrev pub placed : List ℕ → ℕ → List ℕ → List ℕ
placed t n r = take (record_size * n) t ++ (r ++ drop (record_size * n + record_size) t)

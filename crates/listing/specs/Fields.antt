-- The fields of an edge's record. Assumes nothing.
use Rattle.std.specs.Prelude.{ℕ}
use Rattle.model.specs.declared.EdgeFields.{EdgeFields}
use Rattle.model.specs.declared.EdgeMade.{EdgeMade}

-- an edge from location i to location j
abbrev pub fields_to : EdgeMade → ℕ → ℕ → EdgeFields
fields_to m i j = record { branch = m.branch; from = i; to = j; guards = m.guards; nodes = m.nodes }

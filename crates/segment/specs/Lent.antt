-- The tables of a cut as the code lends them. Assumes nothing.
use Rattle.std.specs.Prelude.{◌≡◌}
use Rattle.segment.specs.Cut.{CutTables, cut_tables}
use Rattle.segment.specs.declared.Tables.{Tables}

abbrev pub tables_in : Tables → CutTables
tables_in t = cut_tables t.node.now t.last.now t.size.now

-- they are the same places, whatever is in them
abbrev pub SameTables : Tables → Tables → Type 0
SameTables t u = (u.node.ghost_name ≡ t.node.ghost_name) × (u.last.ghost_name ≡ t.last.ghost_name)
    × (u.size.ghost_name ≡ t.size.ghost_name)

-- 02, job 1, "One record out of two tables": the part of whichever table was meant, for all tables, counts, marks and
-- numbers. Assumes nothing.
use Rattle.std.specs.Prelude.{ℕ, zero, suc, ◌+◌, ◌*◌, Bool, true, false, ◌&&◌, List, leb, ltb, length, take, drop}
use Rattle.model.specs.Base.{most_edges, most_locations, record_size}
use Rattle.model.specs.Records.{Verdict, is_accepted, is_refused, refusal}
use Rattle.model.specs.Translate.{Tables, places}

-- "which table is meant (0 locations, 1 edges)": of two things, the one that the mark means. A mark above 1 is refused.
abbrev pub meant : {A : Type 0} → ℕ → A → A → A
meant zero of_locations of_edges = of_locations
meant (suc m) of_locations of_edges = of_edges

abbrev pub meant_table : Tables → ℕ → List ℕ
meant_table t mark = meant mark t.loc_bytes t.edge_bytes

abbrev pub meant_count : Tables → ℕ → ℕ
meant_count t mark = meant mark t.loc_count t.edge_count

-- a count does not exceed "its table's places (here and later its length ÷ 32 rounded down, at most 1,024 or 2,048)"
abbrev pub in_places : ℕ → ℕ → ℕ → Bool
in_places most n bytes = leb n (places most bytes)

-- neither count exceeds its table's places
abbrev pub counts_in_places : Tables → Bool
counts_in_places t =
    in_places most_locations t.loc_count (length t.loc_bytes)
    && in_places most_edges t.edge_count (length t.edge_bytes)

-- 17 "when the mark for the table is above 1, a count exceeds its table's places .. or the number isn't below the meant
-- table's count": none of these is so. Both counts are looked at, whichever table is meant.
abbrev pub answerable : Tables → ℕ → ℕ → Bool
answerable t mark n = leb mark 1 && counts_in_places t && ltb n (meant_count t mark)

-- how the call ended, where the part begins in the table that was meant, and how many bytes it has
pub record Part : Type 0 where
  pub verdict : Verdict
  pub begins : ℕ
  pub size : ℕ

-- "hands back the 32 bytes as a part of whichever table was meant"; "Refused: 17 ..; the part is then empty"
unfoldable pub record_part : Tables → ℕ → ℕ → Part
record_part t mark n =
    elim (answerable t mark n) [
      | true ↦ record { verdict = is_accepted; begins = record_size * n; size = record_size }
      | false ↦ record { verdict = is_refused (refusal 17 0); begins = 0; size = 0 }
    ]

-- "as a part of whichever table was meant, not as a copy": what lies n bytes on from p, a place in memory, which is a
-- block and an offset
abbrev pub onward : ℕ × ℕ → ℕ → ℕ × ℕ
onward p n = (p.0, n + p.1)

-- the bytes that stand there
abbrev pub part_bytes : Tables → ℕ → ℕ → List ℕ
part_bytes t mark n = let p = record_part t mark n in take p.size (drop p.begins (meant_table t mark))

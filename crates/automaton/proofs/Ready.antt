-- The listing of the starting shapes, which the tables hold once they are entered: ready for the exploration.
use Prim.Native.Nat.{ℕ, ◌≤◌}
use native.Mathlib.Omega.{arith}
use mathlib.Core.Path.{◌≡◌, refl, sym, subst, ◌∙◌}
use mathlib.Core.List.{List, map}
use lib.ListN.{length, length-map, replicate}
use Rattle.model.specs.Base.{most_locations}
use Rattle.model.specs.Edges.{Loc}
use Rattle.model.specs.Records.{loc_record}
use Rattle.model.specs.Translate.{check, good, places, table_of}
use Rattle.model.proofs.listings.Exact.{starts_distinct}
use Rattle.model.proofs.records.Bytes.{records_wide, table_empty}
use Rattle.model.proofs.records.ReadBack.{record_length}
use Rattle.model.proofs.records.Checked.{check_good}
use Rattle.model.specs.Notions.{In}
use Rattle.input.specs.Input.{routine_in}
use Rattle.input.specs.Accepted.{Accepted}
use Rattle.input.proofs.Facts.{accepted_wide, stmt_at_lem, stmts_length}
use Rattle.index.specs.Index.{EntersAll}
use Rattle.listing.specs.Grow.{Holds}
use Rattle.explore.specs.Explore.{StatementsOk, ExploreReady}
use Rattle.location_edges.specs.Added.{LocsOk, LocOk}
use Rattle.starts.specs.Starts.{start_locs}
use Rattle.starts.proofs.Starts.{count_is, start_shape, start_writable}
use Rattle.automaton.proofs.Outcomes.{start_listing}
use Rattle.model.specs.declared.Counts.{Counts}

-- m locations and no edges
abbrev pub start_counts : ℕ → Counts
start_counts m = record { locations = m; edges = 0 }

module _ (s : List ℕ) (n m : ℕ) (g : check s ≡ good (routine_in n s)) (A : Accepted s n m) where
  start_fine : (l : Loc) → In l (start_locs n s) → LocOk n l
  start_fine l i =
      let y = start_shape s n m g A l i in
      subst (LocOk n) (sym y.1) (y.2, A.some_statements)

  -- the listing of the starting shapes, before the first edge
  pub starts_held : (ls es ix : List ℕ) → ls ≡ table_of (length ls) (map loc_record (start_locs n s))
      → es ≡ replicate (length es) 0 → m ≤ places most_locations (length ls) → EntersAll ls m ix
      → Holds (start_listing (routine_in n s)) ls es ix (start_counts m)
  starts_held ls es ix p q room I = record {
    locs = p;
    edges = q ∙ sym (table_empty (length es));
    loc_number = sym (count_is s n m g A);
    edge_number = refl;
    locs_fit = omega (arith, count_is s n m g A);
    edges_fit = omega arith;
    indexed = I (map loc_record (start_locs n s)) p
        (records_wide loc_record (start_locs n s) (λ l i. record_length l (start_writable s n m g A l i)))
        (sym (length-map (start_locs n s) loc_record ∙ count_is s n m g A));
    distinct = starts_distinct (routine_in n s).starts (check_good s (routine_in n s) g).distinct;
    good_locs = start_writable s n m g A;
    good_links = λ k i. absurd i;
  }

  pub starts_fine : LocsOk n (start_listing (routine_in n s))
  starts_fine = start_fine

  pub statements_ok : StatementsOk s n (routine_in n s).stmts
  statements_ok = record {
    number = stmts_length s n m A.whole;
    room = omega (arith, A.whole);
    each = λ i h. record {
      wide = accepted_wide s n m A i (omega arith);
      is_statement = A.is_statement i h;
      accepted = A.no_refusal i h;
      few = A.few_statements;
    };
    read = stmt_at_lem s n m A.whole;
  }

  pub explore_ready : (ls es ix : List ℕ) → ls ≡ table_of (length ls) (map loc_record (start_locs n s))
      → es ≡ replicate (length es) 0 → m ≤ places most_locations (length ls) → EntersAll ls m ix
      → ExploreReady s n ls es ix (start_counts m)
  explore_ready ls es ix p q room I = record {
    statements = (routine_in n s).stmts;
    readable = statements_ok;
    list = start_listing (routine_in n s);
    held = starts_held ls es ix p q room I;
    fine = starts_fine;
  }

-- The tables of an accepted translation keep the layout.
use Prim.Native.Nat.{◌<◌, ℕ}
use mathlib.Core.Path.{◌∙◌, ◌≡◌, ap, ap₂, subst, sym}
use mathlib.Core.Bool.{◌&&◌, true}
use mathlib.Core.List.{List}
use native.Mathlib.Omega.{arith}
use lib.ListN.{length}
use borrow.Author.Tests.{le-leb}
use Rattle.model.specs.Base.{all, numbers}
use Rattle.model.specs.Edges.{failed}
use Rattle.model.specs.Layout.{edge_keeps, edge_keeps_in, keeps_layout, location_keeps}
use Rattle.model.specs.Listings.{Exact, link_at, loc_at}
use Rattle.model.specs.Machine.{leak}
use Rattle.model.specs.Notions.{nodes_of}
use Rattle.model.specs.Part.{counts_in_places, in_places}
use Rattle.model.specs.Records.{is_accepted, record_at, word}
use Rattle.model.specs.Runs.{nodes_at}
use Rattle.model.specs.Translate.{Listing, Routine, Tables, check, good, link_record, places, tables_of, translate}
use Rattle.model.proofs.listings.Moves.{edge_record_lem, from_few, good_writable, link_facts, link_small, loc_good, loc_nodes, loc_record_lem}
use Rattle.model.proofs.listings.Once.{good_once}
use Rattle.model.proofs.listings.Outcomes.{accepted_exact, fitting, is_accepted_lem}
use Rattle.model.proofs.listings.Reached.{edge_positive, reached_stmt}
use Rattle.model.proofs.lists.Lists.{get_or_in_lem}
use Rattle.model.proofs.lists.Logic.{and_both}
use Rattle.model.proofs.lists.Numbers.{all_numbers}
use Rattle.model.proofs.records.Checked.{check_good}
use Rattle.model.proofs.records.EdgeBack.{edge_from, edge_to}
use Rattle.model.proofs.records.Keeps.{edge_keeps_lem, location_keeps_lem}
use Rattle.model.proofs.records.Refusals.{accepted_input, good_few}

-- the counts do not exceed the places
counts_keep : (s : List ℕ) (a b : ℕ) → counts_in_places (translate s a b).tables ≡ true
counts_keep s a b =
    let F = fitting s a b in
    let T = (translate s a b).tables in
    and_both (in_places 1024 T.loc_count (length T.loc_bytes)) (in_places 2048 T.edge_count (length T.edge_bytes))
    (ap (in_places 1024 T.loc_count) F.loc_length ∙ le-leb T.loc_count (places 1024 a) F.loc_most)
    (ap (in_places 2048 T.edge_count) F.edge_length ∙ le-leb T.edge_count (places 2048 b) F.edge_most)

-- the records of a listing
module _ (s : List ℕ) (r : Routine) (c : check s ≡ good r) (t : Listing) (X : Exact r t) (a b : ℕ) where
  abbrev T : Tables
  T = tables_of a b t

  location_kept : (i : ℕ) → i < length t.locs → location_keeps (record_at T.loc_bytes i) ≡ true
  location_kept i h =
      let G = check_good s r c in
      let I = accepted_input s r c in
      let l = loc_at t.locs i in
      ap location_keeps (loc_record_lem r t X G a b i h)
      ∙ location_keeps_lem l (good_writable l (loc_good r t X G a b i h))
      (omega (arith, good_few s r I, reached_stmt s r I l (X.sound l (get_or_in_lem t.locs (failed 0 leak) i h))))

  edge_kept : (n : ℕ) → n < length t.links → edge_keeps_in T (record_at T.edge_bytes n) ≡ true
  edge_kept n h =
      let G = check_good s r c in
      let k = link_at t n in
      let L = link_facts r t X G a b n h in
      let S = (link_small r t X G a b k L).0 in
      let l = loc_at t.locs k.from in
      let g = loc_good r t X G a b k.from L.from_below in
      let R = link_record k in
      let m = length t.locs in
      let source : nodes_at T (word R 2) ≡ nodes_of l =
      ap (nodes_at T) (edge_from k.from k.dest k.edge) ∙ loc_nodes r t X G a b k.from L.from_below in
      let target : nodes_at T (word R 4) ≡ length k.edge.updates =
      ap (nodes_at T) (edge_to k.from k.dest k.edge) ∙ loc_nodes r t X G a b k.dest L.dest_below
      ∙ ap nodes_of L.dest_is ∙ sym S.number in
      ap (edge_keeps_in T) (edge_record_lem r t X G a b n h)
      ∙ ap₂ (λ x y. edge_keeps m x y R) source target
      ∙ edge_keeps_lem k.from k.dest (nodes_of l) k.edge (from_few r t X G a b n h) S m L.from_below
      L.dest_below (good_once r.stmts l g k.edge L.edge_of)
      (edge_positive r.stmts l g k.edge L.edge_of)

  listing_keeps : counts_in_places T ≡ true → keeps_layout T ≡ true
  unfolding keeps_layout
  listing_keeps h =
      let locs = all (λ n. location_keeps (record_at T.loc_bytes n)) (numbers 0 (length t.locs)) in
      let edges = all (λ n. edge_keeps_in T (record_at T.edge_bytes n)) (numbers 0 (length t.links)) in
      and_both (counts_in_places T && locs) edges
      (and_both (counts_in_places T) locs h
      (all_numbers (λ n. location_keeps (record_at T.loc_bytes n)) (length t.locs) location_kept))
      (all_numbers (λ n. edge_keeps_in T (record_at T.edge_bytes n)) (length t.links) edge_kept)

-- The tables of an accepted translation keep the layout.
pub translation_keeps : (s : List ℕ) (a b : ℕ) → (translate s a b).verdict ≡ is_accepted
    → keeps_layout (translate s a b).tables ≡ true
translation_keeps s a b z =
    let A = is_accepted_lem s a b z in
    let E = accepted_exact s a b A.0 A.2 z in
    subst (λ T. keeps_layout T ≡ true) (sym E.2) (listing_keeps s A.0 A.2 E.0 E.1 a b
    (subst (λ T. counts_in_places T ≡ true) E.2 (counts_keep s a b)))

-- `add_edge` meets its contract: the number that was found, the two tests, and the records that were written.
use Prim.Native.Nat.{◌<◌}
use mathlib.Core.Path.{◌∙◌, ap}
use native.Mathlib.Omega.{arith}
use lib.ListN.{length, length-map}
use Rattle.model.specs.Base.{most_edges, most_locations}
use Rattle.model.specs.Records.{loc_record}
use Rattle.model.specs.Translate.{places}
use Rattle.record.specs.Written.{edge_bytes, placed}
use Rattle.listing.proofs.Kept.{place_within}
use Rattle.listing.proofs.Held.{branch_fits, full_edges, full_locations, index_of_lem, one_more, target_tag}
use Rattle.listing.proofs.Listing.add_edge.Goals as goal
use Rattle.listing.proofs.Listing.add_edge.Goals.{Else-ce-ne, Else-cl-j}

pub number_of-j-requires : goal.number_of-j-requires
number_of-j-requires c =
    let H = c.requires.held in
    record {
      records = _;
      index_of = index_of_lem _ _ _ _ _ H;
      count = H.loc_number ∙ omega (arith, length-map c.requires.list.locs loc_record);
      few = omega (arith, H.loc_number, H.locs_fit);
      hash = c.hash-h.ensures.0;
      whole = c.requires.wide;
    }

pub returns-then-cl-j-clause-grown : goal.returns-then-cl-j-clause-grown
returns-then-cl-j-clause-grown c t e H W B =
    let f = c.number_of-j in
    full_locations t c.args.from e _ _ _ _ _ _ _ H W B f.result f.ensures
    (omega (arith, c.if-cl-j.true, c.places-cl.ensures))

-- the number that was found is a place
within : (c : Else-cl-j) → c.number_of-j.result < places most_locations (length c.args.self.now.locations.now)
within c = omega (arith, c.if-cl-j.false, c.places-cl.ensures)

pub returns-then-ce-ne-clause-grown : goal.returns-then-ce-ne-clause-grown
returns-then-ce-ne-clause-grown c t e H W B =
    let f = c.number_of-j in
    full_edges t c.args.from e _ _ _ _ _ _ _ H W B f.result f.ensures
    (within (goal.at.returns-then-ce-ne-clause-grown c).Else-cl-j)
    (omega (arith, c.if-ce-ne.true, c.places-ce.ensures))

-- there is a place for the edge
room : (c : Else-ce-ne) → c.args.self.now.counts.edges < places most_edges (length c.args.self.now.edges.now)
room c = omega (arith, c.if-ce-ne.false, c.places-ce.ensures)

pub keep_location-requires : goal.keep_location-requires
keep_location-requires c =
    let w = within (goal.at.keep_location-requires c).Else-cl-j in
    record {
      place = place_within most_locations (length c.args.self.now.locations.now) c.number_of-j.result w;
      low = omega (arith, w);
      size = c.requires.held.indexed.size;
      hashed = c.hash-h.ensures.1;
      wide = c.requires.wide;
      is_location = target_tag c.requires.bytes;
    }

pub put_edge-requires : goal.put_edge-requires
put_edge-requires c =
    let p = c.requires in
    let r = room (goal.at.put_edge-requires c).Else-ce-ne in
    rw (c.fields_to.ensures, c.keep_location.ensures.kept.edges) (
      place_within most_edges (length c.args.self.now.edges.now) c.args.self.now.counts.edges r,
      (
        p.low,
        omega (arith, within (goal.at.put_edge-requires c).Else-cl-j),
        p.bytes.few,
        p.room,
        branch_fits p.bytes p.branch p.guarded,
      ),
    )

pub returns-clause-grown : goal.returns-clause-grown
returns-clause-grown c t e H W B =
    let a = c.args in
    let f = c.number_of-j in
    let k = c.keep_location in
    let kept = k.ensures.kept in
    let g = c.fields_to in
    let ne = a.self.now.counts.edges in
    one_more t a.from e _ _ _ _ _ _ _ H W B f.result f.ensures (within (goal.at.returns-clause-grown c).Else-cl-j)
    (room (goal.at.returns-clause-grown c).Else-ce-ne) _ _ _ k.new.self.counts.locations
    kept.count kept.locations g.result g.ensures
    (c.put_edge.ensures ∙ ap (λ l. placed l ne (edge_bytes g.result a.updates.now)) kept.edges) c.hash-h.result
    c.hash-h.ensures.0 kept.index

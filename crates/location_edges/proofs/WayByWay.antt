-- The edges of a location added way by way: what is left of them gives the whole, and at the end nothing is left.
use Prim.Native.Nat.{ℕ, ◌+◌, ◌≤◌, ◌<◌}
use mathlib.Core.Path.{◌≡◌, refl, ap, ◌∙◌}
use mathlib.Core.List.{List, ◌∷◌}
use lib.ListN.{length}
use Rattle.model.specs.Base.{most_edges, most_locations}
use Rattle.model.specs.Heap.{Heap}
use Rattle.model.specs.Edges.{Edge, edges_at}
use Rattle.std.specs.Prelude.{Ok, Err}
use Rattle.model.specs.Answers.{refusal_in}
use Rattle.model.specs.Codes.{refusal_for}
use Rattle.model.specs.declared.codes.Reason.{Reason}
use Rattle.model.specs.Structs.{stmt_in}
use Rattle.model.specs.Translate.{Listing, add_edges, full, places}
use Rattle.model.specs.declared.Counts.{Counts}
use Rattle.model.specs.declared.Decoded.{Decoded}
use Rattle.way.specs.Way.{IsWay, view_in}
use Rattle.way.specs.declared.Looked.{Looked}
use Rattle.way.specs.declared.Way.{Way}
use Rattle.listing.specs.Grow.{Holds}
use Rattle.location_edges.specs.Added.{LocsOk}
use Rattle.location_edges.specs.LocationEdges.{AtShape, Counted, EdgesAdded, ShapeGiven, WayAdded, WayGiven}
use Rattle.location_edges.proofs.Added.{add_full, add_step, more, more_fine}
use Rattle.location_edges.proofs.EdgesByWay.{edges_all, edges_none, edges_from, next_way}

-- The listing stands in the tables ls and es, with its index; adding all edges to t₀ gives the same as adding
-- those left to it.
pub record Left (n i cl ce : ℕ) (edges left : List Edge) (t₀ : Listing) (ls es ix : List ℕ) (c : Counts)
    : Type 0 where
  pub list : Listing
  pub held : Holds list ls es ix c
  pub fine : LocsOk n t₀ → LocsOk n list
  pub rest : add_edges cl ce i edges t₀ ≡ add_edges cl ce i left list

module _ (l : List ℕ) (d : Decoded) (ls es ix : List ℕ) (c : Counts) (i : ℕ) where
  abbrev cl : ℕ
  cl = places most_locations (length ls)

  abbrev ce : ℕ
  ce = places most_edges (length es)

  -- whichever location was given and whichever listing was held at first, in ls and es: those from way j on are left
  abbrev pub Adds : List ℕ → List ℕ → List ℕ → Counts → ℕ → Type 0
  Adds ls' es' ix' c' j =
      (n s : ℕ) (h : Heap) (t : Listing) → AtShape l d n s h → Holds t ls es ix c
      → Left n i cl ce (edges_at s (stmt_in d) h) (edges_from s d h j) t ls' es' ix' c'

  pub adds_start : Adds ls es ix c 0
  adds_start n s h t A H =
      record { list = t; held = H; fine = λ F. F; rest = ap (λ x. add_edges cl ce i x t) (edges_all s d h) }

  module _ (v : Looked) (count : ℕ) (ways : (n s : ℕ) (h : Heap) → AtShape l d n s h → Counted d h v count)
      (ls' es' ix' : List ℕ) (c' : Counts) (j : ℕ) (X : Adds ls' es' ix' c' j) where
    -- no way is left
    pub adds_end : count ≤ j → EdgesAdded l d ls es ix c i ls' es' ix' c' (Ok tt)
    adds_end hi n s h t A H O =
        let L = X n s h t A H in
        rw (L.rest, edges_none s d h v count (ways n s h A) j hi) (L.held, L.fine O)

    module _ (lt : j < count) (y : Way) (Y : IsWay (view_in v) j y) where
      -- what is given to way j
      pub way_given : ShapeGiven l d ls es ix c i → WayGiven l d y ls' es' ix' c' i
      way_given S =
          let A = S.here in
          let N = next_way A v count (ways S.statements S.number S.shape A) j lt y Y in
          let L = X S.statements S.number S.shape S.list A S.held in
          record {
            number = S.number;
            shape = S.shape;
            edge = N.edge;
            is_edge = N.is_edge;
            list = L.list;
            held = L.held;
            low = S.low;
          }

      module _ (ls'' es'' ix'' : List ℕ) (c'' : Counts) (p : length ls'' ≡ length ls) (q : length es'' ≡ length es)
        where
          -- no place for the edge of way j
          pub adds_full : (r : Reason) → WayAdded l d y ls' es' ix' c' i ls'' es'' ix'' c'' (Err r)
              → EdgesAdded l d ls es ix c i ls'' es'' ix'' c'' (Err r)
          adds_full r F n s h t A H O =
              let L = X n s h t A H in
              let N = next_way A v count (ways n s h A) j lt y Y in
              let E = N.edge in
              let u = L.list in
              let rest = edges_from s d h (j + 1) in
              let G = F s h E u N.is_edge L.held in
              let none : add_edges cl ce i (E ∷ rest) u ≡ full (refusal_in (refusal_for r i)) =
              rw (p, q) at (add_full u i E rest ls'' es'' ix'' c'' r G) in
              rw (L.rest ∙ ap (λ z. add_edges cl ce i z u) N.rest ∙ none) refl

          -- the next way
          pub adds_next : WayAdded l d y ls' es' ix' c' i ls'' es'' ix'' c'' (Ok tt) → Adds ls'' es'' ix'' c'' (j + 1)
          adds_next F n s h t A H =
              let L = X n s h t A H in
              let N = next_way A v count (ways n s h A) j lt y Y in
              let E = N.edge in
              let u = L.list in
              let rest = edges_from s d h (j + 1) in
              let G = F s h E u N.is_edge L.held in
              let step : add_edges cl ce i (E ∷ rest) u ≡ add_edges cl ce i rest (more i E u) =
              rw (p, q) at (add_step u i E rest ls'' es'' ix'' c'' G) in
              record {
                list = more i E u;
                held = G.2;
                fine = λ O. more_fine n i E u (L.fine O) N.fine;
                rest = L.rest ∙ ap (λ z. add_edges cl ce i z u) N.rest ∙ step;
              }

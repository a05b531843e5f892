-- One edge more in a listing: the next of the edges to be added, and the locations stay good.
use Prim.Native.Nat.{ℕ}
use mathlib.Core.Path.{◌≡◌, subst, sym}
use mathlib.Core.List.{List, [], ◌∷◌}
use lib.Dec.{ltb}
use lib.ListN.{length}
use Rattle.model.specs.Base.{most_edges, most_locations, place_of}
use Rattle.model.specs.Edges.{Edge, same_loc}
use Rattle.std.specs.Prelude.{Ok, Err}
use Rattle.model.specs.Answers.{refusal_in}
use Rattle.model.specs.Codes.{refusal_for}
use Rattle.model.specs.declared.codes.Reason.{Reason}
use Rattle.model.specs.declared.codes.Reason.TheVariants.{EdgesFull, LocationsFull}
use Rattle.model.specs.Translate.{Listing, add_edges, full, grown, places}
use Rattle.model.proofs.lists.Lists.{in-append-cases, in_single}
use Rattle.model.proofs.lists.Logic.{bool_case}
use Rattle.model.specs.declared.Counts.{Counts}
use Rattle.listing.specs.Grow.{GrownTo}
use Rattle.location_edges.specs.Added.{LocOk, LocsOk}

-- the listing with the edge e of location i
abbrev pub more : ℕ → Edge → Listing → Listing
more i e t = grown i (place_of (same_loc e.to) t.locs) e t

-- the locations stay good where the target is
pub more_fine : (n i : ℕ) (e : Edge) (t : Listing) → LocsOk n t → LocOk n e.to → LocsOk n (more i e t)
more_fine n i e t F k l q = bool_case (ltb (place_of (same_loc e.to) t.locs) (length t.locs))
    (λ b. F l (rw b at q))
    (λ b. in-append-cases l t.locs (e.to ∷ []) (rw b at q) (F l)
    (λ w. subst (LocOk n) (sym (in_single l e.to w)) k))

module _ (t : Listing) (i : ℕ) (e : Edge) (rest : List Edge) (ls es ix : List ℕ) where
  abbrev cl : ℕ
  cl = places most_locations (length ls)

  abbrev ce : ℕ
  ce = places most_edges (length es)

  -- the first of the edges is added
  pub add_step : (c : Counts) → GrownTo t i e ls es ix c (Ok tt)
      → add_edges cl ce i (e ∷ rest) t ≡ add_edges cl ce i rest (more i e t)
  add_step c G = rw (G.0, add_edges) (rw (G.1, add_edges))

  -- no place for the first of the edges
  pub add_full : (c : Counts) (r : Reason) → GrownTo t i e ls es ix c (Err r)
      → add_edges cl ce i (e ∷ rest) t ≡ full (refusal_in (refusal_for r i))
  add_full c LocationsFull G = rw (G, add_edges)
  add_full c EdgesFull G = rw (G.0, add_edges) (rw (G.1, add_edges))
  add_full c _ G = absurd G

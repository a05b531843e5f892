-- Demand 3, for any accepted translation, read from the bytes of its tables.
use Prim.Native.Nat.{◌<◌, suc, zero, ℕ}
use mathlib.Core.Path.{◌∙◌, ◌≡◌, ap, subst, sym}
use mathlib.Core.Option.{some}
use mathlib.Core.List.{List, [], ◌∷◌, head-eq_of_cons-eq, map, tail-eq_of_cons-eq}
use native.Mathlib.Omega.{arith}
use lib.ListN.{get_or, get_elem?, length, take}
use Rattle.model.specs.Edges.{Loc, at, failed}
use Rattle.model.specs.Heap.{Heap}
use Rattle.model.specs.Machine.{leak}
use Rattle.model.specs.Runs.{Config, Demand3, Matching}
use Rattle.model.specs.Translate.{Outcome, places}
use Rattle.model.proofs.records.Checked.{check_good}
use Rattle.model.proofs.listings.Exact.{listing_exact}
use Rattle.model.proofs.expansion.Facts.{heap_closed, heap_kept}
use Rattle.model.proofs.ways.Leave.{begin}
use Rattle.model.proofs.lists.Lists.{some_inj, some-none}
use Rattle.model.proofs.listings.Outcomes.{accepted}
use Rattle.model.proofs.shapes.Same.{elem_none}
use Rattle.model.proofs.runs.Whole.{matching}

-- the location of a starting shape
start_at : (hs : List Heap) (ls : List Loc) → take (length hs) ls ≡ map (at 0) hs → (i : ℕ) (h : Heap) → get_elem? hs i
    ≡ some h
    → (get_or ls i (failed 0 leak) ≡ at 0 h) × (i < length ls)
start_at [] ls e i h g = some-none (sym (elem_none [] i (omega arith)) ∙ g)
start_at (x ∷ hs) [] e i h g = absurd (let z : ◌≡◌ {A = ℕ} 0 1 = cc in omega arith)
start_at (x ∷ hs) (l ∷ ls) e zero h g = (head-eq_of_cons-eq e ∙ ap (at 0) (some_inj g), omega arith)
start_at (x ∷ hs) (l ∷ ls) e (suc i) h g = let k = start_at hs ls (tail-eq_of_cons-eq e) i h g in (k.0, omega arith)

-- demand 3
pub demand_three : Demand3
unfolding Demand3
demand_three s a b z r e i sh h cs g d =
    let A = accepted s a b r e z in
    let t = A.0 in
    let G = check_good s r e in
    let X = listing_exact r (places 1024 a) (places 2048 b) t G.distinct A.1 in
    let w = start_at r.starts t.locs X.starts i sh g in
    let q = begin 0 h in
    let c : Config = record { loc = i; values = cs } in
    subst (λ (o : Outcome). Matching r.stmts o.tables q c) (sym A.2)
    (matching r t X G a b q c (
      (
        w.0 ∙ ap (at 0) (sym d.shape_is),
        sym d.counters_are,
        heap_closed h d.is_heap,
        heap_kept h d.is_heap,
      ),
      w.1,
    ))

-- The promises about tests and relinks, which 02 amends and adds; drops have a page of their own. Each is a type; its
-- proof under it cites a law.
use Prim.Native.Nat.{◌≤◌, ℕ}
use mathlib.Core.Path.{◌∙◌, ◌≡◌, ap, refl, sym}
use mathlib.Core.Bool.{false, true}
use mathlib.Core.Logic.{◌↔◌, ◌⊎◌, inl, inr}
use mathlib.Core.List.{List, [], ◌∷◌, map}
use native.Mathlib.Omega.{arith}
use lib.ListN.{get_or, length}
use Rattle.model.specs.Edges.{Edge, at, edges_at, failed, more_at, one_at}
use Rattle.model.specs.Heap.{Heap, IsHeap, cell, kept, next, null, ptr, undef}
use Rattle.model.specs.Machine.{Entry, Fault, Source, Stmt, at_undef, faulted, from, is_null, kind, leak, nil, put_slot, relink, same, step, tests, value_of, went}
use Rattle.model.specs.Notions.{Canon, LooksBad, worth}
use Rattle.model.specs.Shape.{counters, shape}
use Rattle.model.proofs.expansion.Facts.{heap_closed, heap_kept}
use Rattle.model.proofs.ways.RelinkEdges.{fault_edge_lem, long_leaks, relink_faults, relink_goes, relink_same, same_counters, same_edge, three_edges}
use Rattle.model.proofs.ways.Tests.{faults_test, test_edge, test_false, test_faults, test_true}

-- ==== tests: 02, job 2

-- "a test that looks at an undefined pointer, in op 8 or 9, is fault 2, .. even if both are the same": exactly then
abbrev pub TestFaults : Type 0
TestFaults = (st : Stmt) (e : Entry) (h : Heap) (u w : ℕ)
    → (st.op ≡ is_null u → (step st e h ≡ faulted at_undef) ↔ (ptr h u ≡ undef))
    × (st.op ≡ same u w → (step st e h ≡ faulted at_undef) ↔ ((ptr h u ≡ undef) ⊎ (ptr h w ≡ undef)))

pub tests_fault : TestFaults
tests_fault st e h u w = (
  λ o. let k = ap kind o in (
    λ q. first (faults_test st u nil k e h q),
    λ q. test_faults st u nil k e h (inl q),
  ),
  λ o. let k = ap kind o in (faults_test st u (from w) k e h, test_faults st u (from w) k e h),
)
  where
    first : (ptr h u ≡ undef) ⊎ (null ≡ undef) → ptr h u ≡ undef
    first (inl q) = q
    first (inr q) = absurd (let z : ◌≡◌ {A = ℕ} 0 1 = cc in omega arith)

-- any other test is as before: branch 0 where the two values are the same, else branch 1, and the heap stays
abbrev pub TestGoes : Type 0
TestGoes = (st : Stmt) (e : Entry) (h : Heap) → IsHeap h → (u : ℕ) (s : Source) → kind st.op ≡ tests u s
    → (ptr h u ≡ undef → ⊥) → (value_of s h ≡ undef → ⊥)
    → (ptr h u ≡ value_of s h → step st e h ≡ went 0 st.first_target h)
    × ((ptr h u ≡ value_of s h → ⊥) → step st e h ≡ went 1 st.second_target h)

pub tests_go : TestGoes
tests_go st e h x u s k n m =
    (test_true st u s k e h n m x.is_kept, test_false st u s k e h n m x.is_kept)

-- "on branch 0": the one edge of a location whose test looks at an undefined pointer has branch 0 and no guard, and
-- leads to fault 2 of that statement
abbrev pub TestEdges : Type 0
TestEdges = (i : ℕ) (st : Stmt) (h : Heap) (u : ℕ) (s : Source) → kind st.op ≡ tests u s
    → (ptr h u ≡ undef) ⊎ (value_of s h ≡ undef)
    → edges_at i st h ≡ record { branch_no = 0; guards = []; to = failed i at_undef; updates = [] } ∷ []

pub tests_edge : TestEdges
tests_edge i st h u s k q = test_edge st u s k i h q

-- ==== relinks: 02, job 3

-- "Looking at w comes first, for null and for undefined, then u."
abbrev pub RelinkFaults : Type 0
RelinkFaults = (st : Stmt) (e : Entry) (h : Heap) (u w : ℕ) → st.op ≡ relink u w → (f : Fault) → LooksBad h u w f
    → step st e h ≡ faulted f

pub relinks_fault : RelinkFaults
relinks_fault st e h u w o = relink_faults st u w (ap kind o) e h

-- Then the finished effect, then the test for lost cells. "If u and w hold the same cell nothing changes"
abbrev pub RelinkGoes : Type 0
RelinkGoes = (st : Stmt) (e : Entry) (h : Heap) → IsHeap h → (u w c d : ℕ) → st.op ≡ relink u w → ptr h u ≡ cell c
    → ptr h w ≡ cell d
    → (kept (put_slot c (next h d) h) ≡ true → step st e h ≡ went 0 st.first_target (put_slot c (next h d) h))
    × (kept (put_slot c (next h d) h) ≡ false → step st e h ≡ faulted leak)
    × (c ≡ d → step st e h ≡ went 0 st.first_target h)

pub relinks_go : RelinkGoes
relinks_go st e h x u w c d o p q =
    let k = ap kind o in
    let cl = heap_closed h x in (
      relink_goes st u w k e h cl c d p q true,
      relink_goes st u w k e h cl c d p q false,
      λ z. relink_same st u w k e h cl x.is_kept c p (q ∙ ap cell (sym z)),
    )

-- where w or u is null or undefined, one edge, without a guard, to that fault
abbrev pub RelinkFaultEdge : Type 0
RelinkFaultEdge = (i : ℕ) (st : Stmt) (h : Heap) (u w : ℕ) → st.op ≡ relink u w → (f : Fault) → LooksBad h u w f
    → edges_at i st h ≡ record { branch_no = 0; guards = []; to = failed i f; updates = [] } ∷ []

pub relink_fault_edge : RelinkFaultEdge
relink_fault_edge i st h u w o = fault_edge_lem st u w (ap kind o) i h

-- "and the edge has no guard": at one node it leads to the same shape, and carries every counter
abbrev pub RelinkSameEdge : Type 0
RelinkSameEdge = (i : ℕ) (st : Stmt) (h : Heap) → Canon h → (u w n : ℕ) → st.op ≡ relink u w → ptr h u ≡ cell n
    → ptr h w ≡ cell n
    → (E : Edge) × (edges_at i st h ≡ E ∷ []) × (E.branch_no ≡ 0) × (E.guards ≡ []) × (E.to ≡ at st.first_target h)
    × ((cs : List ℕ) → length cs ≡ length h.slots → map (worth cs) E.updates ≡ cs)

pub relink_same_edge : RelinkSameEdge
relink_same_edge i st h C u w n o p q =
    let k = ap kind o in
    (_, same_edge st u w k i h C n p q, refl, refl, refl, same_counters st u w k i h C n p q)

-- "Otherwise there are three edges: u's counter = 1 and w's = 1; u's = 1 and w's ≥ 2; u's ≥ 2, which leaks."
abbrev pub RelinkEdges : Type 0
RelinkEdges = (i : ℕ) (st : Stmt) (h : Heap) → Canon h → (u w n m : ℕ) → st.op ≡ relink u w → ptr h u ≡ cell n
    → ptr h w ≡ cell m → (n ≡ m → ⊥)
    → (E F : Edge) × (edges_at i st h
    ≡ E ∷ F ∷ record { branch_no = 0; guards = more_at n ∷ []; to = failed i leak; updates = [] } ∷ [])
    × (E.branch_no ≡ 0) × (E.guards ≡ one_at n ∷ one_at m ∷ [])
    × (F.branch_no ≡ 0) × (F.guards ≡ one_at n ∷ more_at m ∷ [])

pub relink_edges : RelinkEdges
relink_edges i st h C u w n m o = three_edges st u w (ap kind o) i h C n m

-- and on every heap that such a shape describes, u's ≥ 2 leaks, whatever w's successor
abbrev pub RelinkLeaks : Type 0
RelinkLeaks = (st : Stmt) (e : Entry) (h : Heap) → IsHeap h → (u w n m : ℕ) → st.op ≡ relink u w
    → ptr (shape h) u ≡ cell n → ptr (shape h) w ≡ cell m → (n ≡ m → ⊥) → 2 ≤ get_or (counters h) n 1
    → step st e h ≡ faulted leak

pub relinks_leak : RelinkLeaks
relinks_leak st e h x u w n m o = long_leaks st u w (ap kind o) e h (heap_closed h x) (heap_kept h x) n m

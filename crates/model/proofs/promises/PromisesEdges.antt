-- The promises about the edges of a location: how many there are, in which order and with which guards. Those of a
-- relink and of a drop are in PromisesStatements and PromisesDrops. Each is a type; its proof under it cites a law.
use Prim.Native.Nat.{ℕ}
use mathlib.Core.Path.{◌≡◌}
use mathlib.Core.List.{[], ◌∷◌}
use Rattle.model.specs.Edges.{Edge, at, edges_at, more_at, one_at}
use Rattle.model.specs.Heap.{Heap, cell, ptr}
use Rattle.model.specs.Machine.{Stmt, choose, stop}
use Rattle.model.specs.Notions.{Canon, Other, Through}
use Rattle.model.proofs.ways.Numbers.{choose_edges, one_edge_lem, stop_edges, two_edges}

-- "Ops 3, 4, 5 and 7 on a pointer to a node give two edges: counter = 1, .. then counter ≥ 2"
abbrev pub TwoEdges : Type 0
TwoEdges = (i : ℕ) (st : Stmt) (h : Heap) → Canon h → (v n : ℕ) → Through st.op v → ptr h v ≡ cell n
    → (E F : Edge) × (edges_at i st h ≡ E ∷ F ∷ [])
    × (E.branch_no ≡ 0) × (E.guards ≡ one_at n ∷ []) × (F.branch_no ≡ 0) × (F.guards ≡ more_at n ∷ [])

pub through_node : TwoEdges
through_node = two_edges

-- "Every other statement gives one unguarded edge, except choose .. and stop", and by 02, job 3, a relink of two nodes
abbrev pub OneEdge : Type 0
OneEdge = (i : ℕ) (st : Stmt) (h : Heap) → Other st.op h
    → (E : Edge) × (edges_at i st h ≡ E ∷ []) × (E.guards ≡ [])

pub other_statement : OneEdge
other_statement = one_edge_lem

-- "choose (branch 0, then 1)": to either target, and the shape stays
abbrev pub ChooseEdges : Type 0
ChooseEdges = (i : ℕ) (st : Stmt) (h : Heap) → Canon h → st.op ≡ choose
    → (E F : Edge) × (edges_at i st h ≡ E ∷ F ∷ [])
    × ((E.branch_no ≡ 0) × (E.guards ≡ []) × (E.to ≡ at st.first_target h))
    × ((F.branch_no ≡ 1) × (F.guards ≡ []) × (F.to ≡ at st.second_target h))

pub at_choose : ChooseEdges
at_choose = choose_edges

-- "stop (none)"
abbrev pub StopEdges : Type 0
StopEdges = (i : ℕ) (st : Stmt) (h : Heap) → st.op ≡ stop → edges_at i st h ≡ []

pub at_stop : StopEdges
at_stop = stop_edges

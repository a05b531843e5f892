-- The promises about refusals 9, 18 and 19 and their node. Each is a type; its proof under it cites a law.
use Prim.Native.Nat.{◌<◌, ◌≤◌, ℕ}
use mathlib.Core.Path.{◌≡◌, refl}
use mathlib.Core.Bool.{false, true}
use mathlib.Core.List.{List}
use lib.ListN.{length}
use Rattle.model.specs.Answers.{refusal_of}
use Rattle.model.specs.Heap.{Heap, closed}
use Rattle.model.specs.Image.{fold_image, step_image, step_verdict, unfold_image}
use Rattle.model.specs.Listings.{RightKinds, RightRecords, no_records, records_of, right_h, right_s}
use Rattle.model.specs.Nodes.{GivenAsTold, OneTold, SaysNode, Told, record_of}
use Rattle.model.specs.Records.{Refusal, checks_h, failed_node, is_refused, is_s, layout_h, refusal_at, refusal_h, shape_of, tells_node}
use Rattle.model.specs.Shape.{visit_number}
use Rattle.model.specs.Translate.{translate}
use Rattle.model.proofs.expansion.Facts.{test_closed}
use Rattle.model.proofs.images.Images.{fold_checked, unfold_checked}
use Rattle.model.proofs.images.Stepping.{step_checked}
use Rattle.model.proofs.images.NodeAnswers.{checked_node, checked_none, record_one, record_told, told_refused, translate_nodeless, translate_says, unfold_told}
use Rattle.model.proofs.records.ToldNodes.{one_told, otherwise_higher}

-- ==== what is told of the nodes

-- exactly one of the four holds: a node is unreachable, a node is not core, a node is numbered otherwise, or it is a
-- shape; and the first three of one node each
abbrev pub OneOfFour : Type 0
OneOfFour = (h : Heap) → closed h ≡ true → OneTold h

pub one_of_four : OneOfFour
one_of_four h k = one_told h (test_closed h k)

-- the walk gives the node that is told with 19 a higher number; so 19 never tells the last node
abbrev pub OtherwiseHigher : Type 0
OtherwiseHigher = (h : Heap) → closed h ≡ true → (n : ℕ) → Told h 19 n
    → (n < visit_number h n) × (visit_number h n < length h.slots)

pub numbered_higher : OtherwiseHigher
numbered_higher h k n t = otherwise_higher h (test_closed h k) t

-- ==== what is given

-- a record that keeps the layout is given 9, 18 or 19 exactly under these conditions with exactly that node, or is a
-- shape and gets none of the three, after any earlier records
abbrev pub NodesOfRecord : Type 0
NodesOfRecord = (earlier : List (List ℕ)) (r : List ℕ) → length r ≡ 32 → layout_h r ≡ true
    → OneTold (shape_of r) × GivenAsTold (shape_of r) (refusal_h earlier r) (failed_node (checks_h earlier r))

pub nodes_of_record : NodesOfRecord
nodes_of_record e r w l = (record_one r w l, record_told r w l e)

-- "in unfolding too"
abbrev pub NodesOfUnfolding : Type 0
NodesOfUnfolding = (r vs ps cs : List ℕ) → length ps ≡ 6 → length cs ≤ 240 → length r ≡ 32 → layout_h r ≡ true
    → GivenAsTold (shape_of r) (refusal_of (unfold_image r vs ps cs).verdict).number
    (refusal_of (unfold_image r vs ps cs).verdict).node

pub nodes_of_unfolding : NodesOfUnfolding
nodes_of_unfolding r vs ps cs p q w l = unfold_told r w l vs ps cs p q

-- a translation that is refused with 9, 18 or 19 says so of the record at its place, and its node is one of twelve
abbrev pub NodesOfTranslation : Type 0
NodesOfTranslation = (s : List ℕ) (a b : ℕ) (x : Refusal) → (translate s a b).verdict ≡ is_refused x
    → tells_node x.number ≡ true → SaysNode s x × (x.node < 12)

pub nodes_of_translation : NodesOfTranslation
nodes_of_translation = translate_says

-- and it is refused so where the records before are not refused
abbrev pub NodesRefused : Type 0
NodesRefused = (s : List ℕ) (i n v : ℕ) → no_records s ≡ false → RightKinds s (length (records_of s)) → right_s s ≡ true
    → right_h s ≡ true → i < length (records_of s) → RightRecords s i → is_s (record_of s i) ≡ false
    → layout_h (record_of s i) ≡ true → tells_node n ≡ true → Told (shape_of (record_of s i)) n v
    → (a b : ℕ) → (translate s a b).verdict ≡ is_refused (refusal_at n i v)

pub nodes_refused : NodesRefused
nodes_refused s i n v a f b c lt g = told_refused s i a f b c lt g

-- all other refusals have node 0: of a translation and of an unfolding
abbrev pub OtherNodes : Type 0
OtherNodes = (x : Refusal) → tells_node x.number ≡ false
    → ((s : List ℕ) (a b : ℕ) → (translate s a b).verdict ≡ is_refused x → x.node ≡ 0)
    × ((r vs ps cs : List ℕ) → (unfold_image r vs ps cs).verdict ≡ is_refused x → x.node ≡ 0)

pub other_nodes : OtherNodes
other_nodes x t = (
  (λ s a b z. translate_nodeless s a b x z t),
  λ r vs ps cs z. checked_node _ _ (unfold_checked r vs ps cs) refl x z t,
)

-- a fold and a step are never refused with one of the three
abbrev pub HeapsTellNoNode : Type 0
HeapsTellNoNode = (x : Refusal)
    → ((ps cs : List ℕ) → (fold_image ps cs).verdict ≡ is_refused x → (tells_node x.number ≡ false) × (x.node ≡ 0))
    × ((r : List ℕ) (p c : ℕ) (ps cs : List ℕ) → step_verdict (step_image r p c ps cs).answer ≡ is_refused x
    → (tells_node x.number ≡ false) × (x.node ≡ 0))

pub heaps_tell_no_node : HeapsTellNoNode
heaps_tell_no_node x = (
  (λ ps cs z. checked_none _ _ (fold_checked ps cs) refl refl x z),
  λ r p c ps cs z. checked_none _ _ (step_checked r p c ps cs) refl refl x z,
)

-- What the promises about heaps, shapes and edges speak of, beside the definitions by section of 01: reachable cells,
-- segments, merging, renaming, one heap as the expansion of another, guards and updates on counters.
use Rattle.std.specs.Prelude.{◌+◌, ◌-◌, ◌<◌, ◌≤◌, ℕ, ◌≡◌, ◌↔◌, ◌⊎◌, Bool, cond, false, true, List, [], ◌++◌, ◌∷◌, map, eqb, leb, get_or, length}
use Rattle.model.specs.Image.{StepAnswer, no_step, to_fault, to_next, to_stop}
use Rattle.model.specs.Base.{mem, sum, numbers, all}
use Rattle.model.specs.Edges.{Edge, Guard, Loc, Test, Update, View, at, failed, is_more, is_one, no_node, one_node, two_nodes}
use Rattle.model.specs.Heap.{Heap, IsHeap, Slot, Val, cell, holds, next, null, order, ptr, undef, unused}
use Rattle.model.specs.Machine.{Action, Effect, Fault, Op, at_null, at_undef, choose, clear, done, fault, free, load, makes, put_slot, relink, stop, store}
use Rattle.model.specs.Records.{Row, Verdict, is_accepted, is_refused, refusal_at}
use Rattle.model.specs.Shape.{Seg, cells, core, segments, size}

-- ---- lists

-- x stands in the list
abbrev pub In : {A : Type 0} → A → List A → Type 0
In x [] = ⊥
In x (y ∷ l) = (x ≡ y) ⊎ In x l

-- no element stands twice (for lists of numbers: NoDup)
abbrev pub Distinct : {A : Type 0} → List A → Type 0
Distinct [] = Unit {0}
Distinct (x ∷ l) = (In x l → ⊥) × Distinct l

-- no number stands twice
abbrev pub NoDup : List ℕ → Type 0
NoDup [] = Unit {0}
NoDup (x ∷ l) = (mem x l ≡ false) × NoDup l

-- each two elements of a list, the earlier one first, are related
abbrev pub Pairs : {A : Type 0} → (A → A → Type 0) → List A → Type 0
Pairs R [] = Unit {0}
Pairs R (x ∷ l) = ((y : _) → In y l → R x y) × Pairs R l

-- ---- the visit

-- cell n is in use
abbrev pub Used : (ℕ → Slot) → ℕ → Type 0
Used nx n = (v : Val) × (nx n ≡ holds v)

-- a value names a cell only if that cell is in use: of one value, of each of a list, and of all that a heap's pointers
-- and cells hold
abbrev pub Closed : (ℕ → Slot) → Val → Type 0
Closed nx null = Unit {0}
Closed nx undef = Unit {0}
Closed nx (cell n) = Used nx n

abbrev pub AllClosed : (ℕ → Slot) → List Val → Type 0
AllClosed nx [] = Unit {0}
AllClosed nx (v ∷ vs) = Closed nx v × AllClosed nx vs

abbrev pub ClosedHeap : Heap → Type 0
ClosedHeap h = AllClosed (next h) h.ptrs × ((n : ℕ) (v : Val) → next h n ≡ holds v → Closed (next h) v)

abbrev pub AllUsed : (ℕ → Slot) → List ℕ → Type 0
AllUsed nx l = (n : ℕ) → mem n l ≡ true → Used nx n

-- the walk without fuel, and one for each pointer in turn
pub data Walks (nx : ℕ → Slot) : List ℕ → Val → List ℕ → Type 0 where
  ends_at_null : {s : List ℕ} → Walks nx s null s
  ends_at_undef : {s : List ℕ} → Walks nx s undef s
  at_seen : {s : List ℕ} {c : ℕ} → mem c s ≡ true → Walks nx s (cell c) s
  go : {s t : List ℕ} {c : ℕ} {v : Val} → mem c s ≡ false → nx c ≡ holds v → Walks nx (s ++ c ∷ []) v t
      → Walks nx s (cell c) t

pub data Tours (nx : ℕ → Slot) : List ℕ → List Val → List ℕ → Type 0 where
  tour_done : {s : List ℕ} → Tours nx s [] s
  tour_more : {s t r : List ℕ} {v : Val} {vs : List Val} → Walks nx s v t → Tours nx t vs r → Tours nx s (v ∷ vs) r

-- ---- cells

-- every cell in use is visited
abbrev pub Kept : Heap → Type 0
Kept h = (c : ℕ) → Used (next h) c → mem c (order h) ≡ true

-- A cell is reachable: a pointer holds it, or the next of a reachable cell does.
pub data Reaches (h : Heap) : ℕ → Type 0 where
  from_pointer : {c : ℕ} → In (cell c) h.ptrs → Reaches h c
  along : {c d : ℕ} → Reaches h c → next h c ≡ holds (cell d) → Reaches h d

-- "held .. by the next of two or more cells": two different cells hold c
abbrev pub Two : (ℕ → Slot) → ℕ → Type 0
Two nx c = (a : ℕ) × (b : ℕ) × (a ≡ b → ⊥) × (nx a ≡ holds (cell c)) × (nx b ≡ holds (cell c))

-- from c on each cell holds the one after it, along the list, and the last holds v
abbrev pub Chain : (ℕ → Slot) → ℕ → List ℕ → Val → Type 0
Chain nx c [] v = nx c ≡ holds v
Chain nx c (d ∷ l) v = (nx c ≡ holds (cell d)) × Chain nx d l v

-- every cell in use is core
abbrev pub EveryCore : Heap → Type 0
EveryCore h = (c : ℕ) → Used (next h) c → core h c ≡ true

-- ---- segments

-- a segment by its first cell and the cells after that
abbrev pub seg : ℕ → List ℕ → Seg
seg c l = record { first = c; rest = l }

-- "A segment is a core cell and the cells after it up to the next core cell, null, undefined, or itself again."
pub record IsSegment (h : Heap) (s : Seg) : Type 0 where
  pub head_core : core h s.first ≡ true
  pub after : (d : ℕ) → mem d s.rest ≡ true → core h d ≡ false
  pub upto : Val
  pub chain : Chain (next h) s.first s.rest upto
  pub upto_core : (c : ℕ) → upto ≡ cell c → core h c ≡ true

-- segment n of a list of segments
abbrev pub seg_at : List Seg → ℕ → Seg
seg_at ss n = get_or ss n (seg 0 [])

-- all their cells, one segment after the other
abbrev pub flat : List Seg → List ℕ
flat [] = []
flat (s ∷ ss) = cells s ++ flat ss

-- the first cells of a heap's segments
abbrev pub heads : Heap → List ℕ
heads h = map (λ (s : Seg). s.first) (segments h)

-- the counters of a heap's segments, where cell c counts w c
abbrev pub counted : Heap → (ℕ → ℕ) → List ℕ
counted h w = map (λ (s : Seg). sum w (cells s)) (segments h)

-- each counter is at least 1
abbrev pub Positive : List ℕ → Type 0
Positive cs = (n : ℕ) → n < length cs → 1 ≤ get_or cs n 1

-- what a shape must be: closed, every node reachable and core, numbered as the walks visit them
pub record Canon (h : Heap) : Type 0 where
  pub closed : ClosedHeap h
  pub kept : Kept h
  pub numbered : order h ≡ numbers 0 (length h.slots)
  pub all_core : (n : ℕ) → n < length h.slots → core h n ≡ true

-- ---- merging: "nodes that are no longer core are merged into their predecessor and their counters added"

-- f, but x at c
abbrev pub upd {ℓ} : {A : Type ℓ} → (ℕ → A) → ℕ → A → ℕ → A
upd f c x i = cond (eqb i c) x (f i)

-- cell d merged into cell p: p holds what d held, and d goes
abbrev pub merge_heap : ℕ → ℕ → Heap → Heap
merge_heap p d W = put_slot d unused (put_slot p (next W d) W)

-- One merge, in a heap whose cells have the counters w: a cell d that is not core goes into its predecessor p, and the
-- counters are added.
pub data Merges : Heap → (ℕ → ℕ) → Heap → (ℕ → ℕ) → Type 0 where
  merge : {W : Heap} {w : ℕ → ℕ} (p d : ℕ) → IsHeap W → Used (next W) d → core W d ≡ false → next W p ≡ holds (cell d)
      → Merges W w (merge_heap p d W) (upd w p (w p + w d))

-- one merge after the other
pub data MergesTo : Heap → (ℕ → ℕ) → Heap → (ℕ → ℕ) → Type 0 where
  no_more : {W : Heap} {w : ℕ → ℕ} → MergesTo W w W w
  then_more : {W M U : Heap} {w m u : ℕ → ℕ} → Merges W w M m → MergesTo M m U u → MergesTo W w U u

-- ---- renaming

-- a value whose cell is renamed
abbrev pub rename_val : (ℕ → ℕ) → Val → Val
rename_val f (cell n) = cell (f n)
rename_val f null = null
rename_val f undef = undef

-- f takes the cells of heap a to those of heap b, one to one, and each value to the value renamed: the heaps are
-- isomorphic
pub record Renames (f : ℕ → ℕ) (a b : Heap) : Type 0 where
  pub ptrs_are : b.ptrs ≡ map (rename_val f) a.ptrs
  pub nexts_are : (n : ℕ) (v : Val) → next a n ≡ holds v → next b (f n) ≡ holds (rename_val f v)
  pub onto : (c : ℕ) → Used (next b) c → (n : ℕ) × Used (next a) n × (f n ≡ c)
  pub one_to_one : (n m : ℕ) → Used (next a) n → Used (next a) m → f n ≡ f m → n ≡ m

-- ---- expansion: each cell n of a small heap stands for a chain of cells, `sg n`, of a large one

-- a value of the small heap in the large one: the first cell of the chain
abbrev pub img : (ℕ → Seg) → Val → Val
img sg null = null
img sg undef = undef
img sg (cell n) = cell (sg n).first

-- the chains of a list of cells, one after the other, and their number of cells
abbrev pub cat : (ℕ → Seg) → List ℕ → List ℕ
cat sg [] = []
cat sg (n ∷ l) = cells (sg n) ++ cat sg l

abbrev pub total : (ℕ → Seg) → List ℕ → ℕ
total sg [] = 0
total sg (n ∷ l) = size (sg n) + total sg l

-- the nexts: each chain ends in what its cell holds, the chains hold each cell in use, and none twice
pub record Expands (nw : ℕ → Slot) (sg : ℕ → Seg) (nh : ℕ → Slot) : Type 0 where
  pub closed : (n : ℕ) (v : Val) → nw n ≡ holds v → Closed nw v
  pub chain : (n : ℕ) (v : Val) → nw n ≡ holds v → Chain nh (sg n).first (sg n).rest (img sg v)
  pub cover : (c : ℕ) (v : Val) → nh c ≡ holds v → (n : ℕ) × Used nw n × (mem c (cells (sg n)) ≡ true)
  pub apart : (n m c : ℕ) → Used nw n → Used nw m → mem c (cells (sg n)) ≡ true → mem c (cells (sg m)) ≡ true → n ≡ m
  pub nodup : (n : ℕ) → Used nw n → NoDup (cells (sg n))

-- heap H is the expansion of heap W
pub record Expansion (W : Heap) (sg : ℕ → Seg) (H : Heap) : Type 0 where
  pub body : Expands (next W) sg (next H)
  pub closed : AllClosed (next W) W.ptrs
  pub ptrs : H.ptrs ≡ map (img sg) W.ptrs

-- ---- an effect on a heap and on its expansion

-- the cell for new is not in use
abbrev pub Room : Action → Heap → ℕ → Type 0
Room a h c = makes a ≡ true → next h c ≡ unused

-- the chains after the effect: at new, cell k of the small heap is cell c of the large one
abbrev pub sg_after : Action → ℕ → ℕ → (ℕ → Seg) → ℕ → Seg
sg_after a k c sg = cond (makes a) (upd sg k (seg c [])) sg

-- node i is looked at
abbrev pub Views : View → ℕ → Type 0
Views no_node i = ⊥
Views (one_node n) i = i ≡ n
Views (two_nodes n m) i = (i ≡ n) ⊎ (i ≡ m)

-- each node that is looked at is one cell of the expansion
abbrev pub Alone : View → (ℕ → Seg) → Type 0
Alone v sg = (i : ℕ) → Views v i → (sg i).rest ≡ []

-- 02, job 3: "Looking at w comes first, for null and for undefined, then u.": what is looked at is the fault f
pub data LooksBad (h : Heap) (u w : ℕ) : Fault → Type 0 where
  w_null : ptr h w ≡ null → LooksBad h u w at_null
  w_undef : ptr h w ≡ undef → LooksBad h u w at_undef
  u_null : (d : ℕ) → ptr h w ≡ cell d → ptr h u ≡ null → LooksBad h u w at_null
  u_undef : (d : ℕ) → ptr h w ≡ cell d → ptr h u ≡ undef → LooksBad h u w at_undef

-- "Ops 3, 4, 5 and 7": the op reads, writes or frees through pointer v
pub data Through : Op → ℕ → Type 0 where
  loads : {u w : ℕ} → Through (load u w) w
  clears : {u : ℕ} → Through (clear u) u
  stores : {u w : ℕ} → Through (store u w) u
  frees : {u : ℕ} → Through (free u) u

-- "Every other statement ..": no stop and no choose, nothing that goes through a node, and no relink of two nodes
pub record Other (op : Op) (h : Heap) : Type 0 where
  pub no_stop : op ≡ stop → ⊥
  pub no_choose : op ≡ choose → ⊥
  pub no_node_through : (v n : ℕ) → Through op v → ptr h v ≡ cell n → ⊥
  pub no_two_nodes : (u w n m : ℕ) → op ≡ relink u w → ptr h u ≡ cell n → ptr h w ≡ cell m → n ≡ m

-- both fault alike, or both finish and the one heap is the expansion of the other
pub data Alike (sg : ℕ → Seg) : Effect → Effect → Type 0 where
  both_bad : {f : Fault} → Alike sg (fault f) (fault f)
  both_ok : {W H : Heap} → Expansion W sg H → Alike sg (done W) (done H)

-- ---- edges

-- the update of a segment of nodes that adds the counters of these, and nothing else; there were k nodes
abbrev pub gathered : ℕ → Seg → Update
gathered k s = record { adds = map (λ n. mem n (cells s)) (numbers 0 k); plus = 1 }

-- the statement of a location, and how many nodes it has
abbrev pub statement_of : Loc → ℕ
statement_of (at s h) = s
statement_of (failed s f) = s

abbrev pub nodes_of : Loc → ℕ
nodes_of (at s h) = length h.slots
nodes_of (failed s f) = 0

-- a guard on given counters; all guards of a list
abbrev pub test_on : Test → ℕ → Bool
test_on is_one c = eqb c 1
test_on is_more c = leb 2 c

abbrev pub guard_on : List ℕ → Guard → Bool
guard_on cs g = test_on g.test (get_or cs g.node 0)

abbrev pub guards_on : List Guard → List ℕ → Bool
guards_on gs cs = all (guard_on cs) gs

-- two edges of one branch are never enabled together
abbrev pub Exclude : Edge → Edge → Type 0
Exclude a b = a.branch_no ≡ b.branch_no → (cs : List ℕ) → guards_on a.guards cs ≡ true → guards_on b.guards cs
    ≡ true → ⊥

-- no old counter is added by both updates
abbrev pub AddApart : Update → Update → Type 0
AddApart u v = (i : ℕ) → get_or u.adds i false ≡ true → get_or v.adds i false ≡ true → ⊥

-- the counters that are flagged, added up; what an update makes of given counters
abbrev pub flagged : List Bool → List ℕ → ℕ
flagged [] cs = 0
flagged (b ∷ fs) [] = 0
flagged (b ∷ fs) (c ∷ cs) = cond b c 0 + flagged fs cs

abbrev pub worth : List ℕ → Update → ℕ
worth cs u = (flagged u.adds cs + u.plus) - 1

-- The updates of an edge: one for each node of the target, each with a flag for each of the k old nodes and a constant
-- of -1, 0 or 1.
abbrev pub SmallUpdates : ℕ → List Update → Type 0
SmallUpdates k us = (u : Update) → In u us → (u.plus ≤ 2) × (length u.adds ≡ k)

-- Guards that an E record can hold: two at most, each on one of k nodes.
pub record SmallGuards (k : ℕ) (gs : List Guard) : Type 0 where
  pub few : length gs ≤ 2
  pub known : (g : Guard) → In g gs → g.node < k

-- an edge of a location with k nodes
pub record SmallEdge (k : ℕ) (E : Edge) : Type 0 where
  pub number : length E.updates ≡ nodes_of E.to
  pub branch : E.branch_no ≤ 1
  pub guarded : SmallGuards k E.guards
  pub small : SmallUpdates k E.updates

-- ---- the checks of a call, in their order

-- every check passes
abbrev pub Pass : List Row → Type 0
Pass [] = Unit {0}
Pass (c ∷ cs) = (c.passes ≡ true) × Pass cs

-- number n is given, with node v: its check does not pass, and every check before it does
abbrev pub Given : List Row → ℕ → ℕ → Type 0
Given [] n v = ⊥
Given (c ∷ cs) n v = ((c.number ≡ n) × (c.node ≡ v) × (c.passes ≡ false)) ⊎ ((c.passes ≡ true) × Given cs n v)

-- a step that does not go on to a next statement
abbrev pub Halted : StepAnswer → Type 0
Halted (to_next b n) = ⊥
Halted (to_fault f) = Unit {0}
Halted to_stop = Unit {0}
Halted (no_step x) = Unit {0}

-- A call is accepted exactly when every check passes; it is refused with a number and a node, at place 0, exactly when
-- these are given.
pub record CheckedBy (cs : List Row) (v : Verdict) : Type 0 where
  pub accepts : (v ≡ is_accepted) ↔ Pass cs
  pub refuses : (n p d : ℕ) → (v ≡ is_refused (refusal_at n p d)) ↔ ((p ≡ 0) × Given cs n d)

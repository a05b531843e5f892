-- The promises of 02, job 6: what collection keeps, and the statement that drops. Each is a type; its proof under it
-- cites a law.
use Prim.Native.Nat.{◌<◌, ℕ}
use mathlib.Core.Path.{◌∙◌, ◌≡◌, ap, refl, subst, sym}
use mathlib.Core.Bool.{Bool, cond, false, true}
use mathlib.Core.Logic.{◌↔◌, ◌⊎◌, inl, inr, ⊎_elim}
use mathlib.Core.List.{List, [], ◌∷◌, map}
use lib.ListN.{get_or, length, set}
use Rattle.model.specs.Base.{count, sum}
use Rattle.model.specs.Edges.{Edge, Update, at, edges_at}
use Rattle.model.specs.Heap.{Heap, IsHeap, Val, cell, closed, holds, in_use, kept, next, null, ptr, undef}
use Rattle.model.specs.Image.{heap_of, step_image, step_verdict, to_next}
use Rattle.model.specs.Machine.{Entry, Op, Stmt, accepts, answer_of, collect, done, effect, fault, faulted, is_stop, kind, leak, let_go, set_null, set_ptr, step, went}
use Rattle.model.specs.Notions.{Expansion, In, Reaches, gathered}
use Rattle.model.specs.Records.{byte, is_accepted}
use Rattle.model.specs.Shape.{Seg, core, counters, segments, shape}
use Rattle.model.proofs.expansion.Collect.{collect_back, collect_closed, collect_expands, collect_kept, collect_same, collect_twice, visited_stays}
use Rattle.model.proofs.expansion.Cores.{core_is}
use Rattle.model.proofs.expansion.Facts.{heap_kept, is_heap_lem, test_closed, test_kept}
use Rattle.model.proofs.expansion.Reach.{order_reaches, reaches_order}
use Rattle.model.proofs.images.DropBytes.{drop_answer, drop_gone, drop_pointers, drop_stays}
use Rattle.model.proofs.shapes.Count.{counters_add_up}
use Rattle.model.proofs.ways.Drops.{carried_reaches, drop_edge, drop_goes, drop_updates, leak_stops, no_constant, no_drop, null_keeps, reaches_carried, stop_stays}
use Rattle.model.proofs.lists.Lists.{in_single}
use Rattle.model.proofs.lists.Logic.{clash, not-true}

-- ==== collection

-- "every cell that this leaves unreachable is gone": a cell is in use afterwards exactly where it is reachable, and
-- holds what it held; the pointers stay
abbrev pub CollectKeeps : Type 0
CollectKeeps = (h : Heap) → closed h ≡ true → ((collect h).ptrs ≡ h.ptrs)
    × ((c : ℕ) (v : Val) → (next (collect h) c ≡ holds v) ↔ (Reaches h c × (next h c ≡ holds v)))

pub collect_keeps : CollectKeeps
collect_keeps h x =
    let cl = test_closed h x in (
      refl,
      λ c v. (
        (λ e. let (m, q) = collect_back h c v e in (order_reaches h cl c m, q)),
        λ p. visited_stays h c (reaches_order h cl c p.0) ∙ p.1,
      ),
    )

-- nothing that is left holds a cell that went, and all that is left is reachable
abbrev pub CollectIsHeap : Type 0
CollectIsHeap = (h : Heap) → closed h ≡ true → IsHeap (collect h)

pub collect_is_heap : CollectIsHeap
collect_is_heap h x = let cl = test_closed h x in is_heap_lem (collect h) (collect_closed h cl) (collect_kept h cl)

-- where nothing is lost the heap stays; collecting twice is collecting once
abbrev pub CollectSame : Type 0
CollectSame = (h : Heap) → IsHeap h → collect h ≡ h

pub collects_none : CollectSame
collects_none h x = collect_same h (heap_kept h x)

abbrev pub CollectTwice : Type 0
CollectTwice = (h : Heap) → closed h ≡ true → collect (collect h) ≡ collect h

pub collects_once : CollectTwice
collects_once h x = collect_twice h (test_closed h x)

-- collection carries over from a heap to its expansion
abbrev pub CollectExpands : Type 0
CollectExpands = (W : Heap) (sg : ℕ → Seg) (H : Heap) → Expansion W sg H → Expansion (collect W) sg (collect H)

pub collects_expansion : CollectExpands
collects_expansion = collect_expands

-- a holder that is lost does not count: of what is left, a cell is core by a pointer, or by two reachable cells
abbrev pub CollectCore : Type 0
CollectCore = (h : Heap) → closed h ≡ true → (c : ℕ) → (core (collect h) c ≡ true)
    ↔ (In (cell c) h.ptrs ⊎ ((a : ℕ) × (b : ℕ) × (a ≡ b → ⊥) × Reaches h a × Reaches h b
    × (next h a ≡ holds (cell c)) × (next h b ≡ holds (cell c))))

pub collects_core : CollectCore
collects_core h x c =
    let K = (collect_keeps h x).1 in (
      (λ e. ⊎_elim inl (λ (a, b, n, p, q). let i = (K a (cell c)).0 p in let j = (K b (cell c)).0 q in
          inr (a, b, n, i.0, j.0, i.1, j.1)) ((core_is (collect h) c).0 e)),
      ⊎_elim (λ i. (core_is (collect h) c).1 (inl i)) (λ (a, b, n, i, j, p, q).
          (core_is (collect h) c).1 (inr (a, b, n, (K a (cell c)).1 (i, p), (K b (cell c)).1 (j, q)))),
    )

-- "heap sizes being those after collection": the counters of any heap add up to its cells in use
abbrev pub CountersAddUp : Type 0
CountersAddUp = (h : Heap) → IsHeap h → sum (λ n. n) (counters h) ≡ count in_use h.slots

pub counters_sum : CountersAddUp
counters_sum = counters_add_up

-- ==== the statement

-- a statement without a second target
abbrev going_to : Op → ℕ → Stmt
going_to op t = record { op = op; first_target = t; second_target = 0 }

-- "u becomes null and every cell that this leaves unreachable is gone": on every heap and for every entry; so it is no
-- fault and is not refused
abbrev pub DropGoes : Type 0
DropGoes = (st : Stmt) (e : Entry) (h : Heap) (u : ℕ) → st.op ≡ let_go u
    → step st e h ≡ went 0 st.first_target (collect (set_ptr u null h))

pub drops_go : DropGoes
drops_go st e h u o = drop_goes st u (ap kind o) e h

-- "On null or undefined it only sets null."
abbrev pub DropOnlyNull : Type 0
DropOnlyNull = (st : Stmt) (e : Entry) (h : Heap) → IsHeap h → (u : ℕ) → st.op ≡ let_go u
    → (ptr h u ≡ null) ⊎ (ptr h u ≡ undef) → step st e h ≡ went 0 st.first_target (set_ptr u null h)

pub drops_only_null : DropOnlyNull
drops_only_null st e h x u o n =
    drops_go st e h u o ∙ ap (went 0 st.first_target) (null_keeps h u (heap_kept h x) n)

-- so it differs from `u := null` exactly where that leaks
abbrev pub DropBesideNull : Type 0
DropBesideNull = (e : Entry) (h : Heap) (u t : ℕ) → (kept (set_ptr u null h) ≡ true
    → step (going_to (let_go u) t) e h ≡ step (going_to (set_null u) t) e h)
    × (kept (set_ptr u null h) ≡ false → step (going_to (set_null u) t) e h ≡ faulted leak)

pub drops_beside_null : DropBesideNull
drops_beside_null e h u t = (
  (λ k. drops_go (going_to (let_go u) t) e h u refl
      ∙ ap (went 0 t) (collect_same (set_ptr u null h) (test_kept (set_ptr u null h) k)) ∙ sym (null_step true k)),
  null_step false,
)
  where
    null_step : (b : Bool) → kept (set_ptr u null h) ≡ b → step (going_to (set_null u) t) e h
        ≡ answer_of (going_to (set_null u) t) 0 (cond b (done (set_ptr u null h)) (fault leak))
    null_step b k = ap (λ x. answer_of (going_to (set_null u) t) 0 (cond x (done (set_ptr u null h)) (fault leak))) k

-- "Its one edge has no guard and never leads to a fault": it leads to the shape of what is left
abbrev pub DropEdge : Type 0
DropEdge = (i : ℕ) (st : Stmt) (h : Heap) (u : ℕ) → st.op ≡ let_go u
    → (E : Edge) × (edges_at i st h ≡ E ∷ []) × (E.branch_no ≡ 0) × (E.guards ≡ [])
    × (E.to ≡ at st.first_target (shape (collect (set_ptr u null h))))

pub drops_edge : DropEdge
drops_edge i st h u o = (_, drop_edge st u (ap kind o) i h, refl, refl, refl)

-- "a counter of a vanished node is not carried": a counter is added by an update of the edge exactly where its node is
-- still reachable, and no constant is added
abbrev pub DropCarries : Type 0
DropCarries = (i : ℕ) (st : Stmt) (h : Heap) → closed h ≡ true → (u : ℕ) → st.op ≡ let_go u → (E : Edge)
    → In E (edges_at i st h)
    → ((n : ℕ) → n < length h.slots
    → ((U : Update) × In U E.updates × (get_or U.adds n false ≡ true)) ↔ Reaches (set_ptr u null h) n)
    × ((U : Update) → In U E.updates → U.plus ≡ 1)

pub drops_carry : DropCarries
drops_carry i st h x u o E j =
    let k = ap kind o in
    let cl = test_closed h x in
    let e = in_single E _ (subst (In E) (drop_edge st u k i h) j) in
    subst (λ (F : Edge). ((n : ℕ) → n < length h.slots
    → ((U : Update) × In U F.updates × (get_or U.adds n false ≡ true)) ↔ Reaches (set_ptr u null h) n)
    × ((U : Update) → In U F.updates → U.plus ≡ 1)) (sym e) (
      (λ n lt. (carried_reaches st u k i h cl n, reaches_carried st u k i h cl n lt)),
      no_constant st u k i h cl,
    )

-- "and a node that is no longer core merges as usual": the update of a new node adds exactly the counters of the nodes
-- that its segment, of what is left, joins
abbrev pub DropUpdates : Type 0
DropUpdates = (i : ℕ) (st : Stmt) (h : Heap) → closed h ≡ true → (u : ℕ) → st.op ≡ let_go u → (E : Edge)
    → In E (edges_at i st h)
    → E.updates ≡ map (gathered (length h.slots)) (segments (collect (set_ptr u null h)))

pub drops_update : DropUpdates
drops_update i st h x u o E j =
    let k = ap kind o in
    ap (λ (F : Edge). F.updates) (in_single E _ (subst (In E) (drop_edge st u k i h) j))
    ∙ drop_updates st u k i h (test_closed h x)

-- "Other statements still stop at a leak."
abbrev pub OthersLeak : Type 0
OthersLeak = (st : Stmt) (e : Entry) (h g : Heap) → IsHeap h → ((u : ℕ) → st.op ≡ let_go u → ⊥)
    → accepts st.op e h ≡ true → effect st.op e.cell_no h ≡ done g → kept g ≡ false
    → step st e h ≡ faulted leak

pub others_leak : OthersLeak
others_leak st e h g x o a d l =
    leak_stops st e h g (not-true (is_stop (kind st.op))
    (λ z. clash (subst (λ (y : Heap). kept y ≡ true) (stop_stays (kind st.op) e.cell_no h g z d) x.is_kept) l)) a
    (no_drop st.op o) d l

-- ==== on an image: a cell that is collected becomes 0xfd

-- a plain step that drops: u's byte is that of null, a cell that is still reachable keeps its byte, and any other is
-- not in use
abbrev pub DropBytes : Type 0
DropBytes = (r : List ℕ) (p c : ℕ) (ps cs : List ℕ) → step_verdict (step_image r p c ps cs).answer ≡ is_accepted
    → byte r 1 ≡ 13
    → ((step_image r p c ps cs).answer ≡ to_next 0 (byte r 4))
    × ((step_image r p c ps cs).ptr_bytes ≡ set ps (byte r 2) 0xfe)
    × ((i : ℕ) → i < length cs → let left = (step_image r p c ps cs).cell_bytes in
    (Reaches (set_ptr (byte r 2) null (heap_of ps cs)) i → get_or left i 0 ≡ get_or cs i 0)
    × ((Reaches (set_ptr (byte r 2) null (heap_of ps cs)) i → ⊥) → get_or left i 0 ≡ 0xfd))

pub drop_bytes : DropBytes
drop_bytes r p c ps cs ok o = (
  drop_answer r p c ps cs ok o,
  drop_pointers r p c ps cs ok o,
  λ i lt. (drop_stays r p c ps cs ok o i lt, drop_gone r p c ps cs ok o i lt),
)

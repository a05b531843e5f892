-- Every checked routine has a full listing: its locations have different records, of 32 numbers below a bound, and so
-- there are finitely many.
use Prim.Native.Nat.{◌+◌, ◌-◌, ◌<◌, ◌^◌, ◌≤◌, suc, zero, ℕ}
use mathlib.Core.Path.{◌∙◌, ◌≡◌, refl, subst, sym}
use mathlib.Core.Logic.{inl, inr}
use mathlib.Core.List.{List, [], ◌++◌, ◌∷◌, map}
use native.Mathlib.Omega.{arith}
use lib.ListN.{get_or, length, length-map, replicate}
use Rattle.model.specs.Base.{mem, sum}
use Rattle.model.specs.Edges.{Edge, Loc, Way, at, edge_by, edges_of, failed, step_by, stmt_at, ways}
use Rattle.model.specs.Heap.{Heap, Slot, Val, cell, holds, null, undef, unused}
use Rattle.model.specs.Machine.{Answer, Effect, Entry, Fault, Stmt, accepts, answer_of, at_null, at_undef, branch, done, fault, fault_number, faulted, leak, refused, carry_out, step, stop, stopped, target, went, kind, is_stop}
use Rattle.model.specs.Records.{loc_record, slot_byte, val_byte}
use Rattle.model.specs.Translate.{Listing, Routine, check, good}
use Rattle.model.proofs.records.Checked.{GoodStarts, check_good}
use Rattle.model.proofs.lists.Digits.{Below, code_below, code_injective, code_of}
use Rattle.model.proofs.listings.Exact.{edge_below, explored_distinct}
use Rattle.model.proofs.listings.Listing.{explored_end, explored_prefix, extend_all}
use Rattle.model.specs.Listings.{IsFull, SmallSlot, SmallVal, WritableLoc, explored, loc_at, GoodLoc}
use Rattle.model.specs.Notions.{Distinct, In, NoDup}
use Rattle.model.proofs.lists.Lists.{get_or_in_lem, in-append-cases, in_joined, in_map, in_single, mem_in}
use Rattle.model.proofs.lists.Logic.{bool_case, not-true}
use Rattle.model.proofs.listings.Moves.{good_writable}
use Rattle.model.proofs.visits.Order.{pigeon}
use Rattle.model.proofs.listings.Reached.{good_edge}
use Rattle.model.proofs.records.ReadBack.{location_injective, record_length}
use Rattle.model.proofs.shapes.Same.{distinct_map, prefix_length}

-- ---- the record of a location as a number

abbrev stmt_no : Loc → ℕ
stmt_no (at s h) = s
stmt_no (failed s f) = s

-- a location that can be written, at a statement below c
abbrev Fits : ℕ → Loc → Type 0
Fits c l = GoodLoc l × (stmt_no l < c)

val_byte_lem : (k : ℕ) (v : Val) → k ≤ 256 → SmallVal k v → val_byte v < 256
val_byte_lem k (cell n) h q = omega arith
val_byte_lem k null h q = omega arith
val_byte_lem k undef h q = omega arith

slot_byte_lem : (k : ℕ) (s : Slot) → k ≤ 256 → SmallSlot k s → slot_byte s < 256
slot_byte_lem k unused h q = absurd q
slot_byte_lem k (holds v) h q = val_byte_lem k v h q

fault_byte : (f : Fault) → fault_number f < 256
fault_byte at_null = omega arith
fault_byte at_undef = omega arith
fault_byte leak = omega arith

zero_in : (x n : ℕ) → In x (replicate n 0) → x ≡ 0
zero_in x zero i = absurd i
zero_in x (suc n) (inl e) = e
zero_in x (suc n) (inr i) = zero_in x n i

loc_below : (c : ℕ) (l : Loc) → 256 ≤ c → stmt_no l < c → WritableLoc l → Below c (loc_record l)
loc_below c (at s h) b k W x (inl e) = omega arith
loc_below c (at s h) b k W x (inr (inl e)) = omega arith
loc_below c (at s h) b k W x (inr (inr (inl e))) = omega arith
loc_below c (at s h) b k W x (inr (inr (inr (inl e)))) = let f = W.few in omega arith
loc_below c (at s h) b k W x (inr (inr (inr (inr i)))) =
    let ps = map val_byte h.ptrs in
    let ss = map slot_byte h.slots in
    let n = length h.slots in
    let f = W.few in
    in-append-cases x (ps ++ ss) (replicate (28 - length (ps ++ ss)) 0) i
    (λ j. in-append-cases x ps ss j
    (λ q. let r = in_map val_byte x h.ptrs q in
    omega (arith, r.2, val_byte_lem n r.0 (omega arith) (W.pointers r.0 r.1)))
    (λ q. let r = in_map slot_byte x h.slots q in
    omega (arith, r.2, slot_byte_lem n r.0 (omega arith) (W.nexts r.0 r.1))))
    (λ j. omega (arith, zero_in x (28 - length (ps ++ ss)) j))
loc_below c (failed s f) b k W x (inl e) = omega arith
loc_below c (failed s f) b k W x (inr (inl e)) = omega arith
loc_below c (failed s f) b k W x (inr (inr (inl e))) = omega (arith, fault_byte f)
loc_below c (failed s f) b k W x (inr (inr (inr i))) = omega (arith, zero_in x 29 i)

-- ---- finitely many locations

distinct_nodup : (l : List ℕ) → Distinct l → NoDup l
distinct_nodup [] d = tt
distinct_nodup (x ∷ l) d = (not-true (mem x l) (λ e. d.0 (mem_in x l e)), distinct_nodup l d.1)

module _ (c : ℕ) (b : 256 ≤ c) (ls : List Loc) (d : Distinct ls) (g : (l : Loc) → In l ls → Fits c l) where
  digits : (l : Loc) → In l ls → Below c (loc_record l)
  digits l i = loc_below c l b (g l i).1 (good_writable l (g l i).0)

  wide : (l : Loc) → In l ls → length (loc_record l) ≡ 32
  wide l i = record_length l (good_writable l (g l i).0)

  locs_few : length ls ≤ c ^ 32
  locs_few =
      let f : Loc → ℕ = λ l. code_of c (loc_record l) in
      let k = distinct_map f ls (λ l m i j e. location_injective l m (good_writable l (g l i).0)
      (good_writable m (g m j).0)
      (code_injective c (loc_record l) (loc_record m) (digits l i) (digits m j) (wide l i ∙ sym (wide m j)) e)) d in
      omega (
        arith,
        length-map ls f,
        pigeon (c ^ 32) (map f ls) (distinct_nodup (map f ls) k)
            (λ n q. let r = in_map f n ls (mem_in n (map f ls) q) in
            subst (λ z. z < c ^ 32) (sym r.2) (subst (λ w. f r.0 < c ^ w) (wide r.0 r.1)
            (code_below c (loc_record r.0) (digits r.0 r.1)))),
      )

-- ---- the statements that edges lead to

-- a number above every byte and every target
radix : List Stmt → ℕ
radix sts = 256 + sum (λ (st : Stmt). st.first_target + st.second_target) sts

sum_at_lem : {A : Type 0} (f : A → ℕ) (l : List A) (i : ℕ) (d : A) → f d ≡ 0 → f (get_or l i d) ≤ sum f l
sum_at_lem f [] i d e = omega arith
sum_at_lem f (x ∷ l) zero d e = omega arith
sum_at_lem f (x ∷ l) (suc i) d e = omega (arith, sum_at_lem f l i d e)

radix_byte : (sts : List Stmt) → 256 ≤ radix sts
unfolding radix
radix_byte sts = omega arith

radix_target : (sts : List Stmt) (s : ℕ) → (stmt_at sts s).first_target + (stmt_at sts s).second_target < radix sts
unfolding radix
radix_target sts s = omega (
  arith,
  sum_at_lem (λ (st : Stmt). st.first_target + st.second_target) sts s
      (record { op = stop; first_target = 0; second_target = 0 }) refl,
)

-- the statement that a step goes to is below c
abbrev GoesBelow : ℕ → Answer → Type 0
GoesBelow c refused = Unit {0}
GoesBelow c stopped = Unit {0}
GoesBelow c (faulted f) = Unit {0}
GoesBelow c (went b t h) = t < c

target_below : (c : ℕ) (st : Stmt) (b : ℕ) → st.first_target + st.second_target < c → target st b < c
target_below c st zero h = omega arith
target_below c st (suc b) h = omega arith

answer_below : (c : ℕ) (st : Stmt) (b : ℕ) (x : Effect) → st.first_target + st.second_target < c
    → GoesBelow c (answer_of st b x)
answer_below c st b (fault f) h = tt
answer_below c st b (done g) h = target_below c st b h

step_below : (c : ℕ) (st : Stmt) (e : Entry) (h : Heap) → st.first_target + st.second_target < c
    → GoesBelow c (step st e h)
step_below c st e h q =
    bool_case (accepts st.op e h)
    (λ a. bool_case (is_stop (kind st.op)) (λ z. rw (a, z) tt)
    (λ z. rw (a, z) (answer_below c st (branch st.op e.pick h) (carry_out st.op e.cell_no h) q)))
    (λ a. rw a tt)

way_below : (c s k : ℕ) (y : Way) (a : Answer) → s < c → GoesBelow c a → (E : Edge) → In E (edge_by s k y a)
    → stmt_no E.to < c
way_below c s k y refused h g E i = absurd i
way_below c s k y stopped h g E i = absurd i
way_below c s k y (faulted f) h g E i = subst (λ (x : Edge). stmt_no x.to < c) (sym (in_single E _ i)) h
way_below c s k y (went b t w) h g E i = subst (λ (x : Edge). stmt_no x.to < c) (sym (in_single E _ i)) g

edge_stmt : (sts : List Stmt) (l : Loc) → stmt_no l < radix sts → (E : Edge) → In E (edges_of sts l)
    → stmt_no E.to < radix sts
edge_stmt sts (failed s f) h E i = absurd i
edge_stmt sts (at s h) q E i =
    let st = stmt_at sts s in
    let k = length h.slots in
    let j = in_joined E (map (λ z. edge_by s k z (step_by st k z)) (ways st.op h)) i in
    let w = in_map (λ z. edge_by s k z (step_by st k z)) j.0 (ways st.op h) j.1 in
    let y = w.0 in
    way_below (radix sts) s k y (step_by st k y) q (step_below (radix sts) st (record { pick = y.pick; cell_no = k })
    y.heap (radix_target sts s)) E
    (subst (In E) w.2 j.2)

-- ---- the exploration ends

module _ (r : Routine) (G : GoodStarts r) where
  explored_fits : (i : ℕ) (l : Loc) → In l (explored r.stmts r.starts i).locs → Fits (radix r.stmts) l
  explored_fits zero l h =
      let q = in_map (at 0) l r.starts h in
      subst (Fits (radix r.stmts)) (sym q.2) (G.shapes q.0 q.1, omega (arith, radix_byte r.stmts))
  explored_fits (suc i) l h =
      let sts = r.stmts in
      let ls = (explored sts r.starts i).locs in
      extend_all (Fits (radix sts)) i (edges_of sts (loc_at ls i)) (explored sts r.starts i) (explored_fits i)
      (λ e k. let p = explored_fits i (loc_at ls i) (get_or_in_lem ls (failed 0 leak) i (edge_below sts ls i e k)) in
      ((good_edge sts (loc_at ls i) p.0 e k).1, edge_stmt sts (loc_at ls i) p.1 e k)) l h

  pub explored_good : (i : ℕ) (l : Loc) → In l (explored r.stmts r.starts i).locs → GoodLoc l
  explored_good i l h = (explored_fits i l h).0

-- an exploration that never has more than b locations ends
full_within : (r : Routine) (b : ℕ) → ((i : ℕ) → length (explored r.stmts r.starts i).locs ≤ b) → (t : Listing)
    × IsFull r t
full_within r b h =
    let sts = r.stmts in
    let hs = r.starts in
    let t = explored sts hs b in
    let n = length t.locs in
    let k = h b in
    let p = prefix_length (explored sts hs n).locs t.locs (explored_prefix sts hs n b k) in
    (t, explored_end sts hs n b p k)

-- Every checked routine has a full listing,
pub full_exists : (s : List ℕ) (r : Routine) → check s ≡ good r → (t : Listing) × IsFull r t
full_exists s r e =
    let G = check_good s r e in
    let c = radix r.stmts in
    full_within r (c ^ 32)
    (λ i. locs_few c (radix_byte r.stmts) (explored r.stmts r.starts i).locs
    (explored_distinct r.stmts r.starts G.distinct i) (explored_fits r G i))

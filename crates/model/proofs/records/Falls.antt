-- When an update could give less than 1: the least counters that the guards allow decide it.
use Prim.Native.Nat.{◌%◌, ◌/◌, ◌<◌, ◌≤◌, suc, ℕ}
use mathlib.Core.Path.{◌∙◌, ◌≡◌, ap, sym}
use mathlib.Core.Logic.{◌↔◌}
use mathlib.Core.Bool.{◌&&◌, cond, false, true}
use mathlib.Core.List.{List, [], ◌∷◌}
use native.Mathlib.Nat.{mul-le-mul_left}
use native.Mathlib.Omega.{arith}
use lib.Dec.{eqb, leb, ltb}
use lib.ListN.{get_or-eq_default, get_or, length, length-map}
use borrow.Author.Tests.{eq-eqb, eqb-true, le-leb, leb-true, lt-ltb, ltb-false, ltb-true}
use Rattle.model.specs.Base.{all, numbers}
use Rattle.model.specs.Edges.{Edge, Update}
use Rattle.model.specs.Layout.{CouldFall, asks_more, could_fall, least_counters}
use Rattle.model.specs.Notions.{In, Positive, SmallEdge, guards_on, worth}
use Rattle.model.specs.Records.{GuardCode, update_code}
use Rattle.model.specs.Runs.{added, applied, guard_holds, guards_hold}
use Rattle.model.proofs.lists.Lists.{all_at, all_in, all_of, any_find, any_in, in_get_or_lem}
use Rattle.model.proofs.lists.Logic.{and_both, and_l, and_r, bool_case, eqb_same, not-true}
use Rattle.model.proofs.lists.Numbers.{length_numbers, map_number}
use Rattle.model.proofs.records.Bytes.{applied_code}

-- ---- smaller counters give no more

-- each counter is no more than the other list's at its place; past the end of a list it is 0
abbrev pub NoMore : List ℕ → List ℕ → Type 0
NoMore cs ds = (i : ℕ) → get_or cs i 0 ≤ get_or ds i 0

pub added_mono : (m : ℕ) (cs ds : List ℕ) → NoMore cs ds → added m cs ≤ added m ds
added_mono m [] ds h = omega arith
added_mono m (c ∷ cs) [] h =
    let p = mul-le-mul_left {m = c} {n = 0} (m % 2) (h 0) in
    let q = added_mono (m / 2) cs [] (λ i. h (suc i)) in
    omega arith
added_mono m (c ∷ cs) (d ∷ ds) h =
    let p = mul-le-mul_left {m = c} {n = d} (m % 2) (h 0) in
    let q = added_mono (m / 2) cs ds (λ i. h (suc i)) in
    omega arith

pub applied_mono : (u : ℕ) (cs ds : List ℕ) → NoMore cs ds → applied cs u ≤ applied ds u
applied_mono u cs ds h = let p = added_mono (u % 4096) cs ds h in omega arith

-- ---- the least counters

module _ (k : ℕ) (gs : List GuardCode) where
  pub least_length : length (least_counters k gs) ≡ k
  least_length = length-map (numbers 0 k) _ ∙ length_numbers 0 k

  pub least_at : (i : ℕ) → i < k → get_or (least_counters k gs) i 0 ≡ cond (asks_more gs i) 2 1
  least_at i h = map_number (λ j. cond (asks_more gs j) 2 1) k i 0 h

  least_past : (i : ℕ) → k ≤ i → get_or (least_counters k gs) i 0 ≡ 0
  least_past i h = get_or-eq_default (least_counters k gs) 0 (omega (arith, least_length))

  least_positive : (i : ℕ) → i < k → 1 ≤ get_or (least_counters k gs) i 0
  least_positive i h = rw (least_at i h)
      (bool_case (asks_more gs i) (λ e. rw e (omega arith)) (λ e. rw e (omega arith)))

  least_ones : all (leb 1) (least_counters k gs) ≡ true
  least_ones = all_of (leb 1) (least_counters k gs) (λ c i.
      let r = in_get_or_lem (least_counters k gs) 0 c i in
      let l : r.0 < k = omega (arith, r.1, least_length) in
      le-leb 1 c (omega (arith, r.2, least_positive r.0 l)))

  -- they are no more than any counters of 1 or more that pass the guards
  module _ (cs : List ℕ) (len : length cs ≡ k) (pos : all (leb 1) cs ≡ true) (on : guards_hold cs gs ≡ true) where
    -- a node with a counter above 0
    is_node_lem : (i : ℕ) → 1 ≤ get_or cs i 0 → i < k
    is_node_lem i h = bool_case (ltb i k) (ltb-true i k)
        (λ e. let l = ltb-false i k e in
        absurd (omega (arith, get_or-eq_default cs 0 {n = i} (omega arith))))

    -- where a guard asks for 2 or more
    more_passes : (i : ℕ) → asks_more gs i ≡ true → 2 ≤ get_or cs i 0
    more_passes i e =
        let r = any_find (λ (g : GuardCode). eqb g.test 2 && eqb g.node i) gs e in
        let g = r.0 in
        let t = eqb-true g.test 2 (and_l (eqb g.test 2) (eqb g.node i) r.2) in
        let n = eqb-true g.node i (and_r (eqb g.test 2) (eqb g.node i) r.2) in
        let p : guard_holds g.test (get_or cs g.node 0) ≡ true =
        all_in (λ (x : GuardCode). guard_holds x.test (get_or cs x.node 0)) gs g on r.1 in
        leb-true 2 (get_or cs i 0) (rw (t, n) at p)

    pub least_least : NoMore (least_counters k gs) cs
    least_least i = bool_case (ltb i k)
        (λ e. let l = ltb-true i k e in rw (least_at i l) (bool_case (asks_more gs i)
        (λ a. rw a (more_passes i a))
        (λ a. rw a (leb-true 1 (get_or cs i 0) (all_at (leb 1) cs 0 i pos (omega arith))))))
        (λ e. let l = ltb-false i k e in rw (least_past i l) (omega arith))

    -- and they pass each guard too
    guard_passes : (g : GuardCode) → In g gs → guard_holds g.test (get_or cs g.node 0) ≡ true
        → guard_holds g.test (get_or (least_counters k gs) g.node 0) ≡ true
    guard_passes g i p = bool_case (eqb g.test 0)
        (λ z. rw z)
        (λ z. bool_case (eqb g.test 1)
        (λ o. rw (z, o) (one (rw (z, o) at p)))
        (λ o. rw (z, o) (more (rw (z, o) at p))))
      where
        one : eqb (get_or cs g.node 0) 1 ≡ true → eqb (get_or (least_counters k gs) g.node 0) 1 ≡ true
        one q =
            let e = eqb-true (get_or cs g.node 0) 1 q in
            let l = is_node_lem g.node (omega arith) in
            eq-eqb (get_or (least_counters k gs) g.node 0) 1
            (omega (arith, least_positive g.node l, least_least g.node))

        more : eqb g.test 2 && leb 2 (get_or cs g.node 0) ≡ true
            → eqb g.test 2 && leb 2 (get_or (least_counters k gs) g.node 0) ≡ true
        more q =
            let t = and_l (eqb g.test 2) (leb 2 (get_or cs g.node 0)) q in
            let e = leb-true 2 (get_or cs g.node 0) (and_r (eqb g.test 2) (leb 2 (get_or cs g.node 0)) q) in
            let l = is_node_lem g.node (omega arith) in
            let a : asks_more gs g.node ≡ true =
            any_in (λ (x : GuardCode). eqb x.test 2 && eqb x.node g.node) gs g i
            (and_both (eqb g.test 2) (eqb g.node g.node) t (eqb_same g.node)) in
            and_both (eqb g.test 2) (leb 2 (get_or (least_counters k gs) g.node 0)) t
            (ap (leb 2) (least_at g.node l ∙ ap (λ b. cond b 2 1) a))

    pub least_passes : guards_hold (least_counters k gs) gs ≡ true
    least_passes = all_of (λ (g : GuardCode). guard_holds g.test (get_or (least_counters k gs) g.node 0)) gs
        (λ g i. guard_passes g i (all_in (λ (x : GuardCode). guard_holds x.test (get_or cs x.node 0)) gs g on i))

-- An update could give less than 1 exactly when it does so from the least counters that the guards allow.
pub could_fall_is : (k : ℕ) (gs : List GuardCode) (u : ℕ) → (could_fall k gs u ≡ true) ↔ CouldFall k gs u
could_fall_is k gs u = (falls, could)
  where
    falls : could_fall k gs u ≡ true → CouldFall k gs u
    falls h = (
      least_counters k gs,
      least_length k gs,
      least_ones k gs,
      and_l (guards_hold (least_counters k gs) gs) (ltb (applied (least_counters k gs) u) 1) h,
      ltb-true (applied (least_counters k gs) u) 1
          (and_r (guards_hold (least_counters k gs) gs) (ltb (applied (least_counters k gs) u) 1) h),
    )

    could : CouldFall k gs u → could_fall k gs u ≡ true
    could (cs, len, pos, on, low) =
        let m = applied_mono u (least_counters k gs) cs (least_least k gs cs len pos on) in
        and_both (guards_hold (least_counters k gs) gs) (ltb (applied (least_counters k gs) u) 1)
        (least_passes k gs cs len pos on) (lt-ltb (applied (least_counters k gs) u) 1 (omega arith))

-- ---- edges

-- from counters of 1 or more under its guards, an edge of a location with k nodes gives such counters
abbrev pub StaysPositive : ℕ → Edge → Type 0
StaysPositive k e = (cs : List ℕ) → length cs ≡ k → Positive cs → guards_on e.guards cs ≡ true → (u : Update)
    → In u e.updates → 1 ≤ worth cs u

pub ones_positive : (cs : List ℕ) → all (leb 1) cs ≡ true → Positive cs
ones_positive cs h n lt = leb-true 1 (get_or cs n 1) (all_at (leb 1) cs 1 n h lt)

-- so none of its updates could fall, with its guards in numbers
pub never_falls : (k : ℕ) (gs : List GuardCode) (e : Edge) → k ≤ 12 → SmallEdge k e → StaysPositive k e
    → ((cs : List ℕ) → guards_hold cs gs ≡ guards_on e.guards cs) → (u : Update) → In u e.updates
    → could_fall k gs (update_code u) ≡ false
never_falls k gs e few S P on u i = not-true (could_fall k gs (update_code u)) (λ h.
    let F = (could_fall_is k gs (update_code u)).0 h in
    let cs = F.0 in
    let s = S.small u i in
    let w : applied cs (update_code u) ≡ worth cs u = applied_code u cs (let z = s.1 in omega arith)
    (let z = s.0 in omega arith) in
    omega (arith, F.4, P cs F.1 (ones_positive cs F.2) (sym (on cs) ∙ F.3) u i))

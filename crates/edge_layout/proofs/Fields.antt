-- The fields of an edge's record, each with the clause of the layout that it is judged by.
use Prim.Native.Nat.{ℕ, ◌+◌, ◌*◌}
use mathlib.Core.Path.{◌≡◌, refl, sym, ap, subst, ◌∙◌}
use mathlib.Core.Bool.{Bool, true, false, ◌&&◌, ◌||◌, not}
use mathlib.Core.List.{List, [], ◌∷◌}
use mathlib.Core.Logic.{inl, inr}
use native.Mathlib.Omega.{arith}
use lib.Dec.{eqb, leb, ltb}
use lib.ListN.{drop}
use borrow.Author.Tests.{eq-eqb, leb-true, lt-ltb, leb-false, not-false as unnot}
use Rattle.model.specs.Base.{all}
use Rattle.model.specs.Layout.{added_once, bytes_keep, constant_keeps, could_fall, counters_there, edge_keeps, ends_keep, guard_keeps, guard_there, nodes_keep}
use Rattle.model.specs.Notions.{In}
use Rattle.model.specs.Records.{GuardCode, byte, is_zero, word}
use Rattle.model.specs.Runs.{guards_of, updates_of}
use Rattle.model.proofs.lists.Lists.{all_in, all_of}
use Rattle.model.proofs.lists.Logic.{and_both, and_l, and_r, and_five, bool_ext, clash, not-false, not-true, or_cases, or_false_l, or_false_r}
use Rattle.model.proofs.records.LayoutFacts.{edge_kept}
use Rattle.update_layout.specs.Kept.{guard_ok, update_keeps}

module _ (n ks kt : ℕ) (r : List ℕ) where
  abbrev pub Kept : Bool
  Kept = edge_keeps n ks kt r

  abbrev us : List ℕ
  us = updates_of kt r

  -- ends that are no locations
  pub ends_off : leb n (word r 2) || leb n (word r 4) ≡ true → false ≡ Kept
  ends_off h = sym (not-true Kept (λ k.
      let K = edge_kept n ks kt r k in
      or_cases (leb n (word r 2)) (leb n (word r 4)) h
      (λ e. omega (arith, leb-true n (word r 2) e, K.source))
      (λ e. omega (arith, leb-true n (word r 4) e, K.target))))

  pub ends_on : leb n (word r 2) || leb n (word r 4) ≡ false → ends_keep n r ≡ true
  ends_on h = and_both (ltb (word r 2) n) (ltb (word r 4) n)
      (lt-ltb (word r 2) n (leb-false n (word r 2) (or_false_l (leb n (word r 2)) (leb n (word r 4)) h)))
      (lt-ltb (word r 4) n (leb-false n (word r 4) (or_false_r (leb n (word r 2)) (leb n (word r 4)) h)))

  -- the first two bytes
  pub head_off : not (eqb (byte r 0) 0x45) || leb 0x80 (byte r 1) ≡ true → false ≡ Kept
  head_off h = sym (not-true Kept (λ k.
      let K = edge_kept n ks kt r k in
      or_cases (not (eqb (byte r 0) 0x45)) (leb 0x80 (byte r 1)) h
      (λ e. clash (eq-eqb (byte r 0) 0x45 K.kind) (not-false (eqb (byte r 0) 0x45) e))
      (λ e. omega (arith, leb-true 0x80 (byte r 1) e, K.spare))))

  -- the guards, and the updates under them
  module _ (a b : GuardCode) (e : a ∷ b ∷ [] ≡ guards_of r) where
    abbrev gs : List GuardCode
    gs = a ∷ b ∷ []

    in_gs : (g : GuardCode) → In g gs → In g (guards_of r)
    in_gs g = subst (In g) e

    pub guards_off : guard_ok ks a && guard_ok ks b ≡ false → false ≡ Kept
    guards_off h = sym (not-true Kept (λ k.
        let K = edge_kept n ks kt r k in
        let ok : (g : GuardCode) → In g gs → guard_ok ks g ≡ true =
        λ g i. and_both (guard_keeps g) (guard_there ks g) (all_in guard_keeps (guards_of r) g K.guards (in_gs g i))
        (all_in (guard_there ks) (guards_of r) g K.guard_nodes (in_gs g i)) in
        clash (and_both (guard_ok ks a) (guard_ok ks b) (ok a (inl refl)) (ok b (inr (inl refl)))) h))

    -- all that is left to be judged
    abbrev Left : Bool
    Left = all (update_keeps ks gs) us && added_once us && all is_zero (drop (8 + 2 * kt) r)

    left_kept : ends_keep n r ≡ true → not (eqb (byte r 0) 0x45) || leb 0x80 (byte r 1) ≡ false
        → guard_ok ks a && guard_ok ks b ≡ true → Left ≡ true → Kept ≡ true
    left_kept ends head ok l =
        let A = all (update_keeps ks gs) us in
        let O = added_once us in
        let Z = all is_zero (drop (8 + 2 * kt) r) in
        let each = and_l A O (and_l (A && O) Z l) in
        let once = and_r A O (and_l (A && O) Z l) in
        let zeros = and_r (A && O) Z l in
        let part : (p : ℕ → Bool) → ((u : ℕ) → update_keeps ks gs u ≡ true → p u ≡ true) → all p us ≡ true =
        λ p f. all_of p us (λ u i. f u (all_in (update_keeps ks gs) us u each i)) in
        let constants = part constant_keeps (λ u h. and_l (constant_keeps u) (counters_there ks u)
        (and_l (constant_keeps u && counters_there ks u) (not (could_fall ks gs u)) h)) in
        let counters = part (counters_there ks) (λ u h. and_r (constant_keeps u) (counters_there ks u)
        (and_l (constant_keeps u && counters_there ks u) (not (could_fall ks gs u)) h)) in
        let positive : all (λ u. not (could_fall ks (guards_of r) u)) us ≡ true =
        subst (λ x. all (λ u. not (could_fall ks x u)) us ≡ true) e (part (λ u. not (could_fall ks gs u)) (λ u h.
        and_r (constant_keeps u && counters_there ks u) (not (could_fall ks gs u)) h)) in
        let kind = unnot (eqb (byte r 0) 0x45) (or_false_l (not (eqb (byte r 0) 0x45)) (leb 0x80 (byte r 1)) head) in
        let spare = lt-ltb (byte r 1) 128
        (leb-false 0x80 (byte r 1) (or_false_r (not (eqb (byte r 0) 0x45)) (leb 0x80 (byte r 1)) head)) in
        let ok_a = and_l (guard_ok ks a) (guard_ok ks b) ok in
        let ok_b = and_r (guard_ok ks a) (guard_ok ks b) ok in
        let two : (p : GuardCode → Bool) → p a ≡ true → p b ≡ true → all p (guards_of r) ≡ true =
        λ p x y. subst (λ l. all p l ≡ true) e (and_both (p a) (p b && true) x (and_both (p b) true y refl)) in
        let keep = two guard_keeps (and_l (guard_keeps a) (guard_there ks a) ok_a)
        (and_l (guard_keeps b) (guard_there ks b)
        ok_b) in
        let there = two (guard_there ks) (and_r (guard_keeps a) (guard_there ks a) ok_a) (and_r (guard_keeps b)
        (guard_there ks b) ok_b) in
        let bytes = and_five (eqb (byte r 0) 0x45) (ltb (byte r 1) 128) (all guard_keeps (guards_of r))
        (all constant_keeps us) Z kind spare keep constants zeros in
        let nodes = and_both (all (guard_there ks) (guards_of r)) (all (counters_there ks) us) there counters in
        and_five (ends_keep n r) (bytes_keep kt r) (nodes_keep ks kt r) O
        (all (λ u. not (could_fall ks (guards_of r) u)) us)
        ends bytes nodes once positive

    kept_left : Kept ≡ true → Left ≡ true
    kept_left k =
        let K = edge_kept n ks kt r k in
        let each = all_of (update_keeps ks gs) us (λ u i.
        and_both (constant_keeps u && counters_there ks u) (not (could_fall ks gs u))
        (and_both (constant_keeps u) (counters_there ks u) (all_in constant_keeps us u K.constants i)
        (all_in (counters_there ks) us u K.counter_nodes i))
        (ap not (ap (λ l. could_fall ks l u) e ∙ K.positive u i))) in
        and_both (all (update_keeps ks gs) us && added_once us) (all is_zero (drop (8 + 2 * kt) r))
        (and_both (all (update_keeps ks gs) us) (added_once us) each K.once) K.absent

    pub left_is : ends_keep n r ≡ true → not (eqb (byte r 0) 0x45) || leb 0x80 (byte r 1) ≡ false
        → guard_ok ks a && guard_ok ks b ≡ true → Left ≡ Kept
    left_is ends head ok = bool_ext Left Kept (left_kept ends head ok) kept_left

-- What the calls answer about nodes: each of 9, 18 and 19 with exactly the node that is told, and all others with 0.
use Prim.Native.Nat.{◌<◌, ◌≤◌, suc, zero, ℕ}
use mathlib.Core.Path.{◌∙◌, ◌≡◌, ap, refl, subst, sym}
use mathlib.Core.Logic.{◌⊎◌, inl, inr, ⊎_elim}
use mathlib.Core.Bool.{◌&&◌, ◌||◌, false, not, true}
use mathlib.Core.List.{List, [], ◌∷◌, ◌++◌}
use native.Mathlib.Omega.{arith}
use lib.Dec.{eqb, leb}
use lib.ListN.{get_or, length, take}
use borrow.Author.Tests.{eq-eqb, le-leb}
use Rattle.model.specs.Base.{all, count, mem}
use Rattle.model.specs.Answers.{refusal_of}
use Rattle.model.specs.Heap.{Heap}
use Rattle.model.specs.Image.{check_counters, checks_unfold, node_unfold, refusal_unfold, unfold_image, verdict_by}
use Rattle.model.specs.Listings.{BadInput, RightKinds, RightRecords, bad_kind, bad_length, bad_record, bad_shapes, bad_statements, no_records, numbers_h, numbers_s, record_node, record_refusal, records_of, right_h, right_s}
use Rattle.model.specs.Nodes.{GivenAsTold, OneTold, SaysNode, Told, not_core, nothing, numbered_otherwise, record_of, unreachable}
use Rattle.model.specs.Notions.{CheckedBy, Given}
use Rattle.model.specs.Records.{Refusal, Row, Verdict, check_layout, check_repeated, checks_h, checks_nodes, checks_s, failed_node, first_failed, is_refused, is_s, layout_h, refusal, refusal_at, refusal_h, shape_of, tells_node, unless}
use Rattle.model.specs.Translate.{Outcome, bad, places, refused_with, translate}
use Rattle.model.proofs.expansion.Facts.{test_closed}
use Rattle.model.proofs.images.Images.{unfold_verdict}
use Rattle.model.proofs.listings.Outcomes.{TranslateCases, bad_translate, translate_cases}
use Rattle.model.proofs.listings.Places.{full_is}
use Rattle.model.proofs.lists.Lists.{get_or_in_lem}
use Rattle.model.proofs.lists.Logic.{and_both, bool_case, clash, not-false}
use Rattle.model.proofs.records.Checked.{records_wide}
use Rattle.model.proofs.records.Checks.{Nodeless, Numbered, failed_given, failed_nodeless, failed_number, no_node_lem, given_failed, none_failed, not_both, pass_tells, refused_inj}
use Rattle.model.proofs.records.Refusals.{among, bad_refused, record_number, refused_input}
use Rattle.model.proofs.records.ShapeBack.{layout_closed, layout_writable}
use Rattle.model.proofs.records.ToldNodes.{given_as_told, one_told}

-- the verdict of a call by its checks, in numbers
abbrev Numbers : List Row → Verdict → Type 0
Numbers cs v = ((refusal_of v).number ≡ first_failed cs) × ((refusal_of v).node ≡ failed_node cs)

verdict_told : (cs : List Row) → Numbered cs → {v : Verdict} → v ≡ verdict_by (first_failed cs) (failed_node cs)
    → Numbers cs v
verdict_told cs k {v} e = subst (Numbers cs) (sym e) (by_number (first_failed cs) refl)
  where
    by_number : (m : ℕ) → first_failed cs ≡ m → Numbers cs (verdict_by (first_failed cs) (failed_node cs))
    by_number zero q = (rw q refl, rw q (pass_tells cs (none_failed cs k q)).node)
    by_number (suc m) q = (rw q refl, rw q refl)

-- ---- a record that keeps the layout

module _ (r : List ℕ) (w : length r ≡ 32) (l : layout_h r ≡ true) where
  told_as : (c : Row) (cs : List Row) → c.passes ≡ true
      → GivenAsTold (shape_of r) (first_failed cs) (failed_node cs)
      → GivenAsTold (shape_of r) (first_failed (c ∷ cs)) (failed_node (c ∷ cs))
  told_as c cs p g =
      let a : first_failed (c ∷ cs) ≡ first_failed cs = rw (p, first_failed) in
      let b : failed_node (c ∷ cs) ≡ failed_node cs = rw (p, failed_node) in
      subst (λ k. GivenAsTold (shape_of r) k (failed_node (c ∷ cs))) (sym a)
      (subst (GivenAsTold (shape_of r) (first_failed cs)) (sym b) g)

  pub record_one : OneTold (shape_of r)
  record_one = one_told (shape_of r) (test_closed (shape_of r) (layout_closed r w l))

  nodes_told : (rest : List Row) → all (λ (c : Row). not (tells_node c.number)) rest ≡ true
      → GivenAsTold (shape_of r) (first_failed (checks_nodes (shape_of r) ++ rest))
      (failed_node (checks_nodes (shape_of r) ++ rest))
  nodes_told = given_as_told (shape_of r) (test_closed (shape_of r) (layout_closed r w l))

  -- among the H records of an input
  pub record_told : (e : List (List ℕ)) → GivenAsTold (shape_of r) (refusal_h e r) (failed_node (checks_h e r))
  record_told e =
      let rest = check_repeated e r ∷ [] in
      told_as (check_layout r) (checks_nodes (shape_of r) ++ rest) l (nodes_told rest refl)

  -- in unfolding
  unfolding_told : (vs : List ℕ) (np nc : ℕ) → np ≡ 6 → nc ≤ 240
      → GivenAsTold (shape_of r) (refusal_unfold r vs np nc) (node_unfold r vs np nc)
  unfolding_told vs np nc p q =
      let rest = check_counters r vs nc ∷ [] in
      let tail = checks_nodes (shape_of r) ++ rest in
      let layout = unless 8 (eqb (length r) 32 && layout_h r) in
      told_as (unless 13 (eqb np 6 && leb nc 240)) (layout ∷ tail)
      (and_both (eqb np 6) (leb nc 240) (eq-eqb np 6 p) (le-leb nc 240 q))
      (told_as layout tail (and_both (eqb (length r) 32) (layout_h r) (eq-eqb (length r) 32 w) l)
      (nodes_told rest refl))

  pub unfold_told : (vs ps cs : List ℕ) → length ps ≡ 6 → length cs ≤ 240
      → GivenAsTold (shape_of r) (refusal_of (unfold_image r vs ps cs).verdict).number
      (refusal_of (unfold_image r vs ps cs).verdict).node
  unfold_told vs ps cs p q =
      let v = verdict_told (checks_unfold r vs (length ps) (length cs)) refl (unfold_verdict r vs ps cs) in
      subst (λ k. GivenAsTold (shape_of r) k (refusal_of (unfold_image r vs ps cs).verdict).node) (sym v.0)
      (subst (GivenAsTold (shape_of r) (refusal_unfold r vs (length ps) (length cs))) (sym v.1)
      (unfolding_told vs (length ps) (length cs) p q))

-- ---- the answer of a translation

-- a node that is told is a node
told_below : (h : Heap) {n v : ℕ} → tells_node n ≡ true → Told h n v → v < length h.slots
told_below h t (unreachable F) = F.below
told_below h t (not_core a F) = F.below
told_below h t (numbered_otherwise a b F) = F.below
told_below h t (nothing C) = clash t refl

-- 9, 18 and 19 are an H record's that keeps the layout
module _ (rs : List (List ℕ)) (i m : ℕ) (e : record_refusal rs i ≡ suc m) (t : tells_node (suc m) ≡ true) where
  no_statement : is_s (get_or rs i []) ≡ false
  no_statement = ⊎_elim
      (λ (p : (is_s (get_or rs i []) ≡ true) × (mem (suc m) numbers_s ≡ true)).
      clash t (not-false _ (among (λ n. not (tells_node n)) numbers_s refl (suc m) p.1)))
      (λ (p : (is_s (get_or rs i []) ≡ false) × (mem (suc m) numbers_h ≡ true)). p.0) (record_number rs i m e)

  keeps_layout_lem : layout_h (get_or rs i []) ≡ true
  keeps_layout_lem = by_check (failed_given (checks_h (take i rs) (get_or rs i [])) m (rw no_statement at e))
    where
      by_check : Given (checks_h (take i rs) (get_or rs i [])) (suc m)
          (failed_node (checks_h (take i rs) (get_or rs i [])))
          → layout_h (get_or rs i []) ≡ true
      by_check (inl (z, d, p)) = clash t (ap tells_node (sym z))
      by_check (inr (p, g)) = p

  pub record_says : length (get_or rs i []) ≡ 32 → Told (shape_of (get_or rs i [])) (suc m) (record_node rs i)
  record_says w =
      let r = get_or rs i [] in
      let g = record_told r w keeps_layout_lem (take i rs) in
      let a : refusal_h (take i rs) r ≡ suc m = rw no_statement at e in
      let b : failed_node (checks_h (take i rs) r) ≡ record_node rs i = rw no_statement refl in
      (g.0 (suc m) (record_node rs i) t).0 (a, b)

bad_says : (s : List ℕ) (x : Refusal) → BadInput s x → tells_node x.number ≡ true → SaysNode s x × (x.node < 12)
bad_says s x (bad_length e a) t = clash t (rw e refl)
bad_says s x (bad_kind i e a lt f w) t = clash t (rw e refl)
bad_says s x (bad_statements e a f b) t = clash t (rw e refl)
bad_says s x (bad_shapes e a f b c) t = clash t (rw e refl)
bad_says s x (bad_record n i e a f b c lt g w) t =
    let u : tells_node (suc n) ≡ true = rw e at t in
    let wide = records_wide s a (record_of s i) (get_or_in_lem (records_of s) [] i lt) in
    let l = keeps_layout_lem (records_of s) i n w u in
    let told = record_says (records_of s) i n w u wide in
    let few = (layout_writable (record_of s i) wide l).few in
    subst (λ y. SaysNode s y × (y.node < 12)) (sym e) (
      (lt, no_statement (records_of s) i n w u, l, told),
      (let low = told_below (shape_of (record_of s i)) u told in omega arith),
    )

-- all other refusals have node 0
bad_nodeless : (s : List ℕ) (x : Refusal) → BadInput s x → tells_node x.number ≡ false → x.node ≡ 0
bad_nodeless s x (bad_length e a) t = rw e refl
bad_nodeless s x (bad_kind i e a lt f w) t = rw e refl
bad_nodeless s x (bad_statements e a f b) t = rw e refl
bad_nodeless s x (bad_shapes e a f b c) t = rw e refl
bad_nodeless s x (bad_record n i e a f b c lt g w) t =
    let rs = records_of s in
    let u : tells_node (suc n) ≡ false = rw e at t in
    ap (λ (y : Refusal). y.node) e ∙ bool_case (is_s (record_of s i))
    (λ q. rw q (failed_nodeless tells_node (checks_s (count is_s rs) (record_of s i)) refl (suc n) (rw q at w) u))
    (λ q. rw q (failed_nodeless tells_node (checks_h (take i rs) (record_of s i)) refl (suc n) (rw q at w) u))

module _ (s : List ℕ) (a b : ℕ) (x : Refusal) (z : (translate s a b).verdict ≡ is_refused x) where
  same : (y : Refusal) → translate s a b ≡ refused_with a b y → y ≡ x
  same y q = refused_inj (sym (ap (λ (o : Outcome). o.verdict) q) ∙ z)

  -- something is wrong with the input, or there is no place
  abbrev Reasons : Type 0
  Reasons = BadInput s x ⊎ ((i : ℕ) × ((x ≡ refusal 11 i) ⊎ (x ≡ refusal 12 i)))

  reasons : Reasons
  reasons = by_case (translate_cases s a b)
    where
      by_case : TranslateCases s a b → Reasons
      by_case (inl (y, e, q)) = inl (refused_input s x (e ∙ ap bad (same y q)))
      by_case (inr (inl (r, y, e, p, q))) =
          inr (subst (λ v. (i : ℕ) × ((v ≡ refusal 11 i) ⊎ (v ≡ refusal 12 i))) (same y q)
          (full_is r (places 1024 a) (places 2048 b) y p))
      by_case (inr (inr (r, t, e, p, q))) =
          not_both (translate s a b).verdict x (ap (λ (o : Outcome). o.verdict) q) z

  pub translate_says : tells_node x.number ≡ true → SaysNode s x × (x.node < 12)
  translate_says t = by_reason reasons
    where
      by_reason : Reasons → SaysNode s x × (x.node < 12)
      by_reason (inl B) = bad_says s x B t
      by_reason (inr (i, inl e)) = clash t (rw e refl)
      by_reason (inr (i, inr e)) = clash t (rw e refl)

  pub translate_nodeless : tells_node x.number ≡ false → x.node ≡ 0
  translate_nodeless t = by_reason reasons
    where
      by_reason : Reasons → x.node ≡ 0
      by_reason (inl B) = bad_nodeless s x B t
      by_reason (inr (i, inl e)) = rw e refl
      by_reason (inr (i, inr e)) = rw e refl

-- of a call that is told by its checks
pub checked_node : (cs : List Row) (v : Verdict) → CheckedBy cs v
    → all (λ (c : Row). tells_node c.number || eqb c.node 0) cs ≡ true → (x : Refusal) → v ≡ is_refused x
    → tells_node x.number ≡ false → x.node ≡ 0
checked_node cs v C k x e t =
    let g = given_failed cs x.number x.node ((C.refuses x.number x.place x.node).0 e).1 in
    sym g.1 ∙ failed_nodeless tells_node cs k x.number g.0 t

pub checked_none : (cs : List Row) (v : Verdict) → CheckedBy cs v
    → all (λ (c : Row). not (tells_node c.number)) cs ≡ true → Nodeless cs → (x : Refusal) → v ≡ is_refused x
    → (tells_node x.number ≡ false) × (x.node ≡ 0)
checked_none cs v C k z x e =
    let g = given_failed cs x.number x.node ((C.refuses x.number x.place x.node).0 e).1 in
    (by_number x.number g.0, sym g.1 ∙ no_node_lem cs z)
  where
    by_number : (m : ℕ) → first_failed cs ≡ m → tells_node m ≡ false
    by_number zero q = refl
    by_number (suc m) q = not-false _ (failed_number (λ n. not (tells_node n)) cs k m q)

-- ---- a node that is told of the first record that is refused makes the refusal

module _ (s : List ℕ) (i : ℕ) (a : no_records s ≡ false) (f : RightKinds s (length (records_of s)))
    (b : right_s s ≡ true) (c : right_h s ≡ true) (lt : i < length (records_of s)) (g : RightRecords s i) where
  pub told_refused : {n v : ℕ} → is_s (record_of s i) ≡ false → layout_h (record_of s i) ≡ true → tells_node n ≡ true
      → Told (shape_of (record_of s i)) n v → (ta tb : ℕ) → (translate s ta tb).verdict ≡ is_refused (refusal_at n i v)
  told_refused {n} {v} h l t T ta tb =
      let r = record_of s i in
      let w = records_wide s a r (get_or_in_lem (records_of s) [] i lt) in
      let z = ((record_told r w l (take i (records_of s))).0 n v t).1 T in
      let p : record_refusal (records_of s) i ≡ n = rw h z.0 in
      let q : record_node (records_of s) i ≡ v = rw h z.1 in
      by_number n t p q
    where
      by_number : (k : ℕ) → tells_node k ≡ true → record_refusal (records_of s) i ≡ k
          → record_node (records_of s) i ≡ v → (translate s ta tb).verdict ≡ is_refused (refusal_at k i v)
      by_number zero u p q = clash u refl
      by_number (suc k) u p q = bad_translate s ta tb (refusal_at (suc k) i v)
          (bad_refused s _ (bad_record k i (ap (refusal_at (suc k) i) (sym q)) a f b c lt g p))

-- The refusals of an input are those of 01's table, each at its place: what is wrong with a refused input, and that
-- nothing is with an accepted one.
use Prim.Native.Nat.{◌+◌, ◌<◌, ◌≤◌, suc, zero, ℕ}
use Rattle.model.proofs.records.Checks.{failed_number}
use mathlib.Core.Path.{◌∙◌, ◌≡◌, ap, ap₂, refl, subst, sym}
use mathlib.Core.Logic.{◌⊎◌, inl, inr, ⊎_elim}
use mathlib.Core.Option.{none, some}
use mathlib.Core.Bool.{Bool, ◌&&◌, ◌||◌, false, not, or-false, true}
use mathlib.Core.List.{List, [], ◌++◌, ◌∷◌, append-nil}
use native.Mathlib.Nat.{min-le_left, zero-add}
use native.Mathlib.Omega.{arith}
use lib.Dec.{eqb, leb}
use lib.ListN.{get_or, length, length-map, length-take, take}
use lib.Seq.{get_or-take, length-take-le}
use Rattle.model.specs.Base.{all, any, count, mem, same_list}
use borrow.Author.Tests.{leb-true}
use Rattle.model.proofs.lists.Lists.{all_at, all_in, get_or_map, mem_in}
use Rattle.model.proofs.lists.Sorted.{kinds_sorted}
use Rattle.model.specs.Edges.{stmt_at}
use Rattle.model.specs.Heap.{next}
use Rattle.model.specs.Records.{Refusal, Row, checks_h, checks_record, checks_s, failed_node, first_failed, is_h, is_s, refusal, refusal_at, stmt_of}
use Rattle.model.specs.Translate.{Routine, bad, first_bad_kind, first_bad_record, between, check, check_counts, check_kinds, check_records, good, routine_of}
use Rattle.model.proofs.records.Checked.{bad-good, good_inj}
use Rattle.model.proofs.records.Statements.{Leads, leads}
use Rattle.model.specs.Listings.{BadInput, GoodInput, bad_kind, bad_length, bad_record, bad_shapes, bad_statements, no_records, numbers_h, numbers_input, numbers_s, record_checks, record_node, record_refusal, records_of, wrong_kind}
use Rattle.model.proofs.lists.Logic.{and_l, and_r, bool_case, clash, not-false, or_r}

-- ---- the first record of a wrong kind

-- record k is of a wrong kind, where an H may stand before the list
abbrev wrong_after : Bool → List (List ℕ) → ℕ → Bool
wrong_after after rs k = not (is_h (get_or rs k []))
    && not (is_s (get_or rs k []) && not (after || any is_h (take k rs)))

abbrev KindCases : Bool → ℕ → List (List ℕ) → Type 0
KindCases after i rs =
    ((k : ℕ) × (first_bad_kind after i rs ≡ some (i + k)) × (k < length rs) × (wrong_after after rs k ≡ true)
    × ((m : ℕ) → m < k → wrong_after after rs m ≡ false))
    ⊎ ((first_bad_kind after i rs ≡ none) × ((k : ℕ) → k < length rs → wrong_after after rs k ≡ false))

or_true : (b : Bool) → b || true ≡ true
or_true b = or_r b true refl

-- the first record is of a right kind
kind_more : (after next : Bool) (i : ℕ) (r : List ℕ) (rs : List (List ℕ)) → first_bad_kind after i (r ∷ rs)
    ≡ first_bad_kind next (suc i) rs
    → wrong_after after (r ∷ rs) 0 ≡ false → ((k : ℕ) → wrong_after after (r ∷ rs) (suc k) ≡ wrong_after next rs k)
    → KindCases next (suc i) rs → KindCases after i (r ∷ rs)
kind_more after next i r rs e z h (inl (k, q, lt, w, f)) =
    inl (suc k, e ∙ q ∙ ap some (omega arith), omega arith, h k ∙ w, λ m l. by_place m l)
  where
    by_place : (m : ℕ) → m < suc k → wrong_after after (r ∷ rs) m ≡ false
    by_place zero l = z
    by_place (suc m) l = h m ∙ f m (omega arith)
kind_more after next i r rs e z h (inr (q, f)) = inr (e ∙ q, λ k l. by_place k l)
  where
    by_place : (k : ℕ) → k < suc (length rs) → wrong_after after (r ∷ rs) k ≡ false
    by_place zero l = z
    by_place (suc k) l = h k ∙ f k (omega arith)

kind_cases : (after : Bool) (i : ℕ) (rs : List (List ℕ)) → KindCases after i rs
kind_cases after i [] = inr (refl, λ k l. absurd (omega arith))
kind_cases after i (r ∷ rs) = bool_case (is_h r)
    (λ h. kind_more after true i r rs (rw (h, first_bad_kind)) (rw h) (λ k. rw (h, or_true after))
    (kind_cases true (suc i) rs))
    (λ h. bool_case (is_s r && not after)
    (λ s. let a : after ≡ false = not-false after (and_r (is_s r) (not after) s) in
    kind_more after false i r rs (rw (h, first_bad_kind) (rw (s, first_bad_kind)))
    (rw (h, a, and_l (is_s r) (not after) s))
    (λ k. rw (h, a)) (kind_cases false (suc i) rs))
    (λ s. inl (
      0,
      rw (h, first_bad_kind) (rw (s, first_bad_kind) (ap some (omega arith))),
      omega arith,
      rw (h, or-false after, s),
      λ m l. absurd (omega arith),
    )))

-- ---- the first record that is refused

-- the checks of record k, its refusal, and the node that is told with it
abbrev checks_after : ℕ → List (List ℕ) → List (List ℕ) → ℕ → List Row
checks_after n earlier rs k = checks_record n (take k rs ++ earlier) (get_or rs k [])

abbrev refused_after : ℕ → List (List ℕ) → List (List ℕ) → ℕ → ℕ
refused_after n earlier rs k = first_failed (checks_after n earlier rs k)

abbrev node_after : ℕ → List (List ℕ) → List (List ℕ) → ℕ → ℕ
node_after n earlier rs k = failed_node (checks_after n earlier rs k)

abbrev RecordCases : ℕ → ℕ → List (List ℕ) → List (List ℕ) → Type 0
RecordCases n i earlier rs =
    ((k m : ℕ) × (first_bad_record n i earlier rs ≡ some (refusal_at (suc m) (i + k) (node_after n earlier rs k)))
    × (k < length rs) × (refused_after n earlier rs k ≡ suc m)
    × ((j : ℕ) → j < k → refused_after n earlier rs j ≡ 0))
    ⊎ ((first_bad_record n i earlier rs ≡ none) × ((k : ℕ) → k < length rs → refused_after n earlier rs k ≡ 0))

any_swap : {A : Type 0} (p : A → Bool) (l m : List A) (x : A) → any p (l ++ x ∷ m) ≡ p x || any p (l ++ m)
any_swap p [] m x = refl
any_swap p (y ∷ l) m x = ap (λ z. p y || z) (any_swap p l m x) ∙ swap (p y) (p x) (any p (l ++ m))
  where
    swap : (a b c : Bool) → a || (b || c) ≡ b || (a || c)
    swap true b c = sym (or_true b)
    swap false b c = refl

-- the order of the earlier records does not matter
earlier_same : (n : ℕ) (earlier rs : List (List ℕ)) (r : List ℕ) (k : ℕ) → checks_after n earlier (r ∷ rs) (suc k)
    ≡ checks_after n (r ∷ earlier) rs k
earlier_same n earlier rs r k = rw (any_swap (same_list eqb (get_or rs k [])) (take k rs) earlier r)

record_cases : (n i : ℕ) (earlier rs : List (List ℕ)) → RecordCases n i earlier rs
record_cases n i earlier [] = inr (refl, λ k l. absurd (omega arith))
record_cases n i earlier (r ∷ rs) = by_first (first_failed (checks_record n earlier r)) refl
    (record_cases n (suc i) (r ∷ earlier) rs)
  where
    by_first : (m : ℕ) → first_failed (checks_record n earlier r) ≡ m → RecordCases n (suc i) (r ∷ earlier) rs
        → RecordCases n i earlier (r ∷ rs)
    by_first (suc m) e c = inl (
      0,
      m,
      rw (e, first_bad_record) (ap (λ p. some (refusal_at (suc m) p (failed_node (checks_record n earlier r))))
          (omega arith)),
      omega
          arith,
      e,
      λ j l. absurd (omega arith),
    )
    by_first zero e (inl (k, m, q, lt, w, f)) =
        inl (
          suc k,
          m,
          rw (e, first_bad_record) (q ∙ ap₂ (λ p cs. some (refusal_at (suc m) p (failed_node cs))) (omega arith)
              (sym (earlier_same n earlier rs r k))),
          omega arith,
          ap first_failed (earlier_same n earlier rs r k) ∙ w,
          λ j l. by_place j l,
        )
      where
        by_place : (j : ℕ) → j < suc k → refused_after n earlier (r ∷ rs) j ≡ 0
        by_place zero l = e
        by_place (suc j) l = ap first_failed (earlier_same n earlier rs r j) ∙ f j (omega arith)
    by_first zero e (inr (q, f)) = inr (rw (e, first_bad_record) q, λ k l. by_place k l)
      where
        by_place : (k : ℕ) → k < suc (length rs) → refused_after n earlier (r ∷ rs) k ≡ 0
        by_place zero l = e
        by_place (suc k) l = ap first_failed (earlier_same n earlier rs r k) ∙ f k (omega arith)

-- ---- the whole check

none_earlier : (rs : List (List ℕ)) (k : ℕ) → record_checks rs k ≡ checks_after (count is_s rs) [] rs k
none_earlier rs k = ap (λ l. checks_record (count is_s rs) l (get_or rs k [])) (sym (append-nil (take k rs)))

-- a refused input and what is wrong with it, or an accepted one with nothing wrong
abbrev pub CheckCases : List ℕ → Type 0
CheckCases s = ((x : Refusal) × (check s ≡ bad x) × BadInput s x) ⊎ ((r : Routine) × (check s ≡ good r) × GoodInput s r)

no_records_lem : (s : List ℕ) → no_records s ≡ true → check s ≡ bad (refusal 1 0)
unfolding check
no_records_lem s a = rw (a, check)

module _ (s : List ℕ) (a : no_records s ≡ false) where
  check_kinds_lem : check s ≡ check_kinds (records_of s)
  unfolding check
  check_kinds_lem = rw (a, check)

  kinds_counts : first_bad_kind false 0 (records_of s) ≡ none → check s ≡ check_counts (records_of s)
  kinds_counts q = check_kinds_lem ∙ rw (q, check_kinds)

  module _ (q : first_bad_kind false 0 (records_of s) ≡ none) (f : (k : ℕ) → k < length (records_of s)
      → wrong_kind (records_of s) k ≡ false) where
    counts_records : between 1 64 (count is_s (records_of s)) ≡ true → between 1 16 (count is_h (records_of s)) ≡ true
        → check s ≡ check_records (count is_s (records_of s)) (records_of s)
    counts_records b c = kinds_counts q ∙ rw (b, check_counts) (rw (c, check_counts))

    by_record : between 1 64 (count is_s (records_of s)) ≡ true → between 1 16 (count is_h (records_of s)) ≡ true
        → RecordCases (count is_s (records_of s)) 0 [] (records_of s) → CheckCases s
    by_record b c (inl (i, m, p, lt, w, g)) = inl (
      refusal_at (suc m) (0 + i) (node_after (count is_s (records_of s)) [] (records_of s) i),
      counts_records b c ∙ rw (p, check_records),
      bad_record m i
          (ap₂ (λ q cs. refusal_at (suc m) q (failed_node cs)) (zero-add i) (sym (none_earlier (records_of s) i))) a
          f b c
          lt (λ j l. ap first_failed (none_earlier (records_of s) j) ∙ g j l)
          (ap first_failed (none_earlier (records_of s) i) ∙ w),
    )
    by_record b c (inr (p, g)) = inr (
      routine_of (count is_s (records_of s)) (records_of s),
      counts_records b c ∙ rw (p, check_records),
      record {
        wide = a;
        kinds = f;
        statements = b;
        shapes = c;
        records = λ j l. ap first_failed (none_earlier (records_of s) j) ∙ g j l;
        is_read = refl;
      },
    )

    by_counts : CheckCases s
    by_counts = bool_case (between 1 64 (count is_s (records_of s)))
        (λ b. bool_case (between 1 16 (count is_h (records_of s)))
        (λ c. by_record b c (record_cases (count is_s (records_of s)) 0 [] (records_of s)))
        (λ c. inl (refusal 3 0, kinds_counts q ∙ rw (b, check_counts) (rw (c, check_counts)), bad_shapes refl a f b c)))
        (λ b. inl (refusal 2 0, kinds_counts q ∙ rw (b, check_counts), bad_statements refl a f b))

  by_kind : KindCases false 0 (records_of s) → CheckCases s
  by_kind (inl (i, q, lt, w, f)) = inl (
    refusal 4 (0 + i),
    check_kinds_lem
        ∙ rw (q, check_kinds),
    bad_kind i (ap (refusal 4) (zero-add i)) a lt f w,
  )
  by_kind (inr (q, f)) = by_counts q f

pub check_cases : (s : List ℕ) → CheckCases s
check_cases s = bool_case (no_records s) (λ a. inl (refusal 1 0, no_records_lem s a, bad_length refl a))
    (λ a. by_kind s a (kind_cases false 0 (records_of s)))

bad_inj : {x y : Refusal} → bad x ≡ bad y → x ≡ y
bad_inj {x} {y} e = cc

-- a refused input has something wrong with it, at the place that is given
pub refused_input : (s : List ℕ) (x : Refusal) → check s ≡ bad x → BadInput s x
refused_input s x e = ⊎_elim
    (λ (p : (y : Refusal) × (check s ≡ bad y) × BadInput s y). subst (BadInput s) (bad_inj (sym p.1 ∙ e)) p.2)
    (λ (p : (r : Routine) × (check s ≡ good r) × GoodInput s r). bad-good (sym e ∙ p.1)) (check_cases s)

-- records of right kinds all, and the first of a wrong kind
kinds_none : (rs : List (List ℕ)) → ((j : ℕ) → j < length rs → wrong_kind rs j ≡ false) → first_bad_kind false 0 rs
    ≡ none
kinds_none rs f = ⊎_elim (λ (k, q, lt, w, g). clash w (f k lt)) (λ (q, g). q) (kind_cases false 0 rs)

kind_found_lem : (rs : List (List ℕ)) (i : ℕ) → i < length rs → ((j : ℕ) → j < i → wrong_kind rs j ≡ false)
    → wrong_kind rs i ≡ true → first_bad_kind false 0 rs ≡ some i
kind_found_lem rs i lt f w = ⊎_elim
    (λ (k, q, l, v, g). let a : k < i → ⊥ = λ z. clash v (f k z) in let b : i < k → ⊥ = λ z. clash w (g i z) in
    q ∙ ap some (omega arith))
    (λ (q, g). clash w (g i lt)) (kind_cases false 0 rs)

-- the first that is refused
record_found : (rs : List (List ℕ)) (n i : ℕ) → i < length rs → ((j : ℕ) → j < i → record_refusal rs j ≡ 0)
    → record_refusal rs i ≡ suc n → first_bad_record (count is_s rs) 0 [] rs
    ≡ some (refusal_at (suc n) i (record_node rs i))
record_found rs n i lt f w = ⊎_elim
    (λ (k, m, q, l, v, g).
    let u = ap first_failed (none_earlier rs k) ∙ v in
    let a : k < i → ⊥ = λ z. let y = f k z in omega arith in
    let b : i < k → ⊥ = λ z. let y = ap first_failed (none_earlier rs i) ∙ g i z in omega arith in
    let e : k ≡ i = omega arith in
    let c : suc m ≡ suc n = sym u ∙ ap (record_refusal rs) e ∙ w in
    let p : 0 + k ≡ i = omega arith in
    let d = ap failed_node (sym (none_earlier rs k)) ∙ ap (record_node rs) e in
    q ∙ (λ x. some (refusal_at (c x) (p x) (d x))))
    (λ (q, g). absurd (let y = ap first_failed (none_earlier rs i) ∙ g i lt in omega arith))
    (record_cases (count is_s rs) 0 [] rs)

-- an input with something wrong is refused so
pub bad_refused : (s : List ℕ) (x : Refusal) → BadInput s x → check s ≡ bad x
bad_refused s x (bad_length e a) = no_records_lem s a ∙ ap bad (sym e)
bad_refused s x (bad_kind i e a lt f w) =
    check_kinds_lem s a ∙ rw (kind_found_lem (records_of s) i lt f w, check_kinds) (ap bad (sym e))
bad_refused s x (bad_statements e a f b) =
    kinds_counts s a (kinds_none (records_of s) f) ∙ rw (b, check_counts) (ap bad (sym e))
bad_refused s x (bad_shapes e a f b c) =
    kinds_counts s a (kinds_none (records_of s) f) ∙ rw (b, check_counts) (rw (c, check_counts) (ap bad (sym e)))
bad_refused s x (bad_record n i e a f b c lt g w) =
    counts_records s a (kinds_none (records_of s) f) f b c
    ∙ rw (record_found (records_of s) n i lt g w, check_records) (ap bad (sym e))

-- an accepted input has nothing wrong with it
pub accepted_input : (s : List ℕ) (r : Routine) → check s ≡ good r → GoodInput s r
accepted_input s r e = ⊎_elim
    (λ (p : (x : Refusal) × (check s ≡ bad x) × BadInput s x). bad-good (sym p.1 ∙ e))
    (λ (p : (q : Routine) × (check s ≡ good q) × GoodInput s q). subst (GoodInput s) (good_inj (sym p.1 ∙ e))
    p.2) (check_cases s)

-- an input is not both
pub bad_not_good : (s : List ℕ) (x : Refusal) (r : Routine) → BadInput s x → GoodInput s r → ⊥
bad_not_good s x r (bad_length e a) G = clash a G.wide
bad_not_good s x r (bad_kind i e a lt f w) G = clash w (G.kinds i lt)
bad_not_good s x r (bad_statements e a f b) G = clash G.statements b
bad_not_good s x r (bad_shapes e a f b c) G = clash G.shapes c
bad_not_good s x r (bad_record n i e a f b c lt g w) G = let z = G.records i lt in omega arith

-- so an input with nothing wrong is accepted
pub good_accepted : (s : List ℕ) (r : Routine) → GoodInput s r → check s ≡ good r
good_accepted s r G = ⊎_elim
    (λ (p : (x : Refusal) × (check s ≡ bad x) × BadInput s x). absurd (bad_not_good s p.0 r p.2 G))
    (λ (p : (q : Routine) × (check s ≡ good q) × GoodInput s q). p.1 ∙ ap good (p.2.is_read ∙ sym G.is_read))
    (check_cases s)

-- ---- the statements of an input with nothing wrong

-- there are some, and each leads to one of them
pub good_leads : (s : List ℕ) (r : Routine) → GoodInput s r → (1 ≤ length r.stmts)
    × ((i : ℕ) → i < length r.stmts → Leads (length r.stmts) (stmt_at r.stmts i))
good_leads s r G =
    let rs = records_of s in
    let n = count is_s rs in
    let S = kinds_sorted 0 rs (kinds_none rs G.kinds) in
    let l : length (take n rs) ≡ n = length-take-le n rs (omega (arith, S.whole)) in
    rw (G.is_read, length-map, l) (
      leb-true 1 n (and_l (leb 1 n) (leb n 64) G.statements),
      λ i lt.
          let e = get_or-take n rs i [] lt in
          let t = ap is_s (sym e) ∙ all_at is_s (take n rs) [] i S.statements (omega arith) in
          subst (Leads n) (sym (get_or_map stmt_of (take n rs) i [] _ (omega arith) ∙ ap stmt_of e))
          (leads n (get_or rs i []) (rw t at (G.records i (omega (arith, S.whole))))),
    )

-- there are at most 64
pub good_few : (s : List ℕ) (r : Routine) → GoodInput s r → length r.stmts ≤ 64
good_few s r G =
    let rs = records_of s in
    let n = count is_s rs in
    rw (G.is_read, length-map, length-take)
    (omega (arith, min-le_left n (length rs), leb-true n 64 (and_r (leb 1 n) (leb n 64) G.statements)))

-- ---- numbers and places

-- an S record's refusal has one of its numbers, an H record's one of its
pub record_number : (rs : List (List ℕ)) (i m : ℕ) → record_refusal rs i ≡ suc m
    → ((is_s (get_or rs i []) ≡ true) × (mem (suc m) numbers_s ≡ true)) ⊎ ((is_s (get_or rs i []) ≡ false)
    × (mem (suc m) numbers_h ≡ true))
record_number rs i m e =
    let r = get_or rs i [] in
    bool_case (is_s r)
    (λ a. inl (a, failed_number (λ n. mem n numbers_s) (checks_s (count is_s rs) r) refl m (rw a at e)))
    (λ a. inr (a, failed_number (λ n. mem n numbers_h) (checks_h (take i rs) r) refl m (rw a at e)))

pub among : (p : ℕ → Bool) (l : List ℕ) → all p l ≡ true → (n : ℕ) → mem n l ≡ true → p n ≡ true
among p l k n h = all_in p l n k (mem_in n l h)

-- numbers of the input's that are 5 or more
later : (l : List ℕ) → all (λ k. mem k numbers_input) l ≡ true → all (leb 5) l ≡ true → (n : ℕ) → mem n l ≡ true
    → (mem n numbers_input ≡ true) × (5 ≤ n)
later l t u n h = (among (λ k. mem k numbers_input) l t n h, leb-true 5 n (among (leb 5) l u n h))

-- the number is one of the input's; for 1, 2 and 3 the place is 0, for the others it is the number of a record
pub bad_number : (s : List ℕ) (x : Refusal) → BadInput s x → (mem x.number numbers_input ≡ true)
    × (x.number ≤ 3 → x.place ≡ 0) × (4 ≤ x.number → x.place < length (records_of s))
bad_number s x (bad_length e a) = rw e (refl, (λ l. refl), λ l. absurd (omega arith))
bad_number s x (bad_kind i e a lt f w) = rw e (refl, (λ l. absurd (omega arith)), λ l. lt)
bad_number s x (bad_statements e a f b) = rw e (refl, (λ l. refl), λ l. absurd (omega arith))
bad_number s x (bad_shapes e a f b c) = rw e (refl, (λ l. refl), λ l. absurd (omega arith))
bad_number s x (bad_record n i e a f b c lt g w) =
    let k : (mem (suc n) numbers_input ≡ true) × (5 ≤ suc n) = ⊎_elim
    (λ (p : (is_s (get_or (records_of s) i []) ≡ true) × (mem (suc n) numbers_s ≡ true)).
    later numbers_s refl refl (suc n) p.1)
    (λ (p : (is_s (get_or (records_of s) i []) ≡ false) × (mem (suc n) numbers_h ≡ true)).
    later numbers_h refl refl (suc n) p.1) (record_number (records_of s) i n w) in
    rw e (k.0, (λ l. absurd (let h = k.1 in omega arith)), λ l. lt)

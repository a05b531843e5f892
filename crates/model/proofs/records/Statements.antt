-- Statement records: how a statement is written, that it is read back, where an accepted one leads, and that its record
-- is written again as it stood.
use Prim.Native.Nat.{◌<◌, suc, zero, ℕ}
use Rattle.model.proofs.records.Checks.{none_failed}
use Rattle.model.specs.Notions.{Pass}
use mathlib.Core.Path.{◌∙◌, ◌≡◌, ap, refl, subst, sym}
use mathlib.Core.Bool.{Bool, ◌&&◌, false, not, true}
use mathlib.Core.List.{List, [], ◌∷◌}
use native.Mathlib.Omega.{arith}
use lib.ListN.{drop, length, replicate}
use borrow.Author.Tests.{eqb-true, ltb-true}
use Rattle.model.specs.Base.{all}
use Rattle.model.specs.Heap.{Heap}
use Rattle.model.specs.Machine.{Kind, Op, Stmt, acts, branch, branch_by, choose, clear, copy, drops, free, halts, is_null, is_stop, kind, let_go, load, new, picks, relink, same, set_null, skip, stop, store, target, tests}
use Rattle.model.specs.Records.{byte, fields_s, is_s, is_zero, op_of, pointer_field, refusal_s, stmt_of, target_below, target_field, uses_first, uses_second, uses_u, uses_w, checks_s, op_count}
use Rattle.model.proofs.records.Bytes.{all_zero_lem}
use Rattle.model.specs.Listings.{UnusedZero, field, stmt_record, op_fields, fields_of, OpFields}
use Rattle.model.proofs.lists.Logic.{and_l, and_r, bool_case, clash}
use Rattle.model.proofs.records.Ops.{each_op}

op_back : (op : Op) → (let o = op_fields op in op_of o.number o.u o.w) ≡ op
op_back stop = refl
op_back (set_null u) = refl
op_back (copy u w) = refl
op_back (load u w) = refl
op_back (clear u) = refl
op_back (store u w) = refl
op_back (new u) = refl
op_back (free u) = refl
op_back (is_null u) = refl
op_back (same u w) = refl
op_back choose = refl
op_back skip = refl
op_back (relink u w) = refl
op_back (let_go u) = refl

field_same : (used : Bool) (b : ℕ) → (used ≡ false → b ≡ 0) → field used b ≡ b
field_same true b h = refl
field_same false b h = sym (h refl)

-- a statement is read back from its record
pub statement_back : (st : Stmt) → UnusedZero st → stmt_of (stmt_record st) ≡ st
statement_back st z =
    let n = (op_fields st.op).number in
    λ i. record {
      op = op_back st.op i;
      first_target = field_same (uses_first n) st.first_target z.first i;
      second_target = field_same (uses_second n) st.second_target z.second i;
    }

-- what an op number is read as
op_read : (n u w : ℕ) → n < op_count → op_fields (op_of n u w) ≡ fields_of n (field (uses_u n) u) (field (uses_w n) w)
op_read n u w = each_op op_fields (λ m. fields_of m (field (uses_u m) u) (field (uses_w m) w)) u w refl n

pointer_zero : (used : Bool) (b : ℕ) → pointer_field used b ≡ true → used ≡ false → b ≡ 0
pointer_zero true b h e = clash refl e
pointer_zero false b h e = eqb-true b 0 h

target_zero : (used : Bool) (b : ℕ) → target_field used b ≡ true → used ≡ false → b ≡ 0
target_zero true b h e = clash refl e
target_zero false b h e = eqb-true b 0 h

-- ---- what the tests of a record that is not refused say

pub passed_s : (n : ℕ) (r : List ℕ) → refusal_s n r ≡ 0 → Pass (checks_s n r)
passed_s n r e = none_failed (checks_s n r) refl e

fields_hold : (r : List ℕ) → fields_s r ≡ true
    → (pointer_field (uses_u (byte r 1)) (byte r 2) ≡ true) × (pointer_field (uses_w (byte r 1)) (byte r 3) ≡ true)
    × (target_field (uses_first (byte r 1)) (byte r 4) ≡ true)
    × (target_field (uses_second (byte r 1)) (byte r 5) ≡ true)
    × (all is_zero (drop 6 r) ≡ true)
fields_hold r h =
    let op = byte r 1 in
    let t1 = pointer_field (uses_u op) (byte r 2) in
    let t2 = t1 && pointer_field (uses_w op) (byte r 3) in
    let t3 = t2 && target_field (uses_first op) (byte r 4) in
    let t4 = t3 && target_field (uses_second op) (byte r 5) in
    let h4 : t4 ≡ true = and_l t4 (all is_zero (drop 6 r)) h in
    let h3 : t3 ≡ true = and_l t3 (target_field (uses_second op) (byte r 5)) h4 in
    let h2 : t2 ≡ true = and_l t2 (target_field (uses_first op) (byte r 4)) h3 in (
      and_l t1 (pointer_field (uses_w op) (byte r 3)) h2,
      and_r t1 (pointer_field (uses_w op) (byte r 3)) h2,
      and_r t2 (target_field (uses_first op) (byte r 4)) h3,
      and_r t3 (target_field (uses_second op) (byte r 5)) h4,
      and_r t4 (all is_zero (drop 6 r)) h,
    )

pointer_low : (used : Bool) (b : ℕ) → pointer_field used b ≡ true → b < 6
pointer_low true b h = ltb-true b 6 h
pointer_low false b h = omega (arith, eqb-true b 0 h)

-- the op and the pointers of an accepted S record
pub statement_fields : (n : ℕ) (r : List ℕ) → refusal_s n r ≡ 0 → (byte r 1 < op_count) × (byte r 2 < 6)
    × (byte r 3 < 6)
statement_fields n r e =
    let op = byte r 1 in
    let q = passed_s n r e in
    let f = fields_hold r q.1.0 in
    (ltb-true op op_count q.0, pointer_low (uses_u op) (byte r 2) f.0, pointer_low (uses_w op) (byte r 3) f.1)

-- ---- where its branches lead

-- a kind with a second branch
abbrev turns : Kind → Bool
turns halts = false
turns (acts x) = false
turns (drops u) = false
turns (tests u s) = true
turns picks = true

branch_first : (k : Kind) (p : ℕ) (h : Heap) → turns k ≡ false → branch_by k p h ≡ 0
branch_first halts p h e = refl
branch_first (acts x) p h e = refl
branch_first (drops u) p h e = refl
branch_first (tests u s) p h e = clash refl e
branch_first picks p h e = clash refl e

-- an op that is no stop uses its first target, and one with a second branch the second
first_used : (op u w : ℕ) → op < op_count → not (is_stop (kind (op_of op u w))) ≡ uses_first op
first_used op u w = each_op (λ o. not (is_stop (kind o))) uses_first u w refl op

second_used : (op u w : ℕ) → op < op_count → turns (kind (op_of op u w)) ≡ uses_second op
second_used op u w = each_op (λ o. turns (kind o)) uses_second u w refl op

used_below : (n : ℕ) (used : Bool) (b : ℕ) → target_below n used b ≡ true → used ≡ true → b < n
used_below n true b h e = ltb-true b n h
used_below n false b h e = clash e refl

target_either : (st : Stmt) (n b : ℕ) → st.first_target < n → st.second_target < n → target st b < n
target_either st n zero p q = p
target_either st n (suc b) p q = q

-- where an accepted statement leads: each branch to one of the n statements
abbrev pub Leads : ℕ → Stmt → Type 0
Leads n st = is_stop (kind st.op) ≡ false → (p : ℕ) (h : Heap) → target st (branch st.op p h) < n

pub leads : (n : ℕ) (r : List ℕ) → refusal_s n r ≡ 0 → Leads n (stmt_of r)
leads n r e goes p h =
    let op = byte r 1 in
    let known = (statement_fields n r e).0 in
    let x = target_below n (uses_first op) (byte r 4) in
    let y = target_below n (uses_second op) (byte r 5) in
    let q = (passed_s n r e).1.1.0 in
    let used : uses_first op ≡ true = sym (first_used op (byte r 2) (byte r 3) known) ∙ ap not goes in
    let a : byte r 4 < n = used_below n (uses_first op) (byte r 4) (and_l x y q) used in
    bool_case (turns (kind (stmt_of r).op))
    (λ t. target_either (stmt_of r) n (branch (stmt_of r).op p h) a
    (used_below n (uses_second op) (byte r 5) (and_r x y q) (sym (second_used op (byte r 2) (byte r 3) known) ∙ t)))
    (λ t. subst (λ b. target (stmt_of r) b < n) (sym (branch_first (kind (stmt_of r).op) p h t)) a)

-- ---- a record is written again as it stood

record_of : (n op u w f g : ℕ) (z : List ℕ) → length z ≡ 26 → refusal_s n (0x53 ∷ op ∷ u ∷ w ∷ f ∷ g ∷ z) ≡ 0
    → stmt_record (stmt_of (0x53 ∷ op ∷ u ∷ w ∷ f ∷ g ∷ z)) ≡ 0x53 ∷ op ∷ u ∷ w ∷ f ∷ g ∷ z
record_of n op u w f g z l e =
    let r : List ℕ = 0x53 ∷ op ∷ u ∷ w ∷ f ∷ g ∷ z in
    let q = passed_s n r e in
    let t = fields_hold r q.1.0 in
    let o = op_read op u w (ltb-true op op_count q.0) in
    let on = ap (λ (x : OpFields). x.number) o in
    let pu = ap (λ (x : OpFields). x.u) o ∙ field_same (uses_u op) u (pointer_zero (uses_u op) u t.0) in
    let pw = ap (λ (x : OpFields). x.w) o ∙ field_same (uses_w op) w (pointer_zero (uses_w op) w t.1) in
    let pf : field (uses_first (op_fields (op_of op u w)).number) f ≡ f =
    ap (λ m. field (uses_first m) f) on ∙ field_same (uses_first op) f (target_zero (uses_first op) f t.2) in
    let pg : field (uses_second (op_fields (op_of op u w)).number) g ≡ g =
    ap (λ m. field (uses_second m) g) on ∙ field_same (uses_second op) g (target_zero (uses_second op) g t.3) in
    let pz : replicate 26 0 ≡ z = ap (λ m. replicate m 0) (sym l) ∙ sym (all_zero_lem z t.4) in
    λ i. 0x53 ∷ on i ∷ pu i ∷ pw i ∷ pf i ∷ pg i ∷ pz i

-- an accepted statement record is what its statement is written as
pub record_back : (n : ℕ) (r : List ℕ) → length r ≡ 32 → is_s r ≡ true → refusal_s n r ≡ 0 → stmt_record (stmt_of r) ≡ r
record_back n [] l s e = absurd (omega arith)
record_back n (a ∷ []) l s e = absurd (omega arith)
record_back n (a ∷ b ∷ []) l s e = absurd (omega arith)
record_back n (a ∷ b ∷ c ∷ []) l s e = absurd (omega arith)
record_back n (a ∷ b ∷ c ∷ d ∷ []) l s e = absurd (omega arith)
record_back n (a ∷ b ∷ c ∷ d ∷ f ∷ []) l s e = absurd (omega arith)
record_back n (a ∷ b ∷ c ∷ d ∷ f ∷ g ∷ z) l s e =
    record_of n b c d f g z (omega arith) e ∙ ap (λ x. x ∷ b ∷ c ∷ d ∷ f ∷ g ∷ z) (sym (eqb-true a 0x53 s))

-- The first check of a list that does not pass: which number is given, and when none is.
use Prim.Native.Nat.{◌≤◌, suc, zero, ℕ}
use Rattle.model.specs.Base.{all}
use mathlib.Core.Path.{◌∙◌, ◌≡◌, ap, ap₂, refl, subst, sym}
use mathlib.Core.Logic.{inl, inr}
use mathlib.Core.Bool.{Bool, ◌||◌, cond, false, true}
use mathlib.Core.List.{List, [], ◌++◌, ◌∷◌}
use native.Mathlib.Omega.{arith}
use Rattle.model.specs.Image.{verdict_by}
use Rattle.model.specs.Records.{Row, Refusal, Verdict, failed_node, first_failed, is_accepted, is_refused, refusal_at}
use Rattle.model.proofs.lists.Logic.{and_l, and_r, bool_case, clash, or_cases}
use Rattle.model.specs.Notions.{CheckedBy, Given, Pass}
use Rattle.model.specs.Structs.{Failed, Tells, failing}
use lib.Dec.{eqb, leb}
use borrow.Author.Tests.{eqb-true, leb-true}

-- no check has the number 0
abbrev pub Numbered : List Row → Type 0
Numbered cs = all (λ (c : Row). leb 1 c.number) cs ≡ true

low : (c : Row) (cs : List Row) → Numbered (c ∷ cs) → 1 ≤ c.number
low c cs k = leb-true 1 c.number (and_l (leb 1 c.number) (all (λ (x : Row). leb 1 x.number) cs) k)

others : (c : Row) (cs : List Row) → Numbered (c ∷ cs) → Numbered cs
others c cs k = and_r (leb 1 c.number) (all (λ (x : Row). leb 1 x.number) cs) k

pub failed_given : (cs : List Row) (m : ℕ) → first_failed cs ≡ suc m → Given cs (suc m) (failed_node cs)
failed_given [] m e = absurd (omega arith)
failed_given (c ∷ cs) m e =
    bool_case c.passes (λ p. inr (p, rw (p, failed_node) (failed_given cs m (rw (p, first_failed) at e))))
    (λ p. inl (rw (p, first_failed) at e, rw (p, failed_node) refl, p))

pub given_failed : (cs : List Row) (n v : ℕ) → Given cs n v → (first_failed cs ≡ n) × (failed_node cs ≡ v)
given_failed [] n v g = absurd g
given_failed (c ∷ cs) n v (inl (e, d, p)) = (rw (p, first_failed) e, rw (p, failed_node) d)
given_failed (c ∷ cs) n v (inr (p, g)) =
    let r = given_failed cs n v g in
    (rw (p, first_failed) r.0, rw (p, failed_node) r.1)

pub none_failed : (cs : List Row) → Numbered cs → first_failed cs ≡ 0 → Pass cs
none_failed [] k e = tt
none_failed (c ∷ cs) k e =
    bool_case c.passes (λ p. (p, none_failed cs (others c cs k) (rw (p, first_failed) at e)))
    (λ p. absurd (let z : c.number ≡ 0 = rw (p, first_failed) at e in omega (arith, low c cs k)))

pub pass_none : (cs : List Row) → Pass cs → first_failed cs ≡ 0
pass_none [] p = refl
pass_none (c ∷ cs) p = rw (p.0, first_failed) (pass_none cs p.1)

-- the same of a failure
pub given_tells : (cs : List Row) (n v : ℕ) → Given cs n v → Tells cs (failing n v)
given_tells cs n v g = let r = given_failed cs n v g in record { number = sym r.0; node = sym r.1 }

pub tells_as : {cs : List Row} {f g : Failed} → f ≡ g → Tells cs g → Tells cs f
tells_as {cs} e t = subst (Tells cs) (sym e) t

pub pass_tells : (cs : List Row) → Pass cs → Tells cs (failing 0 0)
pass_tells cs p = record { number = sym (pass_none cs p); node = sym (node_none cs p) }
  where
    node_none : (xs : List Row) → Pass xs → failed_node xs ≡ 0
    node_none [] q = refl
    node_none (c ∷ xs) q = rw (q.0, failed_node) (node_none xs q.1)

-- a list of checks after another
pub failed_before : (xs ys : List Row) (m : ℕ) → first_failed xs ≡ suc m → first_failed (xs ++ ys) ≡ suc m
failed_before [] ys m e = absurd (omega arith)
failed_before (c ∷ xs) ys m e =
    bool_case c.passes (λ p. rw (p, first_failed) (failed_before xs ys m (rw (p, first_failed) at e)))
    (λ p. rw (p, first_failed) (rw (p, first_failed) at e))

pub failed_after : (xs ys : List Row) → Numbered xs → first_failed xs ≡ 0 → first_failed (xs ++ ys) ≡ first_failed ys
failed_after [] ys k e = refl
failed_after (c ∷ xs) ys k e = let q = none_failed (c ∷ xs) k e in
    rw (q.0, first_failed) (failed_after xs ys (others c xs k) (pass_none xs q.1))

-- the node of the first that fails, in one list or the other
pub node_before : (xs ys : List Row) (m : ℕ) → first_failed xs ≡ suc m → failed_node (xs ++ ys) ≡ failed_node xs
node_before [] ys m e = absurd (omega arith)
node_before (c ∷ xs) ys m e =
    bool_case c.passes (λ p. rw (p, failed_node) (node_before xs ys m (rw (p, first_failed) at e)))
    (λ p. rw (p, failed_node))

pub node_after_lem : (xs ys : List Row) → Pass xs → failed_node (xs ++ ys) ≡ failed_node ys
node_after_lem [] ys q = refl
node_after_lem (c ∷ xs) ys q = rw (q.0, failed_node) (node_after_lem xs ys q.1)

-- a failure of a check that passes and others after it; and of a list of checks after another
pub tells_past : (c : Row) (cs : List Row) {f : Failed} → c.passes ≡ true → Tells cs f → Tells (c ∷ cs) f
tells_past c cs p t = record { number = rw (p, first_failed) t.number; node = rw (p, failed_node) t.node }

pub tells_before : (xs ys : List Row) {f : Failed} → (f.number ≡ 0 → ⊥) → Tells xs f → Tells (xs ++ ys) f
tells_before xs ys {f} z t = by_number (first_failed xs) refl
  where
    by_number : (m : ℕ) → first_failed xs ≡ m → Tells (xs ++ ys) f
    by_number zero e = absurd (z (t.number ∙ e))
    by_number (suc m) e = record {
      number = t.number ∙ e ∙ sym (failed_before xs ys m e);
      node = t.node ∙ sym (node_before xs ys m e);
    }

pub tells_after : (xs ys : List Row) {f g : Failed} → Numbered xs → Tells xs g → g.number ≡ 0 → Tells ys f
    → Tells (xs ++ ys) f
tells_after xs ys k p z t =
    let none = sym p.number ∙ z in
    record {
      number = t.number ∙ sym (failed_after xs ys k none);
      node = t.node ∙ sym (node_after_lem xs ys (none_failed xs k none));
    }

-- a check by its number: whether the first with this number passes; true where there is none
abbrev pub passing : ℕ → List Row → Bool
passing n [] = true
passing n (c ∷ cs) = cond (eqb n c.number) c.passes (passing n cs)

pub pass_number : (n : ℕ) (cs : List Row) → Pass cs → passing n cs ≡ true
pass_number n [] p = refl
pass_number n (c ∷ cs) p = bool_case (eqb n c.number) (λ e. rw e p.0) (λ e. rw e (pass_number n cs p.1))

pub pass_before : (xs ys : List Row) → Pass (xs ++ ys) → Pass xs
pass_before [] ys p = tt
pass_before (c ∷ xs) ys p = (p.0, pass_before xs ys p.1)

pub pass_both : (xs ys : List Row) → Pass xs → Pass ys → Pass (xs ++ ys)
pass_both [] ys p q = q
pass_both (c ∷ xs) ys p q = (p.0, pass_both xs ys p.1 q)

pub pass_after : (xs ys : List Row) → Pass (xs ++ ys) → Pass ys
pass_after [] ys p = p
pass_after (c ∷ xs) ys p = pass_after xs ys p.1

-- the number that is given is one of the checks'
pub failed_number : (p : ℕ → Bool) (cs : List Row) → all (λ (c : Row). p c.number) cs ≡ true → (m : ℕ)
    → first_failed cs ≡ suc m → p (suc m) ≡ true
failed_number p [] k m e = absurd (omega arith)
failed_number p (c ∷ cs) k m e =
    let rest = all (λ (x : Row). p x.number) cs in
    bool_case c.passes (λ q. failed_number p cs (and_r (p c.number) rest k) m (rw (q, first_failed) at e))
    (λ q. let n : c.number ≡ suc m = rw (q, first_failed) at e in
    subst (λ x. p x ≡ true) n (and_l (p c.number) rest k))

-- where only checks with some numbers tell a node, no other number comes with one
pub failed_nodeless : (p : ℕ → Bool) (cs : List Row) → all (λ (c : Row). p c.number || eqb c.node 0) cs ≡ true
    → (m : ℕ) → first_failed cs ≡ m → p m ≡ false → failed_node cs ≡ 0
failed_nodeless p [] k m e f = refl
failed_nodeless p (c ∷ cs) k m e f =
    let here = p c.number || eqb c.node 0 in
    let rest = all (λ (x : Row). p x.number || eqb x.node 0) cs in
    bool_case c.passes
    (λ q. rw (q, failed_node) (failed_nodeless p cs (and_r here rest k) m (rw (q, first_failed) at e) f))
    (λ q. let n : c.number ≡ m = rw (q, first_failed) at e in
    rw (q, failed_node) (or_cases (p c.number) (eqb c.node 0) (and_l here rest k)
    (λ t. clash (subst (λ x. p x ≡ true) n t) f) (eqb-true c.node 0)))

-- ---- the verdict of a call by its checks

pub refused_inj : {x y : Refusal} → is_refused x ≡ is_refused y → x ≡ y
refused_inj e = cc

pub not_both {ℓ} : {C : Type ℓ} (v : Verdict) (x : Refusal) → v ≡ is_accepted → v ≡ is_refused x → C
not_both v x e f = let z : ◌≡◌ {A = ℕ} 0 1 = cc in absurd (omega arith)

pub accepted_zero : (n d : ℕ) → verdict_by n d ≡ is_accepted → n ≡ 0
accepted_zero zero d e = refl
accepted_zero (suc n) d e = let z : ◌≡◌ {A = ℕ} 0 1 = cc in absurd (omega arith)

pub accepted_by : (d : ℕ) {n : ℕ} → n ≡ 0 → verdict_by n d ≡ is_accepted
accepted_by d e = ap (λ n. verdict_by n d) e

refused_number : (k v n p d : ℕ) → verdict_by k v ≡ is_refused (refusal_at n p d)
    → (p ≡ 0) × (v ≡ d) × ((m : ℕ) × (k ≡ suc m) × (k ≡ n))
refused_number zero v n p d e = let z : ◌≡◌ {A = ℕ} 0 1 = cc in absurd (omega arith)
refused_number (suc m) v n p d e =
    let q = refused_inj e in (
      sym (ap (λ (x : Refusal). x.place) q),
      ap (λ (x : Refusal). x.node) q,
      (m, refl, ap (λ (x : Refusal). x.number) q),
    )

given_positive : (cs : List Row) (n d : ℕ) → Numbered cs → Given cs n d → 1 ≤ n
given_positive [] n d k g = absurd g
given_positive (c ∷ cs) n d k (inl (e, q, p)) = omega (arith, low c cs k)
given_positive (c ∷ cs) n d k (inr (p, g)) = given_positive cs n d (others c cs k) g

positive_refused : (n p d : ℕ) → 1 ≤ n → p ≡ 0 → verdict_by n d ≡ is_refused (refusal_at n p d)
positive_refused zero p d h e = absurd (omega arith)
positive_refused (suc n) p d h e = ap (λ x. is_refused (refusal_at (suc n) x d)) (sym e)

pub checked_by : (cs : List Row) (v : Verdict) → Numbered cs → v ≡ verdict_by (first_failed cs) (failed_node cs)
    → CheckedBy cs v
checked_by cs v k e = record {
  accepts = (
    λ a. none_failed cs k (accepted_zero (first_failed cs) (failed_node cs) (sym e ∙ a)),
    λ p. e ∙ accepted_by (failed_node cs) (pass_none cs p),
  );
  refuses = λ n p d. (
    (λ r. let q = refused_number (first_failed cs) (failed_node cs) n p d (sym e ∙ r) in (
      q.0,
      (let g : Given cs (first_failed cs) (failed_node cs) = rw q.2.1 (failed_given cs q.2.0 q.2.1) in
          subst (λ y. Given cs y d) q.2.2 (subst (λ y. Given cs (first_failed cs) y) q.1 g)),
    )),
    λ g. let r = given_failed cs n d g.1 in
        e ∙ ap₂ verdict_by r.0 r.1 ∙ positive_refused n p d (given_positive cs n d k g.1) g.0,
  );
}

-- checks that are about no node
abbrev pub Nodeless : List Row → Type 0
Nodeless cs = all (λ (c : Row). eqb c.node 0) cs ≡ true

pub no_node_lem : (cs : List Row) → Nodeless cs → failed_node cs ≡ 0
no_node_lem [] z = refl
no_node_lem (c ∷ cs) z =
    let rest = all (λ (x : Row). eqb x.node 0) cs in
    bool_case c.passes (λ p. rw (p, failed_node) (no_node_lem cs (and_r (eqb c.node 0) rest z)))
    (λ p. rw (p, failed_node) (eqb-true c.node 0 (and_l (eqb c.node 0) rest z)))

-- so their verdict is told by the number alone
pub checked_nodeless : (cs : List Row) (v : Verdict) → Numbered cs → Nodeless cs → v ≡ verdict_by (first_failed cs) 0
    → CheckedBy cs v
checked_nodeless cs v k z e = checked_by cs v k (e ∙ ap (verdict_by (first_failed cs)) (sym (no_node_lem cs z)))

-- The least counters that pass an edge's guards, and what an update gives of them.
use Prim.Native.Nat.{ℕ, zero, suc, ◌+◌, ◌-◌, ◌*◌, ◌/◌, ◌%◌, ◌^◌, ◌≤◌, ◌<◌}
use mathlib.Core.Path.{◌≡◌, refl, sym, ap, ap₂, subst, ◌∙◌}
use mathlib.Core.Bool.{Bool, true, false, ◌&&◌, ◌||◌, and-false, cond, not}
use mathlib.Core.List.{List, [], ◌∷◌}
use mathlib.Core.Logic.{inl, inr}
use native.Mathlib.Nat.{div-eq_of_lt, div-lt_iff_lt-mul, pow-suc}
use native.Mathlib.Omega.{arith}
use lib.Bits.{bit_and}
use lib.Count.{ones, ones_step}
use lib.Dec.{eqb, leb, ltb}
use lib.Pow.{pow_pos}
use lib.ListN.{get_or, replicate, length-replicate, get_or-replicate}
use borrow.Author.Tests.{eq-eqb, eqb-false, eqb-true, leb-false, leb-true, not-false as unnot, ltb-true, lt-ltb, ne_eqb, le-ltb}
use Rattle.model.specs.Layout.{adds_old, asks_more, constant_keeps, could_fall, counters_there, least_counters}
use Rattle.model.specs.Notions.{In}
use Rattle.model.specs.Records.{GuardCode, is_zero}
use Rattle.model.specs.Runs.{added, applied, guards_hold}
use Rattle.model.proofs.lists.Lists.{any_find, any_in}
use Rattle.model.proofs.lists.Logic.{and_both, and_l, and_r, and_true, bool_case, bool_ext, clash, eqb_same, eqb_sym, not-false, not-true, or_cases, or_false_l, or_false_r}
use Rattle.model.proofs.records.Falls.{least_at, least_length}
use Rattle.update.specs.Counted.{added_count}
use Rattle.update.proofs.Bits.{added_counted, counted_added, masked}
use Rattle.update_layout.specs.Kept.{asks, exclude, guard_ok}
use Rattle.update_layout.proofs.Disjoint.{low_bit}
use Rattle.update_layout.proofs.Sums.{added_at, added_past, added_same}

abbrev code : ℕ → ℕ → GuardCode
code t n = record { test = t; node = n }

-- what a guard that keeps the layout is: of three tests, and on a node of the source where there is one
pub record Sound (k : ℕ) (g : GuardCode) : Type 0 where
  pub known : g.test ≤ 2
  pub there : 0 < g.test → g.node < k
  pub low : k ≤ 12 → g.node ≤ 11

pub sound : (k : ℕ) (g : GuardCode) → guard_ok k g ≡ true → Sound k g
sound k g h = by g.test g.node h
  where
    by : (t n : ℕ) → guard_ok k (code t n) ≡ true → Sound k (code t n)
    by zero n h = let z = eqb-true n 0 (and_l (is_zero n) true h) in
        record { known = omega arith; there = λ p. absurd (omega arith); low = λ l. omega arith }
    by (suc t) n h =
        let z : eqb (suc t) 0 ≡ false = ne_eqb (suc t) 0 (λ e. omega arith) in
        let s : leb (suc t) 2 && true && ltb n k ≡ true = rw z at h in
        let lt = ltb-true n k (and_r (leb (suc t) 2 && true) (ltb n k) s) in
        let few = leb-true (suc t) 2 (and_l (leb (suc t) 2) true (and_l (leb (suc t) 2 && true) (ltb n k) s)) in
        record { known = few; there = λ p. lt; low = λ l. omega arith }

-- a number that is not 0 has a set bit
not_none : (d n : ℕ) → n < 2 ^ d → 0 < n → 1 ≤ ones n
not_none zero n h p = absurd (omega arith)
not_none (suc d) n h p =
    let h' : n < 2 ^ d * 2 = rw pow-suc at h in
    let s = ones_step n in
    bool_case (eqb (n % 2) 0)
    (λ e. let z = eqb-true (n % 2) 0 e in omega (arith, not_none d (n / 2) (omega arith) (omega arith)))
    (λ e. omega (arith, eqb-false (n % 2) 0 e))

one_or_more : (b : Bool) → eqb (cond (b || false) 2 1) 1 && true ≡ not b
one_or_more true = refl
one_or_more false = refl

more_or_one : (b : Bool) → eqb (cond (b || false) 2 1) 1 && true ≡ not b
more_or_one true = refl
more_or_one false = refl

both_more : (b : Bool) → leb 2 (cond (b || true) 2 1) && true ≡ true
both_more true = refl
both_more false = refl

-- the least counters pass the guards exactly where these do not exclude each other
pub least_pass : (k : ℕ) (a b : GuardCode) → Sound k a → Sound k b
    → guards_hold (least_counters k (a ∷ b ∷ [])) (a ∷ b ∷ []) ≡ not (exclude a b)
least_pass k a b A B = by a.test a.node b.test b.node A.known A.there B.known B.there
  where
    by : (t n s m : ℕ) → t ≤ 2 → (0 < t → n < k) → s ≤ 2 → (0 < s → m < k)
        → guards_hold (least_counters k (code t n ∷ code s m ∷ [])) (code t n ∷ code s m ∷ [])
        ≡ not (exclude (code t n) (code s m))
    by zero n zero m p q r w = refl
    by zero n (suc zero) m p q r w = rw (least_at k (code 0 n ∷ code 1 m ∷ []) m (w (omega arith)))
    by zero n (suc (suc zero)) m p q r w =
        rw (least_at k (code 0 n ∷ code 2 m ∷ []) m (w (omega arith)), eqb_same m)
    by (suc zero) n zero m p q r w = rw (least_at k (code 1 n ∷ code 0 m ∷ []) n (q (omega arith)))
    by (suc zero) n (suc zero) m p q r w =
        rw (
          least_at k (code 1 n ∷ code 1 m ∷ []) n (q (omega arith)),
          least_at k (code 1 n ∷ code 1 m ∷ []) m
              (w (omega arith)),
        )
    by (suc zero) n (suc (suc zero)) m p q r w =
        let gs : List GuardCode = code 1 n ∷ code 2 m ∷ [] in
        rw (least_at k gs n (q (omega arith)), least_at k gs m (w (omega arith)), eqb_same m, eqb_sym m n)
        (one_or_more (eqb n m))
    by (suc (suc zero)) n zero m p q r w =
        rw (least_at k (code 2 n ∷ code 0 m ∷ []) n (q (omega arith)), eqb_same n)
    by (suc (suc zero)) n (suc zero) m p q r w =
        let gs : List GuardCode = code 2 n ∷ code 1 m ∷ [] in
        rw (least_at k gs n (q (omega arith)), least_at k gs m (w (omega arith)), eqb_same n) (more_or_one (eqb n m))
    by (suc (suc zero)) n (suc (suc zero)) m p q r w =
        let gs : List GuardCode = code 2 n ∷ code 2 m ∷ [] in
        rw (least_at k gs n (q (omega arith)), least_at k gs m (w (omega arith)), eqb_same n, eqb_same m)
        (both_more (eqb n m))
    by (suc (suc (suc t))) n s m p q r w = absurd (omega arith)
    by zero n (suc (suc (suc s))) m p q r w = absurd (omega arith)
    by (suc zero) n (suc (suc (suc s))) m p q r w = absurd (omega arith)
    by (suc (suc zero)) n (suc (suc (suc s))) m p q r w = absurd (omega arith)

ltb_pred : (n : ℕ) → ltb (n - 1) 1 ≡ ltb n 2
ltb_pred zero = refl
ltb_pred (suc zero) = refl
ltb_pred (suc (suc n)) = bool_ext (ltb (suc (suc n) - 1) 1) (ltb (suc (suc n)) 2)
    (λ h. absurd (omega (arith, ltb-true (suc (suc n) - 1) 1 h)))
    (λ h. absurd (omega (arith, ltb-true (suc (suc n)) 2 h)))

-- an update of a constant of -1, 0 or 1 and of counters of the source, under two guards that keep the layout
module _ (k u : ℕ) (a b : GuardCode) (few : k ≤ 12) (small : constant_keeps u ≡ true)
    (there : counters_there k u ≡ true)
    (A : Sound k a) (B : Sound k b) where
  abbrev gs : List GuardCode
  gs = a ∷ b ∷ []

  abbrev least : List ℕ
  least = least_counters k gs

  -- guards that exclude each other let no counters pass
  pub falls_excluded : exclude a b ≡ true → false ≡ could_fall k gs u
  falls_excluded e = sym (ap (λ h. h && ltb (applied least u) 1) (least_pass k a b A B ∙ ap not e))

  -- a counter that is at least 2 is enough
  pub falls_asked : (g : GuardCode) → In g gs → Sound k g → asks g u ≡ true → false ≡ could_fall k gs u
  falls_asked g i G h =
      let t = eqb-true g.test 2 (and_l (eqb g.test 2) (adds_old g.node u) h) in
      let bit = eqb-true (u / 2 ^ g.node % 2) 1 (and_r (eqb g.test 2) (adds_old g.node u) h) in
      let lt : g.node < k = G.there (omega arith) in
      let m : asks_more gs g.node ≡ true =
      any_in (λ (x : GuardCode). eqb x.test 2 && eqb x.node g.node) gs g i
      (and_both (eqb g.test 2) (eqb g.node g.node) (eq-eqb g.test 2 t) (eqb_same g.node)) in
      let two : get_or least g.node 0 ≡ 2 = least_at k gs g.node lt ∙ ap (λ c. cond c 2 1) m in
      let s = added_at (u % 4096) least g.node (omega (arith, least_length k gs))
      (low_bit u g.node (omega arith) ∙ bit) in
      let no : ltb (applied least u) 1 ≡ false = le-ltb (applied least u) 1 (omega arith) in
      sym (ap (λ x. guards_hold least gs && x) no ∙ and-false (guards_hold least gs))

  -- else each counter that is added is 1, and they are counted
  pub falls_counted : exclude a b ≡ false → asks a u ≡ false → asks b u ≡ false
      → ltb (added_count u + u / 4096) 2 ≡ could_fall k gs u
  falls_counted e p q =
      let m = u % 4096 in
      let c = ltb-true (u / 4096) 3 small in
      let pass : guards_hold least gs ≡ true = least_pass k a b A B ∙ ap not e in
      let none : (i : ℕ) → i < k → m / 2 ^ i % 2 ≡ 1 → asks_more gs i ≡ false =
      λ i lt h. not-true (asks_more gs i) (λ x. asked i lt h (any_find _ gs x)) in
      let ones : added m least ≡ added_count u =
      added_same m least (replicate k 1) (least_length k gs ∙ sym (length-replicate k 1)) (λ i l h.
      let lt : i < k = omega (arith, least_length k gs) in
      least_at k gs i lt ∙ ap (λ x. cond x 2 1) (none i lt h) ∙ sym (get_or-replicate k i 1 0 lt))
      ∙ sym (added_past k 12 m (ltb-true m (2 ^ k) there) few) ∙ sym (counted_added u) in
      let con : u / 4096 % 4 ≡ u / 4096 = omega arith in
      sym (ap (λ h. h && ltb (applied least u) 1) pass ∙ ap₂ (λ s d. ltb ((s + d) - 1) 1) ones con
      ∙ ltb_pred (added_count u + u / 4096))
    where
      -- a guard that asks for more of a counter that is added is neither
      seen : (i : ℕ) → i < k → u % 4096 / 2 ^ i % 2 ≡ 1 → (x : GuardCode) → asks x u ≡ false
          → eqb x.test 2 && eqb x.node i ≡ true → ⊥
      seen i lt h x f z =
          let n = eqb-true x.node i (and_r (eqb x.test 2) (eqb x.node i) z) in
          let bit : u / 2 ^ x.node % 2 ≡ 1 = ap (λ j. u / 2 ^ j % 2) n ∙ sym (low_bit u i (omega arith)) ∙ h in
          clash (and_both (eqb x.test 2) (adds_old x.node u) (and_l (eqb x.test 2) (eqb x.node i) z)
          (eq-eqb (u / 2 ^ x.node % 2) 1 bit)) f

      asked : (i : ℕ) → i < k → u % 4096 / 2 ^ i % 2 ≡ 1
          → (x : GuardCode) × In x gs × (eqb x.test 2 && eqb x.node i ≡ true) → ⊥
      asked i lt h (x, inl o, z) = seen i lt h x (subst (λ y. asks y u ≡ false) (sym o) p) z
      asked i lt h (x, inr (inl o), z) = seen i lt h x (subst (λ y. asks y u ≡ false) (sym o) q) z
      asked i lt h (x, inr (inr o), z) = absurd o

  pub falls_never : exclude a b || asks a u || asks b u ≡ true → false ≡ could_fall k gs u
  falls_never h = or_cases (exclude a b || asks a u) (asks b u) h
      (λ g. or_cases (exclude a b) (asks a u) g falls_excluded (falls_asked a (inl refl) A))
      (falls_asked b (inr (inl refl)) B)

  pub falls_else : exclude a b || asks a u || asks b u ≡ false → ltb (added_count u + u / 4096) 2 ≡ could_fall k gs u
  falls_else h =
      let g = or_false_l (exclude a b || asks a u) (asks b u) h in
      falls_counted (or_false_l (exclude a b) (asks a u) g) (or_false_r (exclude a b) (asks a u) g)
      (or_false_r (exclude a b || asks a u) (asks b u) h)

  -- a counter that is added without a constant is enough
  pub falls_plain : 4096 < u → u < 8192 → could_fall k gs u ≡ false
  falls_plain low high = bool_case (exclude a b || asks a u || asks b u)
      (λ h. sym (falls_never h))
      (λ h.
      let some : 1 ≤ ones (u % 4096) = not_none 12 (u % 4096) (omega arith) (omega arith) in
      let e = sym (added_counted u) ∙ ap ones (masked u) in
      sym (falls_else h) ∙ le-ltb (added_count u + u / 4096) 2 (omega arith))

-- a guard's own test
pub guard_none : (k : ℕ) (g : GuardCode) → g.test ≡ 0 → is_zero g.node ≡ guard_ok k g
guard_none k g e = rw e (sym (and_true (is_zero g.node)))

pub guard_some : (k : ℕ) (g : GuardCode) → (g.test ≡ 0 → ⊥) → leb g.test 2 && ltb g.node k ≡ guard_ok k g
guard_some k g ne = let z : is_zero g.test ≡ false = ne_eqb g.test 0 ne in
    rw z (ap (λ b. b && ltb g.node k) (sym (and_true (leb g.test 2))))

-- the tests of one update before its guards are looked at
below_shift : (m k : ℕ) → m / 2 ^ k ≡ 0 → m < 2 ^ k
below_shift m k e = let h = (div-lt_iff_lt-mul {k = 2 ^ k} {x = m} {y = 1} (pow_pos k)).0 (omega arith) in omega arith

shift_below : (m k : ℕ) → m < 2 ^ k → m / 2 ^ k ≡ 0
shift_below m k h = div-eq_of_lt h

module _ (u k : ℕ) where
  abbrev Off : Bool
  Off = leb 3 (u / 4096) || not (eqb (bit_and u 0x0fff / 2 ^ k) 0)

  pub update_off : (x : Bool) → Off ≡ true → false ≡ constant_keeps u && counters_there k u && x
  update_off x h = or_cases (leb 3 (u / 4096)) (not (eqb (bit_and u 0x0fff / 2 ^ k) 0)) h
      (λ e. let z : ltb (u / 4096) 3 ≡ false = le-ltb (u / 4096) 3 (leb-true 3 (u / 4096) e) in rw z refl)
      (λ e. let n = eqb-false (bit_and u 0x0fff / 2 ^ k) 0 (not-false (eqb (bit_and u 0x0fff / 2 ^ k) 0) e) in
      let z : ltb (u % 4096) (2 ^ k) ≡ false = not-true (ltb (u % 4096) (2 ^ k)) (λ l.
      n (ap (λ m. m / 2 ^ k) (masked u) ∙ shift_below (u % 4096) k (ltb-true (u % 4096) (2 ^ k) l))) in
      rw z (rw (and-false (ltb (u / 4096) 3)) refl))

  pub update_on : Off ≡ false → (constant_keeps u ≡ true) × (counters_there k u ≡ true)
  update_on h =
      let a = or_false_l (leb 3 (u / 4096)) (not (eqb (bit_and u 0x0fff / 2 ^ k) 0)) h in
      let b = or_false_r (leb 3 (u / 4096)) (not (eqb (bit_and u 0x0fff / 2 ^ k) 0)) h in
      let z = eqb-true (bit_and u 0x0fff / 2 ^ k) 0 (unnot (eqb (bit_and u 0x0fff / 2 ^ k) 0) b) in (
        lt-ltb (u / 4096) 3 (omega (arith, leb-false 3 (u / 4096) a)),
        lt-ltb (u % 4096) (2 ^ k) (below_shift (u % 4096) k (ap (λ m. m / 2 ^ k) (sym (masked u)) ∙ z)),
      )

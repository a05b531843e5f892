-- What an update says is what the cells of its segment stand for, added up.
use Prim.Native.Nat.{◌+◌, ◌-◌, ◌<◌, ◌≤◌, suc, zero, ℕ}
use mathlib.Core.Path.{◌∙◌, ◌≡◌, ap, refl, subst, sym}
use mathlib.Core.Bool.{Bool, ◌||◌, cond, false, true}
use mathlib.Core.List.{List, [], ◌∷◌, map}
use native.Mathlib.Nat.{zero-add}
use native.Mathlib.Omega.{arith}
use lib.Dec.{eqb}
use lib.ListN.{get_or, length, length-map}
use borrow.Author.Tests.{eq-eqb, ne_eqb}
use Rattle.model.specs.Base.{any, count, mem, numbers, sum}
use Rattle.model.specs.Edges.{Weight, adds_counter, counter, is_one_cell, is_less, one, less, update_of}
use Rattle.model.specs.Shape.{Seg, cells}
use Rattle.model.proofs.lists.Lists.{any_find, any_in, in_mem, mem_in}
use Rattle.model.specs.Notions.{NoDup, flagged}
use Rattle.model.proofs.lists.Logic.{bool_case, clash, eqb_same, mem_here, mem_there, not-true}
use Rattle.model.proofs.lists.Numbers.{flag_at, length_numbers, map_number}

-- how many cells a cell of the shape stands for, with these counters
abbrev pub weigh : List ℕ → Weight → ℕ
weigh cs (counter n) = get_or cs n 1
weigh cs one = 1
weigh cs (less n) = get_or cs n 1 - 1

pub count_none : (p : ℕ → Bool) (l : List ℕ) → ((d : ℕ) → mem d l ≡ true → p d ≡ true → ⊥) → count p l ≡ 0
count_none p [] z = refl
count_none p (d ∷ l) z = rw (not-true (p d) (z d (mem_here d l)))
    (omega (arith, count_none p l (λ x q. z x (mem_there x d l q))))

-- sums of flagged counters, the flags given by a test of the numbers from j on
flags_none : (f : ℕ → Bool) (j : ℕ) (cs : List ℕ) → ((i : ℕ) → f i ≡ false) → flagged (map f (numbers j (length cs)))
    cs ≡ 0
flags_none f j [] h = refl
flags_none f j (c ∷ cs) h = rw (h j) (omega (arith, flags_none f (suc j) cs h))

flags_past : (n j : ℕ) (cs : List ℕ) → n < j → flagged (map (λ i. eqb i n) (numbers j (length cs))) cs ≡ 0
flags_past n j [] h = refl
flags_past n j (c ∷ cs) h = rw (ne_eqb j n (λ e. omega arith)) (omega (arith, flags_past n (suc j) cs (omega arith)))

flags_one : (n j : ℕ) (cs : List ℕ) → n < length cs → flagged (map (λ i. eqb i (j + n)) (numbers j (length cs))) cs
    ≡ get_or cs n 1
flags_one n j [] h = absurd (omega arith)
flags_one zero j (c ∷ cs) h = rw (eq-eqb j (j + 0) (omega arith))
    (omega (arith, flags_past (j + 0) (suc j) cs (omega arith)))
flags_one (suc n) j (c ∷ cs) h =
    rw (ne_eqb j (j + suc n) (λ e. omega arith))
    (let r = flags_one n (suc j) cs (omega arith) in
    let s = ap (λ m. flagged (map (λ i. eqb i m) (numbers (suc j) (length cs))) cs) (let e : suc j + n ≡ j + suc n =
    omega arith in e) in omega arith)

flags_or : (f g : ℕ → Bool) (j : ℕ) (cs : List ℕ) → ((i : ℕ) → f i ≡ true → g i ≡ true → ⊥)
    → flagged (map (λ i. f i || g i) (numbers j (length cs))) cs ≡ flagged (map f (numbers j (length cs)))
    cs + flagged (map g (numbers j (length cs))) cs
flags_or f g j [] h = refl
flags_or f g j (c ∷ cs) h =
    let r = flags_or f g (suc j) cs h in
    bool_case (f j)
    (λ p. bool_case (g j) (λ q. absurd (h j p q)) (λ q. rw (p, q) (omega arith)))
    (λ p. bool_case (g j) (λ q. rw (p, q) (omega arith)) (λ q. rw (p, q) (omega arith)))

-- the cell of a list that a counter belongs to
any_owner : (w : ℕ → Weight) (i : ℕ) (l : List ℕ) → any (λ c. adds_counter i (w c)) l ≡ true → (d : ℕ)
    × (mem d l ≡ true)
    × (adds_counter i (w d) ≡ true)
any_owner w i l h = let r = any_find (λ c. adds_counter i (w c)) l h in (r.0, in_mem r.0 l r.1, r.2)

-- a counter that an update adds is the counter of one of its segment's cells, and the counter of such a cell is added
pub update_adds : (k : ℕ) (w : ℕ → Weight) (s : Seg) (i : ℕ) → get_or (update_of k w s).adds i false ≡ true
    → (c : ℕ) × (mem c (cells s) ≡ true) × (adds_counter i (w c) ≡ true)
update_adds k w s i h =
    any_owner w i (cells s) (subst (λ j. any (λ c. adds_counter j (w c)) (cells s) ≡ true) (zero-add i)
    (flag_at (λ j. any (λ c. adds_counter j (w c)) (cells s)) 0 k i h))

pub adds_update : (k : ℕ) (w : ℕ → Weight) (s : Seg) (i c : ℕ) → i < k → mem c (cells s) ≡ true
    → adds_counter i (w c) ≡ true → get_or (update_of k w s).adds i false ≡ true
adds_update k w s i c lt m a =
    let f : ℕ → Bool = λ j. any (λ d. adds_counter j (w d)) (cells s) in
    map_number f k i false lt ∙ any_in (λ d. adds_counter i (w d)) (cells s) c (mem_in c (cells s) m) a

-- What is needed of the cells' weights: a counter belongs to one cell, and one cell at most is a rest, and one stands
-- for one; counters are there, and a rest's is not 0.
pub record Fair (k : ℕ) (cs : List ℕ) (w : ℕ → Weight) : Type 0 where
  pub owned : (i c d : ℕ) → adds_counter i (w c) ≡ true → adds_counter i (w d) ≡ true → c ≡ d
  pub single : (c d : ℕ) → is_less (w c) ≡ true → is_less (w d) ≡ true → c ≡ d
  pub lone : (c d : ℕ) → is_one_cell (w c) ≡ true → is_one_cell (w d) ≡ true → c ≡ d
  pub known : (i c : ℕ) → c < suc k → adds_counter i (w c) ≡ true → i < k
  pub positive : (c n : ℕ) → w c ≡ less n → 1 ≤ get_or cs n 1

module _ (k : ℕ) (cs : List ℕ) (len : length cs ≡ k) (w : ℕ → Weight) (F : Fair k cs w) where
  adds_of : List ℕ → ℕ
  adds_of l = flagged (map (λ i. any (λ c. adds_counter i (w c)) l) (numbers 0 (length cs))) cs

  -- one cell
  one_cell : (c : ℕ) (x : Weight) → w c ≡ x → c < suc k
      → weigh cs x + cond (is_less x) 1 0 ≡ flagged (map (λ i. adds_counter i x) (numbers 0 (length cs))) cs + cond
      (is_one_cell x) 1 0
  one_cell c (counter n) e h =
      let lt : n < k = F.known n c h (rw (e, eqb_same n)) in
      let r = flags_one n 0 cs (omega arith) in
      let s = ap (λ m. flagged (map (λ i. eqb i m) (numbers 0 (length cs))) cs) (zero-add n) in omega arith
  one_cell c one e h = omega (arith, flags_none (λ i. false) 0 cs (λ i. refl))
  one_cell c (less n) e h =
      let lt : n < k = F.known n c h (rw (e, eqb_same n)) in
      let r = flags_one n 0 cs (omega arith) in
      let s = ap (λ m. flagged (map (λ i. eqb i m) (numbers 0 (length cs))) cs) (zero-add n) in
      let p = F.positive c n e in omega arith

  -- the weights of a list of different cells
  balance : (l : List ℕ) → NoDup l → ((c : ℕ) → mem c l ≡ true → c < suc k)
      → sum (λ c. weigh cs (w c)) l + count (λ c. is_less (w c)) l ≡ adds_of l + count (λ c. is_one_cell (w c)) l
  unfolding adds_of
  balance [] nd h = omega (arith, flags_none (λ i. false) 0 cs (λ i. refl))
  balance (c ∷ l) nd h =
      let r = balance l nd.1 (λ d q. h d (mem_there d c l q)) in
      let o = one_cell c (w c) refl (h c (mem_here c l)) in
      let s = flags_or (λ i. adds_counter i (w c)) (λ i. any (λ d. adds_counter i (w d)) l) 0 cs
      (λ i p q. let z = any_owner w i l q in clash (subst (λ x. mem x l ≡ true) (sym (F.owned i c z.0 p z.2))
      z.1) nd.0) in
      omega arith

  few_of : (p : ℕ → Bool) → ((c d : ℕ) → p c ≡ true → p d ≡ true → c ≡ d) → (l : List ℕ) → NoDup l → count p l ≤ 1
  few_of p one_only [] nd = omega arith
  few_of p one_only (c ∷ l) nd =
      bool_case (p c) (λ e. rw e (omega (
        arith,
        count_none p l
            (λ d q z. clash (subst (λ x. mem x l ≡ true) (one_only d c z e) q) nd.0),
      )))
      (λ e. rw e (omega (arith, few_of p one_only l nd.1)))

  -- the constant of an update is -1, 0 or 1, and it has a flag for each old node
  pub update_small : (s : Seg) → NoDup (cells s) → ((update_of k w s).plus ≤ 2) × (length (update_of k w s).adds ≡ k)
  update_small s nd = (
    omega (arith, few_of (λ c. is_one_cell (w c)) F.lone (cells s) nd),
    length-map (numbers 0 k) (λ i. any (λ c. adds_counter i (w c)) (cells s)) ∙ length_numbers 0 k,
  )

  -- an update's value is the sum of what the cells stand for
  pub update_value : (s : Seg) → NoDup (cells s) → ((c : ℕ) → mem c (cells s) ≡ true → c < suc k)
      → sum (λ c. weigh cs (w c)) (cells s) ≡ (flagged (update_of k w s).adds cs + (update_of k w s).plus) - 1
  unfolding adds_of
  update_value s nd h =
      let b = balance (cells s) nd h in
      let f = few_of (λ c. is_less (w c)) F.single (cells s) nd in
      rw (← len) (omega arith)

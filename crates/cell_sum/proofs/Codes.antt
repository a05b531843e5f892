-- The code of a segment's update, as a sum over its cells: each flag belongs to one cell, so the flags add up.
use Prim.Native.Nat.{ℕ, zero, suc, ◌+◌, ◌*◌, ◌^◌, ◌≤◌, ◌<◌}
use mathlib.Core.Bool.{Bool, true, false, cond}
use mathlib.Core.List.{List, [], ◌∷◌}
use mathlib.Core.Path.{◌≡◌, refl, sym, ap, ap₂, ◌∙◌}
use native.Mathlib.Nat.{mul-add, mul_assoc, mul_comm, pow-suc}
use native.Mathlib.Omega.{arith}
use lib.Dec.{eqb}
use lib.ListN.{get_or, length}
use lib.Pow.{pow_pos}
use borrow.Author.Tests.{eqb-true, ne_eqb}
use Rattle.model.specs.Base.{count, mem, sum}
use Rattle.model.specs.Edges.{Weight, counter, is_one_cell, is_less, one, less, update_of}
use Rattle.model.specs.Records.{bits, update_code}
use Rattle.model.specs.Shape.{Seg, cells}
use Rattle.model.specs.Notions.{NoDup, flagged}
use Rattle.model.proofs.lists.Logic.{bool_case, eqb_same, eqb_sym, mem_here, mem_there}
use Rattle.model.proofs.ways.Ways.{split_fair, whole_fair}
use Rattle.model.proofs.ways.Weights.{Fair, update_small, update_value, weigh}
use Rattle.std.specs.Prelude.{Option, Some, None}
use Rattle.model.specs.declared.Node.{Node}
use Rattle.cell_sum.specs.Codes.{plus_by, weight_by}

-- ---- counters a, 2a, 4a, ..: flagged ones add up to a times the flags' number

twice : (a n : ℕ) → (2 * a) * n ≡ a * (2 * n)
twice a n = ap (λ x. x * n) (mul_comm 2 a) ∙ mul_assoc a 2 n

abbrev doubles : ℕ → ℕ → List ℕ
doubles a zero = []
doubles a (suc n) = a ∷ doubles (2 * a) n

length_doubles : (a n : ℕ) → length (doubles a n) ≡ n
length_doubles a zero = refl
length_doubles a (suc n) = ap suc (length_doubles (2 * a) n)

doubles_at : (a n i : ℕ) → i < n → get_or (doubles a n) i 1 ≡ a * 2 ^ i
doubles_at a zero i h = absurd (omega arith)
doubles_at a (suc n) zero h = omega arith
doubles_at a (suc n) (suc i) h =
    doubles_at (2 * a) n i (omega arith) ∙ twice a (2 ^ i) ∙ ap (λ x. a * x) (mul_comm 2 (2 ^ i) ∙ sym (pow-suc 2 i))

flagged_doubles : (a : ℕ) (fs : List Bool) → flagged fs (doubles a (length fs)) ≡ a * bits fs
flagged_doubles a [] = omega arith
flagged_doubles a (true ∷ fs) = omega (arith, flagged_doubles (2 * a) fs, twice a (bits fs), mul-add a 1 (2 * bits fs))
flagged_doubles a (false ∷ fs) = omega (arith, flagged_doubles (2 * a) fs, twice a (bits fs), mul-add a 0 (2 * bits fs))

-- ---- cells

-- the flags that a cell adds
abbrev flag_of : Weight → ℕ
flag_of (counter n) = 2 ^ n
flag_of one = 0
flag_of (less n) = 2 ^ n

module _ (k : ℕ) (w : ℕ → Weight) (F : Fair k (doubles 2 k) w) where
  cell_weight : (c : ℕ) (x : Weight) → w c ≡ x → c < suc k
      → weigh (doubles 2 k) x + cond (is_less x) 1 0 ≡ 2 * flag_of x + cond (is_one_cell x) 1 0
  cell_weight c (counter n) e h = omega (arith, doubles_at 2 k n (F.known n c h (rw (e, eqb_same n))))
  cell_weight c one e h = omega arith
  cell_weight c (less n) e h = omega (arith, doubles_at 2 k n (F.known n c h (rw (e, eqb_same n))), pow_pos n)

  cell_code : (x : Weight) → plus_by x ≡ flag_of x + 4096 * cond (is_one_cell x) 1 0
  cell_code (counter n) = omega arith
  cell_code one = omega arith
  cell_code (less n) = omega arith

  -- the cells of a list, weighed with these counters
  all_weights : (l : List ℕ) → ((c : ℕ) → mem c l ≡ true → c < suc k)
      → sum (λ c. weigh (doubles 2 k) (w c)) l + count (λ c. is_less (w c)) l ≡ 2 * sum (λ c. flag_of (w c)) l + count
      (λ c. is_one_cell (w c)) l
  all_weights [] h = refl
  all_weights (c ∷ l) h = omega (
    arith,
    cell_weight c (w c) refl (h c (mem_here c l)),
    all_weights l
        (λ d q. h d (mem_there d c l q)),
  )

  all_codes : (l : List ℕ) → sum (λ c. plus_by (w c)) l ≡ sum (λ c. flag_of (w c)) l + 4096 * count
      (λ c. is_one_cell (w c)) l
  all_codes [] = refl
  all_codes (c ∷ l) = omega (arith, cell_code (w c), all_codes l)

  -- with at most one rest, the flags of a segment's update are those of its cells
  flags_sum : (s : Seg) → NoDup (cells s) → ((c : ℕ) → mem c (cells s) ≡ true → c < suc k)
      → count (λ c. is_less (w c)) (cells s) ≤ 1
      → sum (λ c. flag_of (w c)) (cells s) ≡ bits (update_of k w s).adds
  flags_sum s nd h few =
      let len = (update_small k (doubles 2 k) (length_doubles 2 k) w F s nd).1 in
      let v = update_value k (doubles 2 k) (length_doubles 2 k) w F s nd h in
      let f : flagged (update_of k w s).adds (doubles 2 k) ≡ 2 * bits (update_of k w s).adds =
      ap (λ n. flagged (update_of k w s).adds (doubles 2 n)) (sym len) ∙ flagged_doubles 2 (update_of k w s).adds in
      omega (arith, all_weights (cells s) h)

  segment_code : (s : Seg) (base : ℕ) → NoDup (cells s) → ((c : ℕ) → mem c (cells s) ≡ true → c < suc k)
      → base + 4096 * count (λ c. is_less (w c)) (cells s) ≡ 4096
      → base + sum (λ c. plus_by (w c)) (cells s) ≡ update_code (update_of k w s)
  segment_code s base nd h b =
      let r = count (λ c. is_less (w c)) (cells s) in
      let few : r ≤ 1 = omega arith in
      omega (arith, flags_sum s nd h few, all_codes (cells s))

-- ---- the weights of a way

-- a rest is cell k alone
tail_rest : (n : Node) (k c : ℕ) → n.0 < k → is_less (weight_by (Some n) k c) ≡ eqb c k
tail_rest n k c h = bool_case (eqb c n.0)
    (λ e. let q = eqb-true c n.0 e in rw e (sym (ne_eqb c k (λ z. omega arith))))
    (λ e. bool_case (eqb c k) (λ f. rw (e, f)) (λ f. rw (e, f)))

count_one : (k : ℕ) (l : List ℕ) → NoDup l → count (λ c. eqb c k) l ≡ cond (mem k l) 1 0
count_one k [] nd = refl
count_one k (c ∷ l) nd =
    let r = count_one k l nd.1 in
    bool_case (eqb c k)
    (λ e. let q = eqb-true c k e in
    let gone : mem k l ≡ false = rw q at nd.0 in
    let none : count (λ c. eqb c k) l ≡ 0 = r ∙ ap (λ b. cond b 1 0) gone in
    rw (e, eqb_sym k c, e) (omega arith))
    (λ e. rw (e, eqb_sym k c, e) (omega arith))

no_rests : (k : ℕ) (l : List ℕ) → count (λ c. is_less (weight_by None k c)) l ≡ 0
no_rests k [] = refl
no_rests k (c ∷ l) = bool_case (eqb c k) (λ e. rw e (omega (arith, no_rests k l)))
    (λ e. rw e (omega (arith, no_rests k l)))

one_rest : (n : Node) (k : ℕ) (l : List ℕ) → n.0 < k → NoDup l
    → count (λ c. is_less (weight_by (Some n) k c)) l ≡ cond (mem k l) 1 0
one_rest n k l h nd = count_same l ∙ count_one k l nd
  where
    count_same : (m : List ℕ) → count (λ c. is_less (weight_by (Some n) k c)) m ≡ count (λ c. eqb c k) m
    count_same [] = refl
    count_same (c ∷ m) = ap₂ (λ b x. cond b 1 0 + x) (tail_rest n k c h) (count_same m)

-- what a segment's code begins with: 4096 for the constant 0, or 0 where the tail is a cell of it
abbrev pub rest_base : Option Node → ℕ → List ℕ → ℕ
rest_base (Some _) k l = cond (mem k l) 0 4096
rest_base None k l = 4096

base_rests : (sp : Option Node) (k : ℕ) (l : List ℕ) → ((n : Node) → sp ≡ Some n → n.0 < k) → NoDup l
    → rest_base sp k l + 4096 * count (λ c. is_less (weight_by sp k c)) l ≡ 4096
base_rests (Some n) k l h nd =
    let r = one_rest n k l (h n refl) nd in
    bool_case (mem k l) (λ e. let z = r ∙ ap (λ b. cond b 1 0) e in rw e (omega arith)) (λ e. let z =
    r ∙ ap (λ b. cond b 1 0) e in rw e (omega arith))
base_rests None k l h nd = omega (arith, no_rests k l)

weights_fair : (sp : Option Node) (k : ℕ) → ((n : Node) → sp ≡ Some n → n.0 < k) → Fair k (doubles 2 k) (weight_by sp k)
weights_fair (Some n) k h = split_fair k (doubles 2 k) n.0 (h n refl) (let e = doubles_at 2 k n.0 (h n refl) in
    omega (arith, pow_pos n.0))
weights_fair None k h = whole_fair k (doubles 2 k)

-- the code of a segment's update: its base, and what its cells add
pub segment_update : (sp : Option Node) (k : ℕ) (s : Seg) → ((n : Node) → sp ≡ Some n → n.0 < k) → NoDup (cells s)
    → ((c : ℕ) → mem c (cells s) ≡ true → c ≤ k)
    → rest_base sp k (cells s) + sum (λ c. plus_by (weight_by sp k c)) (cells s)
    ≡ update_code (update_of k (weight_by sp k) s)
segment_update sp k s h nd below =
    segment_code k (weight_by sp k) (weights_fair sp k h) s (rest_base sp k (cells s)) nd
    (λ c q. omega (arith, below c q)) (base_rests sp k (cells s) h nd)

-- The table of the bytes that a cell may hold, and the test of each cell by it.
use Prim.Native.Nat.{ℕ, zero, suc, ◌+◌, ◌-◌, ◌<◌, ◌≤◌}
use mathlib.Core.Path.{◌≡◌, refl, sym, ap, ap₂, subst, ◌∙◌}
use mathlib.Core.Bool.{Bool, false, true, ◌&&◌, and_assoc}
use mathlib.Core.List.{List, [], ◌∷◌, ◌++◌, map}
use native.Mathlib.Omega.{arith}
use lib.Dec.{eqb, ltb}
use lib.ListN.{length, drop, get_or, replicate, set, length-append, length-drop, length-map, length-replicate, length-set, get_or-append}
use lib.Seq.{get_or-append-add, get_or-drop, get_or-set_other, get_or-set_same}
use borrow.Author.Tests.{eqb-false, ltb-false, ltb-true}
use Rattle.std.specs.List.{fold}
use Rattle.model.specs.Base.{all}
use Rattle.model.specs.Heap.{in_use, slot_named}
use Rattle.model.specs.Image.{cell_slot}
use Rattle.model.proofs.lists.Lists.{get_or_map}
use Rattle.model.proofs.lists.Logic.{and_true, bool_case, eq-case}
use Rattle.visit.specs.Steps.{slot_at}
use Rattle.closed_image.proofs.ByteLaws.{named_in, named_past, used_byte}

-- ---- a fold that tests each element and keeps whether all passed
pub all_gathered : (p : ℕ → Bool) (a : Bool) (l : List ℕ) → fold (λ kept b. kept && p b) a l ≡ a && all p l
all_gathered p a [] = sym (and_true a)
all_gathered p a (b ∷ l) = all_gathered p (a && p b) l ∙ and_assoc a (p b) (all p l)

-- the same test of what is read
pub pass_read : {A B : Type 0} (p : A → Bool) (q : B → Bool) (f : A → B) → ((x : A) → p x ≡ q (f x)) → (l : List A)
    → all p l ≡ all q (map f l)
pass_read p q f e [] = refl
pass_read p q f e (x ∷ l) = ap₂ (λ a b. a && b) (e x) (pass_read p q f e l)

-- ---- the table

-- at first no byte is fine
none_fine : (n i : ℕ) → get_or (replicate n false) i false ≡ false
none_fine zero i = refl
none_fine (suc n) zero = refl
none_fine (suc n) (suc i) = none_fine n i

-- then of each cell it is told whether that is in use
abbrev pub used_cell : ℕ → Bool
used_cell b = in_use (cell_slot b)

abbrev told : List ℕ → List Bool → List Bool
told cs t = map used_cell cs ++ drop (length cs) t

-- t is a table by which no byte is fine
module _ (cs : List ℕ) (t : List Bool) (none : (i : ℕ) → get_or t i false ≡ false) where
  told_in : (b : ℕ) → b < length cs → get_or (told cs t) b false ≡ used_cell (get_or cs b 0)
  told_in b h =
      get_or-append (map used_cell cs) (drop (length cs) t) false b (rw (length-map cs used_cell) h)
      ∙ get_or_map used_cell cs b 0 false h

  told_past : (b : ℕ) → length cs ≤ b → get_or (told cs t) b false ≡ false
  told_past b h =
      let k = b - length cs in
      let e : b ≡ length (map used_cell cs) + k = omega (arith, length-map cs used_cell) in
      ap (λ m. get_or (told cs t) m false) e ∙ get_or-append-add (map used_cell cs) (drop (length cs) t) k false
      ∙ get_or-drop (length cs) t k false ∙ none (length cs + k)

  told_long : length cs ≤ length t → length (told cs t) ≡ length t
  told_long h =
      let d = drop (length cs) t in
      omega (arith, length-append (map used_cell cs) d, length-map cs used_cell, length-drop (length cs) t)

  -- so a byte that stands for a cell is fine where that cell is in use
  told_cell : (b : ℕ) → eqb b 0xfd ≡ false → eqb b 0xfe ≡ false → eqb b 0xff ≡ false
      → get_or (told cs t) b false ≡ slot_named (slot_at cs) (cell_slot b)
  told_cell b u n m =
      rw u
      (bool_case (ltb b (length cs))
      (λ l. let h = ltb-true b (length cs) l in told_in b h ∙ used_byte (get_or cs b 0) ∙ sym (named_in cs b n m h))
      (λ l. let h = ltb-false b (length cs) l in told_past b h ∙ sym (named_past cs b n m h)))

-- one byte more is told as f has it
tell : (f : ℕ → Bool) (t : List Bool) (i : ℕ) (x : Bool) (b : ℕ) → i < length t → x ≡ f i
    → (eqb b i ≡ false → get_or t b false ≡ f b) → get_or (set t i x) b false ≡ f b
tell f t i x b h e other =
    eq-case b i (λ q. subst (λ m. get_or (set t i x) m false ≡ f m) (sym q) (get_or-set_same t i x false h ∙ e))
    (λ n. get_or-set_other t i b x false (eqb-false b i n) ∙ other n)

-- and last the bytes that stand for no cell, with x, y and z
abbrev fine_table : List Bool → Bool → Bool → Bool → List Bool
fine_table s x y z = set (set (set s 0xfd x) 0xfe y) 0xff z

fine_byte : (cs : List ℕ) (t : List Bool) (x y z : Bool) → length cs ≤ 256 → length t ≡ 256
    → ((i : ℕ) → get_or t i false ≡ false) → x ≡ true → y ≡ true → z ≡ true → (b : ℕ)
    → get_or (fine_table (told cs t) x y z) b false ≡ slot_named (slot_at cs) (cell_slot b)
fine_byte cs t x y z few long none u v w b =
    let f : ℕ → Bool = λ c. slot_named (slot_at cs) (cell_slot c) in
    let t₀ = told cs t in
    let t₁ = set t₀ 0xfd x in
    let t₂ = set t₁ 0xfe y in
    let l₀ : length t₀ ≡ 256 = told_long cs t none (omega arith) ∙ long in
    let l₁ : length t₁ ≡ 256 = length-set t₀ 0xfd x ∙ l₀ in
    let l₂ : length t₂ ≡ 256 = length-set t₁ 0xfe y ∙ l₁ in
    tell f t₂ 0xff z b (omega arith) w
    (λ m. tell f t₁ 0xfe y b (omega arith) v
    (λ n. tell f t₀ 0xfd x b (omega arith) u (λ k. told_cell cs t none b k n m)))

-- the test of each cell by it
pub cells_fine : (cs : List ℕ) {s : List Bool} {x y z r : Bool} → length cs ≤ 240 → s ≡ told cs (replicate 256 false)
    → r ≡ all (λ b. get_or (fine_table s x y z) b false) cs → x ≡ true → y ≡ true → z ≡ true
    → r ≡ all (slot_named (slot_at cs)) (map cell_slot cs)
cells_fine cs {x = x} {y = y} {z = z} few e q u v w =
    let t : List Bool = replicate 256 false in
    let long : length t ≡ 256 = length-replicate {A = Bool} 256 false in
    let p : ℕ → Bool = λ b. get_or (fine_table (told cs t) x y z) b false in
    q ∙ ap (λ l. all (λ b. get_or (fine_table l x y z) b false) cs) e
    ∙ pass_read p (slot_named (slot_at cs)) cell_slot (fine_byte cs t x y z (omega arith) long (none_fine 256) u v w) cs

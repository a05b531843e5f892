-- Bytes compared eight at a time: as digits in base 256 they are one number, and different bytes are different numbers.
use Prim.Native.Nat.{ℕ, ◌+◌, ◌≤◌}
use mathlib.Core.Path.{◌≡◌, sym, ap, ap₂, ◌∙◌}
use mathlib.Core.Bool.{true, false, ◌&&◌}
use mathlib.Core.List.{List}
use native.Mathlib.Omega.{arith}
use lib.Dec.{eqb}
use borrow.Author.Tests.{eq-eqb, eqb-true}
use lib.ListN.{take, drop, length}
use lib.Seq.{take_all}
use Rattle.model.specs.Base.{same_list}
use Rattle.model.proofs.lists.Digits.{code_injective, code_of}
use Rattle.model.proofs.lists.Logic.{and_l, and_r, bool_ext, not-true}
use Rattle.model.proofs.shapes.Same.{bytes_same, same_bytes_refl}
use Rattle.word.specs.Words.{eight_at}
use Rattle.word.proofs.Codes.{Bytes, eight_code, part_below, part_length}
use Rattle.search.specs.Search.{key_at}
use Rattle.search.proofs.ListLaws.{same_part, same_split}

-- ---- parts of eight bytes are the same exactly where their numbers are

module _ (t : List ℕ) (a : ℕ) (r : List ℕ) (b : ℕ) (h : a + 8 ≤ length t) (k : b + 8 ≤ length r) where
  eight_same : same_part 8 t a r b ≡ true → eight_at t a ≡ eight_at r b
  eight_same e =
      eight_code t a h ∙ ap (code_of 256) (bytes_same (take 8 (drop a t)) (take 8 (drop b r)) e)
      ∙ sym (eight_code r b k)

  pub eight_is : Bytes t → Bytes r → same_part 8 t a r b ≡ eqb (eight_at t a) (eight_at r b)
  eight_is T R = bool_ext (same_part 8 t a r b) (eqb (eight_at t a) (eight_at r b))
      (λ e. eq-eqb (eight_at t a) (eight_at r b) (eight_same e))
      (λ e. let x = take 8 (drop a t) in
      let y = take 8 (drop b r) in
      let c = sym (eight_code t a h) ∙ eqb-true (eight_at t a) (eight_at r b) e ∙ eight_code r b k in
      let l = part_length t a 8 h ∙ sym (part_length r b 8 k) in
      let same = code_injective 256 x y (part_below t a 8 T) (part_below r b 8 R) l c in
      ap (λ z. same_list eqb z y) same ∙ same_bytes_refl y)

-- ---- records

-- the record r of 32 bytes, and the part of t from a on
module _ (t : List ℕ) (a : ℕ) (r : List ℕ) (wide : length r ≡ 32) where
  whole : same_list eqb (take 32 (drop a t)) r ≡ same_part 32 t a r 0
  whole = ap (same_list eqb (take 32 (drop a t))) (sym (take_all 32 r (omega arith)))

  pub key_differ : a + 32 ≤ length t → (key_at t a ≡ key_at r 0 → ⊥) → same_list eqb (take 32 (drop a t)) r ≡ false
  key_differ l h = not-true (same_list eqb (take 32 (drop a t)) r) (λ e.
      let behind = and_r (same_part 1 t a r 0) (same_part 31 t (a + 1) r 1)
      (sym (whole ∙ same_split 1 31 t a r 0) ∙ e) in
      let rest = same_part 23 t (a + 1 + 8) r 9 in
      let key = and_l (same_part 8 t (a + 1) r 1) rest (sym (same_split 8 23 t (a + 1) r 1) ∙ behind) in
      h (eight_same t (a + 1) r 1 (omega arith) (omega arith) key))

  -- four parts of eight bytes
  pub parts_same : same_list eqb (take 32 (drop a t)) r
      ≡ (same_part 8 t a r 0 && same_part 8 t (a + 8) r 8)
      && (same_part 8 t (a + 16) r 16 && same_part 8 t (a + 24) r 24)
  parts_same =
      let e : a + 16 + 8 ≡ a + 24 = omega arith in
      whole ∙ same_split 16 16 t a r 0 ∙ ap₂ ◌&&◌ (same_split 8 8 t a r 0) (same_split 8 8 t (a + 16) r 16 ∙ rw e)

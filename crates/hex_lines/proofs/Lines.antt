-- The text grows by a line with each record, and by each piece that is put behind it.
use Prim.Native.Nat.{ℕ, zero, suc, ◌+◌, ◌-◌, ◌*◌, ◌≤◌}
use mathlib.Core.Path.{◌≡◌, sym, ap, ◌∙◌}
use mathlib.Core.List.{List, ◌++◌, append_assoc, append-nil, map}
use native.Mathlib.Numerals.{add-one}
use native.Mathlib.Omega.{arith}
use lib.ListN.{length, take, drop}
use lib.Seq.{drop-drop}
use Rattle.model.specs.Base.{joined}
use Rattle.model.specs.Translate.{chunks}
use borrow.Rule.Slice.PartMut.{mid_of, put_mid}
use Rattle.model.proofs.lists.Slices.{front_is, put_back}
use Rattle.hex_lines.specs.Lines.{line_of, lines_of}

-- one record more of a table, f of each
chunks_next : (f : List ℕ → List ℕ) (i : ℕ) (t : List ℕ)
    → joined (map f (chunks (suc i) t)) ≡ joined (map f (chunks i t)) ++ f (take 32 (drop (32 * i) t))
chunks_next f zero t = append-nil (f (take 32 t))
chunks_next f (suc i) t =
    let x = f (take 32 t) in
    let e : 32 + 32 * i ≡ 32 * suc i = omega arith in
    let d : drop (32 * i) (drop 32 t) ≡ drop (32 * suc i) t = drop-drop (32 * i) 32 t ∙ ap (λ m. drop m t) e in
    ap (λ l. x ++ l) (chunks_next f i (drop 32 t) ∙ ap (λ l. joined (map f (chunks i (drop 32 t))) ++ f (take 32 l)) d)
    ∙ sym (append_assoc x (joined (map f (chunks i (drop 32 t)))) (f (take 32 (drop (32 * suc i) t))))

-- the records of a table, one more
pub lines_next : (i : ℕ) (t : List ℕ) → lines_of (i + 1) t ≡ lines_of i t ++ line_of (take 32 (drop (32 * i) t))
lines_next i t = ap (λ n. lines_of n t) (add-one i) ∙ chunks_next line_of i t

-- what stands before the end of r once the part from a on, whose first n elements were written with r, is back
pub part_written : (t r ys : List ℕ) (a n : ℕ) → length (put_mid a (length t - a) t ys) ≡ length t → a + n ≤ length t
    → ys ≡ r ++ drop n (mid_of a (length t - a) t) → take (a + n) (put_mid a (length t - a) t ys) ≡ take a t ++ r
part_written t r ys a n k h e =
    front_is t (put_mid a (length t - a) t ys) (take a t ++ r) (a + n) k h
    (put_back t r ys a n e ∙ sym (append_assoc (take a t) r (drop (a + n) t)))

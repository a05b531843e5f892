-- `refold::put_words` meets its contract: the four words stand one after the other.
use Prim.Native.Nat.{ℕ, ◌+◌, ◌*◌, ◌/◌, ◌%◌, ◌≤◌}
use mathlib.Core.Path.{refl, ap, ◌∙◌}
use mathlib.Core.List.{List, ◌++◌, append-nil}
use native.Mathlib.Omega.{arith}
use lib.ListN.{drop, drop_of_length-le, length, take}
use Rattle.word.specs.Words.{bytes_of}
use Rattle.refold.proofs.Worded.{put_next}
use Rattle.refold.proofs.put_words.Goals as goal

-- the list l with x at a
abbrev with : ℕ → List ℕ → List ℕ → List ℕ
with a x l = take a l ++ (x ++ drop (a + 8) l)

pub returns : goal.returns
returns c =
    let s = c in
    let g = s.args in
    let t = g.target.now in
    let x : List ℕ = bytes_of 8 ((g.p % 0x1_0000_0000) * 0x1_0000_0000) in
    let y : List ℕ = bytes_of 8 (g.p / 0x1_0000_0000 + g.low * 0x1_0000) in
    let z : List ℕ = bytes_of 8 g.high in
    let short : length t ≤ 32 = omega (arith, s.requires.2) in
    c.put_at-4.ensures
    ∙ ap (with 24 (bytes_of 8 0)) (c.put_at-3.ensures
    ∙ ap (with 16 z) (c.put_at-2.ensures
    ∙ ap (with 8 y) c.put_at.ensures ∙ put_next x y t 8 refl)
    ∙ put_next (x ++ y) z t 16 refl)
    ∙ put_next ((x ++ y) ++ z) (bytes_of 8 0) t 24 refl
    ∙ ap (λ l. (((x ++ y) ++ z) ++ bytes_of 8 0) ++ l) (drop_of_length-le t short)
    ∙ append-nil _

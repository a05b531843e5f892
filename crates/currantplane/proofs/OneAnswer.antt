-- The calls for Rust and C leave nothing free: what two programs answer and write, by the same contract, for the same
-- input and over the same lent bytes, is the same.
use Prim.Native.Nat.{ℕ}
use mathlib.Core.Path.{◌∙◌, ◌≡◌, sym}
use mathlib.Core.List.{List}
use Rattle.model.specs.Image.{Folding, Stepping, Unfolding}
use Rattle.model.specs.Part.{Part}
use Rattle.model.specs.Records.{Verdict}
use Rattle.model.specs.declared.Configuration.{Configuration}
use Rattle.model.specs.Walking.{Moved, Walked}
use Rattle.model.specs.Ranges.{Ranged}
use Rattle.answers.specs.Numbers.{IsTold}
use Rattle.currantplane.specs.Calls.{IsFolded, IsRanged, IsRecord, IsStepped, IsTranslated, IsUnfolded}

told_one : (v : Verdict) (n p m q : ℕ) → IsTold v n p → IsTold v m q → (n ≡ m) × (p ≡ q)
told_one v n p m q x y = (x.number ∙ sym y.number, x.place ∙ sym y.place)

abbrev pub OneAnswer : Type 0
OneAnswer = ((s : List ℕ) (a b : ℕ) (xs : List ℕ) (r q : ℕ) (ys ls es zs ms fs : List ℕ)
    → IsTranslated s a b xs r ys ls es → IsTranslated s a b xs q zs ms fs
    → (r ≡ q) × (ys ≡ zs) × (ls ≡ ms) × (es ≡ fs))
    × ((p : Part) (xs : List ℕ) (r q : ℕ) (ys zs : List ℕ) → IsRecord p xs r ys → IsRecord p xs q zs
    → (r ≡ q) × (ys ≡ zs))
    × ((f : Folding) (n p m q : ℕ) (r r₀ t vs vs₀ ws : List ℕ) → IsFolded f n p r r₀ vs vs₀ → IsFolded f m q t r₀ ws vs₀
    → ((n ≡ m) × (p ≡ q)) × (r ≡ t) × (vs ≡ ws))
    × ((u : Unfolding) (n p v m q w : ℕ) (ps cs qs ds : List ℕ) → IsUnfolded u n p v ps cs → IsUnfolded u m q w qs ds
    → ((n ≡ m) × (p ≡ q)) × (v ≡ w) × (ps ≡ qs) × (cs ≡ ds))
    × ((s : Stepping) (n p m q : ℕ) (ps cs a qs ds b l : List ℕ) → IsStepped s n p ps cs a l
    → IsStepped s m q qs ds b l
    → ((n ≡ m) × (p ≡ q)) × (ps ≡ qs) × (cs ≡ ds) × (a ≡ b))
    × ((m : Moved) (r q : ℕ) (c d : Configuration) → (r ≡ m.refusal) × (c ≡ m.configuration)
    → (q ≡ m.refusal) × (d ≡ m.configuration) → (r ≡ q) × (c ≡ d))
    × ((w : Walked) (r q i j : ℕ) (c d : Configuration) → (r ≡ w.refusal) × (i ≡ w.made) × (c ≡ w.configuration)
    → (q ≡ w.refusal) × (j ≡ w.made) × (d ≡ w.configuration) → (r ≡ q) × (i ≡ j) × (c ≡ d))
    × ((o : Ranged) (r q : ℕ) (rs₀ rs ts xs₀ xs ys : List ℕ) → IsRanged o r rs₀ rs xs₀ xs → IsRanged o q rs₀ ts xs₀ ys
    → (r ≡ q) × (rs ≡ ts) × (xs ≡ ys))

pub one_answer : OneAnswer
one_answer = (
  λ s a b xs r q ys ls es zs ms fs x y. (
    x.number ∙ sym y.number,
    x.answer ∙ sym y.answer,
    x.locations ∙ sym y.locations,
    x.edges ∙ sym y.edges,
  ),
  λ p xs r q ys zs x y. (x.number ∙ sym y.number, x.answer ∙ sym y.answer),
  λ f n p m q r r₀ t vs vs₀ ws x y. (
    told_one f.verdict n p m q x.ended y.ended,
    x.shape ∙ sym y.shape,
    x.counters ∙ sym y.counters,
  ),
  λ u n p v m q w ps cs qs ds x y. (
    told_one u.verdict n p m q x.ended y.ended,
    x.node ∙ sym y.node,
    x.pointers ∙ sym y.pointers,
    x.cells ∙ sym y.cells,
  ),
  λ s n p m q ps cs a qs ds b l x y. (
    told_one _ n p m q x.ended y.ended,
    x.pointers ∙ sym y.pointers,
    x.cells ∙ sym y.cells,
    x.answer ∙ sym y.answer,
  ),
  λ m r q c d x y. (x.0 ∙ sym y.0, x.1 ∙ sym y.1),
  λ w r q i j c d x y. (x.0 ∙ sym y.0, x.1 ∙ sym y.1, x.2 ∙ sym y.2),
  λ o r q rs₀ rs ts xs₀ xs ys x y. (
    x.number ∙ sym y.number,
    x.ranges ∙ sym y.ranges,
    x.tells ∙ sym y.tells,
  ),
)

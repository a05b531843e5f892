-- Moves one after the other, and when a walk is these: a move more in front, a list cut in two, one walk after another.
use Prim.Native.Nat.{◌<◌, ◌≤◌, suc, zero, ℕ}
use mathlib.Core.Path.{◌∙◌, ◌≡◌, ap, refl, sym}
use mathlib.Core.Bool.{and-false, cond, false, true}
use mathlib.Core.List.{List, [], ◌++◌, ◌∷◌}
use native.Mathlib.Omega.{arith}
use lib.Dec.{leb}
use lib.ListN.{length}
use borrow.Author.Tests.{le-leb, lt-leb}
use Rattle.model.specs.Translate.{Tables}
use Rattle.model.specs.Walking.{Moved, Walked, keeps, moved, moves_along, walked, walked_to}
use Rattle.model.specs.Walks.{made_before, then_walk}
use Rattle.model.specs.declared.Configuration.{Configuration}
use Rattle.model.proofs.lists.Logic.{bool_case}
use Rattle.model.proofs.runs.OneMove.{moved_broken}

-- a number is 0 or comes after another
pub number-case {ℓ} : {C : Type ℓ} (x : ℕ) → (x ≡ 0 → C) → ((y : ℕ) → x ≡ suc y → C) → C
number-case zero f g = f refl
number-case (suc x) f g = g x refl

pub then_done : (w : Walked) (f : Configuration → Walked) → w.refusal ≡ 0
    → then_walk w f ≡ made_before w.made (f w.configuration)
then_done w f e = rw e

pub then_refused : (w : Walked) (f : Configuration → Walked) (x : ℕ) → w.refusal ≡ suc x → then_walk w f ≡ w
then_refused w f x e = rw e

-- what the second walk is matters only at the first one's end
pub then_same : (w : Walked) (f g : Configuration → Walked)
    → (w.refusal ≡ 0 → f w.configuration ≡ g w.configuration) → then_walk w f ≡ then_walk w g
then_same w f g h = number-case w.refusal
    (λ e. then_done w f e ∙ ap (made_before w.made) (h e) ∙ sym (then_done w g e))
    (λ x e. then_refused w f x e ∙ sym (then_refused w g x e))

-- ---- moves one after the other

module _ (t : Tables) where
  -- a move that is done, and one that is refused
  pub along_done : (m : ℕ) (c : Configuration) (n : ℕ) (ns : List ℕ) → (moved t c n).refusal ≡ 0
      → moves_along t m c (n ∷ ns) ≡ moves_along t (suc m) (moved t c n).configuration ns
  along_done m c n ns e = rw (e, moves_along)

  pub along_refused : (m : ℕ) (c : Configuration) (n : ℕ) (ns : List ℕ) (x : ℕ) → (moved t c n).refusal ≡ suc x
      → moves_along t m c (n ∷ ns) ≡ walked_to (suc x) m c
  along_refused m c n ns x e = rw (e, moves_along)

  -- a move made before is one move more
  along_suc : (ns : List ℕ) (m : ℕ) (c : Configuration) → moves_along t (suc m) c ns
      ≡ made_before 1 (moves_along t m c ns)
  along_suc [] m c = ap (λ k. walked_to 0 k c) (omega arith)
  along_suc (n ∷ ns) m c = number-case (moved t c n).refusal
      (λ e. along_done (suc m) c n ns e ∙ along_suc ns (suc m) (moved t c n).configuration
      ∙ ap (made_before 1) (sym (along_done m c n ns e)))
      (λ x e. along_refused (suc m) c n ns x e ∙ ap (λ k. walked_to (suc x) k c) (omega arith)
      ∙ ap (made_before 1) (sym (along_refused m c n ns x e)))

  pub along_more : (m : ℕ) (c : Configuration) (ns : List ℕ) → moves_along t m c ns
      ≡ made_before m (moves_along t 0 c ns)
  along_more zero c ns = ap (λ k. walked_to (moves_along t 0 c ns).refusal k (moves_along t 0 c ns).configuration)
      (omega arith)
  along_more (suc m) c ns = along_suc ns m c ∙ ap (made_before 1) (along_more m c ns)
      ∙ ap (λ k. walked_to (moves_along t 0 c ns).refusal k (moves_along t 0 c ns).configuration) (omega arith)

  -- along a list cut in two
  pub along_cut : (ns ms : List ℕ) (m : ℕ) (c : Configuration)
      → moves_along t m c (ns ++ ms) ≡ then_walk (moves_along t m c ns) (λ d. moves_along t 0 d ms)
  along_cut [] ms m c = along_more m c ms
  along_cut (n ∷ ns) ms m c = number-case (moved t c n).refusal
      (λ e. along_done m c n (ns ++ ms) e ∙ along_cut ns ms (suc m) (moved t c n).configuration
      ∙ ap (λ w. then_walk w (λ d. moves_along t 0 d ms)) (sym (along_done m c n ns e)))
      (λ x e. along_refused m c n (ns ++ ms) x e
      ∙ ap (λ w. then_walk w (λ d. moves_along t 0 d ms)) (sym (along_refused m c n ns x e)))

-- ---- a walk

module _ (t : Tables) (c : Configuration) (ns : List ℕ) where
  pub walk_kept : length ns ≤ 4096 → keeps t c ≡ true → walked t c ns ≡ moves_along t 0 c ns
  unfolding walked
  walk_kept h k = rw (le-leb (length ns) 4096 h, k, walked)

  pub walk_broken : keeps t c ≡ false → walked t c ns ≡ walked_to 20 0 c
  unfolding walked
  walk_broken k = rw (k, and-false (leb (length ns) 4096), walked)

  -- a walk that is too long makes no move
  pub walk_long : 4096 < length ns → walked t c ns ≡ walked_to 20 0 c
  unfolding walked
  walk_long h = rw (lt-leb (length ns) 4096 h, walked)

-- what an empty walk gives
pub walk_empty : (t : Tables) (c : Configuration) → walked t c []
    ≡ cond (keeps t c) (walked_to 0 0 c) (walked_to 20 0 c)
walk_empty t c = bool_case (keeps t c)
    (λ k. walk_kept t c [] (omega arith) k ∙ rw k)
    (λ k. walk_broken t c [] k ∙ rw k)

-- a walk of one edge or more, and of no more than 4,096, is the single moves one after the other: where the layout is
-- broken, the first is refused
pub walk_is_moves : (t : Tables) (c : Configuration) (ns : List ℕ) → length ns ≤ 4096 → (ns ≡ [] → ⊥)
    → walked t c ns ≡ moves_along t 0 c ns
walk_is_moves t c [] h f = absurd (f refl)
walk_is_moves t c (n ∷ ns) h f = bool_case (keeps t c)
    (walk_kept t c (n ∷ ns) h)
    (λ k. walk_broken t c (n ∷ ns) k
    ∙ sym (along_refused t 0 c n ns 19 (ap (λ (m : Moved). m.refusal) (moved_broken t c n k))))

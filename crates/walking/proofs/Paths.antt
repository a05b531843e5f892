-- A walk in tables and a configuration that keep the layout, move by move.
use Prim.Native.Nat.{ℕ, ◌+◌, ◌≤◌, ◌<◌}
use mathlib.Core.Path.{◌≡◌, refl, sym, ap, ap₂, subst, ◌∙◌}
use mathlib.Core.Bool.{true}
use mathlib.Core.List.{List, ◌∷◌}
use native.Mathlib.Numerals.{add-one}
use native.Mathlib.Omega.{arith}
use lib.ListN.{drop, drop_of_length-le, get_or, length}
use Rattle.std.specs.Prelude.{Err}
use Rattle.model.specs.Codes.{move_refusal_number}
use Rattle.model.specs.Translate.{Tables}
use Rattle.model.specs.Walking.{Moved, keeps, moved, moved_of, moves_along, stays_with, walked_to}
use Rattle.model.specs.declared.Configuration.{Configuration}
use Rattle.model.specs.declared.codes.MoveRefusal.{MoveRefusal}
use Rattle.model.specs.declared.codes.MoveRefusal.TheVariants.{CounterTooLarge, NotMade}
use Rattle.model.proofs.lists.Slices.{drop_step}
use Rattle.model.proofs.runs.Along.{along_done, along_refused, number-case}
use Rattle.model.proofs.runs.OneMove.{move_done, move_told}
use Rattle.moving.specs.Advanced.{moved_by}

-- a refusal has a number
pub told_nonzero : (r : MoveRefusal) → move_refusal_number r ≡ 0 → ⊥
told_nonzero NotMade e = omega arith
told_nonzero CounterTooLarge e = omega arith

-- and changes nothing
pub refused_is : (t : Tables) (c : Configuration) (n : ℕ) (r : MoveRefusal) {cs : List ℕ}
    → moved_by c.location (Err r) cs ≡ moved t c n → moved_of c (Err r) ≡ moved t c n
refused_is t c n r e =
    let x : move_refusal_number r ≡ (moved t c n).refusal = ap (λ (m : Moved). m.refusal) e in
    ap₂ stays_with x (sym ((move_told t c n).stays (λ z. told_nonzero r (x ∙ z))))

-- after i moves from c₀ the walk stands at c, which keeps the layout, and the rest of the path decides
pub record Standing (t : Tables) (c₀ : Configuration) (ns : List ℕ) (i : ℕ) (c : Configuration) : Type 0 where
  pub within : i ≤ length ns
  pub kept : keeps t c ≡ true
  pub twelve : length c.counters ≡ 12
  pub rest : moves_along t 0 c₀ ns ≡ moves_along t i c (drop i ns)

pub begin_standing : (t : Tables) (c : Configuration) (ns : List ℕ) → keeps t c ≡ true → length c.counters ≡ 12
    → Standing t c ns 0 c
begin_standing t c ns k l = record { within = omega arith; kept = k; twelve = l; rest = refl }

module _ (t : Tables) (c₀ : Configuration) (ns : List ℕ) (i : ℕ) (c : Configuration) (S : Standing t c₀ ns i c)
    (lt : i < length ns) {m : Moved} (e : m ≡ moved t c (get_or ns i 0)) where
  next : moves_along t 0 c₀ ns ≡ moves_along t i c (get_or ns i 0 ∷ drop (i + 1) ns)
  next = S.rest ∙ ap (moves_along t i c) (drop_step ns i lt)

  refusal_is : m.refusal ≡ (moved t c (get_or ns i 0)).refusal
  refusal_is = ap (λ (x : Moved). x.refusal) e

  pub refused_there : (m.refusal ≡ 0 → ⊥) → walked_to m.refusal i c ≡ moves_along t 0 c₀ ns
  refused_there h = number-case m.refusal (λ z. absurd (h z)) (λ x z.
      ap (λ n. walked_to n i c) z
      ∙ sym (next ∙ along_refused t i c (get_or ns i 0) (drop (i + 1) ns) x (sym refusal_is ∙ z)))

  -- and nothing was changed there
  pub refused_same : (m.refusal ≡ 0 → ⊥) → m.configuration.counters ≡ c.counters
  refused_same h = ap (λ (x : Moved). x.configuration.counters) e
      ∙ ap (λ (d : Configuration). d.counters)
      ((move_told t c (get_or ns i 0)).stays (λ z. h (refusal_is ∙ z)))

  pub moved_on : m.refusal ≡ 0 → Standing t c₀ ns (i + 1) m.configuration
  moved_on z =
      let d = move_done t c (get_or ns i 0) S.twelve (sym refusal_is ∙ z) in
      subst (λ (x : Moved). Standing t c₀ ns (i + 1) x.configuration) (sym e) (record {
        within = omega arith;
        kept = d.keeps_on;
        twelve = d.twelve;
        rest = next ∙ along_done t i c (get_or ns i 0) (drop (i + 1) ns) (sym refusal_is ∙ z)
            ∙ ap (λ k. moves_along t k (moved t c (get_or ns i 0)).configuration (drop (i + 1) ns)) (sym (add-one i));
      })

pub all_made : (t : Tables) (c₀ : Configuration) (ns : List ℕ) (i : ℕ) (c : Configuration) → Standing t c₀ ns i c
    → length ns ≤ i → walked_to 0 i c ≡ moves_along t 0 c₀ ns
all_made t c₀ ns i c S h = sym (S.rest ∙ ap (moves_along t i c) (drop_of_length-le ns h))

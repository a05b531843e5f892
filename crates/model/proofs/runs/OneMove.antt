-- One move of the automaton in tables that keep the layout: it leaves a configuration that keeps it, and each refusal
-- says exactly what happened.
use Prim.Native.Nat.{◌-◌, ◌^◌, suc, zero, ℕ}
use mathlib.Core.Path.{◌∙◌, ◌≡◌, ap, refl, subst, sym}
use mathlib.Core.Logic.{inl, inr}
use mathlib.Core.Option.{Option, none, some}
use mathlib.Core.Bool.{Bool, false, true}
use mathlib.Core.List.{List, [], ◌++◌, ◌∷◌}
use native.Mathlib.Omega.{arith}
use lib.Dec.{ltb}
use lib.ListN.{length, replicate}
use Rattle.model.specs.Layout.{keeps_layout}
use Rattle.model.specs.Runs.{Advance, Config, move_of}
use Rattle.model.specs.Translate.{Tables}
use Rattle.model.specs.Walking.{Moved, configuration_keeps, configuration_of, in_automaton, in_counters, keeps, moved, stays_with}
use Rattle.model.specs.Walks.{MakesNone, MakesOne, MoveTold}
use Rattle.model.specs.declared.Configuration.{Configuration}
use Rattle.model.proofs.lists.Lists.{some_inj, some-none}
use Rattle.model.proofs.lists.Logic.{and_both, and_l, and_r, bool_case, clash}
use Rattle.model.proofs.runs.Stands.{keeps_stands, stands_back, stands_keeps, stands_length, stands_move}

-- ---- what a move is, case by case

module _ (t : Tables) (c : Configuration) (n : ℕ) where
  pub moved_broken : keeps t c ≡ false → moved t c n ≡ stays_with 20 c
  unfolding moved
  moved_broken k = rw (k, moved)

  pub moved_none : keeps t c ≡ true → move_of t (in_automaton t c) n ≡ none → moved t c n ≡ stays_with 20 c
  unfolding moved
  moved_none k m = rw (k, m, moved)

  pub moved_over : (y : Advance Config) → keeps t c ≡ true → move_of t (in_automaton t c) n ≡ some y
      → in_counters y.after.values ≡ false → moved t c n ≡ stays_with 21 c
  unfolding moved
  moved_over y k m i = rw (k, m, i, moved)

  pub moved_done : (y : Advance Config) → keeps t c ≡ true → move_of t (in_automaton t c) n ≡ some y
      → in_counters y.after.values ≡ true → moved t c n ≡ stays_with 0 (configuration_of y.after)
  unfolding moved
  moved_done y k m i = rw (k, m, i, moved)

-- What a move gives, with why: the tables or the configuration break the layout; the automaton makes no move; it makes
-- one whose counters pass 32 bits; or it makes one.
pub data MoveCase (t : Tables) (c : Configuration) (n : ℕ) : Moved → Type 0 where
  broken : keeps t c ≡ false → MoveCase t c n (stays_with 20 c)
  not_made : keeps t c ≡ true → move_of t (in_automaton t c) n ≡ none → MoveCase t c n (stays_with 20 c)
  over : (y : Advance Config) → keeps t c ≡ true → move_of t (in_automaton t c) n ≡ some y
      → in_counters y.after.values ≡ false → MoveCase t c n (stays_with 21 c)
  made : (y : Advance Config) → keeps t c ≡ true → move_of t (in_automaton t c) n ≡ some y
      → in_counters y.after.values ≡ true → MoveCase t c n (stays_with 0 (configuration_of y.after))

pub move_case : (t : Tables) (c : Configuration) (n : ℕ) → MoveCase t c n (moved t c n)
move_case t c n = bool_case (keeps t c)
    (λ k. by_move k (move_of t (in_automaton t c) n) refl)
    (λ k. subst (MoveCase t c n) (sym (moved_broken t c n k)) (broken k))
  where
    by_move : keeps t c ≡ true → (o : Option (Advance Config)) → move_of t (in_automaton t c) n ≡ o
        → MoveCase t c n (moved t c n)
    by_move k none m = subst (MoveCase t c n) (sym (moved_none t c n k m)) (not_made k m)
    by_move k (some y) m = bool_case (in_counters y.after.values)
        (λ i. subst (MoveCase t c n) (sym (moved_done t c n y k m i)) (made y k m i))
        (λ i. subst (MoveCase t c n) (sym (moved_over t c n y k m i)) (over y k m i))

-- ---- when a move is done, and when it is refused

not_both : (t : Tables) (c : Configuration) (n : ℕ) (b : Bool) → MakesOne b t c n → MakesNone t c n → ⊥
not_both t c n b x (inl k) = clash x.1 k
not_both t c n b x (inr e) = some-none (sym e ∙ x.2)

one_size : (t : Tables) (c : Configuration) (n : ℕ) (a b : Bool) → MakesOne a t c n → MakesOne b t c n → a ≡ b
one_size t c n a b x y =
    let e = some_inj (sym x.2 ∙ y.2) in
    sym x.3 ∙ ap (λ (z : Advance Config). in_counters z.after.values) e ∙ y.3

none_told : (t : Tables) (c : Configuration) (n : ℕ) → MakesNone t c n → MoveTold t c n (stays_with 20 c)
none_told t c n h = record {
  is_done = ((λ e. absurd (omega arith)), λ x. absurd (not_one x));
  is_over = ((λ e. absurd (omega arith)), λ x. absurd (not_one x));
  is_none = ((λ e. h), λ x. refl);
  one_of = inr (inl refl);
  stays = λ x. refl;
}
  where
    not_one : {b : Bool} → MakesOne b t c n → ⊥
    not_one x = not_both t c n _ x h

pub move_told : (t : Tables) (c : Configuration) (n : ℕ) → MoveTold t c n (moved t c n)
move_told t c n = told (moved t c n) (move_case t c n)
  where
    told : (m : Moved) → MoveCase t c n m → MoveTold t c n m
    told m (broken k) = none_told t c n (inl k)
    told m (not_made k e) = none_told t c n (inr e)
    told m (over y k e i) = let h : MakesOne false t c n = (y, k, e, i) in record {
      is_done = ((λ z. absurd (omega arith)), λ x. clash refl (one_size t c n true false x h));
      is_over = ((λ z. h), λ x. refl);
      is_none = ((λ z. absurd (omega arith)), λ x. absurd (not_both t c n false h x));
      one_of = inr (inr refl);
      stays = λ x. refl;
    }
    told m (made y k e i) = let h : MakesOne true t c n = (y, k, e, i) in record {
      is_done = ((λ z. h), λ x. refl);
      is_over = ((λ z. absurd (omega arith)), λ x. clash refl (one_size t c n true false h x));
      is_none = ((λ z. absurd (omega arith)), λ x. absurd (not_both t c n true h x));
      one_of = inl refl;
      stays = λ x. absurd (x refl);
    }

-- counters of 32 bits with zeros after them
fits_filled : (vs : List ℕ) (m : ℕ) → in_counters vs ≡ true → in_counters (vs ++ replicate m 0) ≡ true
fits_filled [] zero h = refl
fits_filled [] (suc m) h = fits_filled [] m refl
fits_filled (v ∷ vs) m h =
    and_both (ltb v (2 ^ 32)) (in_counters (vs ++ replicate m 0)) (and_l (ltb v (2 ^ 32)) (in_counters vs) h)
    (fits_filled vs m (and_r (ltb v (2 ^ 32)) (in_counters vs) h))

-- What a done move leaves: the configuration of the automaton's move, which keeps the layout and has twelve counters
-- of 32 bits.
pub record MoveDone (t : Tables) (c : Configuration) (n : ℕ) (d : Configuration) : Type 0 where
  pub advance : Advance Config
  pub before : keeps t c ≡ true
  pub moves : move_of t (in_automaton t c) n ≡ some advance
  pub small : in_counters advance.after.values ≡ true
  pub is_next : d ≡ configuration_of advance.after
  pub is_after : in_automaton t d ≡ advance.after
  pub keeps_on : keeps t d ≡ true
  pub twelve : length d.counters ≡ 12
  pub fits : in_counters d.counters ≡ true

module _ (t : Tables) (c : Configuration) (n : ℕ) (l : length c.counters ≡ 12) where
  pub move_done : (moved t c n).refusal ≡ 0 → MoveDone t c n (moved t c n).configuration
  move_done z =
      let h = (move_told t c n).is_done.0 z in
      let y = h.0 in
      let k = and_l (keeps_layout t) (configuration_keeps t c) h.1 in
      let s = stands_move t k (in_automaton t c) n y (keeps_stands t c h.1 l) h.2 in
      subst (λ (m : Moved). MoveDone t c n m.configuration) (sym (moved_done t c n y h.1 h.2 h.3)) (record {
        advance = y;
        before = h.1;
        moves = h.2;
        small = h.3;
        is_next = refl;
        is_after = stands_back t k y.after s;
        keeps_on = stands_keeps t k y.after s;
        twelve = stands_length t k y.after s;
        fits = fits_filled y.after.values (12 - length y.after.values) h.3;
      })

  -- a done move leaves a configuration that keeps the layout
  pub move_keeps : (moved t c n).refusal ≡ 0 → keeps t (moved t c n).configuration ≡ true
  move_keeps z = (move_done z).keeps_on

-- Walks: how many moves are made and where they lead, why a walk stops, and a walk cut in two.
use Prim.Native.Nat.{◌+◌, ◌<◌, ◌≤◌, suc, ℕ}
use mathlib.Core.Path.{◌∙◌, ◌≡◌, ap, refl, subst, sym}
use mathlib.Core.Logic.{◌⊎◌, inl, inr}
use mathlib.Core.Option.{none}
use mathlib.Core.Bool.{false, true}
use mathlib.Core.List.{List, [], ◌++◌, ◌∷◌}
use native.Mathlib.Omega.{arith}
use lib.Dec.{leb}
use lib.ListN.{get_or, length, length-append, take}
use lib.Seq.{length-take-le}
use borrow.Author.Tests.{leb-false, leb-true}
use Rattle.model.specs.Runs.{final, move_of, trace}
use Rattle.model.specs.Translate.{Tables}
use Rattle.model.specs.Walking.{Walked, in_automaton, in_counters, keeps, moved, moves_along, walked, walked_to}
use Rattle.model.specs.Walks.{MakesNone, MakesOne, edges_taken, made_before, then_walk}
use Rattle.model.specs.declared.Configuration.{Configuration}
use Rattle.model.proofs.lists.Logic.{bool_case, clash}
use Rattle.model.proofs.runs.OneMove.{MoveDone, move_done, move_told}
use Rattle.model.proofs.runs.Along.{along_cut, along_done, along_more, along_refused, number-case, then_same, walk_broken, walk_kept, walk_long}

-- ---- the moves made

-- What moves along ns from c gave: how many were made, and the automaton's configuration after these, which those moves
-- alone give too; why it stopped.
pub record Went (t : Tables) (c : Configuration) (ns : List ℕ) (w : Walked) : Type 0 where
  pub most : w.made ≤ length ns
  pub whole : w.refusal ≡ 0 → w.made ≡ length ns
  pub keeps_on : keeps t w.configuration ≡ true
  pub twelve : length w.configuration.counters ≡ 12
  pub traced : length (edges_taken t (in_automaton t c) w.made ns) ≡ w.made
  pub reaches : final (in_automaton t c) (edges_taken t (in_automaton t c) w.made ns)
      ≡ in_automaton t w.configuration
  pub before : moves_along t 0 c (take w.made ns) ≡ walked_to 0 w.made w.configuration
  pub fits : in_counters c.counters ≡ true → in_counters w.configuration.counters ≡ true
  pub one_of : (w.refusal ≡ 0) ⊎ (w.refusal ≡ 20) ⊎ (w.refusal ≡ 21)
  pub stopped : (w.refusal ≡ 0 → ⊥) → (w.made < length ns)
      × ((moved t w.configuration (get_or ns w.made 0)).refusal ≡ w.refusal)

-- one move more in front
trace_more : (t : Tables) (c d : Configuration) (n : ℕ) (ns : List ℕ) (M : MoveDone t c n d) (m : ℕ)
    → trace (move_of t) (in_automaton t c) (take (1 + m) (n ∷ ns))
    ≡ M.advance ∷ trace (move_of t) (in_automaton t d) (take m ns)
trace_more t c d n ns M m =
    let s : 1 + m ≡ suc m = omega arith in
    let e : trace (move_of t) (in_automaton t c) (n ∷ take m ns)
    ≡ M.advance ∷ trace (move_of t) M.advance.after (take m ns) = rw (M.moves, trace) in
    ap (λ k. trace (move_of t) (in_automaton t c) (take k (n ∷ ns))) s ∙ e
    ∙ ap (λ a. M.advance ∷ trace (move_of t) a (take m ns)) (sym M.is_after)

went_more : (t : Tables) (c d : Configuration) (n : ℕ) (ns : List ℕ) → MoveDone t c n d
    → ((ms : List ℕ) → moves_along t 0 c (n ∷ ms) ≡ made_before 1 (moves_along t 0 d ms)) → (w : Walked) → Went t d ns w
    → Went t c (n ∷ ns) (made_before 1 w)
went_more t c d n ns M A w W = record {
  most = omega (arith, W.most);
  whole = λ e. omega (arith, W.whole e);
  keeps_on = W.keeps_on;
  twelve = W.twelve;
  traced = ap length (trace_more t c d n ns M w.made) ∙ omega (arith, W.traced);
  reaches = ap (final (in_automaton t c)) (trace_more t c d n ns M w.made)
      ∙ ap (λ a. final a (trace (move_of t) (in_automaton t d) (take w.made ns))) (sym M.is_after) ∙ W.reaches;
  before = let s : 1 + w.made ≡ suc w.made = omega arith in
      ap (λ k. moves_along t 0 c (take k (n ∷ ns))) s ∙ A (take w.made ns) ∙ ap (made_before 1) W.before;
  fits = λ _. W.fits M.fits;
  one_of = W.one_of;
  stopped = λ f. let r = W.stopped f in
      let s : 1 + w.made ≡ suc w.made = omega arith in
      (omega (arith, r.0), ap (λ k. (moved t w.configuration (get_or (n ∷ ns) k 0)).refusal) s ∙ r.1);
}

module _ (t : Tables) where
  went : (ns : List ℕ) (c : Configuration) → keeps t c ≡ true → length c.counters ≡ 12
      → Went t c ns (moves_along t 0 c ns)
  went [] c k l = record {
    most = omega arith;
    whole = λ e. refl;
    keeps_on = k;
    twelve = l;
    traced = refl;
    reaches = refl;
    before = refl;
    fits = λ f. f;
    one_of = inl refl;
    stopped = λ f. absurd (f refl);
  }
  went (n ∷ ns) c k l = number-case (moved t c n).refusal
      (λ e.
      let M = move_done t c n l e in
      let d = (moved t c n).configuration in
      let A : (ms : List ℕ) → moves_along t 0 c (n ∷ ms) ≡ made_before 1 (moves_along t 0 d ms) =
      λ ms. along_done t 0 c n ms e ∙ along_more t 1 d ms in
      subst (Went t c (n ∷ ns)) (sym (A ns))
      (went_more t c d n ns M A (moves_along t 0 d ns) (went ns d M.keeps_on M.twelve)))
      (λ x e. subst (Went t c (n ∷ ns)) (sym (along_refused t 0 c n ns x e)) (record {
        most = omega arith;
        whole = λ z. absurd (omega arith);
        keeps_on = k;
        twelve = l;
        traced = refl;
        reaches = refl;
        before = refl;
        fits = λ f. f;
        one_of = subst (λ y. (y ≡ 0) ⊎ (y ≡ 20) ⊎ (y ≡ 21)) e (move_told t c n).one_of;
        stopped = λ f. (omega arith, e);
      }))

-- What any walk gives: no more moves than asked for, and all of them where it is not refused; the moves made are the
-- automaton's, and lead to the configuration that is given.
pub record WalkMade (t : Tables) (c : Configuration) (ns : List ℕ) (w : Walked) : Type 0 where
  pub one_of : (w.refusal ≡ 0) ⊎ (w.refusal ≡ 20) ⊎ (w.refusal ≡ 21)
  pub most : w.made ≤ length ns
  pub whole : w.refusal ≡ 0 → (keeps t c ≡ true) × (w.made ≡ length ns) × (keeps t w.configuration ≡ true)
  pub twelve : length w.configuration.counters ≡ 12
  pub keeps_on : keeps t c ≡ true → keeps t w.configuration ≡ true
  pub traced : keeps t c ≡ true → length (edges_taken t (in_automaton t c) w.made ns) ≡ w.made
  pub reaches : keeps t c ≡ true → final (in_automaton t c) (edges_taken t (in_automaton t c) w.made ns)
      ≡ in_automaton t w.configuration
  pub fits : in_counters c.counters ≡ true → in_counters w.configuration.counters ≡ true

no_move : (t : Tables) (c : Configuration) (n : ℕ) → keeps t c ≡ true → MakesNone t c n
    → move_of t (in_automaton t c) n ≡ none
no_move t c n k (inl f) = clash k f
no_move t c n k (inr e) = e

-- a walk that makes no move
walk_none_made : (t : Tables) (c : Configuration) (ns : List ℕ) → length c.counters ≡ 12
    → WalkMade t c ns (walked_to 20 0 c)
walk_none_made t c ns l = record {
  one_of = inr (inl refl);
  most = omega arith;
  whole = λ e. absurd (omega arith);
  twelve = l;
  keeps_on = λ k. k;
  traced = λ k. refl;
  reaches = λ k. refl;
  fits = λ f. f;
}

module _ (t : Tables) (c : Configuration) (l : length c.counters ≡ 12) where
  -- a walk that is short enough, from a configuration that keeps the layout
  pub walk_went : (ns : List ℕ) → length ns ≤ 4096 → keeps t c ≡ true → Went t c ns (walked t c ns)
  walk_went ns h k = subst (Went t c ns) (sym (walk_kept t c ns h k)) (went t ns c k l)

  -- the moves before a refusal, alone
  pub walk_before : (ns : List ℕ) → length ns ≤ 4096 → keeps t c ≡ true → let w = walked t c ns in
      walked t c (take w.made ns) ≡ walked_to 0 w.made w.configuration
  walk_before ns h k =
      let w = walked t c ns in
      let W = walk_went ns h k in
      let e = length-take-le w.made ns W.most in
      walk_kept t c (take w.made ns) (omega (arith, W.most)) k ∙ W.before

  pub walk_made : (ns : List ℕ) → WalkMade t c ns (walked t c ns)
  walk_made ns = bool_case (keeps t c)
      (λ k. bool_case (leb (length ns) 4096)
      (λ h. let W = walk_went ns (leb-true (length ns) 4096 h) k in record {
        one_of = W.one_of;
        most = W.most;
        whole = λ e. (k, W.whole e, W.keeps_on);
        twelve = W.twelve;
        keeps_on = λ _. W.keeps_on;
        traced = λ _. W.traced;
        reaches = λ _. W.reaches;
        fits = W.fits;
      })
      (λ h. subst (WalkMade t c ns) (sym (walk_long t c ns (leb-false (length ns) 4096 h))) (walk_none_made t c ns l)))
      (λ k. subst (WalkMade t c ns) (sym (walk_broken t c ns k)) (walk_none_made t c ns l))

  -- why a walk that is short enough stops: the automaton makes no move, or one whose counters pass 32 bits
  pub walk_stops_none : (ns : List ℕ) → length ns ≤ 4096 → keeps t c ≡ true → let w = walked t c ns in
      w.refusal ≡ 20 → (w.made < length ns)
      × (move_of t (in_automaton t w.configuration) (get_or ns w.made 0) ≡ none)
  walk_stops_none ns h k e =
      let w = walked t c ns in
      let W = walk_went ns h k in
      let s = W.stopped (λ z. omega arith) in
      let m = (move_told t w.configuration (get_or ns w.made 0)).is_none.0 (s.1 ∙ e) in
      (s.0, no_move t w.configuration (get_or ns w.made 0) W.keeps_on m)

  pub walk_stops_over : (ns : List ℕ) → length ns ≤ 4096 → keeps t c ≡ true → let w = walked t c ns in
      w.refusal ≡ 21 → (w.made < length ns) × MakesOne false t w.configuration (get_or ns w.made 0)
  walk_stops_over ns h k e =
      let w = walked t c ns in
      let s = (walk_went ns h k).stopped (λ z. omega arith) in
      (s.0, (move_told t w.configuration (get_or ns w.made 0)).is_over.0 (s.1 ∙ e))

  -- a walk of a list cut in two is one walk after the other
  pub walk_cut : (ns ms : List ℕ) → length (ns ++ ms) ≤ 4096
      → walked t c (ns ++ ms) ≡ then_walk (walked t c ns) (λ d. walked t d ms)
  walk_cut ns ms h =
      let a = length-append ns ms in
      bool_case (keeps t c)
      (λ k.
      let W = went t ns c k l in
      walk_kept t c (ns ++ ms) h k ∙ along_cut t ns ms 0 c
      ∙ then_same (moves_along t 0 c ns) (λ d. moves_along t 0 d ms) (λ d. walked t d ms)
      (λ e. sym (walk_kept t (moves_along t 0 c ns).configuration ms (omega arith) W.keeps_on))
      ∙ ap (λ w. then_walk w (λ d. walked t d ms)) (sym (walk_kept t c ns (omega arith) k)))
      (λ k. walk_broken t c (ns ++ ms) k ∙ ap (λ w. then_walk w (λ d. walked t d ms)) (sym (walk_broken t c ns k)))

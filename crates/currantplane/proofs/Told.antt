-- The contract of each call from the answer of the function that it calls.
use Prim.Native.Nat.{ℕ}
use mathlib.Core.Path.{◌≡◌, ap, ap₂, sym, ◌∙◌}
use mathlib.Core.List.{List}
use lib.ListN.{set}
use Rattle.std.specs.Prelude.{Err}
use Rattle.model.specs.Answers.{refusal_of}
use Rattle.model.specs.Codes.{range_refusal_number, range_refusal_place}
use Rattle.model.specs.Ranges.{Ranging, ends_at, follows, ranged_in, ranged_of, ranged_to, ranging, refused_at}
use Rattle.model.specs.Runs.{Demand3}
use Rattle.model.specs.Translate.{Outcome, Tables, translate}
use Rattle.model.specs.declared.codes.RangeRefusal.{RangeRefusal}
use Rattle.model.proofs.runs.Demand.{demand_three}
use Rattle.model.proofs.listings.Outcomes.{zero_accepted}
use Rattle.model.proofs.runs.RangedNumbers.{numbers_said}
use Rattle.answers.specs.Numbers.{told}
use Rattle.currantplane.specs.Calls.{IsTranslated}

pub outcome_told : {s : List ℕ} {a b : ℕ} {xs zs ys : List ℕ} {u : Outcome} → u ≡ translate s a b
    → zs ≡ told xs (refusal_of u.verdict).place u.tables.loc_count u.tables.edge_count
    → ys ≡ set zs 3 (refusal_of u.verdict).node
    → IsTranslated s a b xs (refusal_of u.verdict).number ys u.tables.loc_bytes u.tables.edge_bytes
unfolding Demand3
outcome_told {s} {a} {b} {xs} {zs} {ys} {u} e p q = record {
  number = ap (λ x. (refusal_of x.verdict).number) e;
  answer = q ∙ ap (λ l. set l 3 (refusal_of u.verdict).node) p
      ∙ ap (λ x. set (told xs (refusal_of x.verdict).place x.tables.loc_count x.tables.edge_count) 3
      (refusal_of x.verdict).node) e;
  locations = ap (λ x. x.tables.loc_bytes) e;
  edges = ap (λ x. x.tables.edge_bytes) e;
  automaton = λ z. demand_three s a b (zero_accepted s a b (sym (ap (λ x. (refusal_of x.verdict).number) e) ∙ z));
}

-- a refusal for ranges is one of the definition's
module _ (t : Tables) (l : ℕ) (rs ns : List ℕ) (r : RangeRefusal) where
  pub range_refused : Err r ≡ ranged_of (ranging t l rs ns)
      → ranging t l rs ns ≡ refused_at (range_refusal_number r) (range_refusal_place r)
  range_refused h = by (ranging t l rs ns) h (ap ranged_in h ∙ numbers_said t l rs ns)
    where
      by : (o : Ranging) → Err r ≡ ranged_of o → ranged_in (Err r) ≡ ranged_to o
          → o ≡ refused_at (range_refusal_number r) (range_refusal_place r)
      by (follows m c) h e = cc
      by (ends_at i) h e = cc
      by (refused_at x p) h e = sym (ap₂ refused_at (ap (λ n. n.refusal) e) (ap (λ n. n.place) e))

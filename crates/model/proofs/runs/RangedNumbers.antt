-- The outcome for ranges and a path as the code answers it, in numbers.
use Prim.Native.Nat.{ℕ}
use mathlib.Core.Path.{◌≡◌, refl}
use mathlib.Core.List.{List}
use Rattle.model.specs.Ranges.{Ranging, WhyRefused, ends_at, follows, no_range, no_start, not_linked, ranged_in, ranged_of, ranged_to, ranging, refused_at, tables_break, too_long}
use Rattle.model.specs.Translate.{Tables}
use Rattle.model.proofs.runs.Ranged.{ranging_told}

-- a refusal is 22 or 23, and each has a name of its own
refused : (t : Tables) (l : ℕ) (rs ns : List ℕ) (x p : ℕ) → WhyRefused t l rs ns x p
    → ranged_in (ranged_of (refused_at x p)) ≡ ranged_to (refused_at x p)
refused t l rs ns x p (tables_break e) = refl
refused t l rs ns x p (no_start e m) = refl
refused t l rs ns x p (too_long e m k) = refl
refused t l rs ns x p (not_linked a q lt bad below) = refl
refused t l rs ns x p (no_range a each q lt bad below) = refl

pub numbers_said : (t : Tables) (l : ℕ) (rs ns : List ℕ)
    → ranged_in (ranged_of (ranging t l rs ns)) ≡ ranged_to (ranging t l rs ns)
numbers_said t l rs ns = by (ranging t l rs ns) refl
  where
    by : (o : Ranging) → ranging t l rs ns ≡ o → ranged_in (ranged_of o) ≡ ranged_to o
    by (follows m c) e = refl
    by (ends_at i) e = refl
    by (refused_at x p) e = refused t l rs ns x p (ranging_told t l rs ns (refused_at x p) e)

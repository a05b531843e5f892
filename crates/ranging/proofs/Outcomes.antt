-- The outcome of ranges and a path, in each of its cases.
use Prim.Native.Nat.{ℕ, suc}
use mathlib.Core.Path.{◌≡◌, ◌∙◌, ap, refl, sym}
use mathlib.Core.Bool.{true}
use mathlib.Core.Option.{Option, none, some}
use mathlib.Core.List.{List, [], ◌∷◌}
use native.Mathlib.Omega.{arith}
use lib.ListN.{length}
use Rattle.std.specs.Prelude.{Result, Ok, Err}
use Rattle.model.specs.Ranges.{Box, Ranging, along, askable, cut_by, ends_at, first_wrong, follows, led_to, linked_part, moved_box, ranged_in, ranged_of, ranged_to, ranging, reached, refused_at, start_box}
use Rattle.model.specs.Records.{record_at}
use Rattle.model.specs.Runs.{guards_of, nodes_at}
use Rattle.model.specs.Translate.{Tables}
use Rattle.model.specs.declared.Ranged.TheVariants as answer
use Rattle.model.proofs.runs.Follows.{along_none, along_some}
use Rattle.model.proofs.runs.Ranged.{ranging_went}
use Rattle.model.proofs.runs.RangedNumbers.{numbers_said}
use Rattle.model.specs.declared.Ranged.{Ranged}
use Rattle.model.specs.declared.codes.RangeRefusal.{RangeRefusal}
use Rattle.range_edge.specs.declared.Ranges.{Ranges}
use Rattle.ranging.specs.Follow.{FollowReady, IsFollowed}

-- ---- a path that is followed, and one that is not

-- it ends where its edges lead
along_reached : (t : Tables) (ns : List ℕ) (i l : ℕ) (b : Box) (m : ℕ) (c : Box) → along t i l b ns ≡ follows m c
    → reached t l ns ≡ m
along_reached t [] i l b m c e = cc
along_reached t (n ∷ ns) i l b m c e =
    by (cut_by (guards_of (record_at t.edge_bytes n)) b) refl
    (λ d. along_reached t ns (suc i) (led_to t n) (moved_box t n d) m c)
  where
    by : (o : Option Box) → cut_by (guards_of (record_at t.edge_bytes n)) b ≡ o
        → ((d : Box) → along t (suc i) (led_to t n) (moved_box t n d) ns ≡ follows m c → reached t (led_to t n) ns ≡ m)
        → reached t (led_to t n) ns ≡ m
    by none q r =
        let p : ends_at i ≡ follows m c = sym (along_none t i l b n ns q) ∙ e in
        absurd (let z : ◌≡◌ {A = ℕ} 0 1 = cc in omega arith)
    by (some d) q r = r d (sym (along_some t i l b n ns d q) ∙ e)

ends : (o : Ranging) (i : ℕ) → IsFollowed o (Err i) → Ok (answer.Stuck i) ≡ ranged_of o
ends (follows m c) i F = absurd F
ends (ends_at j) i F = cc
ends (refused_at x p) i F = absurd F

done : (o : Ranging) (r : Ranges) → IsFollowed o (Ok r) → (to : ℕ) → ((m : ℕ) (c : Box) → o ≡ follows m c → to ≡ m)
    → Ok (answer.Reached to r.lows r.highs) ≡ ranged_of o
done (follows m c) r F to h = cc (h m c refl, F.0, F.1)
done (ends_at i) r F to h = absurd (let z : ◌≡◌ {A = ℕ} 0 1 = cc in omega arith)
done (refused_at x p) r F to h = absurd F

-- ---- the answer, and what it says in numbers

pub in_numbers : (t : Tables) (l : ℕ) (rs ns : List ℕ) {r : Result Ranged RangeRefusal}
    → r ≡ ranged_of (ranging t l rs ns)
    → (r ≡ ranged_of (ranging t l rs ns)) × (ranged_in r ≡ ranged_to (ranging t l rs ns))
in_numbers t l rs ns e = (e, ap ranged_in e ∙ numbers_said t l rs ns)

-- ---- where nothing is refused

module _ (t : Tables) (l : ℕ) (rs ns : List ℕ) (a : askable t l ns ≡ true) (h : linked_part t l ns ≡ length ns)
    (w : first_wrong (nodes_at t l) rs ≡ nodes_at t l) where
  pub follow_ready : FollowReady t l rs ns
  follow_ready = record { asked = a; linked = h; ranges = w }

  went : along t 0 l (start_box (nodes_at t l) rs) ns ≡ ranging t l rs ns
  went = sym (ranging_went t l rs ns a (omega arith) (omega arith))

  pub is_stuck : (i : ℕ) → IsFollowed (along t 0 l (start_box (nodes_at t l) rs) ns) (Err i)
      → Ok (answer.Stuck i) ≡ ranged_of (ranging t l rs ns)
  is_stuck i F = ends _ i F ∙ ap ranged_of went

  pub is_reached : (r : Ranges) → IsFollowed (along t 0 l (start_box (nodes_at t l) rs) ns) (Ok r)
      → (to : ℕ) → to ≡ reached t l ns → Ok (answer.Reached to r.lows r.highs) ≡ ranged_of (ranging t l rs ns)
  is_reached r F to e = done _ r F to (λ m c q. e ∙ along_reached t ns 0 l (start_box (nodes_at t l) rs) m c q)
      ∙ ap ranged_of went

-- A table that holds a list in order, a record of 32 bytes for each element, and the same table with one element more.
use Prim.Native.Nat.{ℕ, ◌+◌, ◌*◌, ◌≤◌, ◌<◌}
use mathlib.Core.Path.{◌≡◌, sym, ap, ◌∙◌, subst}
use mathlib.Core.List.{List, [], ◌∷◌, ◌++◌, map, map-append}
use native.Mathlib.Omega.{arith}
use lib.ListN.{length, length-append, length-map}
use Rattle.model.specs.Translate.{table_of, places}
use Rattle.model.proofs.records.Bytes.{records_wide, table_length}
use Rattle.model.specs.Notions.{In}
use Rattle.model.proofs.lists.Lists.{in-append-cases, in_single}
use Rattle.record.specs.Written.{placed}
use Rattle.record.proofs.Placed.{placed_next}

-- a number below the places of a table is a place in it
pub place_within : (most size n : ℕ) → n < places most size → 32 * n + 32 ≤ size
place_within most size n h = omega arith

-- the table tab of size bytes holds the list l, by the records f, in n records; each element is good
pub record Kept {A : Type 0} (f : A → List ℕ) (G : A → Type 0) (most size : ℕ) (l : List A) (tab : List ℕ) (n : ℕ)
    : Type 0 where
  pub same : length tab ≡ size
  pub held : tab ≡ table_of size (map f l)
  pub number : n ≡ length l
  pub fits : length l ≤ places most size
  pub good : (x : A) → In x l → G x

module _ {A : Type 0} (f : A → List ℕ) (G : A → Type 0) (wide : (x : A) → G x → length (f x) ≡ 32) where
  wide_map : (l : List A) → ((x : A) → In x l → G x) → (r : List ℕ) → In r (map f l) → length r ≡ 32
  wide_map l h = records_wide f l (λ x i. wide x (h x i))

  -- one element more, as the next record
  pub kept_next : (most size : ℕ) (l : List A) (tab rec : List ℕ) (n : ℕ) (x : A) → Kept f G most size l tab n
      → G x → rec ≡ f x → n < places most size
      → Kept f G most size (l ++ x ∷ []) (placed tab n rec) (n + 1)
  kept_next most size l tab rec n x K g e h =
      let m : List A = l ++ x ∷ [] in
      let good : (y : A) → In y m → G y =
      λ y i. in-append-cases y l (x ∷ []) i (K.good y) (λ k. subst G (sym (in_single y x k)) g) in
      let len : length m ≡ n + 1 = length-append l (x ∷ []) ∙ omega (arith, K.number) in
      let num : n ≡ length (map f l) = K.number ∙ sym (length-map l f) in
      let room : 32 * length (map f l) + 32 ≤ size = omega (arith, place_within most size n h) in
      let p : placed tab n rec ≡ table_of size (map f m) =
      (λ i. placed (K.held i) (num i) (e i)) ∙ placed_next size (map f l) (f x) (wide_map l K.good) room
      ∙ ap (table_of size) (sym (map-append f l (x ∷ []))) in
      record {
        same = ap length p ∙ table_length size (map f m) (wide_map m good) (omega (arith, length-map m f));
        held = p;
        number = sym len;
        fits = omega arith;
        good = good;
      }

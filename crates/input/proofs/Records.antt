-- The records of an input by place, and the checks of them taken one record at a time.
use Prim.Native.Nat.{ℕ, zero, suc, ◌+◌, ◌*◌, ◌/◌, ◌<◌, ◌≤◌}
use native.Mathlib.Nat.{add-zero}
use native.Mathlib.Numerals.{add-one}
use native.Mathlib.Omega.{arith}
use mathlib.Core.Path.{◌≡◌, refl, sym, ap, ap₂, ◌∙◌}
use mathlib.Core.Bool.{Bool, true, false, cond}
use mathlib.Core.Option.{Option, none, some}
use Rattle.std.specs.Prelude as std
use Rattle.std.specs.Option.{is_some}
use Rattle.model.specs.Answers.{found_of}
use mathlib.Core.List.{List, [], ◌∷◌}
use lib.Dec.{eqb}
use lib.ListN.{length, get_or, take, drop, drop_of_length-le, length-drop}
use lib.Seq.{drop-cons, drop-drop, get_or-drop, get_or-take, length-take-le}
use Rattle.model.specs.Base.{any, count, same_list}
use Rattle.model.specs.Records.{byte, checks_record, first_failed, is_h, is_s, record_at, refusal_at}
use Rattle.model.specs.Search.{equal_at, highest_below}
use Rattle.model.specs.Structs.{Failed, Tells}
use Rattle.model.specs.Translate.{first_bad_kind, first_bad_record, chunks}
use Rattle.model.proofs.lists.Sorted.{kinds_sorted}
use Rattle.model.specs.Listings.{records_of}
use Rattle.model.proofs.lists.Logic.{bool_case, bool_ext, clash, or_l}
use Rattle.model.proofs.shapes.Same.{bytes_same, same_bytes_refl}
use Rattle.input.specs.RecordChecks.{kind_fits, earlier, record_checks}

chunks_length : (n : ℕ) (s : List ℕ) → length (chunks n s) ≡ n
chunks_length zero s = refl
chunks_length (suc n) s = ap suc (chunks_length n (drop 32 s))

chunks_at : (n : ℕ) (s : List ℕ) (i : ℕ) → i < n → get_or (chunks n s) i [] ≡ record_at s i
chunks_at zero s i h = absurd (omega arith)
chunks_at (suc n) s zero h = refl
chunks_at (suc n) s (suc i) h =
    let e : 32 + 32 * i ≡ 32 * suc i = omega arith in
    chunks_at n (drop 32 s) i (omega arith) ∙ ap (take 32) (drop-drop (32 * i) 32 s) ∙ ap (λ m. take 32 (drop m s)) e

-- a record's tag is the byte where it begins
pub record_tag : (s : List ℕ) (i : ℕ) → byte (record_at s i) 0 ≡ get_or s (32 * i) 0
record_tag s i = get_or-take 32 (drop (32 * i) s) 0 0 (omega arith) ∙ get_or-drop (32 * i) s 0 0
    ∙ ap (λ m. get_or s m 0) (add-zero (32 * i))

pub record_wide : (s : List ℕ) (i : ℕ) → 32 * (i + 1) ≤ length s → length (record_at s i) ≡ 32
record_wide s i h = length-take-le 32 (drop (32 * i) s) (omega (arith, length-drop (32 * i) s))

-- the kind of the first record
kind_pass : (a : Bool) (i : ℕ) (r : List ℕ) (rs : List (List ℕ)) → kind_fits a (byte r 0) ≡ true
    → first_bad_kind a i (r ∷ rs)
    ≡ first_bad_kind (is_h r) (suc i) rs
kind_pass a i r rs h = bool_case (is_h r) (λ e. rw (e, first_bad_kind))
    (λ e. rw (e, first_bad_kind) (rw (rw e at h, first_bad_kind)))

kind_fail : (a : Bool) (i : ℕ) (r : List ℕ) (rs : List (List ℕ)) → kind_fits a (byte r 0) ≡ false
    → first_bad_kind a i (r ∷ rs) ≡ some i
kind_fail a i r rs h = bool_case (is_h r) (λ e. clash (or_l (is_h r) _ e) h)
    (λ e. rw (e, first_bad_kind) (rw (rw e at h, first_bad_kind)))

-- the checks of the first record
refusal_pass : (n i : ℕ) (e : List (List ℕ)) (r : List ℕ) (rs : List (List ℕ))
    → first_failed (checks_record n e r) ≡ 0 → first_bad_record n i e (r ∷ rs) ≡ first_bad_record n (suc i) (r ∷ e) rs
refusal_pass n i e r rs h = rw (h, first_bad_record)

refusal_fail : (n i : ℕ) (e : List (List ℕ)) (r : List ℕ) (rs : List (List ℕ)) {f : Failed}
    → Tells (checks_record n e r) f → (f.number ≡ 0 → ⊥)
    → first_bad_record n i e (r ∷ rs) ≡ some (refusal_at f.number i f.node)
refusal_fail n i e r rs {f} t z = by_number f.number refl
  where
    by_number : (k : ℕ) → f.number ≡ k → first_bad_record n i e (r ∷ rs) ≡ some (refusal_at f.number i f.node)
    by_number zero q = absurd (z q)
    by_number (suc k) q =
        let h : first_failed (checks_record n e r) ≡ suc k = sym t.number ∙ q in
        rw (h, first_bad_record) (ap₂ (λ m v. some (refusal_at m i v)) (sym q) (sym t.node))

bytes_sym : (a b : List ℕ) → same_list eqb a b ≡ same_list eqb b a
bytes_sym a b = bool_ext (same_list eqb a b) (same_list eqb b a)
    (λ e. ap (same_list eqb b) (bytes_same a b e) ∙ same_bytes_refl b)
    (λ e. ap (same_list eqb a) (bytes_same b a e) ∙ same_bytes_refl a)

-- a record that is found among the first i is one of them: both go from the newest back
abbrev is_found : Option ℕ → Bool
is_found none = false
is_found (some i) = true

found_among : (s r : List ℕ) (i : ℕ) → is_found (highest_below i (equal_at s r)) ≡ any (same_list eqb r) (earlier s i)
found_among s r zero = refl
found_among s r (suc i) =
    let e = bytes_sym (record_at s i) r in
    bool_case (equal_at s r i) (λ q. rw (q, sym e ∙ q)) (λ q. rw (q, sym e ∙ q) (found_among s r i))

pub found_earlier : (o : std.Option ℕ) (s r : List ℕ) (i : ℕ) → found_of o ≡ highest_below i (equal_at s r)
    → is_some o ≡ any (same_list eqb r) (earlier s i)
found_earlier o s r i e = some_is o ∙ ap is_found e ∙ found_among s r i
  where
    some_is : (p : std.Option ℕ) → is_some p ≡ is_found (found_of p)
    some_is std.None = refl
    some_is (std.Some j) = refl

module _ (s : List ℕ) (n : ℕ) (w : 32 * n ≡ length s) where
  pub records_length : length (records_of s) ≡ n
  records_length = let e : length s / 32 ≡ n = omega arith in chunks_length (length s / 32) s ∙ e

  pub records_at : (i : ℕ) → i < n → get_or (records_of s) i [] ≡ record_at s i
  records_at i h = chunks_at (length s / 32) s i (omega arith)

  pub records_step : (i : ℕ) → i < n → drop i (records_of s) ≡ record_at s i ∷ drop (i + 1) (records_of s)
  records_step i h =
      rw add-one (drop-cons (records_of s) i [] (omega (arith, records_length))
      ∙ ap (λ r. r ∷ drop (suc i) (records_of s)) (records_at i h))

  pub records_end : (i : ℕ) → n ≤ i → drop i (records_of s) ≡ []
  records_end i h = drop_of_length-le (records_of s) {i = i} (omega (arith, records_length))

  -- the kinds from record i on
  pub kinds_pass : (a : Bool) (i : ℕ) → i < n → kind_fits a (get_or s (32 * i) 0) ≡ true
      → first_bad_kind a i (drop i (records_of s))
      ≡ first_bad_kind (eqb (get_or s (32 * i) 0) 0x48) (i + 1) (drop (i + 1) (records_of s))
  kinds_pass a i h k =
      let rs = drop (i + 1) (records_of s) in
      let e : first_bad_kind (is_h (record_at s i)) (suc i) rs
      ≡ first_bad_kind (eqb (get_or s (32 * i) 0) 0x48) (i + 1) rs =
      rw (record_tag s i, add-one) in
      ap (first_bad_kind a i) (records_step i h)
      ∙ kind_pass a i (record_at s i) rs (ap (kind_fits a) (record_tag s i) ∙ k) ∙ e

  pub kinds_fail : (a : Bool) (i : ℕ) → i < n → kind_fits a (get_or s (32 * i) 0) ≡ false
      → first_bad_kind a i (drop i (records_of s)) ≡ some i
  kinds_fail a i h k = ap (first_bad_kind a i) (records_step i h)
      ∙ kind_fail a i (record_at s i) (drop (i + 1) (records_of s))
      (ap (kind_fits a) (record_tag s i) ∙ k)

  pub kinds_end : (a : Bool) (i : ℕ) → n ≤ i → first_bad_kind a i (drop i (records_of s)) ≡ none
  kinds_end a i h = ap (first_bad_kind a i) (records_end i h)

  -- the statements from record i on
  pub count_step : (i : ℕ) → i < n → count is_s (drop i (records_of s)) ≡ cond (eqb (get_or s (32 * i) 0) 0x53) 1
      0 + count is_s (drop (i + 1) (records_of s))
  count_step i h = ap (count is_s) (records_step i h) ∙ rw (record_tag s i)

  pub count_end : (i : ℕ) → n ≤ i → count is_s (drop i (records_of s)) ≡ 0
  count_end i h = ap (count is_s) (records_end i h)

  -- the refusals from record i on
  pub records_pass : (m i : ℕ) → i < n → first_failed (record_checks m s i) ≡ 0
      → first_bad_record m i (earlier s i) (drop i (records_of s)) ≡ first_bad_record m (i + 1) (earlier s (i + 1))
      (drop (i + 1) (records_of s))
  records_pass m i h z =
      let rs = drop (i + 1) (records_of s) in
      ap (first_bad_record m i (earlier s i)) (records_step i h) ∙ refusal_pass m i (earlier s i) (record_at s i) rs z
      ∙ ap (λ j. first_bad_record m j (earlier s j) rs) (sym (add-one i))

  pub records_fail : (m i : ℕ) {f : Failed} → i < n → Tells (record_checks m s i) f → (f.number ≡ 0 → ⊥)
      → first_bad_record m i (earlier s i) (drop i (records_of s)) ≡ some (refusal_at f.number i f.node)
  records_fail m i h t z =
      ap (first_bad_record m i (earlier s i)) (records_step i h) ∙ refusal_fail m i (earlier s i) (record_at s i)
      (drop (i + 1) (records_of s)) t z

  pub records_pass_end : (m i : ℕ) → n ≤ i → first_bad_record m i (earlier s i) (drop i (records_of s)) ≡ none
  records_pass_end m i h = ap (first_bad_record m i (earlier s i)) (records_end i h)

-- the records of an input are its statements and its shapes
pub counts_whole : (s : List ℕ) (n : ℕ) → 32 * n ≡ length s → first_bad_kind false 0 (records_of s) ≡ none
    → count is_s (records_of s) + count is_h (records_of s) ≡ n
counts_whole s n w e = (kinds_sorted 0 (records_of s) e).whole ∙ records_length s n w

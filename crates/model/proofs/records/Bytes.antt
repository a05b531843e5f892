-- Bytes and two-byte numbers are read back: values, words, updates, and the records of a table.
use Prim.Native.Nat.{◌%◌, ◌*◌, ◌+◌, ◌-◌, ◌/◌, ◌<◌, ◌^◌, ◌≤◌, min, suc, zero, ℕ}
use mathlib.Core.Path.{◌∙◌, ◌≡◌, ap, ap₂, refl, sym}
use mathlib.Core.Logic.{inl, inr}
use mathlib.Core.Bool.{Bool, cond, false, true}
use mathlib.Core.List.{List, [], ◌++◌, ◌∷◌, append_assoc, map}
use native.Mathlib.Nat.{add-mul-mod_self_left, div-div-eq-div-mul, div-one, mod-add-div, mod-eq_of_lt, mul_assoc, one-mul, pow-suc, pow-succ', zero-mul}
use native.Mathlib.Omega.{arith}
use lib.Dec.{eqb}
use lib.ListN.{drop, get_or, length, length-append, length-replicate, replicate, replicate-append-replicate, take}
use lib.Seq.{drop-append-add, drop_at, get_or-drop, get_or-take, take-append-add, take_at}
use borrow.Author.Tests.{eqb-true, ne_eqb}
use Rattle.model.specs.Base.{all, joined}
use Rattle.model.specs.Bench.{cut_to}
use Rattle.model.specs.Edges.{Update}
use Rattle.model.specs.Heap.{Val, cell, null, undef}
use Rattle.model.specs.Records.{bits, filled, is_zero, record_at, update_code, val_byte, val_of}
use Rattle.model.specs.Runs.{added, applied}
use Rattle.model.specs.Translate.{table_of}
use Rattle.model.specs.Listings.{SmallVal}
use Rattle.model.specs.Notions.{In, flagged}
use Rattle.model.proofs.lists.Lists.{in_map}
use Rattle.model.proofs.lists.Logic.{and_l, and_r, bool_case}

pub small_up : (j k : ℕ) (v : Val) → j ≤ k → SmallVal j v → SmallVal k v
small_up j k (cell n) h s = omega arith
small_up j k null h s = tt
small_up j k undef h s = tt

-- a byte that is neither that of null nor that of undefined
pub val_cell : (b : ℕ) → (b ≡ 0xfe → ⊥) → (b ≡ 0xff → ⊥) → val_of b ≡ cell b
val_cell b p q = rw (ne_eqb b 0xfe p, ne_eqb b 0xff q)

-- the byte of a value is read back as that value
pub val_back : (v : Val) → SmallVal 0xfe v → val_of (val_byte v) ≡ v
val_back (cell n) h = val_cell n (λ e. omega arith) (λ e. omega arith)
val_back null h = refl
val_back undef h = refl

-- and a byte's value is written as that byte; this holds of any number
pub byte_back : (b : ℕ) → val_byte (val_of b) ≡ b
byte_back b =
    bool_case (eqb b 0xfe) (λ e. rw e (sym (eqb-true b 0xfe e)))
    (λ e. bool_case (eqb b 0xff) (λ f. rw (e, f) (sym (eqb-true b 0xff f))) (λ f. rw (e, f)))

-- two bytes are read back as their number
pub word_back : (n : ℕ) → n % 256 + 256 * (n / 256) ≡ n
word_back n = mod-add-div n 256

pub added_none : (cs : List ℕ) → added 0 cs ≡ 0
added_none [] = refl
added_none (c ∷ cs) = rw (zero-mul c, added_none cs)

pub added_bits : (fs : List Bool) (cs : List ℕ) → added (bits fs) cs ≡ flagged fs cs
added_bits [] cs = added_none cs
added_bits (b ∷ fs) [] = refl
added_bits (true ∷ fs) (c ∷ cs) =
    let e : (1 + 2 * bits fs) / 2 ≡ bits fs = omega arith in
    rw (add-mul-mod_self_left 1 2 (bits fs), one-mul c, e, added_bits fs cs)
added_bits (false ∷ fs) (c ∷ cs) =
    let e : (0 + 2 * bits fs) / 2 ≡ bits fs = omega arith in
    rw (add-mul-mod_self_left 0 2 (bits fs), zero-mul c, e, added_bits fs cs)

pub bits_pow : (n : ℕ) (fs : List Bool) → length fs ≤ n → bits fs < 2 ^ n
bits_pow zero [] h = omega arith
bits_pow zero (b ∷ fs) h = absurd (omega arith)
bits_pow (suc n) [] h = rw (pow-suc 2 n) (omega (arith, bits_pow n [] (omega arith)))
bits_pow (suc n) (true ∷ fs) h = rw (pow-suc 2 n) (omega (arith, bits_pow n fs (omega arith)))
bits_pow (suc n) (false ∷ fs) h = rw (pow-suc 2 n) (omega (arith, bits_pow n fs (omega arith)))

pub bits_below : (fs : List Bool) → length fs ≤ 12 → bits fs < 4096
bits_below fs h = bits_pow 12 fs h

-- an update's code: fourteen bits, of which the low twelve are the flags
pub code_below : (u : Update) → length u.adds ≤ 12 → u.plus ≤ 3 → update_code u < 16384
code_below u h k = let b = bits_below u.adds h in omega arith

pub code_flags : (u : Update) → length u.adds ≤ 12 → update_code u % 4096 ≡ bits u.adds
code_flags u h = add-mul-mod_self_left (bits u.adds) 4096 u.plus ∙ mod-eq_of_lt (bits_below u.adds h)

pub code_plus : (u : Update) → length u.adds ≤ 12 → update_code u / 4096 ≡ u.plus
code_plus u h = let b = bits_below u.adds h in omega arith

-- the lowest bit of a number, and the others
low_bit : (b : Bool) (x : ℕ) → (cond b 1 0 + 2 * x) % 2 ≡ cond b 1 0
low_bit true x = omega arith
low_bit false x = omega arith

high_bits : (b : Bool) (x i : ℕ) → (cond b 1 0 + 2 * x) / 2 ^ suc i ≡ x / 2 ^ i
high_bits b x i =
    ap (λ m. (cond b 1 0 + 2 * x) / m) (pow-succ' 2 i) ∙ sym (div-div-eq-div-mul (cond b 1 0 + 2 * x) 2 (2 ^ i))
    ∙ ap (λ m. m / 2 ^ i) (half b)
  where
    half : (b : Bool) → (cond b 1 0 + 2 * x) / 2 ≡ x
    half true = omega arith
    half false = omega arith

above : (n p : ℕ) → 2 ^ suc n * p ≡ 2 * (2 ^ n * p)
above n p = ap (λ m. m * p) (pow-succ' 2 n) ∙ mul_assoc 2 (2 ^ n) p

-- bit i of a number whose low n bits are given
pub bit_at : (n : ℕ) (fs : List Bool) (p i : ℕ) → length fs ≤ n → i < n
    → (bits fs + 2 ^ n * p) / 2 ^ i % 2 ≡ cond (get_or fs i false) 1 0
bit_at zero fs p i h k = absurd (omega arith)
bit_at (suc n) [] p zero h k =
    let e : 0 + 2 ^ suc n * p ≡ 0 + 2 * (2 ^ n * p) = omega (arith, above n p) in
    ap (λ m. m / 1 % 2) e ∙ ap (λ m. m % 2) (div-one _) ∙ low_bit false (2 ^ n * p)
bit_at (suc n) [] p (suc i) h k =
    let e : 0 + 2 ^ suc n * p ≡ 0 + 2 * (bits [] + 2 ^ n * p) = omega (arith, above n p) in
    ap (λ m. m / 2 ^ suc i % 2) e ∙ ap (λ m. m % 2) (high_bits false (bits [] + 2 ^ n * p) i)
    ∙ bit_at n [] p i (omega arith) (omega arith)
bit_at (suc n) (b ∷ fs) p zero h k =
    let e : bits (b ∷ fs) + 2 ^ suc n * p ≡ cond b 1 0 + 2 * (bits fs + 2 ^ n * p) = omega (arith, above n p) in
    ap (λ m. m / 1 % 2) e ∙ ap (λ m. m % 2) (div-one _) ∙ low_bit b (bits fs + 2 ^ n * p)
bit_at (suc n) (b ∷ fs) p (suc i) h k =
    let e : bits (b ∷ fs) + 2 ^ suc n * p ≡ cond b 1 0 + 2 * (bits fs + 2 ^ n * p) = omega (arith, above n p) in
    ap (λ m. m / 2 ^ suc i % 2) e ∙ ap (λ m. m % 2) (high_bits b (bits fs + 2 ^ n * p) i)
    ∙ bit_at n fs p i (omega arith) (omega arith)

-- an update adds the counters that it flags
pub code_bit : (u : Update) (i : ℕ) → length u.adds ≤ 12 → i < 12
    → update_code u / 2 ^ i % 2 ≡ cond (get_or u.adds i false) 1 0
code_bit u i h k = bit_at 12 u.adds u.plus i h k

-- and applied to the counters
pub applied_code : (u : Update) (cs : List ℕ) → length u.adds ≤ 12 → u.plus ≤ 3
    → applied cs (update_code u) ≡ (flagged u.adds cs + u.plus) - 1
applied_code u cs h k =
    let p : u.plus % 4 ≡ u.plus = mod-eq_of_lt (omega arith) in
    rw (code_flags u h, code_plus u h, p, added_bits u.adds cs)

joined_record : (rs : List (List ℕ)) (z : List ℕ) (i : ℕ) → ((r : List ℕ) → In r rs → length r ≡ 32) → i < length rs
    → take 32 (drop (32 * i) (joined rs ++ z)) ≡ get_or rs i []
joined_record [] z i h k = absurd (omega arith)
joined_record (r ∷ rs) z zero h k = ap (take 32) (append_assoc r (joined rs) z)
    ∙ take_at r (joined rs ++ z) 32 (h r (inl refl))
joined_record (r ∷ rs) z (suc i) h k =
    let l = h r (inl refl) in
    let e : 32 * suc i ≡ length r + 32 * i = omega arith in
    ap₂ (λ n s. take 32 (drop n s)) e (append_assoc r (joined rs) z)
    ∙ ap (take 32) (drop-append-add r (joined rs ++ z) (32 * i)) ∙ joined_record rs z i (λ x q. h x (inr q))
    (omega arith)

-- a byte of record i in its table, and the part of the table that is the record
pub record_byte : (t : List ℕ) (i j : ℕ) → j < 32 → get_or (record_at t i) j 0 ≡ get_or t (32 * i + j) 0
record_byte t i j lt = rw (get_or-take, get_or-drop)

pub record_part_lem : (t : List ℕ) (i : ℕ) → take (32 * i + 32 - 32 * i) (drop (32 * i) t) ≡ record_at t i
record_part_lem t i = let e : 32 * i + 32 - 32 * i ≡ 32 = omega arith in rw e

-- record i of a table is the one that was written at place i
pub table_record : (n : ℕ) (rs : List (List ℕ)) (i : ℕ) → ((r : List ℕ) → In r rs → length r ≡ 32) → i < length rs
    → record_at (table_of n rs) i ≡ get_or rs i []
table_record n rs i h k = joined_record rs (replicate (n - 32 * length rs) 0) i h k

pub records_wide : {A : Type 0} (f : A → List ℕ) (l : List A) → ((x : A) → In x l → length (f x) ≡ 32) → (r : List ℕ)
    → In r (map f l) → length r ≡ 32
records_wide f l h r i = let y = in_map f r l i in ap length y.2 ∙ h y.0 y.1

pub joined_length : (rs : List (List ℕ)) → ((r : List ℕ) → In r rs → length r ≡ 32) → length (joined rs)
    ≡ 32 * length rs
joined_length [] h = refl
joined_length (r ∷ rs) h = omega (
  arith,
  length-append r (joined rs),
  h r (inl refl),
  joined_length rs
      (λ x q. h x (inr q)),
)

take_zeros : (k n : ℕ) → take k (replicate {A = ℕ} n 0) ≡ replicate (min k n) 0
take_zeros zero n = let e : 0 ≡ min 0 n = omega arith in ap (λ m. replicate {A = ℕ} m 0) e
take_zeros (suc k) zero = let e : 0 ≡ min (suc k) 0 = omega arith in ap (λ m. replicate {A = ℕ} m 0) e
take_zeros (suc k) (suc n) =
    let e : suc (min k n) ≡ min (suc k) (suc n) = omega arith in
    ap (λ (z : List ℕ). 0 ∷ z) (take_zeros k n) ∙ ap (λ m. replicate {A = ℕ} m 0) e

pub table_empty : (n : ℕ) → table_of n [] ≡ replicate n 0
table_empty n = let e : n - 32 * 0 ≡ n = omega arith in ap (λ m. replicate m 0) e

-- a table keeps its length, and "bytes after the last are zero"
pub table_length : (n : ℕ) (rs : List (List ℕ)) → ((r : List ℕ) → In r rs → length r ≡ 32) → 32 * length rs ≤ n
    → length (table_of n rs) ≡ n
table_length n rs h k = omega (
  arith,
  length-append (joined rs) (replicate (n - 32 * length rs) 0),
  joined_length rs h,
  length-replicate {A = ℕ} (n - 32 * length rs) 0,
)

pub table_rest : (n : ℕ) (rs : List (List ℕ)) → ((r : List ℕ) → In r rs → length r ≡ 32)
    → drop (32 * length rs) (table_of n rs) ≡ replicate (n - 32 * length rs) 0
table_rest n rs h = drop_at (joined rs) (replicate (n - 32 * length rs) 0) (32 * length rs) (joined_length rs h)

-- the same records in tables of two lengths: one is the other, cut off or with zeros behind
pub table_cut : (a n : ℕ) (rs : List (List ℕ)) → ((r : List ℕ) → In r rs → length r ≡ 32) → 32 * length rs ≤ a
    → 32 * length rs ≤ n → table_of a rs ≡ cut_to a (table_of n rs)
table_cut a n rs h k l =
    let m = 32 * length rs in
    let j = joined_length rs h in
    let p : a ≡ length (joined rs) + (a - m) = omega arith in
    let z : min (a - m) (n - m) + (a - length (table_of n rs)) ≡ a - m = omega (arith, table_length n rs h l) in
    ap (λ q. joined rs ++ replicate q 0) (sym z)
    ∙ ap (λ (q : List ℕ). joined rs ++ q) (sym (replicate-append-replicate (min (a - m) (n - m)) _ 0))
    ∙ sym (append_assoc (joined rs) _ _)
    ∙ ap (λ (q : List ℕ). q ++ replicate (a - length (table_of n rs)) 0)
    (ap (λ (q : List ℕ). joined rs ++ q) (sym (take_zeros (a - m) (n - m)))
    ∙ sym (take-append-add (joined rs) (replicate (n - m) 0) (a - m))
    ∙ ap (λ q. take q (table_of n rs)) (sym p))

-- a list made n long by zeros
pub filled_length : (n : ℕ) (l : List ℕ) → length l ≤ n → length (filled n l) ≡ n
filled_length n l h = omega (
  arith,
  length-append l (replicate (n - length l) 0),
  length-replicate {A =
      ℕ} (n - length l) 0,
)

-- bytes that are all zero
pub all_zero_lem : (l : List ℕ) → all is_zero l ≡ true → l ≡ replicate (length l) 0
all_zero_lem [] h = refl
all_zero_lem (x ∷ l) h = ap₂ ◌∷◌ (eqb-true x 0 (and_l (is_zero x) (all is_zero l) h))
    (all_zero_lem l (and_r (is_zero x) (all is_zero l) h))

pub zeros_pass : (m : ℕ) → all is_zero (replicate m 0) ≡ true
zeros_pass zero = refl
zeros_pass (suc m) = zeros_pass m

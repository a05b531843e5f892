-- Edge records are read back as what they were written from.
use Prim.Native.Nat.{◌%◌, ◌*◌, ◌+◌, ◌-◌, ◌/◌, ◌<◌, ◌≤◌, suc, zero, ℕ}
use mathlib.Core.Path.{◌∙◌, ◌≡◌, ap, ap₂, fun_ext, refl}
use mathlib.Core.Logic.{inl, inr}
use mathlib.Core.Bool.{◌&&◌, true}
use mathlib.Core.List.{List, [], ◌++◌, ◌∷◌, map}
use native.Mathlib.Omega.{arith}
use lib.ListN.{drop, get_or, length, replicate}
use lib.Seq.{drop_at}
use Rattle.model.specs.Base.{joined, numbers}
use Rattle.model.specs.Edges.{Edge, Guard, Update, is_more, is_one, Test}
use Rattle.model.specs.Records.{GuardCode, branch_byte, byte, edge_record, filled, guard_code, two_bytes, update_code, word, test_number}
use Rattle.model.specs.Runs.{branch_of, updates_of, guard_holds, guards_hold, guards_of}
use Rattle.model.proofs.records.Bytes.{filled_length, word_back}
use Rattle.model.specs.Notions.{In, SmallGuards, guards_on, test_on}

abbrev update_bytes : Edge → List ℕ
update_bytes e = joined (map (λ u. two_bytes (update_code u)) e.updates)

updates_length : (us : List Update) → length (joined (map (λ u. two_bytes (update_code u)) us)) ≡ 2 * length us
updates_length [] = refl
updates_length (u ∷ us) = omega (arith, updates_length us)

pub edge_length_lem : (from to : ℕ) (e : Edge) → length e.updates ≤ 12 → length (edge_record from to e) ≡ 32
edge_length_lem from to e h =
    let f : length (filled 24 (update_bytes e)) ≡ 24 =
    filled_length 24 (update_bytes e) (omega (arith, updates_length e.updates)) in
    omega arith

pub edge_from : (from to : ℕ) (e : Edge) → word (edge_record from to e) 2 ≡ from
edge_from from to e = word_back from

pub edge_to : (from to : ℕ) (e : Edge) → word (edge_record from to e) 4 ≡ to
edge_to from to e = word_back to

-- ---- the branch and the guards

-- byte 1: bit 0, bits 1 and 2, bits 3 to 6, and bit 7
module _ (b : ℕ) (g : GuardCode) (lb : b ≤ 1) (lt : g.test ≤ 3) (ln : g.node ≤ 15) where
  bit_branch : branch_byte b g % 2 ≡ b
  bit_branch = omega arith

  bits_test : branch_byte b g / 2 % 4 ≡ g.test
  bits_test = omega arith

  bits_node : branch_byte b g / 8 % 16 ≡ g.node
  bits_node = omega arith

  bit_seven : branch_byte b g < 128
  bit_seven = omega arith

test_low : (x : Test) → test_number x ≤ 3
test_low is_one = omega arith
test_low is_more = omega arith

-- the numbers of a guard on one of 16 nodes
pub code_low : (gs : List Guard) → ((g : Guard) → In g gs → g.node < 16) → (i : ℕ)
    → ((guard_code gs i).test ≤ 3) × ((guard_code gs i).node ≤ 15)
code_low [] h i = (omega arith, omega arith)
code_low (g ∷ gs) h zero = (test_low g.test, omega (arith, h g (inl refl)))
code_low (g ∷ gs) h (suc i) = code_low gs (λ f j. h f (inr j)) i

-- an edge with a branch of 0 or 1, and two guards at most, on nodes below 16
module _ (from to k : ℕ) (e : Edge) (lb : e.branch_no ≤ 1) (G : SmallGuards k e.guards) (lk : k ≤ 16) where
  low_1 : ((guard_code e.guards 1).test ≤ 3) × ((guard_code e.guards 1).node ≤ 15)
  low_1 = code_low e.guards (λ g i. omega (arith, G.known g i)) 1

  pub edge_branch : branch_of (edge_record from to e) ≡ e.branch_no
  edge_branch = bit_branch e.branch_no (guard_code e.guards 1) lb low_1.0 low_1.1

  pub edge_bit : byte (edge_record from to e) 1 < 128
  edge_bit = bit_seven e.branch_no (guard_code e.guards 1) lb low_1.0 low_1.1

  pub edge_codes : guards_of (edge_record from to e) ≡ guard_code e.guards 0 ∷ guard_code e.guards 1 ∷ []
  edge_codes =
      let g = guard_code e.guards 1 in
      λ i. guard_code e.guards 0 ∷ record {
        test = bits_test e.branch_no g lb low_1.0 low_1.1 i;
        node = bits_node e.branch_no g lb low_1.0 low_1.1 i;
      } ∷ []

  -- the guards that are read hold where those that were written do
  pub edge_guards : (cs : List ℕ) → guards_hold cs (guards_of (edge_record from to e)) ≡ guards_on e.guards cs
  edge_guards cs = ap (guards_hold cs) edge_codes ∙ guards_read e.guards cs G.few
    where
      test_read : (x : Test) (c : ℕ) → guard_holds (test_number x) c ≡ test_on x c
      test_read is_one c = refl
      test_read is_more c = refl

      guards_read : (gs : List Guard) (cs : List ℕ) → length gs ≤ 2
          → guards_hold cs (guard_code gs 0 ∷ guard_code gs 1 ∷ []) ≡ guards_on gs cs
      guards_read [] cs h = refl
      guards_read (g ∷ []) cs h = ap (λ b. b && true) (test_read g.test (get_or cs g.node 0))
      guards_read (g ∷ f ∷ []) cs h =
          ap₂ (λ b c. b && (c && true)) (test_read g.test (get_or cs g.node 0))
          (test_read f.test (get_or cs f.node 0))
      guards_read (g ∷ f ∷ d ∷ gs) cs h = absurd (omega arith)

-- ---- the updates

word_skip : (a b : ℕ) (w : List ℕ) (j n : ℕ) → map (λ i. word (a ∷ b ∷ w) (2 * i)) (numbers (suc j) n)
    ≡ map (λ i. word w (2 * i)) (numbers j n)
word_skip a b w j zero = refl
word_skip a b w j (suc n) = ap₂ ◌∷◌ (ap (word (a ∷ b ∷ w)) (let e : 2 * suc j ≡ suc (suc (2 * j)) = omega arith in e))
    (word_skip a b w (suc j) n)

words_back : (us : List Update) (z : List ℕ)
    → map (λ i. word (joined (map (λ u. two_bytes (update_code u)) us) ++ z) (2 * i)) (numbers 0 (length us))
    ≡ map update_code us
words_back [] z = refl
words_back (u ∷ us) z = ap₂ ◌∷◌ (word_back (update_code u))
    (word_skip _ _ (joined (map (λ u. two_bytes (update_code u)) us) ++ z) 0 (length us) ∙ words_back us z)

word_eight : (a b c d e f g h : ℕ) (w : List ℕ) (n : ℕ) → word (a ∷ b ∷ c ∷ d ∷ e ∷ f ∷ g ∷ h ∷ w) (8 + n) ≡ word w n
word_eight a b c d e f g h w n =
    let q : 8 + n ≡ suc (suc (suc (suc (suc (suc (suc (suc n))))))) = omega arith in
    ap (word (a ∷ b ∷ c ∷ d ∷ e ∷ f ∷ g ∷ h ∷ w)) q

-- zeros after the updates
pub edge_rest_lem : (from to : ℕ) (e : Edge)
    → drop (8 + 2 * length e.updates) (edge_record from to e) ≡ replicate (24 - 2 * length e.updates) 0
edge_rest_lem from to e =
    let n = 2 * length e.updates in
    let q : 8 + n ≡ suc (suc (suc (suc (suc (suc (suc (suc n))))))) = omega arith in
    ap (λ m. drop m (edge_record from to e)) q
    ∙ drop_at (update_bytes e) (replicate (24 - length (update_bytes e)) 0) n (updates_length e.updates)
    ∙ ap (λ m. replicate (24 - m) 0) (updates_length e.updates)

-- the updates of an edge, for its new nodes
pub edge_updates : (from to : ℕ) (e : Edge) → updates_of (length e.updates) (edge_record from to e)
    ≡ map update_code e.updates
edge_updates from to e =
    ap (λ f. map f (numbers 0 (length e.updates)))
    (fun_ext (λ i. word_eight _ _ _ _ _ _ _ _ (filled 24 (update_bytes e)) (2 * i)))
    ∙ words_back e.updates (replicate (24 - length (update_bytes e)) 0)

-- The cut when one cell is put behind the list: a core cell begins a segment, any other goes behind the last one.
use Prim.Native.Nat.{ℕ, suc, ◌+◌, ◌<◌, ◌≤◌}
use mathlib.Core.Path.{◌≡◌, ◌∙◌, ap, refl}
use mathlib.Core.Bool.{Bool, true, false}
use mathlib.Core.List.{List, [], ◌∷◌, ◌++◌}
use native.Mathlib.Omega.{arith}
use lib.ListN.{length, length-append}
use Rattle.model.specs.Base.{mem}
use Rattle.model.specs.Shape.{Seg, cells, cut, cut_from, size}
use Rattle.model.proofs.expansion.Cuts.{flat_cut, mem_flat}
use Rattle.model.proofs.lists.Logic.{bool_case, mem_here, mem_there}
use Rattle.model.specs.Notions.{seg_at, seg}

-- a segment with one cell more
abbrev pub behind : Seg → ℕ → Seg
behind s d = seg s.first (s.rest ++ d ∷ [])

-- ---- the cut of a list with one cell behind

core_from : (p : ℕ → Bool) (c : ℕ) (cur l : List ℕ) (d : ℕ) → p d ≡ true
    → cut_from p c cur (l ++ d ∷ []) ≡ cut_from p c cur l ++ seg d [] ∷ []
core_from p c cur [] d e = rw (e, cut_from)
core_from p c cur (x ∷ l) d e =
    bool_case (p x) (λ t. rw (t, cut_from) (ap (λ ss. seg c cur ∷ ss) (core_from p x [] l d e)))
    (λ t. rw (t, cut_from) (core_from p c (cur ++ x ∷ []) l d e))

pub core_behind : (p : ℕ → Bool) (l : List ℕ) (d : ℕ) → p d ≡ true → cut p (l ++ d ∷ []) ≡ cut p l ++ seg d [] ∷ []
core_behind p [] d e = refl
core_behind p (c ∷ l) d e = core_from p c [] l d e

-- the last segment of a cut, and what becomes of it
pub record Ends (p : ℕ → Bool) (d n : ℕ) (ss ss' : List Seg) : Type 0 where
  pub front : List Seg
  pub end : Seg
  pub before : ss ≡ front ++ end ∷ []
  pub after : p d ≡ false → ss' ≡ front ++ behind end d ∷ []
  pub few : size end ≤ n

ends_from : (p : ℕ → Bool) (d c : ℕ) (cur l : List ℕ)
    → Ends p d (suc (length cur + length l)) (cut_from p c cur l) (cut_from p c cur (l ++ d ∷ []))
ends_from p d c cur [] =
    record { front = []; end = seg c cur; before = refl; after = λ e. rw (e, cut_from); few = omega arith }
ends_from p d c cur (x ∷ l) =
    bool_case (p x)
    (λ t. let r = ends_from p d x [] l in rw (t, cut_from) (record {
      front = seg c cur ∷ r.front;
      end = r.end;
      before = ap (λ ss. seg c cur ∷ ss) r.before;
      after = λ e. ap (λ ss. seg c cur ∷ ss) (r.after e);
      few = omega arith;
    }))
    (λ t. let r = ends_from p d c (cur ++ x ∷ []) l in rw (t, cut_from) (record {
      front = r.front;
      end = r.end;
      before = r.before;
      after = r.after;
      few = omega (arith, length-append cur (x ∷ []));
    }))

pub ends : (p : ℕ → Bool) (d c : ℕ) (l : List ℕ) → Ends p d (suc (length l)) (cut p (c ∷ l)) (cut p ((c ∷ l) ++ d ∷ []))
ends p d c l =
    let r = ends_from p d c [] l in
    record { front = r.front; end = r.end; before = r.before; after = r.after; few = omega arith }

-- ---- how many segments, and which cells

one_from : (p : ℕ → Bool) (c : ℕ) (cur l : List ℕ) → 0 < length (cut_from p c cur l)
one_from p c cur [] = omega arith
one_from p c cur (x ∷ l) =
    bool_case (p x) (λ t. rw (t, cut_from) (omega arith)) (λ t. rw (t, cut_from) (one_from p c (cur ++ x ∷ []) l))

grows_from : (p : ℕ → Bool) (c : ℕ) (cur l m : List ℕ)
    → length (cut_from p c cur l) ≤ length (cut_from p c cur (l ++ m))
grows_from p c cur [] m = omega (arith, one_from p c cur m)
grows_from p c cur (x ∷ l) m =
    bool_case (p x) (λ t. rw (t, cut_from) (omega (arith, grows_from p x [] l m)))
    (λ t. rw (t, cut_from) (grows_from p c (cur ++ x ∷ []) l m))

-- a longer list has no fewer segments
pub cut_grows : (p : ℕ → Bool) (l m : List ℕ) → length (cut p l) ≤ length (cut p (l ++ m))
cut_grows p [] m = omega arith
cut_grows p (c ∷ l) m = grows_from p c [] l m

-- the cells of the segments are those of the list
pub cut_mem : (p : ℕ → Bool) (l : List ℕ) (n c : ℕ) → n < length (cut p l) → mem c (cells (seg_at (cut p l) n)) ≡ true
    → mem c l ≡ true
cut_mem p l n c h k = rw (flat_cut p l) at (mem_flat (cut p l) n c h k)

-- ---- the cut looks at the test only at the cells of the list

same_from : (p q : ℕ → Bool) (c : ℕ) (cur l : List ℕ) → ((d : ℕ) → mem d l ≡ true → p d ≡ q d)
    → cut_from p c cur l ≡ cut_from q c cur l
same_from p q c cur [] h = refl
same_from p q c cur (x ∷ l) h =
    let r = h x (mem_here x l) in
    bool_case (q x)
    (λ t. let s : p x ≡ true = r ∙ t in
    rw (s, t, cut_from) (ap (λ ss. seg c cur ∷ ss) (same_from p q x [] l (λ d k. h d (mem_there d x l k)))))
    (λ t. let s : p x ≡ false = r ∙ t in
    rw (s, t, cut_from) (same_from p q c (cur ++ x ∷ []) l (λ d k. h d (mem_there d x l k))))

pub cut_same : (p q : ℕ → Bool) (l : List ℕ) → ((c : ℕ) → mem c l ≡ true → p c ≡ q c) → cut p l ≡ cut q l
cut_same p q [] h = refl
cut_same p q (c ∷ l) h = same_from p q c [] l (λ d k. h d (mem_there d c l k))

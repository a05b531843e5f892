-- What is handed back where the record is there, and where it is not.
use Prim.Native.Nat.{◌*◌, ◌+◌, ◌-◌, suc, zero, ℕ}
use mathlib.Core.Path.{◌≡◌, ap, refl, sym}
use mathlib.Core.Bool.{true, false}
use mathlib.Core.List.{[]}
use native.Mathlib.Omega.{arith}
use lib.ListN.{drop, take}
use Rattle.model.specs.Part.{Part, answerable, meant, meant_table, onward, part_bytes, record_part}
use Rattle.model.specs.Records.{is_accepted, is_refused, refusal}
use Rattle.model.specs.Translate.{Tables}
use Rattle.model.proofs.listings.Parts.{part_false, part_true}

-- what is read of the one that is meant
pub meant_read : {A B : Type 0} (f : A → B) (mark : ℕ) (l e : A) → f (meant mark l e) ≡ meant mark (f l) (f e)
meant_read f zero l e = refl
meant_read f (suc m) l e = refl

-- nothing on from a place is that place
pub onward_none : (p : ℕ × ℕ) → p ≡ onward p 0
onward_none p = let e : p.1 ≡ 0 + p.1 = omega arith in ap (λ k. (p.0, k)) e

module _ (t : Tables) (mark n : ℕ) where
  module _ (there : answerable t mark n ≡ true) where
    pub part_is : take (32 * n + 32 - 32 * n) (drop (32 * n) (meant_table t mark)) ≡ part_bytes t mark n
    part_is =
        let s : 32 * n + 32 - 32 * n ≡ 32 = omega arith in
        rw (part_true t mark n there) (ap (λ k. take k (drop (32 * n) (meant_table t mark))) s)

    pub begins_is : 32 * n ≡ (record_part t mark n).begins
    begins_is = sym (ap (λ (p : Part). p.begins) (part_true t mark n there))

    pub accepted_is : is_accepted ≡ (record_part t mark n).verdict
    accepted_is = sym (ap (λ (p : Part). p.verdict) (part_true t mark n there))

  module _ (none : answerable t mark n ≡ false) where
    pub none_is : [] ≡ part_bytes t mark n
    none_is = rw (part_false t mark n none)

    pub none_begins : 0 ≡ (record_part t mark n).begins
    none_begins = sym (ap (λ (p : Part). p.begins) (part_false t mark n none))

    pub refused_is : is_refused (refusal 17 0) ≡ (record_part t mark n).verdict
    refused_is = sym (ap (λ (p : Part). p.verdict) (part_false t mark n none))

-- What is known of a plain step's record and image that passed the checks.
use Prim.Native.Nat.{ℕ, ◌<◌}
use mathlib.Core.Path.{◌≡◌, refl}
use mathlib.Core.Bool.{Bool, true, ◌&&◌}
use mathlib.Core.List.{List, ◌∷◌}
use lib.Dec.{eqb}
use lib.ListN.{length}
use borrow.Author.Tests.{eqb-true}
use Rattle.model.specs.Records.{byte, is_s, op_count, refusal_s, Row, checks_s, first_failed, unless}
use Rattle.model.specs.Image.{refusal_image, checks_image, checks_statement}
use Rattle.model.proofs.images.Images.{image_accepted}
use Rattle.model.proofs.lists.Logic.{and_l}
use Rattle.model.proofs.records.Checks.{none_failed, pass_after, pass_before, pass_none}
use Rattle.model.proofs.records.Statements.{statement_fields}

-- ---- the record

abbrev statement : List ℕ → Bool
statement r = eqb (length r) 32 && is_s r

-- the checks after those of the image
abbrev record_checks : List ℕ → List Row
record_checks r = unless 4 (statement r) ∷ checks_s 64 r

-- ---- what passed

module _ (r ps cs : List ℕ) (z : first_failed (checks_statement r ps cs) ≡ 0) where
  checked : (refusal_image ps cs ≡ 0) × (statement r ≡ true) × (refusal_s 64 r ≡ 0)
  checked =
      let p = none_failed (checks_statement r ps cs) refl z in
      let q = pass_after (checks_image ps cs) (record_checks r) p in
      let i = pass_none (checks_image ps cs) (pass_before (checks_image ps cs) (record_checks r) p) in
      (i, q.0, pass_none (checks_s 64 r) q.1)

  pub checked_image : refusal_image ps cs ≡ 0
  checked_image = checked.0

  pub checked_wide : length r ≡ 32
  checked_wide = eqb-true (length r) 32 (and_l (eqb (length r) 32) (is_s r) checked.1)

  pub checked_fields : (byte r 1 < op_count) × (byte r 2 < 6) × (byte r 3 < 6)
  checked_fields = statement_fields 64 r checked.2

  pub checked_six : length ps ≡ 6
  checked_six = ((image_accepted ps cs).0 checked.0).0

-- The head of an H record, which is tested before the rest. Assumes nothing.
use Rattle.std.specs.Prelude.{ℕ, Bool, ◌&&◌, eqb}
use Rattle.model.specs.Records.{is_zero}

-- bytes 0 to 2 of an H record
abbrev pub head_h : ℕ → ℕ → ℕ → Bool
head_h tag statement fault = eqb tag 0x48 && is_zero statement && is_zero fault

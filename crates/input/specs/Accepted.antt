-- What an accepted input is, record by record: n statements, then m shapes. Assumes nothing.
use Rattle.std.specs.Prelude.{ℕ, ◌+◌, ◌*◌, ◌<◌, ◌≤◌, ◌≡◌, true, List, length}
use Rattle.model.specs.Base.{record_size, most_statements, most_shapes}
use Rattle.model.specs.Records.{is_s, layout_h, record_at, refusal_s, shape_of}
use Rattle.model.specs.Shape.{canonical}

pub record Accepted (s : List ℕ) (n m : ℕ) : Type 0 where
  pub some_statements : 1 ≤ n
  pub few_statements : n ≤ most_statements
  pub some_shapes : 1 ≤ m
  pub few_shapes : m ≤ most_shapes
  pub whole : record_size * (n + m) ≡ length s
  pub is_statement : (i : ℕ) → i < n → is_s (record_at s i) ≡ true
  pub no_refusal : (i : ℕ) → i < n → refusal_s n (record_at s i) ≡ 0
  pub is_layout : (j : ℕ) → j < m → layout_h (record_at s (n + j)) ≡ true
  pub is_canonical : (j : ℕ) → j < m → canonical (shape_of (record_at s (n + j))) ≡ true

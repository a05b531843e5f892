-- How many old counters an update adds: of its bits 0 to 11, those that are 1. Assumes nothing.
use Rattle.std.specs.Prelude.{ℕ, ◌/◌, ◌%◌, ◌^◌, eqb}
use Rattle.model.specs.Base.{count, most_nodes, numbers}

abbrev pub added_count : ℕ → ℕ
added_count u = count (λ i. eqb (u / 2 ^ i % 2) 1) (numbers 0 most_nodes)

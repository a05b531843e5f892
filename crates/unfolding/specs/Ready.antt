-- What the caller of `unfold_shape` must show: a laid out shape record r, counters v that fit it, six pointer bytes ps,
-- the cell bytes cs.
use Rattle.std.specs.Prelude.{ℕ, ◌≤◌, ◌≡◌, true, List, length}
use Rattle.model.specs.Base.{record_size, pointer_count, most_cells}
use Rattle.model.specs.Image.{counters_fit}
use Rattle.model.specs.Records.{byte, layout_h}

pub record UnfoldReady (r v ps cs : List ℕ) : Type 0 where
  pub wide : length r ≡ record_size
  pub is_layout : layout_h r ≡ true
  pub fit : counters_fit (byte r 3) v (length cs) ≡ true
  pub six : length ps ≡ pointer_count
  pub few : length cs ≤ most_cells

-- An update's code as a sum over the cells of its segment. Assumes nothing.
use Rattle.std.specs.Prelude.{ℕ, ◌+◌, ◌^◌, ◌≤◌, ◌<◌, true, cond, List, ◌≡◌, eqb, length, get_or, Option, Some, None}
use Rattle.model.specs.Base.{mem, sum, most_nodes}
use Rattle.model.specs.Edges.{Weight, counter, one, less}
use Rattle.model.specs.declared.Node.{Node}
use Rattle.cell_sum.specs.declared.Weights.{Weights}

-- what cell c stands for, where there are k old nodes: one may be split, into its head and the tail, cell k
abbrev pub weight_by : Option Node → ℕ → ℕ → Weight
weight_by (Some n) k c = cond (eqb c n.0) one (cond (eqb c k) (less n.0) (counter c))
weight_by None k c = cond (eqb c k) one (counter c)

abbrev pub weight_in : Weights → ℕ → Weight
weight_in w = weight_by w.split w.nodes

-- what a cell adds to the code of its update: the flag of its counter, or one to the constant
abbrev pub plus_by : Weight → ℕ
plus_by (counter n) = 2 ^ n
plus_by one = 4096
plus_by (less n) = 2 ^ n

abbrev pub plus_in : Weights → ℕ → ℕ
plus_in w c = plus_by (weight_in w c)

-- the code of node j before its cells are added, t being the node of the tail: the constant 0, or -1 for the tail
abbrev pub base_at : Option Node → ℕ → ℕ → ℕ
base_at (Some _) t j = cond (eqb t j) 0 4096
base_at None t j = 4096

-- the sum of f over the cells of l whose node in the table m is j
abbrev pub sum_at : List ℕ → (ℕ → ℕ) → ℕ → List ℕ → ℕ
sum_at m f j l = sum (λ c. cond (eqb (get_or m c 0) j) (f c) 0) l

-- the code of node j's update, from the cells of l
abbrev pub code_at : List ℕ → Weights → List ℕ → ℕ → ℕ
code_at node w l j = base_at w.split (get_or node w.nodes 0) j + sum_at node (plus_in w) j l

-- each cell of l is at most the number of old nodes and has its node, below m, in the table; at a split, an old node
-- is split and the tail is a cell of l
pub record CellsReady (l node : List ℕ) (w : Weights) (m : ℕ) : Type 0 where
  pub few_old : w.nodes ≤ most_nodes
  pub below : (c : ℕ) → mem c l ≡ true → c ≤ w.nodes
  pub tabled : (c : ℕ) → mem c l ≡ true → c < length node
  pub nodes : (c : ℕ) → mem c l ≡ true → get_or node c 0 < m
  pub is_node : (n : Node) → w.split ≡ Some n → n.0 < w.nodes
  pub has_tail : (n : Node) → w.split ≡ Some n → mem w.nodes l ≡ true

-- The cut of a visit order on bytes: what it asks, the tables that it leaves, and what one turn stores.
use Rattle.std.specs.Prelude.{ℕ, suc, ◌+◌, ◌-◌, ◌<◌, ◌≤◌, ◌≡◌, Bool, true, false, cond, List, [], ◌∷◌, map, leb, length, get_or, take, set}
use Rattle.model.specs.Base.{mem, most_cells}
use Rattle.model.specs.Shape.{Seg, cells, cut, last, size}
use Rattle.model.specs.Notions.{NoDup, seg_at}

-- a byte for each cell counts its holders: two or more make the cell core
abbrev pub held_core : List ℕ → ℕ → Bool
held_core held c = leb 2 (get_or held c 0)

-- the segments of a list of cells
abbrev pub segs : List ℕ → List ℕ → List Seg
segs held l = cut (held_core held) l

-- of each cell its segment's number, of each segment its last cell and its size
pub record CutTables : Type 0 where
  pub node : List ℕ
  pub last : List ℕ
  pub size : List ℕ

abbrev pub cut_tables : List ℕ → List ℕ → List ℕ → CutTables
cut_tables node last size = record { node = node; last = last; size = size }

-- what the cut asks of the order, the holders and the tables
pub record CutReady (order held : List ℕ) (t : CutTables) : Type 0 where
  pub short : length order ≤ most_cells
  pub low : (i : ℕ) → i < length order → (get_or order i 0 < length held) × (get_or order i 0 < length t.node)
  pub once : NoDup order
  pub begins : 0 < length order → held_core held (get_or order 0 0) ≡ true
  pub lasts : length (segs held order) ≤ length t.last
  pub sizes : length (segs held order) ≤ length t.size
  pub few : length (segs held order) ≤ most_cells

-- the tables say what the k segments ss are
pub record IsCut (ss : List Seg) (t : CutTables) (k : ℕ) : Type 0 where
  pub number : k ≡ length ss
  pub lasts : take k t.last ≡ map last ss
  pub sizes : take k t.size ≡ map size ss
  pub nodes : (j c : ℕ) → j < length ss → mem c (cells (seg_at ss j)) ≡ true → get_or t.node c 0 ≡ j

-- cell c is entered as the last cell of segment j, which has w cells with it
pub record Entered (c j w : ℕ) (t t' : CutTables) : Type 0 where
  pub node : t'.node ≡ set t.node c j
  pub last : t'.last ≡ set t.last j c
  pub size : t'.size ≡ set t.size j w

-- the segment that a cell goes to, where k have begun: a core cell begins one, any other goes behind the last
abbrev pub goes_to : Bool → ℕ → ℕ
goes_to b k = cond b k (k - 1)

-- and how many cells that segment has with it
abbrev pub size_with : Bool → List ℕ → ℕ → ℕ
size_with b size k = cond b 1 (get_or size (k - 1) 0 + 1)

-- a turn: cell c is put behind the order, and r segments have begun
pub record Put (b : Bool) (c k : ℕ) (t t' : CutTables) (r : ℕ) : Type 0 where
  pub entered : Entered c (goes_to b k) (size_with b t.size k) t t'
  pub number : r ≡ cond b (k + 1) k

-- what a turn asks: the cell is within the tables, and its segment too; the size of the last segment can grow
pub record PutReady (c k : ℕ) (held : List ℕ) (t : CutTables) : Type 0 where
  pub low : (c < length held) × (c < length t.node)
  pub few : k ≤ most_cells
  pub fresh : held_core held c ≡ true → (k < length t.last) × (k < length t.size)
  pub more : held_core held c ≡ false
      → (0 < k) × (k ≤ length t.last) × (k ≤ length t.size) × (get_or t.size (k - 1) 0 < most_cells)

-- the table has a place for each of the cells
abbrev pub Within : List ℕ → List ℕ → Type 0
Within cells table = (i : ℕ) → i < length cells → get_or cells i 0 < length table

-- how many cells at the start of a list are not core
abbrev pub inner : List ℕ → List ℕ → ℕ
inner held [] = 0
inner held (c ∷ l) = cond (held_core held c) 0 (suc (inner held l))

-- a table of nodes in which each of the cells has node n
abbrev pub named : List ℕ → ℕ → List ℕ → List ℕ
named [] n t = t
named (c ∷ l) n t = named l n (set t c n)

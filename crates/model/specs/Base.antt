-- The sizes that 01 names, and small functions on numbers and lists, used by all that follows. Assumes nothing.
use Rattle.std.specs.Prelude.{ℕ, zero, suc, ◌+◌, Bool, true, false, ◌&&◌, ◌||◌, cond, List, [], ◌∷◌, ◌++◌, eqb}

-- "Six pointers"; "A shape has 0 to 12 nodes"
abbrev pub pointer_count : ℕ
pointer_count = 6

abbrev pub most_nodes : ℕ
most_nodes = 12

-- "All are 32 bytes"; "1 to 64 S, then 1 to 16 H"
abbrev pub record_size : ℕ
record_size = 32

abbrev pub most_statements : ℕ
most_statements = 64

abbrev pub most_shapes : ℕ
most_shapes = 16

-- "at most 1,024 locations and 2,048 edges"; "0 to 240 cell bytes"
abbrev pub most_locations : ℕ
most_locations = 1024

abbrev pub most_edges : ℕ
most_edges = 2048

abbrev pub most_cells : ℕ
most_cells = 240

abbrev pub any : {A : Type 0} → (A → Bool) → List A → Bool
any p [] = false
any p (x ∷ xs) = p x || any p xs

abbrev pub all : {A : Type 0} → (A → Bool) → List A → Bool
all p [] = true
all p (x ∷ xs) = p x && all p xs

-- how many elements pass the test
abbrev pub count : {A : Type 0} → (A → Bool) → List A → ℕ
count p [] = 0
count p (x ∷ xs) = cond (p x) 1 0 + count p xs

-- the sum of f over a list
abbrev pub sum : {A : Type 0} → (A → ℕ) → List A → ℕ
sum f [] = 0
sum f (x ∷ xs) = f x + sum f xs

-- equal lists, given a test of equal elements
abbrev pub same_list : {A : Type 0} → (A → A → Bool) → List A → List A → Bool
same_list e [] [] = true
same_list e [] (y ∷ ys) = false
same_list e (x ∷ xs) [] = false
same_list e (x ∷ xs) (y ∷ ys) = e x y && same_list e xs ys

-- the number c stands in the list
abbrev pub mem : ℕ → List ℕ → Bool
mem c = any (eqb c)

-- the first place where the test passes; the length where it never does
abbrev pub place_of : {A : Type 0} → (A → Bool) → List A → ℕ
place_of p [] = 0
place_of p (x ∷ xs) = cond (p x) 0 (suc (place_of p xs))

-- n numbers from i on
abbrev pub numbers : ℕ → ℕ → List ℕ
numbers i zero = []
numbers i (suc n) = i ∷ numbers (suc i) n

abbrev pub joined : {A : Type 0} → List (List A) → List A
joined [] = []
joined (x ∷ xs) = x ++ joined xs

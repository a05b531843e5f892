-- Elements of lists: membership as a type, through map, append and join; what `all` and `any` say; elements by their
-- places; pairs.
use Prim.Native.Nat.{◌<◌, ◌≤◌, suc, zero, ℕ}
use mathlib.Core.Path.{◌∙◌, ◌≡◌, ap, ap₂, refl, subst, sym}
use mathlib.Core.Logic.{inl, inr}
use mathlib.Core.Option.{Option, none, some}
use mathlib.Core.Bool.{Bool, false, true}
use mathlib.Core.List.{List, [], ◌++◌, ◌∷◌, append_assoc, append-nil, map, map-map}
use native.Mathlib.Omega.{arith}
use lib.Dec.{eqb}
use lib.ListN
use lib.ListN.{drop, get_or, length, length-map, set}
use borrow.Author.Tests.{eqb-true}
use Rattle.model.specs.Base.{all, any, count, joined, mem}
use Rattle.model.proofs.lists.Logic.{and_both, and_l, and_r, bool_case, clash, eqb_same, not-true, or_cases, or_l, or_r}
use Rattle.model.specs.Notions.{In, Pairs}

pub in_map : {A B : Type 0} (f : A → B) (y : B) (l : List A) → In y (map f l) → (x : A) × In x l × (y ≡ f x)
in_map f y [] h = absurd h
in_map f y (x ∷ l) (inl e) = (x, inl refl, e)
in_map f y (x ∷ l) (inr h) = let r = in_map f y l h in (r.0, inr r.1, r.2)

pub map_in : {A B : Type 0} (f : A → B) (x : A) (l : List A) → In x l → In (f x) (map f l)
map_in f x [] h = absurd h
map_in f x (y ∷ l) (inl e) = inl (ap f e)
map_in f x (y ∷ l) (inr h) = inr (map_in f x l h)

pub in_append_l : {A : Type 0} (x : A) (l m : List A) → In x l → In x (l ++ m)
in_append_l x [] m h = absurd h
in_append_l x (y ∷ l) m (inl e) = inl e
in_append_l x (y ∷ l) m (inr h) = inr (in_append_l x l m h)

pub in_append_r : {A : Type 0} (x : A) (l m : List A) → In x m → In x (l ++ m)
in_append_r x [] m h = h
in_append_r x (y ∷ l) m h = inr (in_append_r x l m h)

pub in-append-cases {ℓ} : {C : Type ℓ} {A : Type 0} (x : A) (l m : List A) → In x (l ++ m) → (In x l → C)
    → (In x m → C) → C
in-append-cases x [] m h f g = g h
in-append-cases x (y ∷ l) m (inl e) f g = f (inl e)
in-append-cases x (y ∷ l) m (inr h) f g = in-append-cases x l m h (λ k. f (inr k)) g

pub in_joined : {A : Type 0} (x : A) (ls : List (List A)) → In x (joined ls) → (l : List A) × In l ls × In x l
in_joined x [] h = absurd h
in_joined x (l ∷ ls) h = in-append-cases x l (joined ls) h (λ k. (l, inl refl, k)) (λ k. let r = in_joined x ls k in
    (r.0, inr r.1, r.2))

pub joined_in : {A : Type 0} (x : A) (l : List A) (ls : List (List A)) → In l ls → In x l → In x (joined ls)
joined_in x l [] h k = absurd h
joined_in x l (m ∷ ls) (inl e) k = in_append_l x m (joined ls) (subst (In x) e k)
joined_in x l (m ∷ ls) (inr h) k = in_append_r x m (joined ls) (joined_in x l ls h k)

pub joined_append : {A : Type 0} (l m : List (List A)) → joined (l ++ m) ≡ joined l ++ joined m
joined_append [] m = refl
joined_append (x ∷ l) m = ap (λ z. x ++ z) (joined_append l m) ∙ sym (append_assoc x (joined l) (joined m))

pub joined_snoc : {A : Type 0} (ls : List (List A)) (l : List A) → joined (ls ++ l ∷ []) ≡ joined ls ++ l
joined_snoc ls l = joined_append ls (l ∷ []) ∙ ap (λ z. joined ls ++ z) (append-nil l)

pub all_in : {A : Type 0} (p : A → Bool) (l : List A) (x : A) → all p l ≡ true → In x l → p x ≡ true
all_in p [] x h i = absurd i
all_in p (y ∷ l) x h (inl e) = ap p e ∙ and_l (p y) (all p l) h
all_in p (y ∷ l) x h (inr i) = all_in p l x (and_r (p y) (all p l) h) i

pub all_of : {A : Type 0} (p : A → Bool) (l : List A) → ((x : A) → In x l → p x ≡ true) → all p l ≡ true
all_of p [] h = refl
all_of p (y ∷ l) h = and_both (p y) (all p l) (h y (inl refl)) (all_of p l (λ x i. h x (inr i)))

pub all_map : {A B : Type 0} (p : B → Bool) (f : A → B) (l : List A) → ((x : A) → In x l → p (f x) ≡ true)
    → all p (map f l) ≡ true
all_map p f l h = all_of p (map f l) (λ y i. let r = in_map f y l i in ap p r.2 ∙ h r.0 r.1)

pub some-none {ℓ} : {C : Type ℓ} {A : Type 0} {x : A} → ◌≡◌ {A = Option A} none (some x) → C
some-none {x} e = absurd (let z : ◌≡◌ {A = ℕ} 0 1 = cc in omega arith)

pub some_inj : {A : Type 0} {x y : A} → ◌≡◌ {A = Option A} (some x) (some y) → x ≡ y
some_inj {x} {y} e = cc

pub pairs_few : {A : Type 0} (R : A → A → Type 0) (l : List A) → length l ≤ 1 → Pairs R l
pairs_few R [] h = tt
pairs_few R (x ∷ []) h = ((λ y i. absurd i), tt)
pairs_few R (x ∷ y ∷ l) h = absurd (omega arith)

pub pairs_append : {A : Type 0} (R : A → A → Type 0) (l m : List A) → Pairs R l → Pairs R m
    → ((x y : A) → In x l → In y m → R x y) → Pairs R (l ++ m)
pairs_append R [] m p q h = q
pairs_append R (x ∷ l) m p q h = (
  (λ y i. in-append-cases y l m i (p.0 y) (h x y (inl refl))),
  pairs_append R l m p.1 q (λ z y i. h z y (inr i)),
)

pub get_or_in_lem : {A : Type 0} (l : List A) (d : A) (i : ℕ) → i < length l → In (get_or l i d) l
get_or_in_lem [] d i h = absurd (omega arith)
get_or_in_lem (x ∷ l) d zero h = inl refl
get_or_in_lem (x ∷ l) d (suc i) h = inr (get_or_in_lem l d i (omega arith))

pub all_at : {A : Type 0} (p : A → Bool) (l : List A) (d : A) (i : ℕ) → all p l ≡ true → i < length l → p (get_or l i d)
    ≡ true
all_at p l d i e h = all_in p l (get_or l i d) e (get_or_in_lem l d i h)

pub in_get_or_lem : {A : Type 0} (l : List A) (d x : A) → In x l → (i : ℕ) × (i < length l) × (get_or l i d ≡ x)
in_get_or_lem [] d x h = absurd h
in_get_or_lem (y ∷ l) d x (inl e) = (0, omega arith, sym e)
in_get_or_lem (y ∷ l) d x (inr h) = let r = in_get_or_lem l d x h in (suc r.0, omega arith, r.2)

-- within the list the default does not matter
pub get_or_default : {A : Type 0} (l : List A) (d e : A) (i : ℕ) → i < length l → get_or l i d ≡ get_or l i e
get_or_default [] d e i h = absurd (omega arith)
get_or_default (x ∷ l) d e zero h = refl
get_or_default (x ∷ l) d e (suc i) h = get_or_default l d e i (omega arith)

pub get_or_map : {A B : Type 0} (f : A → B) (l : List A) (i : ℕ) (d : A) (e : B) → i < length l → get_or (map f l) i e
    ≡ f (get_or l i d)
get_or_map f l i d e h = get_or_default (map f l) e (f d) i (omega (arith, length-map l f)) ∙ ListN.get_or-map f l i d

pub in_drop : {A : Type 0} (x : A) (n : ℕ) (l : List A) → In x (drop n l) → In x l
in_drop x zero l i = i
in_drop x (suc n) [] i = i
in_drop x (suc n) (y ∷ l) i = inr (in_drop x n l i)

pub in_single : {A : Type 0} (x y : A) → In x (y ∷ []) → x ≡ y
in_single x y (inl e) = e
in_single x y (inr z) = absurd z

-- maps of one list
pub map_same : {A B : Type 0} (f g : A → B) (l : List A) → ((x : A) → In x l → f x ≡ g x) → map f l ≡ map g l
map_same f g [] h = refl
map_same f g (x ∷ l) h = ap₂ ◌∷◌ (h x (inl refl)) (map_same f g l (λ y i. h y (inr i)))

pub map_set : {A B : Type 0} (f : A → B) (l : List A) (i : ℕ) (v : A) → map f (set l i v) ≡ set (map f l) i (f v)
map_set f [] i v = refl
map_set f (x ∷ l) zero v = refl
map_set f (x ∷ l) (suc i) v = ap (λ r. f x ∷ r) (map_set f l i v)

pub map_id : {A : Type 0} (f : A → A) (l : List A) → ((x : A) → In x l → f x ≡ x) → map f l ≡ l
map_id f [] h = refl
map_id f (x ∷ l) h = ap₂ ◌∷◌ (h x (inl refl)) (map_id f l (λ y i. h y (inr i)))

pub map_back : {A B : Type 0} (f : A → B) (g : B → A) (l : List A) → ((x : A) → In x l → g (f x) ≡ x)
    → map g (map f l) ≡ l
map_back f g l h = map-map g f l ∙ map_id (λ x. g (f x)) l h

-- `any` passes exactly where one of the elements does
pub any_in : {A : Type 0} (p : A → Bool) (l : List A) (x : A) → In x l → p x ≡ true → any p l ≡ true
any_in p [] x h e = absurd h
any_in p (y ∷ l) x (inl q) e = or_l (p y) (any p l) (ap p (sym q) ∙ e)
any_in p (y ∷ l) x (inr h) e = or_r (p y) (any p l) (any_in p l x h e)

pub any_find : {A : Type 0} (p : A → Bool) (l : List A) → any p l ≡ true → (x : A) × In x l × (p x ≡ true)
any_find p [] h = clash h refl
any_find p (y ∷ l) h = or_cases (p y) (any p l) h (λ e. (y, inl refl, e)) (λ e. let r = any_find p l e in
    (r.0, inr r.1, r.2))

pub in_mem : (c : ℕ) (l : List ℕ) → In c l → mem c l ≡ true
in_mem c l h = any_in (eqb c) l c h (eqb_same c)

pub mem_in : (c : ℕ) (l : List ℕ) → mem c l ≡ true → In c l
mem_in c l h = let r = any_find (eqb c) l h in subst (λ x. In x l) (sym (eqb-true c r.0 r.2)) r.1

pub mem_at : (l : List ℕ) (i : ℕ) → i < length l → mem (get_or l i 0) l ≡ true
mem_at l i h = in_mem (get_or l i 0) l (get_or_in_lem l 0 i h)

-- ---- pairs

pub pairs_map : {A B : Type 0} (R : B → B → Type 0) (f : A → B) (l : List A) → Pairs (λ x y. R (f x) (f y)) l
    → Pairs R (map f l)
pairs_map R f [] p = tt
pairs_map R f (x ∷ l) p = (
  (λ y i. let m = in_map f y l i in subst (R (f x)) (sym m.2) (p.0 m.0 m.1)),
  pairs_map R f l p.1,
)

pub pairs_mono_in : {A : Type 0} (R S : A → A → Type 0) (l : List A)
    → ((x y : A) → In x l → In y l → R x y → S x y) → Pairs R l → Pairs S l
pairs_mono_in R S [] h p = tt
pairs_mono_in R S (x ∷ l) h p = (
  (λ y i. h x y (inl refl) (inr i) (p.0 y i)),
  pairs_mono_in R S l (λ y z i j. h y z (inr i) (inr j)) p.1,
)

pub pairs_mono : {A : Type 0} (R S : A → A → Type 0) (l : List A) → ((x y : A) → R x y → S x y) → Pairs R l → Pairs S l
pairs_mono R S l h = pairs_mono_in R S l (λ x y i j. h x y)

pub count_none : {A : Type 0} (p : A → Bool) (l : List A) → ((x : A) → In x l → p x ≡ false) → count p l ≡ 0
count_none p [] h = refl
count_none p (x ∷ l) h = rw (h x (inl refl)) (omega (arith, count_none p l (λ y i. h y (inr i))))

-- where no two elements pass a test, at most one does
pub count_once : {A : Type 0} (p : A → Bool) (l : List A) → Pairs (λ x y. p x ≡ true → p y ≡ true → ⊥) l
    → count p l ≤ 1
count_once p [] h = omega arith
count_once p (x ∷ l) h = bool_case (p x)
    (λ e. rw e (omega (arith, count_none p l (λ y i. not-true (p y) (h.0 y i e)))))
    (λ e. rw e (omega (arith, count_once p l h.1)))

pub pairs_at : {A : Type 0} (R : A → A → Type 0) (l : List A) (d : A) (i j : ℕ) → Pairs R l → i < j → j < length l
    → R (get_or l i d) (get_or l j d)
pairs_at R [] d i j p h k = absurd (omega arith)
pairs_at R (x ∷ l) d zero zero p h k = absurd (omega arith)
pairs_at R (x ∷ l) d zero (suc j) p h k = p.0 (get_or l j d) (get_or_in_lem l d j (omega arith))
pairs_at R (x ∷ l) d (suc i) zero p h k = absurd (omega arith)
pairs_at R (x ∷ l) d (suc i) (suc j) p h k = pairs_at R l d i j p.1 (omega arith) (omega arith)

pub pairs_joined : {A B : Type 0} (R : B → B → Type 0) (f : A → List B) (l : List A)
    → ((x : A) → In x l → Pairs R (f x))
    → Pairs (λ x y. (u v : B) → In u (f x) → In v (f y) → R u v) l → Pairs R (joined (map f l))
pairs_joined R f [] p q = tt
pairs_joined R f (x ∷ l) p q = pairs_append R (f x) (joined (map f l)) (p x (inl refl))
    (pairs_joined R f l (λ y i. p y (inr i)) q.1)
    (λ u v i j. let k = in_joined v (map f l) j in let m = in_map f k.0 l k.1 in
    q.0 m.0 m.1 u v i (subst (In v) m.2 k.2))

-- a list of at most one element
pub few_same : {A : Type 0} (l : List A) → length l ≤ 1 → (x y : A) → In x l → In y l → x ≡ y
few_same [] h x y i j = absurd i
few_same (a ∷ []) h x y i j = in_single x a i ∙ sym (in_single y a j)
few_same (a ∷ b ∷ l) h x y i j = absurd (omega arith)

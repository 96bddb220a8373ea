-- Class precedence lists (HyperSpec 4.3.5), over classes that are known by numbers.
use Rattle.std.specs.List.{list_any}
use Rattle.std.specs.Prelude.{◌≡◌, ℕ, zero, suc, ◌==◌, Bool, true, false, not, ◌&&◌, ◌||◌, ◌⊎◌, List, [], ◌∷◌, Option, Some, None, option_map, if◌then◌else◌, length}

-- of each class its direct superclasses, in the order of its definition
abbrev pub Supers : Type 0
Supers = ℕ → List ℕ

abbrev pub has : List ℕ → ℕ → Bool
has ys x = list_any (λ y. y == x) ys

-- ---- what comes before what (4.3.5)

-- what stands before x, directly, in the list of p and these, is done
abbrev pub are_before_done : List ℕ → ℕ → ℕ → List ℕ → Bool
are_before_done done x p [] = true
are_before_done done x p (z ∷ zs) = (not (z == x) || has done p) && are_before_done done x z zs

-- A class comes before its first direct superclass, and each direct superclass before the next. By these classes, all that come
-- before x are done.
abbrev pub is_free : Supers → List ℕ → List ℕ → ℕ → Bool
is_free f [] done x = true
is_free f (k ∷ ks) done x = are_before_done done x k (f k) && is_free f ks done x

-- Going back from the latest class, a direct subclass of x comes before any of y.
abbrev pub is_nearer : Supers → List ℕ → ℕ → ℕ → Bool
is_nearer f [] x y = false
is_nearer f (k ∷ ks) x y = not (has (f k) y) && (has (f k) x || is_nearer f ks x y)

-- Of all these classes, x comes next after those that are done, the latest first: it is not done, none that comes before it is
-- left, and it has the rightmost direct subclass of all such.
abbrev pub Next : Supers → List ℕ → List ℕ → ℕ → Type 0
Next f all done x =
    (has all x ≡ true) × (has done x ≡ false) × (is_free f all done x ≡ true)
    × ((y : ℕ) → has all y ≡ true → has done y ≡ false → is_free f all done y ≡ true → (y ≡ x) ⊎ (is_nearer f done x y ≡ true))

-- these come in turn after those
abbrev pub InTurn : Supers → List ℕ → List ℕ → List ℕ → Type 0
InTurn f all done [] = Unit {0}
InTurn f all done (x ∷ xs) = Next f all done x × InTurn f all (x ∷ done) xs

-- a class precedence list of a class, which is one of all these, itself and its superclasses
abbrev pub IsPrecedenceList : Supers → List ℕ → List ℕ → Type 0
IsPrecedenceList f all l = InTurn f all [] l × ((x : ℕ) → has all x ≡ true → has l x ≡ true)

-- ---- how it is found (4.3.5.1)

-- the first of these that is not done
abbrev pub first_left : List ℕ → List ℕ → Option ℕ
first_left done [] = None
first_left done (x ∷ xs) = if has done x then first_left done xs else Some x

abbrev pub if_free : Supers → List ℕ → List ℕ → Option ℕ → Option ℕ
if_free f all done None = None
if_free f all done (Some x) = if is_free f all done x then Some x else None

abbrev pub or_else : Option ℕ → Option ℕ → Option ℕ
or_else None o = o
or_else (Some x) o = Some x

-- going back, the first class that is left and free among direct superclasses
abbrev pub next_above : Supers → List ℕ → List ℕ → List ℕ → Option ℕ
next_above f all done [] = None
next_above f all done (k ∷ ks) = or_else (if_free f all done (first_left done (f k))) (next_above f all done ks)

-- whether all these are done
abbrev pub are_done : List ℕ → List ℕ → Bool
are_done done [] = true
are_done done (x ∷ xs) = has done x && are_done done xs

abbrev pub if_all_done : Bool → Option (List ℕ)
if_all_done true = Some []
if_all_done false = None

abbrev pub with_first : Option ℕ → Option (List ℕ) → (ℕ → Option (List ℕ)) → Option (List ℕ)
with_first None end rest = end
with_first (Some x) end rest = option_map (λ xs. x ∷ xs) (rest x)

-- those that come in turn after those that are done, in at most so many turns, if all are done then
abbrev pub in_turn : ℕ → Supers → List ℕ → List ℕ → Option (List ℕ)
in_turn zero f all done = if_all_done (are_done done all)
in_turn (suc n) f all done = with_first (next_above f all done done) (if_all_done (are_done done all)) (λ x. in_turn n f all (x ∷ done))

abbrev pub precedence_list : Supers → ℕ → List ℕ → Option (List ℕ)
precedence_list f c all = if is_free f all [] c then option_map (λ xs. c ∷ xs) (in_turn (length all) f all (c ∷ [])) else None

-- ---- what there is to say of it

-- with a class, all these have its direct superclasses
abbrev pub Upward : Supers → List ℕ → Type 0
Upward f all = (k x : ℕ) → has all k ≡ true → has (f k) x ≡ true → has all x ≡ true

-- each of all these but c is a direct superclass of one of them
abbrev pub Below : Supers → ℕ → List ℕ → Type 0
Below f c all = (y : ℕ) → has all y ≡ true → (y ≡ c) ⊎ ((k : ℕ) × (has all k ≡ true) × (has (f k) y ≡ true))

-- A class and all its superclasses are so; what is told of such a family is told of them.
pub record IsFamily (f : Supers) (c : ℕ) (all : List ℕ) : Type 0 where
  pub self : has all c ≡ true
  pub upward : Upward f all
  pub below : Below f c all

-- y stands before x, directly, in a list
abbrev pub stands_before : ℕ → ℕ → List ℕ → Bool
stands_before y x [] = false
stands_before y x (p ∷ []) = false
stands_before y x (p ∷ (z ∷ zs)) = ((p == y) && (z == x)) || stands_before y x (z ∷ zs)

-- y comes before x, by one of all these
abbrev pub Before : Supers → List ℕ → ℕ → ℕ → Type 0
Before f all y x = (k : ℕ) × (has all k ≡ true) × (stands_before y x (k ∷ f k) ≡ true)

-- x comes before the first of these, each of them before the next, and the last before y
abbrev pub Leads : Supers → List ℕ → ℕ → List ℕ → ℕ → Type 0
Leads f all x [] y = Before f all x y
Leads f all x (z ∷ zs) y = Before f all x z × Leads f all z zs y

abbrev pub Circle : Supers → List ℕ → Type 0
Circle f all = (x : ℕ) × (xs : List ℕ) × Leads f all x xs x

-- it is the one class precedence list; or none fits, since some classes come before one another in a circle
abbrev pub Tells : Supers → List ℕ → Option (List ℕ) → Type 0
Tells f all (Some l) = IsPrecedenceList f all l × ((m : List ℕ) → IsPrecedenceList f all m → m ≡ l)
Tells f all None = ((m : List ℕ) → IsPrecedenceList f all m → ⊥) × Circle f all

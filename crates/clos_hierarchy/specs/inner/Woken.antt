-- The classes of which nothing is said, and those among them of which something is once a class is defined.
use Rattle.std.specs.Prelude.{◌≡◌, ℕ, ◌==◌, Bool, true, false, not, ◌&&◌, ◌||◌, List, [], slice_get}
use Rattle.std.specs.List.{list_all, list_any}
use Rattle.lisp_data.specs.Name.{Name, same_name}
use Rattle.clos_precedence.specs.Precedence.{has}
use Rattle.clos_hierarchy.specs.Classes.{Classes, Listing, is_based, is_lacking, names_above, superclasses}
use Rattle.clos_hierarchy.specs.inner.Direct.{Index, below_if, directly_below}

-- whether something is said of each of these that is not among the woken ones
abbrev pub all_said : (ℕ → Listing) → List ℕ → List ℕ → Bool
all_said of woken xs = list_all (λ x. not (is_lacking (of x)) || has woken x) xs

-- whether all direct superclasses of a class are defined, and something is said of each that is not among the woken ones
abbrev pub is_ready : Classes → (ℕ → Listing) → List ℕ → ℕ → Bool
is_ready cs of woken n = is_based cs n && all_said of woken (superclasses cs n)

-- if nothing is said of a class, it is among the woken ones or not ready
abbrev pub Sleeps : Classes → (ℕ → Listing) → List ℕ → ℕ → Type 0
Sleeps cs of woken n = is_lacking (of n) ≡ true → has woken n ≡ false → is_ready cs of woken n ≡ false

-- where none is woken yet all but the class c sleep, and each of them is noted below the names of its direct superclasses
pub record Asleep (cs : Classes) (of : ℕ → Listing) (d : Index) (c : ℕ) : Type 0 where
  pub sleep : (n : ℕ) → (c == n) ≡ false → Sleeps cs of [] n
  pub direct : (n : ℕ) (x : Name) → (c == n) ≡ false → list_any (same_name x) (names_above cs n) ≡ true → has (directly_below d x) n ≡ true

-- the classes that are noted below the name of this one
abbrev pub below_class : Classes → Index → ℕ → List ℕ
below_class cs d n = below_if d (slice_get cs.names n)

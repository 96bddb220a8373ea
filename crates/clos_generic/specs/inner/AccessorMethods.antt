-- How the methods that came with accessors are found by their classes.
use Rattle.std.specs.Prelude.{◌≡◌, ℕ, zero, suc, ◌+◌, ◌≤◌, true, List, [], ◌∷◌, ◌++◌, Option, Some, None, length, nat_eq, option_map, slice_get, vec_len, vec_capacity, if◌then◌else◌}
use Rattle.std.specs.HashMap.{get, spare}
use Rattle.lisp_data.specs.declared.ids.MethodId.{MethodId}
use Rattle.clos_method.specs.Origin.{is_accessor_of}
use Rattle.clos_method.specs.declared.method.Method.{Method}
use Rattle.clos_method.specs.declared.origin.Origin.{Origin}
use Rattle.clos_method.specs.declared.origin.Origin.TheVariants.{System, Defmethod, MethodOption, Accessor}
use Rattle.clos_generic.specs.Accessors.{accessors_below, is_accessor_in}
use Rattle.clos_generic.specs.declared.accessors.AccessorMethods.{AccessorMethods}

-- of the first so many methods the last that came with an accessor of this class
abbrev pub latest_below : List Method → ℕ → ℕ → Option ℕ
latest_below methods c zero = None
latest_below methods c (suc n) = if is_accessor_in c (slice_get methods n) then Some n else latest_below methods c n

-- the one that is noted at a place
abbrev pub noted_in : Option (Option MethodId) → Option ℕ
noted_in None = None
noted_in (Some o) = option_map (λ m. m.0) o

-- Of each class the latest is known, and from each the one before it.
pub record IsKept (a : AccessorMethods) (methods : List Method) : Type 0 where
  pub all : length a.earlier.items ≡ length methods
  pub latest : (c : ℕ) → option_map (λ m. m.0) (get nat_eq a.latest c) ≡ latest_below methods c (length methods)
  pub earlier : (c n : ℕ) → is_accessor_in c (slice_get methods n) ≡ true → noted_in (slice_get a.earlier.items n) ≡ latest_below methods c n

-- There is memory for so many more methods.
abbrev pub HasPlaces : ℕ → AccessorMethods → Type 0
HasPlaces n a = (n ≤ spare a.latest) × (vec_len a.earlier + n ≤ vec_capacity a.earlier)

-- Nothing is known.
pub record KnowsNone (a : AccessorMethods) : Type 0 where
  pub latest : (c : ℕ) → get nat_eq a.latest c ≡ None
  pub earlier : a.earlier.items ≡ []

-- The same is known.
pub record KnowsSame (a b : AccessorMethods) : Type 0 where
  pub latest : (c : ℕ) → get nat_eq b.latest c ≡ get nat_eq a.latest c
  pub earlier : b.earlier.items ≡ a.earlier.items

-- the latest one of the class, if it came with an accessor
abbrev pub latest_for : Origin → (ℕ → Option MethodId) → Option MethodId
latest_for System latest = None
latest_for Defmethod latest = None
latest_for MethodOption latest = None
latest_for (Accessor class) latest = latest class.0

-- One more method is known, by its number and what made it.
pub record KnowsMore (id : MethodId) (o : Origin) (a b : AccessorMethods) : Type 0 where
  pub latest : (c : ℕ) → get nat_eq b.latest c ≡ (if is_accessor_of c o then Some id else get nat_eq a.latest c)
  pub earlier : b.earlier.items ≡ a.earlier.items ++ latest_for o (λ c. get nat_eq a.latest c) ∷ []

-- ---- from the latest one back

-- the numbers that may still be met
abbrev pub numbers_left : Option ℕ → ℕ
numbers_left None = 0
numbers_left (Some n) = n + 1

-- those of this class up to this one
abbrev pub accessors_up_to : List Method → ℕ → Option ℕ → List ℕ
accessors_up_to methods c None = []
accessors_up_to methods c (Some n) = accessors_below methods c n ++ n ∷ []

-- It came with an accessor of this class, if there is one.
abbrev pub IsAccessor : List Method → ℕ → Option ℕ → Type 0
IsAccessor methods c None = Unit {0}
IsAccessor methods c (Some n) = is_accessor_in c (slice_get methods n) ≡ true

-- The classes of a session (HyperSpec 4.3), each known by its number, which is its place in the order of first definition.
use Rattle.std.specs.Prelude.{ℕ, zero, suc, ◌+◌, Bool, true, false, ◌&&◌, ◌||◌, nat_lt, List, [], ◌∷◌, ◌++◌, Option, Some, None, is_some, option_to_list, unwrap_or, slice_get, slice_set, position, length, if◌then◌else◌}
use Rattle.std.specs.List.{list_all, list_any, position_or_len}
use Rattle.lisp_data.specs.Name.{Name, same_name}
use Rattle.clos_precedence.specs.Precedence.{Supers, has, precedence_list}

pub record Classes : Type 0 where
  pub names : List Name  -- of each class its name
  pub above : List (List Name)  -- of each class the names of its direct superclasses, in the order of its definition

-- the number of the class of this name
abbrev pub named : Classes → Name → Option ℕ
named cs name = position (λ n. same_name name n) cs.names

-- the number of the class of this name, or the one that it gets
abbrev pub number_of : Classes → Name → ℕ
number_of cs name = position_or_len (same_name name) cs.names

-- The classes after one is defined with these direct superclasses: it stays in its place, and a new one comes last.
abbrev pub with_class : Classes → Name → List Name → Classes
with_class cs name above =
    if list_any (same_name name) cs.names then record cs { above = slice_set cs.above (number_of cs name) above }
    else record { names = cs.names ++ name ∷ []; above = cs.above ++ above ∷ [] }

-- ---- superclasses (4.3.4), some of which may not be defined yet

abbrev pub names_above : Classes → ℕ → List Name
names_above cs n = unwrap_or (slice_get cs.above n) []

-- those of these names that classes have
abbrev pub defined : Classes → List Name → List ℕ
defined cs [] = []
defined cs (x ∷ xs) = option_to_list (named cs x) ++ defined cs xs

abbrev pub are_defined : Classes → List Name → Bool
are_defined cs names = list_all (λ x. is_some (named cs x)) names

-- the direct superclasses of a class, those that are defined
abbrev pub superclasses : Classes → Supers
superclasses cs n = defined cs (names_above cs n)

-- whether this is a class whose direct superclasses are all defined
abbrev pub is_based : Classes → ℕ → Bool
is_based cs n = nat_lt n (length cs.names) && are_defined cs (names_above cs n)

-- the direct superclasses of all these
abbrev pub one_up : Classes → List ℕ → List ℕ
one_up cs [] = []
one_up cs (x ∷ xs) = superclasses cs x ++ one_up cs xs

-- whether, on the way up from these, one comes to this class in so many steps
abbrev pub is_met : ℕ → Classes → ℕ → List ℕ → Bool
is_met zero cs n xs = false
is_met (suc k) cs n xs = has (one_up cs xs) n || is_met k cs n (one_up cs xs)

-- whether a class is above itself
abbrev pub is_circular : Classes → ℕ → Bool
is_circular cs n = is_met (length cs.names) cs n (n ∷ [])

-- ---- class precedence lists (4.3.5)

-- what there is to say of a class: one of its superclasses, or of theirs and so on, is not defined; or all are, and there is no
-- class precedence list; or this is the list
pub data Listing : Type 0 where
  lacking : Listing
  broken : Listing
  listed : List ℕ → Listing

abbrev pub joined : Listing → Listing → Listing
joined lacking o = lacking
joined broken lacking = lacking
joined broken broken = broken
joined broken (listed l) = broken
joined (listed l) lacking = lacking
joined (listed l) broken = broken
joined (listed l) (listed m) = listed (l ++ m)

-- all classes above a class with these direct superclasses, where there are lists of them
abbrev pub all_above : (ℕ → Listing) → List ℕ → Listing
all_above of [] = listed []
all_above of (x ∷ xs) = joined (of x) (all_above of xs)

abbrev pub is_lacking : Listing → Bool
is_lacking lacking = true
is_lacking broken = false
is_lacking (listed l) = false

abbrev pub is_broken : Listing → Bool
is_broken lacking = false
is_broken broken = true
is_broken (listed l) = false

abbrev pub list_in : Listing → List ℕ
list_in lacking = []
list_in broken = []
list_in (listed l) = l

abbrev pub listed_if : Option (List ℕ) → Listing
listed_if None = broken
listed_if (Some l) = listed l

abbrev pub in_order : Supers → ℕ → Listing → Listing
in_order f n lacking = lacking
in_order f n broken = broken
in_order f n (listed l) = listed_if (precedence_list f n (n ∷ l))

-- a class after its superclasses
abbrev pub found : Classes → (ℕ → Listing) → ℕ → Listing
found cs of n = if is_based cs n then in_order (superclasses cs) n (all_above of (superclasses cs n)) else lacking

-- where superclasses are followed upward so often
abbrev pub listing_within : ℕ → Classes → ℕ → Listing
listing_within zero cs n = lacking
listing_within (suc k) cs n = found cs (λ m. listing_within k cs m) n

-- What there is to say of a class. Superclasses are followed as often as there are classes, and once more so often: a class whose
-- list is found has fewer above it, and so has one of which it is found that there is none.
abbrev pub listing : Classes → ℕ → Listing
listing cs n = listing_within (length cs.names + length cs.names) cs n

-- What decides between applicable methods, in numbers.
use Rattle.std.specs.Prelude.{ℕ, suc, ◌==◌, Bool, true, false, nat_lt, List, [], ◌∷◌, map, Option, Some, None, if◌then◌else◌, slice_get, unwrap_or}
use Rattle.lisp_data.specs.Print.{Specializer, on_class, on_eql}
use Rattle.clos_method.specs.Arguments.{Argument}

-- where a class stands in a list
abbrev pub place_in : List ℕ → ℕ → ℕ
place_in [] c = 0
place_in (x ∷ xs) c = if x == c then 0 else suc (place_in xs c)

-- how specific a specializer is for an argument with this list
abbrev pub rank_in : List ℕ → Specializer → ℕ
rank_in l (on_eql v) = 0
rank_in l (on_class c) = suc (place_in l c)

-- .. at a place where there may be neither
abbrev pub rank_of : Option Argument → Option Specializer → Option ℕ
rank_of (Some a) (Some s) = Some (rank_in a.list s)
rank_of (Some a) None = None
rank_of None s = None

-- .. at each of some places
abbrev pub ranks_of : List ℕ → List Argument → List Specializer → List (Option ℕ)
ranks_of [] args xs = []
ranks_of (p ∷ order) args xs = rank_of (slice_get args p) (slice_get xs p) ∷ ranks_of order args xs

-- what two ranks at one place decide, if they differ: whether the first is more specific
abbrev pub by_both : Option ℕ → Option ℕ → Option Bool
by_both (Some m) (Some n) = if m == n then None else Some (nat_lt m n)
by_both (Some m) None = None
by_both None n = None

-- whether, at the first place where they differ, the first ones are more specific
abbrev pub is_lower : List (Option ℕ) → List (Option ℕ) → Bool
is_lower [] ns = false
is_lower (m ∷ ms) [] = false
is_lower (m ∷ ms) (n ∷ ns) = unwrap_or (by_both m n) (is_lower ms ns)

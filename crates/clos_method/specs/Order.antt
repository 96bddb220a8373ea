-- The order of applicable methods (HyperSpec 7.6.6.1.2). Methods are told by their numbers.
use Rattle.std.specs.Prelude.{ℕ, ◌==◌, Bool, true, false, List, [], ◌∷◌, Option, Some, None, if◌then◌else◌, slice_get, unwrap_or}
use Rattle.lisp_data.specs.Print.{Specializer, on_class, on_eql}
use Rattle.clos_method.specs.Applicable.{is_applicable, specializers_of}
use Rattle.clos_method.specs.Arguments.{Argument}
use Rattle.clos_method.specs.Specializer.{same_specializer}
use Rattle.clos_method.specs.declared.method.Method.{Method}

-- whether the first class stands earlier in the list than the second
abbrev pub stands_before : List ℕ → ℕ → ℕ → Bool
stands_before [] c d = false
stands_before (e ∷ list) c d = if e == c then true else if e == d then false else stands_before list c d

-- of two specializers that differ and fit an argument with this list: an eql specializer is more specific than a class, and a class
-- than those after it in the list
abbrev pub is_more_specific : List ℕ → Specializer → Specializer → Bool
is_more_specific list (on_eql v) t = true
is_more_specific list (on_class c) (on_eql v) = false
is_more_specific list (on_class c) (on_class d) = stands_before list c d

-- what two specializers at one place decide, if they differ: whether the first is more specific
abbrev pub decided : Option Argument → Option Specializer → Option Specializer → Option Bool
decided (Some a) (Some s) (Some t) = if same_specializer s t then None else Some (is_more_specific a.list s t)
decided (Some a) (Some s) None = None
decided (Some a) None t = None
decided None s t = None

-- At the first place, by the argument precedence order, where the specializers differ, the first ones are more specific.
abbrev pub is_before : List ℕ → List Argument → List Specializer → List Specializer → Bool
is_before [] args xs ys = false
is_before (p ∷ order) args xs ys = unwrap_or (decided (slice_get args p) (slice_get xs p) (slice_get ys p)) (is_before order args xs ys)

module _ (methods : List Method) (order : List ℕ) (args : List Argument) where
  -- whether the first method comes before the second
  abbrev pub comes_before : ℕ → ℕ → Bool
  comes_before n m = is_before order args (specializers_of methods n) (specializers_of methods m)

  -- a method at its place among ordered ones that were added after it
  abbrev pub placed : ℕ → List ℕ → List ℕ
  placed m [] = m ∷ []
  placed m (n ∷ ns) = if comes_before n m then n ∷ placed m ns else m ∷ n ∷ ns

  -- the applicable ones of these methods, which are in order of addition, the most specific first
  abbrev pub ordered : List ℕ → List ℕ
  ordered [] = []
  ordered (m ∷ ms) = if is_applicable methods args m then placed m (ordered ms) else ordered ms

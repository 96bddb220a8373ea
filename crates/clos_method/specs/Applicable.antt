-- Which methods are applicable to some arguments (HyperSpec 7.6.6.1.1). Methods are told by their numbers.
use Rattle.std.specs.Prelude.{ℕ, Bool, true, false, ◌&&◌, List, [], ◌∷◌, Option, Some, None, slice_get}
use Rattle.std.specs.List.{list_any}
use Rattle.lisp_data.specs.Keys.{same_value}
use Rattle.lisp_data.specs.Print.{Specializer, on_class, on_eql}
use Rattle.lisp_data.specs.Value.{Val}
use Rattle.clos_precedence.specs.Precedence.{has}
use Rattle.clos_method.specs.Arguments.{Argument}
use Rattle.clos_method.specs.declared.method.Method.{Method}

-- An argument is of a class that is in the precedence list of its own, or EQL to the object. No such object is a string or a list but NIL.
abbrev pub fits : Argument → Specializer → Bool
fits a (on_class c) = has a.list c
fits a (on_eql v) = same_value v a.value

-- Each specializer fits the argument at its place.
abbrev pub all_fit : List Argument → List Specializer → Bool
all_fit args [] = true
all_fit [] (s ∷ ss) = false
all_fit (a ∷ args) (s ∷ ss) = fits a s && all_fit args ss

abbrev pub specializers_in : Option Method → List Specializer
specializers_in None = []
specializers_in (Some m) = m.specializers

abbrev pub specializers_of : List Method → ℕ → List Specializer
specializers_of methods n = specializers_in (slice_get methods n)

abbrev pub applies_to : List Argument → Option Method → Bool
applies_to args None = false
applies_to args (Some m) = all_fit args m.specializers

-- whether the method of this number is applicable
abbrev pub is_applicable : List Method → List Argument → ℕ → Bool
is_applicable methods args n = applies_to args (slice_get methods n)

-- ---- eql specializers

abbrev pub is_eql_to : Val → Option Specializer → Bool
is_eql_to v None = false
is_eql_to v (Some (on_class c)) = false
is_eql_to v (Some (on_eql w)) = same_value w v

-- whether the method of this number has the object as its eql specializer at this place
abbrev pub has_eql_at : List Method → ℕ → Val → ℕ → Bool
has_eql_at methods place v n = is_eql_to v (slice_get (specializers_of methods n) place)

-- whether one of these has
abbrev pub has_eql : List Method → List ℕ → ℕ → Val → Bool
has_eql methods candidates place v = list_any (has_eql_at methods place v) candidates

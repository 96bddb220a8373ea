-- What calls of a generic function ask of the table (HyperSpec 7.6.5, 7.6.6.1).
use Rattle.std.specs.Prelude.{ℕ, zero, Bool, false, List, [], Option, Some, None, slice_get}
use Rattle.lisp_data.specs.Name.{Name}
use Rattle.lisp_data.specs.Value.{Val}
use Rattle.clos_method.specs.Applicable as core
use Rattle.clos_method.specs.Arguments.{Argument}
use Rattle.clos_method.specs.Keywords as keywords
use Rattle.clos_method.specs.Laws.{IsOrdered}
use Rattle.clos_method.specs.Order as order
use Rattle.clos_generic.specs.Table.{Function, Table, methods_of}

abbrev pub precedence_in : Option Function → List ℕ
precedence_in None = []
precedence_in (Some f) = f.precedence

-- the methods of a function that are applicable to these arguments, the most specific first
abbrev pub ordered : Table → ℕ → List Argument → List ℕ
ordered t g args = order.ordered t.methods (precedence_in (slice_get t.functions g)) args (methods_of t g)

abbrev pub required_in : Option Function → ℕ
required_in None = zero
required_in (Some f) = f.shape.required

-- how many required parameters a function has
abbrev pub required_of : Table → ℕ → ℕ
required_of t g = required_in (slice_get t.functions g)

-- A list of methods is in order for a call of a function with these arguments (7.6.6.1).
abbrev pub IsInOrder : Table → ℕ → List Argument → List ℕ → Type 0
IsInOrder t g args listed = IsOrdered t.methods (precedence_in (slice_get t.functions g)) args (methods_of t g) listed

-- whether a method of a function has an eql specializer of this object for the parameter at this place
abbrev pub has_eql : Table → ℕ → ℕ → Val → Bool
has_eql t g place v = core.has_eql t.methods (methods_of t g) place v

-- ---- keyword arguments, where these methods are applicable

abbrev checks_in : Table → List ℕ → Option Function → Bool
checks_in t ms None = false
checks_in t ms (Some f) = keywords.checks_keywords f.shape t.methods ms

abbrev pub checks_keywords : Table → ℕ → List ℕ → Bool
checks_keywords t g ms = checks_in t ms (slice_get t.functions g)

abbrev allows_in : Table → List ℕ → Option Function → Bool
allows_in t ms None = false
allows_in t ms (Some f) = keywords.allows_all f.shape t.methods ms

abbrev pub allows_all : Table → ℕ → List ℕ → Bool
allows_all t g ms = allows_in t ms (slice_get t.functions g)

abbrev accepts_in : Table → List ℕ → Name → Option Function → Bool
accepts_in t ms name None = false
accepts_in t ms name (Some f) = keywords.accepts_keyword f.shape t.methods ms name

abbrev pub accepts : Table → ℕ → List ℕ → Name → Bool
accepts t g ms name = accepts_in t ms name (slice_get t.functions g)

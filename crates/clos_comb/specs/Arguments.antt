-- Arguments of method combinations (HyperSpec 7.6.6.4, 7.7 define-method-combination).
use Rattle.std.specs.Prelude.{ℕ, ◌+◌, nat_le, Bool, true, false, ◌&&◌, is_some, List, [], ◌∷◌, ◌++◌, length, Option, Some, None}
use Rattle.lisp_data.specs.Name.{Name}
use Rattle.lisp_data.specs.Datum.{Dat, Dats, nil, cons, length_of}
use Rattle.lisp_data.specs.DatumView.{datum_of}
use Rattle.clos_groups.specs.clos_combination.Parameter.{init_in}
use Rattle.clos_groups.specs.clos_combination.declared.parameter.OptionalParameter.{OptionalParameter}
use Rattle.clos_groups.specs.clos_combination.declared.parameter.Parameters.{Parameters}
use Rattle.clos_groups.specs.clos_template.Function.{truth}
use Rattle.clos_groups.specs.clos_template.Scope.{Env, bound}
use Rattle.clos_comb.specs.Direction.{direction_in}
use Rattle.clos_comb.specs.declared.direction.Direction.{Direction}
use Rattle.clos_comb.specs.declared.direction.Direction.TheVariants.{MostSpecificFirst}

-- whether there are none
abbrev pub is_no_data : Dats → Bool
is_no_data nil = true
is_no_data (cons d l) = false

-- the order that a short form is given: a keyword's, or most specific first where there are no arguments
abbrev pub short_direction : Dats → Option Direction
short_direction nil = Some MostSpecificFirst
short_direction (cons d nil) = direction_in d
short_direction (cons d (cons e l)) = None

-- whether each is a constant: an integer, a string, a keyword, T or NIL
abbrev pub are_constants : Dats → Bool
are_constants nil = true
are_constants (cons d l) = is_some (init_in d) && are_constants l

-- whether these parameters take so many arguments
abbrev pub takes_count : Parameters → ℕ → Bool
takes_count ps n = nat_le (length ps.required) n && nat_le n (length ps.required + length ps.optional)

-- constants, for each required parameter, and for optional ones from left to right
abbrev pub takes : Parameters → Dats → Bool
takes ps l = takes_count ps (length_of l) && are_constants l

-- ---- what parameters are bound to

-- required ones, each to its argument
abbrev pub required_bound : List Name → Dats → Env
required_bound [] l = []
required_bound (n ∷ ns) nil = []
required_bound (n ∷ ns) (cons d l) = bound n d ∷ required_bound ns l

-- the arguments after those of required parameters
abbrev pub after_required : List Name → Dats → Dats
after_required [] l = l
after_required (n ∷ ns) nil = nil
after_required (n ∷ ns) (cons d l) = after_required ns l

-- the variable that tells whether an argument is given, where there is one
abbrev pub given_bound : Option Name → Bool → Env
given_bound None given = []
given_bound (Some n) given = bound n (truth given) ∷ []

-- an optional parameter, and whether its argument is given
abbrev pub optional_entry : OptionalParameter → Dat → Bool → Env
optional_entry p d given = bound p.name d ∷ given_bound p.given given

-- optional ones, each to its argument or, where none is given, to its constant
abbrev pub optional_bound : List OptionalParameter → Dats → Env
optional_bound [] l = []
optional_bound (p ∷ ps) nil = optional_entry p (datum_of p.init) false ++ optional_bound ps nil
optional_bound (p ∷ ps) (cons d l) = optional_entry p d true ++ optional_bound ps l

-- all of them
abbrev pub parameters_bound : Parameters → Dats → Env
parameters_bound ps l = required_bound ps.required l ++ optional_bound ps.optional (after_required ps.required l)

-- Parameters of long forms (HyperSpec 7.7 define-method-combination).
use Rattle.std.specs.Prelude.{List, [], ◌∷◌, ◌++◌, false, codes, Option, Some, None, if◌then◌else◌}
use Rattle.lisp_data.specs.Name.{Name}
use Rattle.lisp_data.specs.Datum.{Dat, integer, symbol, string, list, dotted, method, Dats, nil, cons}
use Rattle.lisp_data.specs.declared.datum.Datum.{Datum}
use Rattle.lisp_data.specs.declared.datum.Datum.TheVariants.{Int, Sym, Str}
use Rattle.clos_forms.specs.Binding.{each}
use Rattle.clos_forms.specs.Distinct.{are_distinct}
use Rattle.clos_forms.specs.Fault.{◌>>=◌}
use Rattle.clos_forms.specs.clos_names.Names.{is_constant}
use Rattle.clos_forms.specs.Part.{at_most_one}
use Rattle.clos_lambda.specs.LambdaList.{given_in, names_in, parameter_in}
use Rattle.clos_lambda.specs.Lists.{list_in}
use Rattle.clos_lambda.specs.Sections.{is_symbol_called, front, back}
use Rattle.clos_combination.specs.declared.parameter.OptionalParameter.{OptionalParameter}
use Rattle.clos_combination.specs.declared.parameter.Parameters.{Parameters}

-- ---- &optional

-- a constant: an integer, a string, a keyword, T or NIL
abbrev pub init_in : Dat → Option Datum
init_in (integer n) = Some (Int n)
init_in (symbol name) = if is_constant name then Some (Sym name) else None
init_in (string s) = Some (Str s)
init_in (list l) = None
init_in (dotted l d) = None
init_in (method n) = None

-- bound to NIL where no datum is given
abbrev pub bare : Name → OptionalParameter
bare name = record { name = name; init = Sym (record { text = codes "NIL"; keyword = false }); given = None }

-- what may follow the variable: a constant, and then a variable that tells whether a datum is given
abbrev pub parameter_with : Name → Dats → Option OptionalParameter
parameter_with name nil = Some (bare name)
parameter_with name (cons init rest) =
    init_in init >>= λ i. at_most_one rest >>= given_in >>= λ g. Some (record { name = name; init = i; given = g })

-- (v), (v init) or (v init given)
abbrev pub listed_parameter : Dats → Option OptionalParameter
listed_parameter nil = None
listed_parameter (cons v rest) = parameter_in v >>= λ n. parameter_with n rest

-- v, (v), (v init) or (v init given)
abbrev pub optional_parameter_in : Dat → Option OptionalParameter
optional_parameter_in (integer n) = None
optional_parameter_in (symbol name) = parameter_in (symbol name) >>= λ n. Some (bare n)
optional_parameter_in (string s) = None
optional_parameter_in (list l) = listed_parameter l
optional_parameter_in (dotted l d) = None
optional_parameter_in (method n) = None

-- &optional and its entries, where anything follows the required parameters
abbrev pub optional_parameters_in : Dats → Option (List OptionalParameter)
optional_parameters_in nil = Some []
optional_parameters_in (cons d l) = if is_symbol_called (codes "&OPTIONAL") d then each optional_parameter_in l else None

-- ---- all parameters

-- the variables of an entry
abbrev pub variables_in : OptionalParameter → List Name
variables_in p = p.name ∷ names_in p.given

-- those of all entries
abbrev pub optional_names : List OptionalParameter → List Name
optional_names [] = []
optional_names (p ∷ ps) = variables_in p ++ optional_names ps

-- all variables, in order
abbrev pub parameter_names : Parameters → List Name
parameter_names ps = ps.required ++ optional_names ps.optional

-- no variable twice
abbrev pub if_distinct : Parameters → Option Parameters
if_distinct ps = if are_distinct (parameter_names ps) then Some ps else None

-- the parameters that a list has
abbrev pub parameters_from : Dats → Option Parameters
parameters_from l =
    each parameter_in (front l)
    >>= λ required. optional_parameters_in (back l)
    >>= λ optional. if_distinct (record { required = required; optional = optional })

-- required ones, and then perhaps &optional and its entries
abbrev pub parameters_in : Dat → Option Parameters
parameters_in d = list_in d >>= parameters_from

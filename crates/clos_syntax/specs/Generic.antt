-- Generic functions (HyperSpec 7.7 defgeneric).
use Rattle.std.specs.Prelude.{List, Bool, true, ◌||◌, ◌&&◌, codes, Option, Some, None, if◌then◌else◌}
use Rattle.lisp_data.specs.Name.{Name}
use Rattle.lisp_data.specs.Datum.{Dat, Dats, nil, cons}
use Rattle.clos_forms.specs.Binding.{each}
use Rattle.clos_forms.specs.Distinct.{are_among, are_distinct}
use Rattle.clos_forms.specs.Body.{is_declaration}
use Rattle.clos_forms.specs.Fault.{◌>>=◌}
use Rattle.clos_forms.specs.FunctionName.{symbol_in}
use Rattle.clos_forms.specs.declared.operator.FunctionName.{FunctionName}
use Rattle.clos_lambda.specs.LambdaList.{generic_lambda_list_in}
use Rattle.clos_lambda.specs.Property.{is_option, options_of, option_in, arguments_in}
use Rattle.clos_lambda.specs.declared.lambda_list.LambdaList.{LambdaList}
use Rattle.clos_syntax.specs.Class.{documentation_option_in}
use Rattle.clos_syntax.specs.FunctionName.{new_function_in}
use Rattle.clos_syntax.specs.Method.{method_in}
use Rattle.clos_syntax.specs.declared.generic.CombinationUse.{CombinationUse}
use Rattle.clos_syntax.specs.declared.generic.GenericDefinition.{GenericDefinition}
use Rattle.clos_syntax.specs.declared.generic.GenericOptions.{GenericOptions}
use Rattle.clos_syntax.specs.declared.method.MethodDefinition.{MethodDefinition}

abbrev pub generic_option_in : Dat → Option (Unit {0})
generic_option_in d =
    if is_declaration d || is_option (codes "ARGUMENT-PRECEDENCE-ORDER") d || is_option (codes "METHOD-COMBINATION") d
    || is_option (codes "DOCUMENTATION") d || is_option (codes "METHOD") d then Some tt else None

-- ---- the options

abbrev pub symbols_in : Dat → Option (List Name)
symbols_in d = arguments_in d >>= each symbol_in

-- a name, and any data
abbrev pub combination_with : Dats → Option CombinationUse
combination_with nil = None
combination_with (cons name l) = symbol_in name >>= λ n. Some (record { name = n; arguments = l })

-- the combination that a :method-combination option names
abbrev pub combination_use_in : Dat → Option CombinationUse
combination_use_in d = arguments_in d >>= combination_with

abbrev pub method_option_in : Dat → Option MethodDefinition
method_option_in d = arguments_in d >>= method_in

abbrev pub generic_options_in : Dats → Option GenericOptions
generic_options_in l =
    each generic_option_in l
    >>= λ known. option_in documentation_option_in (codes "DOCUMENTATION") l
    >>= λ documentation. option_in symbols_in (codes "ARGUMENT-PRECEDENCE-ORDER") l
    >>= λ precedence. option_in combination_use_in (codes "METHOD-COMBINATION") l
    >>= λ combination. each method_option_in (options_of (codes "METHOD") l)
    >>= λ methods. Some (record { precedence = precedence; combination = combination; methods = methods })

-- ---- the order of the arguments

-- each required parameter exactly once
abbrev pub orders : List Name → List Name → Bool
orders required names = are_distinct names && are_among names required && are_among required names

abbrev pub fits : List Name → Option (List Name) → Bool
fits required None = true
fits required (Some names) = orders required names

-- ---- generic functions

abbrev pub generic : FunctionName → LambdaList → GenericOptions → GenericDefinition
generic name l os =
    record { name = name; lambda_list = l; precedence = os.precedence; combination = os.combination; methods = os.methods }

abbrev pub generic_with : Dat → Dat → Dats → Option GenericDefinition
generic_with name parameters options =
    new_function_in name
    >>= λ n. generic_lambda_list_in parameters
    >>= λ l. generic_options_in options
    >>= λ os. if fits l.required os.precedence then Some (generic n l os) else None

-- a name, a lambda list, and options
abbrev pub generic_in : Dats → Option GenericDefinition
generic_in nil = None
generic_in (cons name nil) = None
generic_in (cons name (cons parameters options)) = generic_with name parameters options

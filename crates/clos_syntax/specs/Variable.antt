-- Global variables (HyperSpec 5.3 defvar, defparameter).
use Rattle.std.specs.Prelude.{Bool, true, Option, Some, None, if◌then◌else◌}
use Rattle.lisp_data.specs.Datum.{Dat, Dats, nil, cons}
use Rattle.clos_forms.specs.Body.{is_string}
use Rattle.clos_forms.specs.Fault.{◌>>=◌}
use Rattle.clos_forms.specs.Form.{Form}
use Rattle.clos_forms.specs.FunctionName.{variable_in}
use Rattle.clos_forms.specs.Grammar.{form_of}
use Rattle.clos_forms.specs.Part.{at_most_one}
use Rattle.clos_forms.specs.declared.part.Context.TheVariants.{Plain}
use Rattle.clos_syntax.specs.declared.variable.Definer.{Definer}
use Rattle.clos_syntax.specs.declared.variable.Definer.TheVariants.{DefVar, DefParameter}
use Rattle.clos_syntax.specs.declared.variable.VariableDefinition.{VariableDefinition}

abbrev pub is_documentation : Option Dat → Bool
is_documentation None = true
is_documentation (Some d) = is_string d

abbrev pub documented : Dats → Dat → Option Form
documented rest init = at_most_one rest >>= λ d. if is_documentation d then form_of Plain init else None

-- a form, and then a string or nothing. A defvar may have neither
abbrev pub init_in : Definer → Dats → Option (Option Form)
init_in DefVar nil = Some None
init_in DefParameter nil = None
init_in DefVar (cons init rest) = documented rest init >>= λ f. Some (Some f)
init_in DefParameter (cons init rest) = documented rest init >>= λ f. Some (Some f)

-- a name, and what is written after it
abbrev pub variable_definition_in : Definer → Dats → Option VariableDefinition
variable_definition_in definer nil = None
variable_definition_in definer (cons name rest) =
    variable_in name >>= λ n. init_in definer rest >>= λ f. Some (record { definer = definer; name = n; form = f })

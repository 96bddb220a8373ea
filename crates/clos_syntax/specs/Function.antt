-- Functions (HyperSpec 5.3 defun).
use Rattle.std.specs.Prelude.{Option, Some, None}
use Rattle.lisp_data.specs.Datum.{Dat, Dats, nil, cons}
use Rattle.clos_forms.specs.Fault.{◌>>=◌}
use Rattle.clos_forms.specs.Grammar.{body_forms_of}
use Rattle.clos_forms.specs.declared.part.Context.TheVariants.{Plain}
use Rattle.clos_lambda.specs.LambdaList.{lambda_list_in}
use Rattle.clos_syntax.specs.FunctionName.{new_function_in}
use Rattle.clos_syntax.specs.declared.function.FunctionDefinition.{FunctionDefinition}

abbrev pub function_with : Dat → Dat → Dats → Option FunctionDefinition
function_with name parameters body =
    new_function_in name
    >>= λ n. lambda_list_in parameters
    >>= λ l. body_forms_of Plain body
    >>= λ fs. Some (record { name = n; lambda_list = l; body = fs })

-- a name, a lambda list, and a body
abbrev pub function_in : Dats → Option FunctionDefinition
function_in nil = None
function_in (cons name nil) = None
function_in (cons name (cons parameters body)) = function_with name parameters body

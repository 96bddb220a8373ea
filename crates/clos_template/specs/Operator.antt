-- The operators of templates (HyperSpec 7.7 define-method-combination).
use Rattle.std.specs.Prelude.{Bool, List, Option}
use Rattle.lisp_data.specs.Name.{Name}
use Rattle.lisp_data.specs.Datum.{Dat}
use Rattle.clos_forms.specs.Operator.{Bound}
use Rattle.clos_template.specs.declared.operator.Function.{Function}

-- an operator, its parts apart. The comment says what these are
pub data Operator : Type 0 where
  constant : Dat → Operator  -- none: a constant, or what a quote form quotes
  variable : Name → Operator  -- none: a group, a parameter or a local
  if_form : Operator  -- the test, what is given where it holds, and else, where there is one
  cond : List Bool → Operator  -- for each clause its test, and its body where it has one
  and_form : Operator  -- the templates
  or_form : Operator  -- the templates
  let_form : List Bound → Operator  -- the values of the variables that have one, and the body
  let_in_order : List Bound → Operator  -- the same, of let*
  mapcar : Name → Operator  -- the list, and what is given for each of its elements, which is this variable's value
  call : Function → Operator  -- the arguments
  written : List Bool → Option Dat → Operator  -- the elements of a backquoted list; whether each is spliced, and the atom after its dot

-- The names of functions as values (HyperSpec glossary, "function name").
use Rattle.std.specs.Prelude.{codes, false}
use Rattle.lisp_data.specs.Name.{Name}
use Rattle.lisp_data.specs.Value.{Val, list, nil, cons}
use Rattle.clos_forms.specs.Quotation.{name_value}
use Rattle.clos_forms.specs.declared.operator.FunctionName.{FunctionName}
use Rattle.clos_forms.specs.declared.operator.FunctionName.TheVariants.{Symbol, Setf}

-- the list of SETF and the name
abbrev pub setter_value : Name → Val
setter_value name = list (cons (name_value (record { text = codes "SETF"; keyword = false })) (cons (name_value name) nil))

abbrev pub called_value : FunctionName → Val
called_value (Symbol name) = name_value name
called_value (Setf name) = setter_value name

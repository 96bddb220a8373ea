-- Calls of generic functions whose arguments are evaluated by themselves.
use Rattle.std.specs.Prelude.{◌≡◌, codes, is_some, true, false}
use Rattle.lisp_data.specs.Datum.{Dat, Dats, cons, list, symbol}
use Rattle.lisp_data.specs.Name.{Name}
use Rattle.clos_ending.specs.clos_system.clos_world.World.{State}
use Rattle.clos_ending.specs.clos_system.clos_world.clos_generic.Table.{named}
use Rattle.clos_forms.specs.declared.operator.FunctionName.TheVariants.{Symbol}

-- a datum is a call of a generic function by its symbol
abbrev pub IsCall : State → Dat → Dats → Type 0
IsCall w d arguments =
    (operator : Name) × (is_some (named w.generics (Symbol operator)) ≡ true) × (d ≡ list (cons (symbol operator) arguments))

-- the form whose value are the values of some arguments
abbrev pub form_of_arguments : Dats → Dat
form_of_arguments arguments = list (cons (symbol (record { text = codes "LIST"; keyword = false })) arguments)

-- What parts of calls of generic functions are told to do.
use Rattle.std.specs.Prelude.{ℕ, Bool, false, [], ◌∷◌, Option, Some, None}
use Rattle.lisp_data.specs.Name.{Name}
use Rattle.lisp_data.specs.Value.{symbol}
use Rattle.clos_machine.specs.clos_world.clos_generic.Table.{Function}
use Rattle.clos_method.specs.Shape.{takes_count}
use Rattle.clos_machine.specs.clos_world.FunctionName.{called_value}
use Rattle.clos_machine.specs.clos_world.declared.condition.Condition.{Condition}
use Rattle.clos_machine.specs.clos_world.declared.condition.ConditionKind.{ConditionKind}

-- whether there is such a function, and it takes so many arguments
abbrev pub takes_in : Option Function → ℕ → Bool
takes_in None n = false
takes_in (Some f) n = takes_count f.shape n

-- a condition of this kind, about a function's name, and about a group's where there is one
abbrev pub about_function : ConditionKind → Function → Option Name → Condition
about_function kind f None = record { kind = kind; items = called_value f.name ∷ [] }
about_function kind f (Some group) = record { kind = kind; items = called_value f.name ∷ symbol group ∷ [] }

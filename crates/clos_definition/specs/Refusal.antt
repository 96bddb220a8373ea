-- Why a definition is refused (HyperSpec 7.7).
use Rattle.std.specs.Prelude.{◌≡◌, Bool, true, false, [], ◌∷◌, Option, Some, None, Result, Ok, Err, is_some, option_map}
use Rattle.lisp_data.specs.Name.{Name}
use Rattle.clos_forms.specs.Quotation.{name_value}
use Rattle.clos_forms.specs.declared.operator.FunctionName.{FunctionName}
use Rattle.clos_forms.specs.declared.operator.FunctionName.TheVariants.{Symbol, Setf}
use Rattle.clos_generic.specs.Changes.{Changes, changes_refusal}
use Rattle.clos_generic.specs.Fault.{Refusal, incongruent, no_such_method, table_limit, unsupported}
use Rattle.clos_world.specs.FunctionName.{called_value}
use Rattle.clos_world.specs.Functions.{function_in}
use Rattle.clos_world.specs.World.{State}
use Rattle.clos_world.specs.declared.condition.Condition.{Condition}
use Rattle.clos_world.specs.declared.condition.ConditionKind.TheVariants.{LambdaListCongruence, NoSuchMethod, ProgramError, TableLimit, UndefinedClass, Unsupported}
use Rattle.clos_world.specs.declared.condition.Stop.{Stop}
use Rattle.clos_world.specs.declared.condition.Stop.TheVariants.{Refused, Storage}

abbrev pub program_error : Condition
program_error = record { kind = ProgramError; items = [] }

abbrev pub table_full : Condition
table_full = record { kind = TableLimit; items = [] }

abbrev pub not_supported : Condition
not_supported = record { kind = Unsupported; items = [] }

abbrev pub undefined_class : Name → Condition
undefined_class name = record { kind = UndefinedClass; items = name_value name ∷ [] }

abbrev pub not_congruent : FunctionName → Condition
not_congruent name = record { kind = LambdaListCongruence; items = called_value name ∷ [] }

abbrev pub when : Bool → Condition → Option Condition
when true c = Some c
when false c = None

-- the first of both
abbrev pub or_else : Option Condition → Option Condition → Option Condition
or_else None o = o
or_else (Some c) o = Some c

-- ---- the name is that of a function that is no generic function

abbrev pub is_taken : State → FunctionName → Bool
is_taken w (Symbol name) = is_some (function_in w.functions name)
is_taken w (Setf name) = is_some (function_in w.setters name)

abbrev pub taken_refusal : FunctionName → State → Option Condition
taken_refusal name w = when (is_taken w name) program_error

-- ---- what the table of generic functions refuses, for a form that defines the function of this name or a method of it

abbrev pub told : FunctionName → Refusal → Condition
told name incongruent = not_congruent name
told name no_such_method = record { kind = NoSuchMethod; items = called_value name ∷ [] }
told name unsupported = not_supported
told name table_limit = table_full

abbrev pub table_refusal : FunctionName → Changes → State → Option Condition
table_refusal name changes w = option_map (told name) (changes_refusal w.generics changes)

-- ---- what the code answers

-- It stops for this, or because memory was refused.
abbrev pub StopsFor : Option Condition → Stop → Type 0
StopsFor o (Refused c) = o ≡ Some c
StopsFor o Storage = Unit {0}

-- It goes on only where nothing is wrong.
abbrev pub Allows : {A : Type 0} → Option Condition → Result A Stop → Type 0
Allows o (Ok x) = o ≡ None
Allows o (Err stop) = StopsFor o stop

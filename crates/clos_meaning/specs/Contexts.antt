-- What bodies and effective forms know of the calls for which they run.
use Rattle.std.specs.Prelude.{ℕ, List, Some, None}
use Rattle.lisp_data.specs.Value.{Val}
use Rattle.clos_forms.specs.Form.{Forms}
use Rattle.clos_forms.specs.Operator.{Callable}
use Rattle.clos_meaning.specs.Dispatch.{Dispatch}
use Rattle.clos_meaning.specs.declared.arguments.Known.{Known}

-- what a running body or an effective form knows, and can't change
abbrev pub Context : Type 0
Context = Known

-- the body of a function that is no generic function
abbrev pub known : List Val → Context
known vs = record { arguments = vs; call = None; running = None }

-- an effective form
abbrev pub in_call : Dispatch → List Val → Context
in_call d vs = record { arguments = vs; call = Some d; running = None }

-- the body of a method, with its next methods, and the forms of those that are made
abbrev pub running : ℕ → List Callable → Forms → Context → Context
running m next forms env = record env { running = Some (record { method = record { 0 = m }; next = next; forms = forms }) }

-- of the same call, an effective form with other arguments
abbrev pub with_arguments : List Val → Context → Context
with_arguments vs env = record env { arguments = vs; running = None }

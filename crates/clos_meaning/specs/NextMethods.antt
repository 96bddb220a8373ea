-- What a method does with its next methods (HyperSpec 7.6.6.2, 7.7 call-next-method, next-method-p).
use Rattle.std.specs.Prelude.{ℕ, Bool, false, List, [], ◌∷◌, Option, Some, None, if◌then◌else◌, length, not, slice_get}
use Rattle.lisp_data.specs.Numbers.{same_numbers}
use Rattle.lisp_data.specs.Value.{Val, generic, method}
use Rattle.clos_forms.specs.Operator.{Callable}
use Rattle.clos_world.specs.clos_generic.Table.{Function}
use Rattle.clos_world.specs.clos_method.Shape.{takes_count}
use Rattle.clos_world.specs.clos_method.declared.system.SystemFunction.TheVariants.{NoNextMethod}
use Rattle.clos_world.specs.Dispatch.{ordered}
use Rattle.clos_world.specs.Keys.{key_of}
use Rattle.clos_world.specs.declared.condition.ConditionKind.TheVariants.{NextArguments, ProgramError}
use Rattle.clos_meaning.specs.Calls.{method_called}
use Rattle.clos_meaning.specs.Contexts.{Context, with_arguments}
use Rattle.clos_meaning.specs.Dispatch.{Dispatch}
use Rattle.clos_meaning.specs.GenericCalls.{invoked}
use Rattle.clos_meaning.specs.Outcome.{Noted, Run, Eval, stopped, used}
use Rattle.clos_meaning.specs.Parameters.{is_empty}
use Rattle.clos_meaning.specs.declared.arguments.Running.{Running}

-- ---- next-method-p

-- whether the method that runs has a next one; what runs outside of a method has none
abbrev pub has_next : Option Running → Bool
has_next None = false
has_next (Some r) = not (is_empty r.next)

-- ---- call-next-method

-- no-next-method is called with the generic function, the method and the arguments
abbrev pub none_next : Eval → Option Dispatch → ℕ → List Val → Run
none_next ev None m vs w s = stopped ProgramError [] w s
none_next ev (Some d) m vs w s = invoked ev NoNextMethod (generic d.generic ∷ method m ∷ vs) w s

-- the first of these methods runs, with the others as its next ones
abbrev pub next_run : Eval → Context → Running → List Callable → List Val → Run
next_run ev env r [] vs w s = none_next ev env.call r.method.0 vs w s
next_run ev env r (n ∷ ns) vs w s = method_called ev (with_arguments vs env) n ns r.forms w s

-- with the arguments of the method itself, which need no check; outside of a method it is PROGRAM-ERROR
abbrev pub next_called : Eval → Context → Option Running → List Val → Run
next_called ev env None vs w s = stopped ProgramError [] w s
next_called ev env (Some r) vs w s = next_run ev env r r.next vs w s

-- Other arguments have to be as many as the function takes, and the applicable methods and their order the same.
abbrev pub next_by : Eval → Context → Running → Dispatch → Option Function → List Val → Run
next_by ev env r d None vs w s = stopped ProgramError [] w s
next_by ev env r d (Some f) vs w s =
    if takes_count f.shape (length vs)
    then Noted (used (key_of w d.generic vs))
    (if same_numbers (ordered w d.generic vs) d.methods then next_run ev env r r.next vs w s else stopped NextArguments (method r.method.0 ∷ []) w s)
    else stopped ProgramError [] w s

-- by the call of a generic function for which the method runs; where there is none, PROGRAM-ERROR
abbrev pub next_in : Eval → Context → Running → Option Dispatch → List Val → Run
next_in ev env r None vs w s = stopped ProgramError [] w s
next_in ev env r (Some d) vs w s = next_by ev env r d (slice_get w.generics.functions d.generic) vs w s

-- with other arguments, which are checked; outside of a method it is PROGRAM-ERROR
abbrev pub next_given : Eval → Context → Option Running → List Val → Run
next_given ev env None vs w s = stopped ProgramError [] w s
next_given ev env (Some r) vs w s = next_in ev env r env.call vs w s

-- the next method of what runs is called with these arguments
abbrev pub next_with : Eval → Context → List Val → Run
next_with ev env vs w s = next_given ev env env.running vs w s

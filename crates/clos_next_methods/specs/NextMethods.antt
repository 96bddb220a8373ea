-- Whether a next method may be called with other arguments.
use Rattle.std.specs.Prelude.{◌≡◌, ℕ, List, [], ◌∷◌, Option, Some, None, Result, Ok, Err, if◌then◌else◌, length, slice_get}
use Rattle.lisp_data.specs.Numbers.{same_numbers}
use Rattle.lisp_data.specs.Value.{Val, method}
use Rattle.clos_machine.specs.clos_world.Dispatch.{ordered}
use Rattle.clos_machine.specs.clos_world.Keys.{key_of}
use Rattle.clos_machine.specs.clos_world.World.{State}
use Rattle.clos_machine.specs.clos_world.declared.condition.Condition.{Condition}
use Rattle.clos_machine.specs.clos_world.declared.condition.ConditionKind.TheVariants.{NextArguments, ProgramError}
use Rattle.clos_machine.specs.clos_world.declared.condition.Stop.{Stop}
use Rattle.clos_machine.specs.clos_world.declared.condition.Stop.TheVariants.{Refused, Storage}
use Rattle.clos_machine.specs.clos_meaning.Dispatch.{Dispatch}
use Rattle.clos_machine.specs.clos_meaning.Outcome.{Note, used}
use Rattle.clos_machine.specs.clos_meaning.declared.arguments.Running.{Running}
use Rattle.clos_calls.specs.GenericCalls.{takes_in}

abbrev wrong : Option Condition
wrong = Some (record { kind = ProgramError; items = [] })

-- why these are no arguments for the next method of this one in a call
abbrev pub refusal_for : State → ℕ → Dispatch → List Val → Option Condition
refusal_for w m d vs =
    if takes_in (slice_get w.generics.functions d.generic) (length vs)
    then (if same_numbers (ordered w d.generic vs) d.methods then None else Some (record { kind = NextArguments; items = method m ∷ [] }))
    else wrong

abbrev pub refusal_in : State → Running → Option Dispatch → List Val → Option Condition
refusal_in w r None vs = wrong
refusal_in w r (Some d) vs = refusal_for w r.method.0 d vs

abbrev pub refusal_of : State → Option Running → Option Dispatch → List Val → Option Condition
refusal_of w None d vs = wrong
refusal_of w (Some r) d vs = refusal_in w r d vs

-- the uses that the check of these arguments makes
abbrev pub asked_for : State → Dispatch → List Val → List Note
asked_for w d vs = if takes_in (slice_get w.generics.functions d.generic) (length vs) then used (key_of w d.generic vs) ∷ [] else []

abbrev pub asked_in : State → Option Dispatch → List Val → List Note
asked_in w None vs = []
asked_in w (Some d) vs = asked_for w d vs

abbrev pub asked_of : State → Option Running → Option Dispatch → List Val → List Note
asked_of w None d vs = []
asked_of w (Some r) d vs = asked_in w d vs

-- nothing is refused, or this, unless memory ran out
abbrev pub Refuses : Option Condition → Result (Unit {0}) Stop → Type 0
Refuses x (Ok u) = x ≡ None
Refuses x (Err (Refused c)) = x ≡ Some c
Refuses x (Err Storage) = Unit {0}

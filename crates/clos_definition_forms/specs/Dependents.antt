-- What add-dependent and remove-dependent do (AMOP chapter 6).
use Rattle.std.specs.Prelude.{◌≡◌, ℕ, true, List, [], ◌∷◌, Option, Some, None, Result, Ok, Err}
use Rattle.lisp_data.specs.Name.{Name}
use Rattle.lisp_data.specs.Value.{Val, integer, symbol, string, list, class, generic, method, instance}
use Rattle.lisp_prims.specs.Primitive.{truth}
use Rattle.clos_forms.specs.Form.{Form}
use Rattle.clos_forms.specs.Quotation.{name_value}
use Rattle.clos_eval.specs.clos_machine.clos_meaning.ClassFunctions.{symbol_in, wrong_type}
use Rattle.clos_eval.specs.clos_machine.clos_meaning.Outcome.{Gave, Run, Stopped, step_then}
use Rattle.clos_eval.specs.clos_machine.clos_world.World.{State}
use Rattle.clos_eval.specs.clos_machine.clos_world.declared.condition.Condition.{Condition}
use Rattle.clos_eval.specs.clos_machine.clos_world.declared.condition.ConditionKind.TheVariants.{UnknownDependent}
use Rattle.clos_eval.specs.clos_machine.clos_world.declared.condition.Stop.{Stop}
use Rattle.clos_eval.specs.clos_machine.clos_world.declared.condition.Stop.TheVariants.{Refused, Storage}
use Rattle.clos_making.specs.clos_effects.clos_watch.Handed.{place_of}
use Rattle.clos_making.specs.clos_effects.clos_watch.Watching.{Watching, with_dependent, without_dependent}
use Rattle.clos_making.specs.clos_effects.clos_watch.declared.notice.Metaobject.{Metaobject}
use Rattle.clos_making.specs.clos_effects.clos_watch.declared.notice.Metaobject.TheVariants.{Class, Generic}
use Rattle.clos_making.specs.Made.{value_at}
use Rattle.clos_definition_forms.specs.Forms.{forms_evaluated}
use Rattle.clos_definition_forms.specs.declared.dependents.Change.{Change}
use Rattle.clos_definition_forms.specs.declared.dependents.Change.TheVariants.{Add, Remove}

-- the class or the generic function that a value is
abbrev pub metaobject_in : Val → Option Metaobject
metaobject_in (class c) = Some (Class (record { 0 = c }))
metaobject_in (generic g) = Some (Generic (record { 0 = g }))
metaobject_in (integer n) = None
metaobject_in (symbol s) = None
metaobject_in (string s) = None
metaobject_in (list l) = None
metaobject_in (method m) = None
metaobject_in (instance i) = None

-- the place of the dependent of this name, or that the session was handed none
abbrev pub known : Name → Option ℕ → Result ℕ Condition
known name None = Err (record { kind = UnknownDependent; items = name_value name ∷ [] })
known name (Some p) = Ok p

-- a symbol names it
abbrev pub dependent_named : List Name → Val → Option Name → Result ℕ Condition
dependent_named names v None = Err (wrong_type v)
dependent_named names v (Some name) = known name (place_of names name)

abbrev pub FindsNamed : Result ℕ Condition → Result ℕ Stop → Type 0
FindsNamed r (Ok p) = r ≡ Ok p
FindsNamed r (Err (Refused c)) = r ≡ Err c
FindsNamed r (Err Storage) = Unit {0}

abbrev pub watched_by : Metaobject → Result ℕ Condition → Result (Metaobject × ℕ) Condition
watched_by m (Ok p) = Ok (m, p)
watched_by m (Err c) = Err c

abbrev pub watched_in : List Name → Option Metaobject → Val → Val → Result (Metaobject × ℕ) Condition
watched_in names None m d = Err (wrong_type m)
watched_in names (Some o) m d = watched_by o (dependent_named names d (symbol_in d))

-- the metaobject and the place of the dependent that these values are; the leftmost value of a wrong type is told
abbrev pub watched : List Name → Val → Val → Result (Metaobject × ℕ) Condition
watched names m d = watched_in names (metaobject_in m) m d

abbrev pub FindsWatched : Result (Metaobject × ℕ) Condition → Result (Metaobject × ℕ) Stop → Type 0
FindsWatched r (Ok p) = r ≡ Ok p
FindsWatched r (Err (Refused c)) = r ≡ Err c
FindsWatched r (Err Storage) = Unit {0}

-- what a form does to the dependents of a metaobject
abbrev pub change_of : Change → Metaobject → ℕ → Watching → Watching
change_of Add m p w = with_dependent m p w
change_of Remove m p w = without_dependent m p w

abbrev pub with_change : Change → Metaobject → ℕ → State → State
with_change c m p w = record w { hearing = record w.hearing { watching = change_of c m p w.hearing.watching } }

-- one step, after which the state is this; T is given
abbrev pub takes_step : State → Run
takes_step u = step_then (λ w k. Gave (truth true) u k)

-- T is given, also where nothing is changed
abbrev pub changed_if : Change → Result (Metaobject × ℕ) Condition → Run
changed_if change (Err c) w k = Stopped c w k
changed_if change (Ok p) w k = takes_step (with_change change p.0 p.1 w) w k

-- the value of the first form is the metaobject, that of the second names the dependent
abbrev pub values_watched : Change → List (Option Val) → Run
values_watched change vs w k = changed_if change (watched w.hearing.names (value_at vs 0) (value_at vs 1)) w k

-- from left to right, each form by itself
abbrev pub change_dependents : Change → Form → Form → Run
change_dependents change m d w k = forms_evaluated (Some m ∷ Some d ∷ []) [] (values_watched change) w k

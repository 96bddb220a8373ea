-- Instances whose class was defined again (HyperSpec 4.3.6): one is updated before its slots are looked at, and at no other time.
use Rattle.std.specs.Prelude.{ℕ, List, [], ◌∷◌, Option, Some, None, map, Result, Ok, Err}
use Rattle.lisp_data.specs.Name.{Name}
use Rattle.lisp_data.specs.Value.{Val, instance}
use Rattle.lisp_prims.specs.Primitive.{answer}
use Rattle.lisp_prims.specs.lisp_functions.declared.lists.ListFunction.TheVariants as lists
use Rattle.lisp_prims.specs.lisp_functions.declared.primitive.Primitive.TheVariants.{Listed}
use Rattle.clos_forms.specs.Quotation.{name_value}
use Rattle.clos_world.specs.clos_class.Slots.{Layout}
use Rattle.clos_world.specs.clos_method.declared.system.SystemFunction.TheVariants.{UpdateInstanceForRedefinedClass}
use Rattle.clos_world.specs.clos_store.Objects as objects
use Rattle.clos_world.specs.clos_store.Store.{Object, slot_names}
use Rattle.clos_world.specs.clos_store.Store as store
use Rattle.clos_world.specs.clos_store.Update.{added, bound, lost, with_update}
use Rattle.clos_world.specs.Class.{layout}
use Rattle.clos_world.specs.World.{State}
use Rattle.clos_world.specs.declared.condition.Condition.{Condition}
use Rattle.clos_meaning.specs.ClassFunctions.{Answer, in_words_of_conditions}
use Rattle.clos_meaning.specs.GenericCalls.{invoked}
use Rattle.clos_meaning.specs.Outcome.{Stopped, Run, Eval, then_do, step_then}

-- ---- whether it is to be updated

-- the layout of this class, if there is one
abbrev pub layout_if : State → Option ℕ → Option Layout
layout_if w None = None
layout_if w (Some c) = layout w.classes c

-- the layout of its class now, where it keeps another
abbrev pub due : State → ℕ → Option Layout
due w i = objects.due w.classes w.store i

-- ---- what update-instance-for-redefined-class is told (4.3.6.2)

-- the list of these values, or the condition in its place where it is past the limits on lists
abbrev pub listed : List Val → Answer
listed vs = in_words_of_conditions (answer (Listed lists.List) vs)

-- the list of these names, as symbols
abbrev pub names_listed : List Name → Answer
names_listed names = listed (map name_value names)

-- a property list: each name with its value after it
abbrev pub properties : List (Name × Val) → List Val
properties [] = []
properties (p ∷ ps) = name_value p.0 ∷ p.1 ∷ properties ps

-- the instance and these three lists, or the condition of the first that can't be made
abbrev pub arguments_of : ℕ → Answer → Answer → Answer → Result (List Val) Condition
arguments_of i (Err c) d p = Err c
arguments_of i (Ok a) (Err c) p = Err c
arguments_of i (Ok a) (Ok d) (Err c) = Err c
arguments_of i (Ok a) (Ok d) (Ok p) = Ok (instance i ∷ a ∷ d ∷ p ∷ [])

-- where this instance is given these local slots: the names of those that are added, of those that are discarded, and the values of these
abbrev pub told_of : ℕ → List Name → Object → Result (List Val) Condition
told_of i names o =
    arguments_of i (names_listed (added o names)) (names_listed (slot_names (lost names o.slots))) (listed (properties (bound (lost names o.slots))))

-- the same of an instance that may not be there: then nothing is told
abbrev pub told_if : ℕ → List Name → Option Object → Result (List Val) Condition
told_if i names None = Ok []
told_if i names (Some o) = told_of i names o

-- where this instance is given this layout
abbrev pub told : State → ℕ → Layout → Result (List Val) Condition
told w i l = told_if i l.locals (store.instance w.store i)

-- ---- the update

-- The instance gets its layout in one step, and update-instance-for-redefined-class is called, whose value is not used.
abbrev pub restructured : Eval → ℕ → Layout → List Val → Run → Run
restructured ev i l vs go w s =
    step_then (λ u k. then_do (invoked ev UpdateInstanceForRedefinedClass vs (record u { store = with_update i l u.store }) k) (λ v x t. go x t)) w s

-- the update with these arguments of the function, or the condition where they can't be made
abbrev pub updated_with : Eval → ℕ → Layout → Run → Result (List Val) Condition → Run
updated_with ev i l go (Err c) w s = Stopped c w s
updated_with ev i l go (Ok vs) w s = restructured ev i l vs go w s

-- the update to this layout, or none, and then what is done with the instance
abbrev pub updated_if : Eval → ℕ → Run → Option Layout → Run
updated_if ev i go None w s = go w s
updated_if ev i go (Some l) w s = updated_with ev i l go (told w i l) w s

-- this is done with an instance, which is updated first where it is stale
abbrev pub updated : Eval → ℕ → Run → Run
updated ev i go w s = updated_if ev i go (due w i) w s

-- An instance changes its class (HyperSpec 7.2, 7.7 change-class).
use Rattle.std.specs.Prelude.{ℕ, ◌+◌, List, [], ◌∷◌, Option, Some, None, length, Result, Ok, Err, if◌then◌else◌}
use Rattle.lisp_data.specs.Value.{Val, instance}
use Rattle.clos_world.specs.clos_class.Slots.{Layout}
use Rattle.clos_world.specs.clos_method.declared.system.SystemFunction.TheVariants.{UpdateInstanceForDifferentClass}
use Rattle.clos_world.specs.clos_store.Store.{has_room}
use Rattle.clos_world.specs.clos_store.Update.{with_change}
use Rattle.clos_world.specs.Class.{layout}
use Rattle.clos_world.specs.World.{class_of_instance}
use Rattle.clos_world.specs.declared.condition.Condition.{Condition}
use Rattle.clos_world.specs.declared.condition.ConditionKind.TheVariants.{ProgramError, TableLimit}
use Rattle.clos_meaning.specs.GenericCalls.{invoked}
use Rattle.clos_meaning.specs.Objects.{designated}
use Rattle.clos_meaning.specs.Outcome.{Stopped, Run, Eval, then_do, gave, stopped, step_then}
use Rattle.clos_meaning.specs.Slots.{instance_in}
use Rattle.clos_meaning.specs.Updating.{updated}

-- The copy is told before the instance; what the call gives is not used.
abbrev pub different_called : Eval → ℕ → ℕ → List Val → Run
different_called ev copy i initargs w s =
    then_do (invoked ev UpdateInstanceForDifferentClass (instance copy ∷ instance i ∷ initargs) w s) (λ v. gave (instance i))

-- The instance is of this class with this layout, and a copy of it as it was is made, in one step.
abbrev pub class_changed : Eval → ℕ → ℕ → Layout → List Val → Run
class_changed ev i c l initargs w s =
    step_then (λ u k. different_called ev (length u.store.instances + 1) i initargs (record u { store = with_change i c l u.store }) k) w s

-- the layout, where the instance is there, which has a class
abbrev pub if_there : Option ℕ → Option Layout → Option Layout
if_there None l = None
if_there (Some c) l = l

-- a class that is designated has a layout
abbrev pub changed_by_layout : Eval → ℕ → ℕ → List Val → Option Layout → Run
changed_by_layout ev i c initargs None w s = stopped ProgramError [] w s
changed_by_layout ev i c initargs (Some l) w s = class_changed ev i c l initargs w s

-- where there is room for the copy
abbrev pub changed_to : Eval → ℕ → ℕ → List Val → Run
changed_to ev i c initargs w s =
    if has_room w.store then changed_by_layout ev i c initargs (if_there (class_of_instance w i) (layout w.classes c)) w s else stopped TableLimit [] w s

-- The class is found, or the condition ends it; the instance is updated before it changes.
abbrev pub changed_if : Eval → ℕ → List Val → Result ℕ Condition → Run
changed_if ev i initargs (Err e) w s = Stopped e w s
changed_if ev i initargs (Ok c) w s = updated ev i (changed_to ev i c initargs) w s

-- the instance is looked at before the class
abbrev pub changed_of : Eval → Val → List Val → Result ℕ Condition → Run
changed_of ev designator initargs (Err e) w s = Stopped e w s
changed_of ev designator initargs (Ok i) w s = changed_if ev i initargs (designated w.classes designator) w s

-- of an instance and a class; what follows are initargs
abbrev pub change_called : Eval → List Val → Run
change_called ev [] w s = stopped ProgramError [] w s
change_called ev (v ∷ []) w s = stopped ProgramError [] w s
change_called ev (v ∷ (designator ∷ initargs)) w s = changed_of ev designator initargs (instance_in v) w s

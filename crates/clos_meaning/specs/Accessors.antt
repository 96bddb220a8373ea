-- What the methods of readers and writers do (HyperSpec 7.5.2).
use Rattle.std.specs.Prelude.{ℕ, List, [], ◌∷◌, Some, Result, Ok, Err}
use Rattle.lisp_data.specs.Name.{Name}
use Rattle.lisp_data.specs.Value.{Val}
use Rattle.clos_world.specs.declared.condition.Condition.{Condition}
use Rattle.clos_world.specs.declared.condition.ConditionKind.TheVariants.{ProgramError}
use Rattle.clos_meaning.specs.Contexts.{Context}
use Rattle.clos_meaning.specs.Outcome.{Stopped, Run, Eval, stopped}
use Rattle.clos_meaning.specs.Slots.{instance_in, slot_answer, slot_put}
use Rattle.clos_meaning.specs.Updating.{updated}
use Rattle.clos_forms.specs.clos_names.declared.callee.SlotFunction.TheVariants.{SlotValue}

-- ---- a reader is called with an instance

-- the slot of the instance, as slot-value reads it; the condition where the argument is no instance
abbrev pub read_of : Eval → Context → Name → Result ℕ Condition → Run
read_of ev env slot (Err c) w s = Stopped c w s
read_of ev env slot (Ok i) w s = updated ev i (slot_answer ev env SlotValue i slot) w s

-- of just one argument; another number of them is PROGRAM-ERROR
abbrev pub read_by : Eval → Context → Name → List Val → Run
read_by ev env slot [] w s = stopped ProgramError [] w s
read_by ev env slot (v ∷ []) w s = read_of ev env slot (instance_in v) w s
read_by ev env slot (v ∷ (x ∷ vs)) w s = stopped ProgramError [] w s

-- ---- a writer with the new value and an instance

-- the slot of the instance gets the new value, which is given; the condition where there is no instance
abbrev pub written_of : Eval → Context → Name → Val → Result ℕ Condition → Run
written_of ev env slot new (Err c) w s = Stopped c w s
written_of ev env slot new (Ok i) w s = updated ev i (slot_put ev env i slot (Some new) new) w s

-- of just two arguments, the new value first; another number of them is PROGRAM-ERROR
abbrev pub written_by : Eval → Context → Name → List Val → Run
written_by ev env slot [] w s = stopped ProgramError [] w s
written_by ev env slot (new ∷ []) w s = stopped ProgramError [] w s
written_by ev env slot (new ∷ (v ∷ [])) w s = written_of ev env slot new (instance_in v) w s
written_by ev env slot (new ∷ (v ∷ (x ∷ vs))) w s = stopped ProgramError [] w s

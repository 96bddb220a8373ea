-- What the parts of these protocols are told to do.
use Rattle.std.specs.Prelude.{◌≡◌, ℕ, List, [], ◌∷◌, Option, Some, None, if◌then◌else◌}
use Rattle.lisp_data.specs.Value.{Val}
use Rattle.clos_defclass.specs.declared.class.DefaultInitarg.{DefaultInitarg}
use Rattle.clos_machine.specs.clos_world.declared.condition.Condition.{Condition}
use Rattle.clos_class.specs.Slots.{Effective}
use Rattle.clos_machine.specs.clos_meaning.Contexts.{Context, known}
use Rattle.clos_machine.specs.clos_meaning.Initialization.{is_given}
use Rattle.clos_machine.specs.clos_meaning.Outcome.{Run, Eval, then_do, stopped}
use Rattle.clos_machine.specs.Machine.{apart, default_given}
use Rattle.clos_machine.specs.declared.machine.Machine.{Machine}
use Rattle.clos_machine.specs.clos_world.declared.condition.ConditionKind.TheVariants.{NoNextMethod, ProgramError}

-- ---- default initargs, from the first on that is not given

abbrev pub ungiven : List Val → List DefaultInitarg → List DefaultInitarg
ungiven vs [] = []
ungiven vs (d ∷ ds) = if is_given vs d then ungiven vs ds else d ∷ ds

-- the first of these is evaluated, whether it is given or not
abbrev pub default_first : Eval → Context → ℕ → Effective → List DefaultInitarg → List Val → Run
default_first ev env c e [] vs w s = stopped ProgramError [] w s
default_first ev env c e (d ∷ ds) vs w s = then_do (ev env d.form w s) (λ v. default_given ev env c e (d ∷ ds) vs v)

-- ---- a body without variables

-- the machine has no variables, and those from before come back
abbrev pub Enters : Machine → Machine → Type 0
Enters m n = n ≡ apart m (known [])

-- what no-next-method signals of a method, which its arguments begin with after the generic function
abbrev pub next_condition : List Val → Condition
next_condition [] = record { kind = ProgramError; items = [] }
next_condition (m ∷ vs) = record { kind = NoNextMethod; items = m ∷ [] }

-- ---- the system's methods

-- of update-instance-for-redefined-class, after the instance
abbrev pub names_and_initargs : List Val → Option (Val × List Val)
names_and_initargs [] = None
names_and_initargs (names ∷ []) = None
names_and_initargs (names ∷ (discarded ∷ [])) = None
names_and_initargs (names ∷ (discarded ∷ (properties ∷ initargs))) = Some (names, initargs)

-- of update-instance-for-different-class, after the copy
abbrev pub current_and_initargs : List Val → Option (Val × List Val)
current_and_initargs [] = None
current_and_initargs (current ∷ initargs) = Some (current, initargs)

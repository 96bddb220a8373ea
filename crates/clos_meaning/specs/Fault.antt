-- The conditions that functions of values signal.
use Rattle.std.specs.Prelude.{[], ◌∷◌, Result, Ok, Err}
use Rattle.lisp_data.specs.Value.{Val}
use Rattle.lisp_prims.specs.Fault as prims
use Rattle.clos_world.specs.declared.condition.Condition.{Condition}
use Rattle.clos_meaning.specs.Outcome.{Gave, Stopped, Run}
use Rattle.clos_world.specs.declared.condition.ConditionKind.TheVariants.{ProgramError, TypeError, IntegerRange, DivisionByZero, Unsupported}

-- the condition that a function of values signals
abbrev pub condition_of : prims.Condition → Condition
condition_of prims.program_error = record { kind = ProgramError; items = [] }
condition_of (prims.type_error v) = record { kind = TypeError; items = v ∷ [] }
condition_of prims.integer_range = record { kind = IntegerRange; items = [] }
condition_of prims.division_by_zero = record { kind = DivisionByZero; items = [] }
condition_of prims.unsupported = record { kind = Unsupported; items = [] }

-- what a function of values answers
abbrev pub answered : Result Val prims.Condition → Run
answered (Ok v) w s = Gave v w s
answered (Err c) w s = Stopped (condition_of c) w s

-- Conditions, and what they are about.
use Rattle.std.specs.Prelude.{ℕ, List, false, codes}
use Rattle.lisp_data.specs.Name.{Name}
use Rattle.clos_world.specs.declared.condition.ConditionKind.{ConditionKind}
use Rattle.clos_world.specs.declared.condition.ConditionKind.TheVariants.{ProgramError, UnboundVariable, UndefinedFunction, TypeError, IntegerRange, DivisionByZero, UndefinedClass, InvalidSuperclass, InconsistentPrecedence, SuperclassCycle, IncompleteClass, LambdaListCongruence, UndefinedCombination, NoApplicableMethod, RequiredGroupEmpty, InvalidMethod, AmbiguousMethods, BadExpansion, ExpansionLimit, NoNextMethod, NextArguments, UnboundSlot, MissingSlot, InvalidInitarg, UnknownNative, UnknownDependent, NoSuchMethod, Unsupported, StepLimit, DepthLimit, TableLimit}

abbrev pub number_of : ConditionKind → ℕ
number_of ProgramError = 1
number_of UnboundVariable = 2
number_of UndefinedFunction = 3
number_of TypeError = 4
number_of IntegerRange = 5
number_of DivisionByZero = 6
number_of UndefinedClass = 7
number_of InvalidSuperclass = 8
number_of InconsistentPrecedence = 9
number_of SuperclassCycle = 10
number_of IncompleteClass = 11
number_of LambdaListCongruence = 12
number_of UndefinedCombination = 13
number_of NoApplicableMethod = 14
number_of RequiredGroupEmpty = 15
number_of InvalidMethod = 16
number_of AmbiguousMethods = 17
number_of BadExpansion = 18
number_of ExpansionLimit = 19
number_of NoNextMethod = 20
number_of NextArguments = 21
number_of UnboundSlot = 22
number_of MissingSlot = 23
number_of InvalidInitarg = 24
number_of UnknownNative = 25
number_of UnknownDependent = 26
number_of NoSuchMethod = 27
number_of Unsupported = 28
number_of StepLimit = 29
number_of DepthLimit = 30
number_of TableLimit = 31

abbrev pub condition_name : ConditionKind → List ℕ
condition_name ProgramError = codes "PROGRAM-ERROR"
condition_name UnboundVariable = codes "UNBOUND-VARIABLE"
condition_name UndefinedFunction = codes "UNDEFINED-FUNCTION"
condition_name TypeError = codes "TYPE-ERROR"
condition_name IntegerRange = codes "INTEGER-RANGE"
condition_name DivisionByZero = codes "DIVISION-BY-ZERO"
condition_name UndefinedClass = codes "UNDEFINED-CLASS"
condition_name InvalidSuperclass = codes "INVALID-SUPERCLASS"
condition_name InconsistentPrecedence = codes "INCONSISTENT-PRECEDENCE"
condition_name SuperclassCycle = codes "SUPERCLASS-CYCLE"
condition_name IncompleteClass = codes "INCOMPLETE-CLASS"
condition_name LambdaListCongruence = codes "LAMBDA-LIST-CONGRUENCE"
condition_name UndefinedCombination = codes "UNDEFINED-COMBINATION"
condition_name NoApplicableMethod = codes "NO-APPLICABLE-METHOD"
condition_name RequiredGroupEmpty = codes "REQUIRED-GROUP-EMPTY"
condition_name InvalidMethod = codes "INVALID-METHOD"
condition_name AmbiguousMethods = codes "AMBIGUOUS-METHODS"
condition_name BadExpansion = codes "BAD-EXPANSION"
condition_name ExpansionLimit = codes "EXPANSION-LIMIT"
condition_name NoNextMethod = codes "NO-NEXT-METHOD"
condition_name NextArguments = codes "NEXT-ARGUMENTS"
condition_name UnboundSlot = codes "UNBOUND-SLOT"
condition_name MissingSlot = codes "MISSING-SLOT"
condition_name InvalidInitarg = codes "INVALID-INITARG"
condition_name UnknownNative = codes "UNKNOWN-NATIVE"
condition_name UnknownDependent = codes "UNKNOWN-DEPENDENT"
condition_name NoSuchMethod = codes "NO-SUCH-METHOD"
condition_name Unsupported = codes "UNSUPPORTED"
condition_name StepLimit = codes "STEP-LIMIT"
condition_name DepthLimit = codes "DEPTH-LIMIT"
condition_name TableLimit = codes "TABLE-LIMIT"

abbrev pub nil_name : Name
nil_name = record { text = codes "NIL"; keyword = false }

-- The conditions that functions of values signal (HyperSpec 9.1), and the faults that stand for them.
use Rattle.std.specs.Prelude.{◌≡◌, ℕ, Option, Some, None, Bool, true, false, not, codes, Result, Ok, Err, MatchResult, ⊤}
use Rattle.lisp_data.specs.Name.{Name, same_name}
use Rattle.lisp_data.specs.Value.{Val, symbol, string, list, cons}
use Rattle.lisp_data.specs.ValueView.{value_of}
use Rattle.lisp_data.specs.declared.limits.ListFault.{ListFault}
use Rattle.lisp_data.specs.declared.limits.ListFault.TheVariants.{Limit, Memory as NoMemory}
use Rattle.lisp_prims.specs.declared.fault.PrimFault.{PrimFault}
use Rattle.lisp_prims.specs.declared.fault.PrimFault.TheVariants.{ProgramError, TypeError, IntegerRange, DivisionByZero, Unsupported, Memory}

pub data Condition : Type 0 where
  program_error : Condition  -- a wrong number of arguments
  type_error : Val → Condition  -- an argument of a wrong type
  integer_range : Condition
  division_by_zero : Condition
  unsupported : Condition

abbrev pub is_type_error : Condition → Bool
is_type_error (type_error v) = true
is_type_error program_error = false
is_type_error integer_range = false
is_type_error division_by_zero = false
is_type_error unsupported = false

-- a fault stands for a condition. Memory may run out only for a TYPE-ERROR, whose value is kept
abbrev pub StandsFor : PrimFault → Condition → Type 0
StandsFor ProgramError c = c ≡ program_error
StandsFor (TypeError v) c = c ≡ type_error (value_of v)
StandsFor IntegerRange c = c ≡ integer_range
StandsFor DivisionByZero c = c ≡ division_by_zero
StandsFor Unsupported c = c ≡ unsupported
StandsFor Memory c = is_type_error c ≡ true

-- the number of the condition
abbrev pub number_of : PrimFault → Option ℕ
number_of ProgramError = Some 1
number_of (TypeError v) = Some 4
number_of IntegerRange = Some 5
number_of DivisionByZero = Some 6
number_of Unsupported = Some 28
number_of Memory = None

-- an answer is the one of the definition, where `view` tells what its value stands for
abbrev pub AnswersAs : {A B : Type 0} → (A → B) → Result A PrimFault → Result B Condition → Type 0
AnswersAs view (Ok a) x = x ≡ Ok (view a)
AnswersAs view (Err fault) x = MatchResult x (λ _. ⊥) (StandsFor fault)

abbrev pub Answers : {A : Type 0} → Result A PrimFault → Result A Condition → Type 0
Answers r x = AnswersAs (λ a. a) r x

-- the name of the value true
abbrev pub truth_name : Name
truth_name = record { text = codes "T"; keyword = false }

-- whether a value takes memory to be made or copied. A number, an object, T and NIL take none
abbrev pub takes_memory : Val → Bool
takes_memory (symbol s) = not (same_name s truth_name)
takes_memory (string s) = true
takes_memory (list (cons v l)) = true
takes_memory _ = false

-- the same, but that memory may run out for a value that takes it
abbrev pub AnswersUnlessMemory : {A : Type 0} → (A → Val) → Result A PrimFault → Result Val Condition → Type 0
AnswersUnlessMemory view (Ok a) x = x ≡ Ok (view a)
AnswersUnlessMemory view (Err Memory) x = MatchResult x (λ v. takes_memory v ≡ true) (StandsFor Memory)
AnswersUnlessMemory view (Err fault) x = MatchResult x (λ _. ⊥) (StandsFor fault)

-- the same of a step whose caller knows that the answer takes memory: it may run out for any
abbrev pub AnswersOrMemory : {A B : Type 0} → (A → B) → Result A PrimFault → Result B Condition → Type 0
AnswersOrMemory view (Ok a) x = x ≡ Ok (view a)
AnswersOrMemory view (Err Memory) x = ⊤
AnswersOrMemory view (Err fault) x = MatchResult x (λ _. ⊥) (StandsFor fault)

-- go on with what was given, or stop at a condition
abbrev pub given : {A B : Type 0} → Result A Condition → (A → Result B Condition) → Result B Condition
given (Ok a) next = next a
given (Err c) next = Err c

-- what a fault of a list is here
abbrev pub of_list : ListFault → PrimFault
of_list Limit = Unsupported
of_list NoMemory = Memory

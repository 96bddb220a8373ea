-- Answers of functions that take no memory.
use Rattle.std.proofs.Common.{Result, Ok, Err}
use Rattle.lisp_data.specs.Value.{Val}
use Rattle.lisp_data.specs.ValueView.{value_of}
use Rattle.lisp_data.specs.declared.value.Value.{Value}
use Rattle.lisp_prims.specs.Fault.{AnswersAs, AnswersUnlessMemory, Condition}
use Rattle.lisp_prims.specs.declared.fault.PrimFault.{PrimFault}
use Rattle.lisp_prims.specs.declared.fault.PrimFault.TheVariants.{ProgramError, TypeError, IntegerRange, DivisionByZero, Unsupported, Memory}

pub unless_memory : (r : Result Value PrimFault) (x : Result Val Condition) → AnswersAs value_of r x → AnswersUnlessMemory value_of r x
unless_memory (Ok v) x a = a
unless_memory (Err ProgramError) x a = a
unless_memory (Err (TypeError v)) x a = a
unless_memory (Err IntegerRange) x a = a
unless_memory (Err DivisionByZero) x a = a
unless_memory (Err Unsupported) x a = a
unless_memory (Err Memory) (Ok v) a = absurd a
unless_memory (Err Memory) (Err c) a = a

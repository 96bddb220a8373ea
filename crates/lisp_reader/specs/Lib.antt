pub mod Answers
pub mod Examples
pub mod Printed
pub use Rattle.lisp_tokens.specs.Fault as Fault
pub use Rattle.lisp_tokens.specs.Gaps as Gaps

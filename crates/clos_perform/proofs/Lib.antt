pub mod WellRead
pub mod StepQuiet
pub mod Definitions
pub mod Hearing
pub mod Undone
pub mod ByKind
pub mod Writing
pub use Rattle.clos_definition_forms.proofs.clos_machine as clos_machine
pub use Rattle.clos_definition_forms.proofs.clos_definition as clos_definition

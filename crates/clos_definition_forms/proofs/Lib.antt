pub mod Evaluated
pub mod Quiet
pub mod Variables
pub mod Defining
pub mod Kept
pub mod Hearing
pub mod Watched
pub use Rattle.clos_eval.proofs.clos_machine as clos_machine
pub use Rattle.clos_making.proofs.clos_effects.clos_definition as clos_definition
pub use Rattle.clos_making.proofs.clos_effects as clos_effects
pub use Rattle.clos_making.proofs as clos_making

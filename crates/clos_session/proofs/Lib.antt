pub mod Replies
pub use Rattle.clos_perform.proofs.clos_machine as clos_machine
pub use Rattle.clos_perform.proofs.clos_definition as clos_definition
pub use Rattle.clos_perform.proofs as clos_perform

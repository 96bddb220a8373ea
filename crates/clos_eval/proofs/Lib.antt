pub mod Calling
pub mod Looping
pub mod Asking
pub mod Stored
pub use Rattle.clos_machine.proofs as clos_machine

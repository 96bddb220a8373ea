pub mod Host
pub mod Evaluation
pub mod Natives
pub use Rattle.clos_native.specs as clos_native
pub use Rattle.clos_machine.specs as clos_machine

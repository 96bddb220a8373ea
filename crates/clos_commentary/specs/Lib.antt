pub mod Call
pub mod Place
pub mod Fault
pub mod Forms
pub use Rattle.clos_ending.specs as clos_ending
pub use Rattle.clos_ending.specs.clos_system as clos_system

pub mod inner
pub mod LocalsView
pub mod Fault
pub mod ParametersView
pub mod Machine
pub mod Uses
pub mod Updating
pub use Rattle.clos_meaning.specs as clos_meaning
pub use Rattle.clos_meaning.specs.clos_world as clos_world

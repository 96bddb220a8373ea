pub use Rattle.clos_definition.specs as clos_definition
pub use Rattle.clos_definition.specs.clos_class as clos_class
pub use Rattle.clos_definition.specs.clos_watch as clos_watch
pub mod Effects
pub mod Hearing

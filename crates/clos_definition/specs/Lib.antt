pub use Rattle.clos_class.specs as clos_class
pub use Rattle.clos_watch.specs as clos_watch
pub mod Refusal
pub mod Effect
pub mod Method
pub mod Generic
pub mod Accessor
pub mod Class
pub mod Removal

pub mod Status
pub use Rattle.clos_system.specs as clos_system

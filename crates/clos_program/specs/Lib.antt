pub mod inner
pub mod Lines
pub mod Notices
pub mod Program
pub mod Files
pub mod Dependents
pub use Rattle.clos_ending.specs.clos_system as clos_system

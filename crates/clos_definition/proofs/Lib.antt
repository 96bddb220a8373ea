pub mod Notices
pub mod Made
pub mod Fits
pub mod Orders
pub mod WellMade
pub mod Classes
pub mod Dropped
pub use Rattle.clos_world.proofs as clos_world
pub use Rattle.clos_generic.proofs as clos_generic

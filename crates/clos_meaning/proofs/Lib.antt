pub mod Quiet
pub mod Kept
pub use Rattle.clos_world.proofs as clos_world

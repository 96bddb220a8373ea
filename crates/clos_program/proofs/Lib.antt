pub mod Sums
pub mod Lines
pub mod Following
pub mod Followed
pub mod Files
pub use Rattle.clos_ending.proofs.clos_system as system_proofs

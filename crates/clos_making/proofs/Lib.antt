pub mod Concerned
pub mod Quiet
pub mod Making
pub mod Hearing
pub use Rattle.clos_effects.proofs as clos_effects

pub mod Concerned
pub mod Hearing
pub mod Noting
pub use Rattle.clos_definition.proofs as clos_definition

pub mod Cases
pub mod Laws
pub mod WellFormed
pub use Rattle.clos_syntax.proofs as clos_syntax

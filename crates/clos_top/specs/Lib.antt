pub mod Top
pub mod Laws
pub mod WellFormed
pub use Rattle.clos_syntax.specs as clos_syntax
pub use Rattle.clos_combination.specs as clos_combination
